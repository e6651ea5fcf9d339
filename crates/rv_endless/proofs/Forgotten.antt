-- What a cut forgets of a window, entry by entry.
use Rattle.rv_cut.specs.Cuts.{first_of, is_past}
use Rattle.rv_endless.proofs.Before.{window-more}
use Rattle.rv_endless.specs.Forgetting.{AreFresh, forgotten_of, restored}
use Rattle.rv_event.proofs.Common.{get_or, map-append, take_more}
use Rattle.rv_event.proofs.Merged.{Contains-unfilter}
use Rattle.rv_event.proofs.Names.{Contains-map, Contains-mapped}
use Rattle.rv_event.specs.declared.event.Entry.{Entry}
use Rattle.rv_past.specs.Facts.{Follows}
use Rattle.rv_settle.specs.Windows.{renumbered, window}
use Rattle.std.proofs.Common.{if◌then◌else◌, ℕ, ◌≡◌, ◌∙◌, ◌<◌, ◌≤◌, ◌+◌, ◌++◌, ◌∷◌, [], Bool}
use Rattle.std.proofs.Common.{Contains, List, ap, arith, drop, false, filter, inl, inr, length, map}
use Rattle.std.proofs.Common.{subst, sym, take, true}
use Rattle.std.proofs.lemmas.Bool.{lt-leb}
use Rattle.std.proofs.lemmas.Grind.{common_steps}
use Rattle.std.proofs.lemmas.List.{append-nil, append_assoc, take-append-drop}
use Rattle.std.proofs.lemmas.List.Elements.{Contains-append_cases, Contains-append_left}
use Rattle.std.proofs.lemmas.List.Elements.{Contains-append_right, filter-append}
use Rattle.std.specs.Prelude.{nat_le}

-- the entries of the window that are forgotten, with one more
pub forgotten-more : (firsts cut : List ℕ) (ws : List Entry) (w : Entry) → is_past cut w.event.id ≡ true →
    forgotten_of firsts cut (ws ++ w ∷ []) ≡ forgotten_of firsts cut ws ++ restored firsts w ∷ []
forgotten-more firsts cut ws w gone =
    ap (map (restored firsts)) (filter-append is_gone ws (w ∷ [])
    ∙ ap (λ (xs : List Entry). filter is_gone ws ++ xs) one)
    ∙ map-append (restored firsts) (filter is_gone ws) (w ∷ [])
  where
    is_gone : Entry → Bool
    is_gone y = is_past cut y.event.id

    one : filter is_gone (w ∷ []) ≡ w ∷ []
    one = ap (λ (b : Bool). if b then w ∷ [] else []) gone

-- and with one that is kept
pub forgotten-same : (firsts cut : List ℕ) (ws : List Entry) (w : Entry) → is_past cut w.event.id ≡ false →
    forgotten_of firsts cut (ws ++ w ∷ []) ≡ forgotten_of firsts cut ws
forgotten-same firsts cut ws w kept =
    ap (map (restored firsts)) (filter-append is_gone ws (w ∷ [])
    ∙ ap (λ (xs : List Entry). filter is_gone ws ++ xs) none ∙ append-nil (filter is_gone ws))
  where
    is_gone : Entry → Bool
    is_gone y = is_past cut y.event.id

    none : filter is_gone (w ∷ []) ≡ []
    none = ap (λ (b : Bool). if b then w ∷ [] else []) kept

-- those that are forgotten are among all
pub forgotten-among : (firsts cut : List ℕ) (ws : List Entry) (y : Entry) → Contains (forgotten_of firsts cut ws) y →
    Contains (map (restored firsts) ws) y
forgotten-among firsts cut ws y c =
    let from = Contains-map (restored firsts) (filter (λ (w : Entry). is_past cut w.event.id) ws) y c in
    subst (λ (z : Entry). Contains (map (restored firsts) ws) z) from.2
    (Contains-mapped (restored firsts) ws from.0
    (Contains-unfilter (λ (w : Entry). is_past cut w.event.id) ws from.0 from.1))

-- what follows many entries follows fewer
pub follows-fewer : (many few : List Entry) (x : Entry) → ((y : Entry) → Contains few y → Contains many y) →
    Follows many x → Follows few x
follows-fewer many few x among follows = record {
  hart = follows.hart;
  new = λ y c. follows.new y (among y c);
  source = λ y c. follows.source y (among y c);
}

-- and so it is behind the same ones
pub among-behind : (front many few : List Entry) → ((y : Entry) → Contains few y → Contains many y) → (y : Entry) →
    Contains (front ++ few) y → Contains (front ++ many) y
among-behind front many few among y c = elim (Contains-append_cases front few y c) [
  | inl there ↦ Contains-append_left front many y there
  | inr here ↦ Contains-append_right front many y (among y here)
]

-- a window's window with one entry more
pub window-kept : (cut : List ℕ) (ws : List Entry) (w : Entry) → is_past cut w.event.id ≡ false →
    window (first_of cut) (ws ++ w ∷ [])
    ≡ window (first_of cut) ws ++ record w { event = renumbered (first_of cut) w.event } ∷ []
window-kept cut ws w kept = window-more (first_of cut) ws w high
  where
    high : first_of cut w.event.id.hart ≤ w.event.id.seq
    high = grind (arith, common_steps, kept)

pub window-gone : (cut : List ℕ) (ws : List Entry) (w : Entry) → is_past cut w.event.id ≡ true →
    window (first_of cut) (ws ++ w ∷ []) ≡ window (first_of cut) ws
window-gone cut ws w gone =
    ap (map to_window) (filter-append is_kept ws (w ∷ [])
    ∙ ap (λ (xs : List Entry). filter is_kept ws ++ xs) none ∙ append-nil (filter is_kept ws))
  where
    is_kept : Entry → Bool
    is_kept y = nat_le (first_of cut y.event.id.hart) y.event.id.seq

    to_window : Entry → Entry
    to_window y = record y { event = renumbered (first_of cut) y.event }

    low : w.event.id.seq < first_of cut w.event.id.hart
    low = grind (arith, common_steps, gone)

    none : filter is_kept (w ∷ []) ≡ []
    none = ap (λ (b : Bool). if b then w ∷ [] else []) (lt-leb (first_of cut w.event.id.hart) w.event.id.seq low)

-- the elements up to one of them, with it
pub so-far : (ws : List Entry) (k : ℕ) → k < length ws → (w : Entry) → w ≡ get_or ws k w →
    take (k + 1) ws ≡ take k ws ++ w ∷ []
so-far ws k low w is = take_more ws k w low ∙ ap (λ (y : Entry). take k ws ++ y ∷ []) (sym is)

-- a list up to one of its elements, and behind it
pub split-at : (ws : List Entry) (k : ℕ) → k < length ws → (w : Entry) → w ≡ get_or ws k w →
    ws ≡ take k ws ++ w ∷ drop (k + 1) ws
split-at ws k low w is =
    sym (take-append-drop (k + 1) ws) ∙ ap (λ (xs : List Entry). xs ++ drop (k + 1) ws) (so-far ws k low w is)
    ∙ append_assoc (take k ws) (w ∷ []) (drop (k + 1) ws)

module _ (firsts cut : List ℕ) (gone ws : List Entry) (k : ℕ) (low : k < length ws) (w : Entry)
    (is : w ≡ get_or ws k w) where
  abbrev known-so-far : ℕ → List Entry
  known-so-far n = gone ++ forgotten_of firsts cut (take n ws)

  -- what is known grows by the entry
  pub known-more : is_past cut w.event.id ≡ true → known-so-far (k + 1) ≡ known-so-far k ++ restored firsts w ∷ []
  known-more past = ap (λ (xs : List Entry). gone ++ forgotten_of firsts cut xs) (so-far ws k low w is)
      ∙ ap (λ (xs : List Entry). gone ++ xs) (forgotten-more firsts cut (take k ws) w past)
      ∙ sym (append_assoc gone (forgotten_of firsts cut (take k ws)) (restored firsts w ∷ []))

  -- or stays
  pub known-same : is_past cut w.event.id ≡ false → known-so-far (k + 1) ≡ known-so-far k
  known-same kept = ap (λ (xs : List Entry). gone ++ forgotten_of firsts cut xs) (so-far ws k low w is)
      ∙ ap (λ (xs : List Entry). gone ++ xs) (forgotten-same firsts cut (take k ws) w kept)

  -- the entry follows what is known
  pub follows-known : AreFresh firsts gone ws → Follows (known-so-far k) (restored firsts w)
  follows-known fresh =
      follows-fewer (gone ++ map (restored firsts) (take k ws)) (known-so-far k) (restored firsts w)
      (among-behind gone (map (restored firsts) (take k ws)) (forgotten_of firsts cut (take k ws))
      (forgotten-among firsts cut (take k ws)))
      (fresh (take k ws) (drop (k + 1) ws) w (split-at ws k low w is))

  -- it is one of the window's
  pub one-of : Contains ws w
  one-of = (k, low, sym is)
