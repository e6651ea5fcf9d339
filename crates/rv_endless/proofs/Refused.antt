-- A book of what a cut keeps refuses nothing.
use Rattle.rv_cert.proofs.Final.{no_longer_log}
use Rattle.rv_cut.specs.Cuts.{first_of, is_past}
use Rattle.rv_endless.proofs.Forgotten.{split-at, window-kept}
use Rattle.rv_endless.specs.Forgetting.{IsRefusedBy}
use Rattle.rv_event.proofs.Common.{get_or, map-append}
use Rattle.rv_event.proofs.Indexed.{Indexed, indexed_from_WellFormed}
use Rattle.rv_event.specs.Log.{events}
use Rattle.rv_event.specs.Orders.{Lawful}
use Rattle.rv_event.specs.WellFormed.{Continues, WellFormed, entries_of}
use Rattle.rv_event.specs.declared.event.Entry.{Entry}
use Rattle.rv_event.specs.declared.event.Id.{Id}
use Rattle.rv_event.specs.declared.event.Op.TheVariants.{Carrier}
use Rattle.rv_event.specs.declared.memory_model.MemoryModel.{MemoryModel}
use Rattle.rv_settle.proofs.Formed.{window-formed}
use Rattle.rv_settle.specs.Laws.{WindowsAreLawful}
use Rattle.rv_settle.specs.Windows.{KeepsFew, KeepsPairs, renumbered, window}
use Rattle.std.proofs.Common.{ℕ, ◌≡◌, ◌≢◌, ◌∙◌, ◌==◌, ◌<◌, ◌+◌, ◌++◌, ◌∷◌, [], All, Bool, List, ap}
use Rattle.std.proofs.Common.{arith, drop, false, filter, inl, inr, length, map, sym, take}
use Rattle.std.proofs.lemmas.List.{append_assoc}
use Rattle.std.proofs.lemmas.List.Elements.{filter-append}
use Rattle.std.specs.Prelude.{nat_le}

-- the window of two lists is that of the one and that of the other
window-append : (g : ℕ → ℕ) (xs ys : List Entry) → window g (xs ++ ys) ≡ window g xs ++ window g ys
window-append g xs ys =
    ap (map to-window) (filter-append is-kept xs ys) ∙ map-append to-window (filter is-kept xs) (filter is-kept ys)
  where
    is-kept : Entry → Bool
    is-kept y = nat_le (g y.event.id.hart) y.event.id.seq

    to-window : Entry → Entry
    to-window y = record y { event = renumbered g y.event }

-- a log that begins with another one continues it
continues-front : (front rest log : List Entry) → log ≡ front ++ rest → Continues front log
continues-front front rest log is hart = (
  entries_of hart rest,
  ap (entries_of hart) is ∙ filter-append (λ (x : Entry). hart == x.event.id.hart) front rest,
)

module _ (law : WindowsAreLawful) (model : MemoryModel) (ws : List Entry) (cut : List ℕ) (formed : WellFormed ws)
    (order : List Id) (lawful : Lawful model (events ws) order) (plain : All (λ m. m.op ≢ Carrier) (events ws))
    (pairs : KeepsPairs (first_of cut) (events ws)) (k : ℕ) (low : k < length ws) (w : Entry)
    (is : w ≡ get_or ws k w) (kept : is_past cut w.event.id ≡ false) where
  abbrev g : ℕ → ℕ
  g = first_of cut

  abbrev front : List Entry
  front = window g (take k ws)

  abbrev moved : Entry
  moved = record w { event = renumbered g w.event }

  abbrev rest : List Entry
  rest = window g (drop (k + 1) ws)

  known : Indexed (events ws)
  known = indexed_from_WellFormed ws formed

  few : KeepsFew g (events ws)
  few hart = let most = known.few hart in omega (arith, most)

  formed-window : WellFormed (window g ws)
  formed-window = window-formed 4096 ws g formed pairs few

  -- the window goes on with the entry
  whole : window g ws ≡ (front ++ moved ∷ []) ++ rest
  whole = ap (window g) (split-at ws k low w is ∙ sym (append_assoc (take k ws) (w ∷ []) (drop (k + 1) ws)))
      ∙ window-append g (take k ws ++ w ∷ []) (drop (k + 1) ws)
      ∙ ap (λ (xs : List Entry). xs ++ rest) (window-kept cut (take k ws) w kept)

  -- so it is not refused
  pub not-refused : IsRefusedBy model front moved → ⊥
  not-refused (inl faulty) = faulty (formed-window front rest moved (whole ∙ append_assoc front (moved ∷ []) rest))
  not-refused (inr (c, certifies)) =
      let some = law 4096 model ws g order formed plain pairs few lawful in
      no_longer_log 4096 model (front ++ moved ∷ []) (window g ws) c some.0 formed-window
      (continues-front (front ++ moved ∷ []) rest (window g ws) whole) certifies some.1
