-- A sweep over the candidates from the highest on.
use Rattle.std.proofs.Common.{◌≡◌, ◌≢◌, ℕ, ◌<◌, ◌≤◌, Bool, true, false, not, ◌&&◌, ◌||◌, List, [], ◌∷◌, ◌++◌}
use Rattle.std.proofs.Common.{Contains, Some, None, ◌∙◌, ap, sym, refl, inl, inr, arith, ◌⊎◌, ◌↔◌, slice_index_or}
use Rattle.std.proofs.Common.{subst, append-nil, append_assoc, ◌+◌}
use Rattle.std.proofs.lemmas.Bool.{cases_eq, cases_lt, false≢true}
use Rattle.std.proofs.lemmas.List.Elements.{Contains-push, Contains-push_cases, Contains-append_left}
use Rattle.std.proofs.lemmas.Grind.{common_steps}
use Rattle.std.proofs.Common.{rules}
use Rattle.rv_rows.specs.Bits.{has_bit, Has, IsHighest}
use Rattle.rv_rows.specs.Closure.{RowHas, IsClosed, IsReached, IsThinned}
use Rattle.rv_rows.specs.Laws.{IsSwept}

-- what holds between two candidates that are taken
pub record Swept (rows : List (List ℕ)) (first left : List ℕ) (listed : List ℕ) (top : ℕ) : Type 0 where
  pub low : (j : ℕ) → Has left j → j < top
  pub sub : (j : ℕ) → Has left j → Has first j
  pub only : (b : ℕ) → Contains listed b → Has first b
  pub each : (a : ℕ) → Has first a → Has left a ⊎ IsReached rows listed a
  pub unsplit : (a c : ℕ) → Contains listed a → Has first c → c ≢ a → RowHas rows c a → ⊥
  pub apart : (b j : ℕ) → Contains listed b → RowHas rows b j → Has left j → ⊥

-- a sweep with nothing left is done
pub swept-done : (rows : List (List ℕ)) (first left listed : List ℕ) (top : ℕ) → Swept rows first left listed top →
    IsHighest left None → IsThinned rows first listed
swept-done rows first left listed top s none = grind (arith, common_steps)

-- a sweep begins with all candidates
pub swept-init : (rows : List (List ℕ)) (first : List ℕ) (top : ℕ) → ((b : ℕ) → Has first b → b < top) →
    Swept rows first first [] top
swept-init rows first top low = grind (arith, common_steps)

or_cases : (x y : Bool) → (x || y) ≡ true → (x ≡ true) ⊎ (y ≡ true)
or_cases true y e = inl refl
or_cases false y e = inr e

or_right : (x y : Bool) → y ≡ true → (x || y) ≡ true
or_right true y e = refl
or_right false y e = e

or_left : (x y : Bool) → x ≡ true → (x || y) ≡ true
or_left x y e = rw e

less_parts : (x y : Bool) → (x && not y) ≡ true → (x ≡ true) × (y ≡ false)
less_parts true true e = absurd (false≢true e)
less_parts true false e = (refl, refl)
less_parts false y e = absurd (false≢true e)

less_is_true : (x y : Bool) → x ≡ true → y ≡ false → (x && not y) ≡ true
less_is_true x y e f = rw (e, f)

module _ (rows : List (List ℕ)) (first left left' listed : List ℕ) (top b : ℕ)
    (closed : IsClosed rows) (own : (j : ℕ) → Has first j → RowHas rows j j)
    (s : Swept rows first left listed top) (highest : IsHighest left (Some b))
    (left_is : (j : ℕ) → has_bit left' j ≡ (has_bit left j && not (has_bit (slice_index_or rows b []) j))) where
  abbrev more : List ℕ
  more = listed ++ b ∷ []

  here : Contains more b
  here = Contains-push listed b

  there : (a : ℕ) → Contains listed a → Contains more a
  there a c = Contains-append_left listed (b ∷ []) a c

  still : (j : ℕ) → Has left' j → Has left j × (has_bit (slice_index_or rows b []) j ≡ false)
  still j h = less_parts _ _ (sym (left_is j) ∙ h)

  reached-more : (j : ℕ) → IsReached rows listed j → IsReached rows more j
  reached-more j r = record { b = r.b; is_taken = there r.b r.is_taken; has = r.has }

  low' : (j : ℕ) → Has left' j → j < b
  low' j h = go (cases_lt j b)
    where
      go : (j < b) ⊎ (b ≤ j) → j < b
      go (inl l) = l
      go (inr l) = apart_or (cases_eq j b)
        where
          apart_or : (j ≡ b) ⊎ (j ≡ b → ⊥) → j < b
          apart_or (inl same) = absurd (false≢true
              (sym (still j h).1 ∙ ap (λ x. has_bit (slice_index_or rows b []) x) same ∙ own b (s.sub b highest.1)))
          apart_or (inr other) = absurd (false≢true (sym (highest.2 j (omega arith)) ∙ (still j h).0))

  each' : (a : ℕ) → Has first a → Has left' a ⊎ IsReached rows more a
  each' a h = go (s.each a h)
    where
      cut_or : Has left a → (x : Bool) → has_bit (slice_index_or rows b []) a ≡ x → Has left' a ⊎ IsReached rows more a
      cut_or l true e = inr (record { b = b; is_taken = here; has = e })
      cut_or l false e = inl (left_is a ∙ less_is_true _ _ l e)

      go : Has left a ⊎ IsReached rows listed a → Has left' a ⊎ IsReached rows more a
      go (inl l) = cut_or l (has_bit (slice_index_or rows b []) a) refl
      go (inr r) = inr (reached-more a r)

  unsplit' : (a c : ℕ) → Contains more a → Has first c → c ≢ a → RowHas rows c a → ⊥
  unsplit' a c l h other r = go (Contains-push_cases listed b a l)
    where
      at_b : Has left c ⊎ IsReached rows listed c → b ≡ a → ⊥
      at_b (inl still_left) is = search (false≢true, rules)
      at_b (inr reached) is = s.apart reached.b b reached.is_taken
          (closed.closed reached.b c b reached.has (subst (RowHas rows c) (sym is) r)) highest.1

      go : Contains listed a ⊎ (b ≡ a) → ⊥
      go (inl old) = s.unsplit a c old h other r
      go (inr is) = at_b (s.each c h) is

  apart' : (a j : ℕ) → Contains more a → RowHas rows a j → Has left' j → ⊥
  apart' a j l r h = go (Contains-push_cases listed b a l)
    where
      go : Contains listed a ⊎ (b ≡ a) → ⊥
      go (inl old) = s.apart a j old r (still j h).0
      go (inr is) = false≢true (sym (still j h).1 ∙ subst (λ (x : ℕ). RowHas rows x j) (sym is) r)

  only' : (a : ℕ) → Contains more a → Has first a
  only' a l = go (Contains-push_cases listed b a l)
    where
      go : Contains listed a ⊎ (b ≡ a) → Has first a
      go (inl old) = s.only a old
      go (inr is) = subst (Has first) is (s.sub b highest.1)

  -- a step takes the highest
  pub swept-step : Swept rows first left' (listed ++ b ∷ []) b
  swept-step = record {
    low = low';
    sub = λ j h. s.sub j (still j h).0;
    only = only';
    each = each';
    unsplit = unsplit';
    apart = apart';
  }

-- ---- a whole sweep
module _ (rows : List (List ℕ)) (first : List ℕ) (closed : IsClosed rows)
    (own : (j : ℕ) → Has first j → RowHas rows j j) where
  -- the steps that are left, after some were done
  rest-thins : (left listed rest : List ℕ) (top : ℕ) → Swept rows first left listed top → IsSwept rows left rest →
      IsThinned rows first (listed ++ rest)
  rest-thins left listed [] top s none =
      subst (IsThinned rows first) (sym (append-nil listed)) (swept-done rows first left listed top s none)
  rest-thins left listed (n ∷ rest) top s steps =
      subst (IsThinned rows first) (append_assoc listed (n ∷ []) rest)
      (rest-thins steps.0 (listed ++ n ∷ []) rest n
      (swept-step rows first left steps.0 listed top n closed own s steps.1.0 steps.1.1) steps.2)

  -- so the steps of a sweep thin the candidates
  pub sweeps : (taken : List ℕ) → IsSwept rows first taken → IsThinned rows first taken
  sweeps [] none =
      let low : (b : ℕ) → Has first b → b < 0 = λ b h. absurd (false≢true (sym (none b) ∙ h)) in
      swept-done rows first first [] 0 (swept-init rows first 0 low) none
  sweeps (n ∷ rest) steps = rest-thins first [] (n ∷ rest) (n + 1) (swept-init rows first (n + 1) low) steps
    where
      low : (b : ℕ) → Has first b → b < n + 1
      low b h = go (cases_lt b (n + 1))
        where
          go : (b < n + 1) ⊎ (n + 1 ≤ b) → b < n + 1
          go (inl l) = l
          go (inr l) = absurd (false≢true (sym (steps.1.0.2 b (omega arith)) ∙ h))

-- ---- the rows of what was taken, joined
-- the row has what the first one has, and what the rows of the numbers that were taken have
abbrev pub Gathers : List (List ℕ) → List ℕ → List ℕ → List ℕ → Type 0
Gathers rows base taken row = (j : ℕ) → Has row j ↔ (Has base j ⊎ IsReached rows taken j)

-- before the first step nothing was joined
pub gathers-none : (rows : List (List ℕ)) (row : List ℕ) → Gathers rows row [] row
gathers-none rows row j = grind (arith, common_steps)

-- a step joins one row more
pub gathers-step : (rows : List (List ℕ)) (base taken row row' : List ℕ) (b : ℕ) → Gathers rows base taken row →
    ((j : ℕ) → has_bit row' j ≡ (has_bit row j || has_bit (slice_index_or rows b []) j)) →
    Gathers rows base (taken ++ b ∷ []) row'
gathers-step rows base taken row row' b so more j = (to, from)
  where
    old : IsReached rows taken j → IsReached rows (taken ++ b ∷ []) j
    old r = record { b = r.b; is_taken = Contains-append_left taken (b ∷ []) r.b r.is_taken; has = r.has }

    to : Has row' j → Has base j ⊎ IsReached rows (taken ++ b ∷ []) j
    to h = elim (or_cases (has_bit row j) (has_bit (slice_index_or rows b []) j) (sym (more j) ∙ h)) [
      | inl x ↦ elim ((so j).0 x) [ inl y ↦ inl y | inr y ↦ inr (old y) ]
      | inr x ↦ inr (record { b = b; is_taken = Contains-push taken b; has = x })
    ]

    kept : Has row j → Has row' j
    kept h = more j ∙ or_left (has_bit row j) (has_bit (slice_index_or rows b []) j) h

    reached : (r : IsReached rows (taken ++ b ∷ []) j) → Contains taken r.b ⊎ (b ≡ r.b) → Has row' j
    reached r (inl c) = kept ((so j).1 (inr (record { b = r.b; is_taken = c; has = r.has })))
    reached r (inr is) = more j ∙ or_right (has_bit row j) (has_bit (slice_index_or rows b []) j)
        (subst (λ (x : ℕ). RowHas rows x j) (sym is) r.has)

    from : Has base j ⊎ IsReached rows (taken ++ b ∷ []) j → Has row' j
    from (inl h) = kept ((so j).1 (inl h))
    from (inr r) = reached r (Contains-push_cases taken b r.b r.is_taken)
