-- Where no hart has a load that waits, none waits.
use Rattle.std.proofs.Common.{◌≡◌, ◌<◌, ◌+◌, ◌==◌, ◌&&◌, ◌∙◌, ℕ, suc, List, [], ◌∷◌, Bool, true, false}
use Rattle.std.proofs.Common.{Contains, count_by}
use Rattle.std.proofs.Common.{filter, get_or, length, refl, sym, subst, take, ap, arith, inl, inr, if◌then◌else◌}
use Rattle.std.proofs.lemmas.Bool.{cases_Bool, eq-eqb}
use Rattle.std.proofs.lemmas.List.{get_or-map, length-map}
use Rattle.std.proofs.lemmas.List.Folds.{length-flat_map-take}
use Rattle.std.proofs.lemmas.List.FromFn.{get_or-range_with_len}
use Rattle.rv_event.specs.Log.{events}
use Rattle.rv_event.specs.WellFormed.{WellFormed}
use Rattle.rv_event.specs.declared.event.Entry.{Entry}
use Rattle.rv_event.specs.declared.event.Event.{Event}
use Rattle.rv_event.proofs.Indexed.{indexed_from_WellFormed}
use Rattle.rv_book.specs.Counts.{is_waiting, waiting_of}
use Rattle.rv_coverage.specs.Counts.{all_harts}
use Rattle.rv_coverage.specs.Waits.{waits, waits_of}
use Rattle.rv_coverage.specs.declared.waiting.Wait.{Wait}

-- where no hart has one, the hart of this number has none
none-of : (log : List Entry) (hart : ℕ) → waits log ≡ [] → hart < 16 → length (waits_of log hart) ≡ 0
none-of log hart none low =
    let counted : get_or all_harts hart 0 ≡ 0 + hart = get_or-range_with_len 0 16 hart 0 low in
    let at : get_or all_harts hart 0 ≡ hart = omega (arith, counted) in
    let few = length-flat_map-take (waits_of log) all_harts hart 0 low in
    let all : length (waits log) ≡ 0 = ap length none in
    subst (λ h. length (waits_of log h) ≡ 0) at (omega (arith, few, all))

-- an entry that waits is one of its hart's
none-waits : (log : List Event) (rest : List Entry) → ((x : Entry) → Contains rest x → x.event.id.hart < 16)
    → ((hart : ℕ) → hart < 16
    → length (filter (λ x. (x.event.id.hart == hart) && is_waiting log x.event) rest) ≡ 0)
    → count_by (λ x. is_waiting log x.event) rest ≡ 0
none-waits log [] harts none = refl
none-waits log (x ∷ rest) harts none = elim (cases_Bool (is_waiting log x.event)) [
  | inl waits ↦
      let here = none x.event.id.hart (harts x (0, omega arith, refl)) in
      let own : (x.event.id.hart == x.event.id.hart) ≡ true = eq-eqb _ _ refl in
      let some = rw (own, waits) at here in
      cc some
  | inr others ↦
      let more = none-waits log rest (λ y c. harts y (suc c.0, omega (arith, c.1), c.2))
      (λ hart low. fewer (x.event.id.hart == hart) (is_waiting log x.event) hart others (none hart low)) in
      rw others more
]
  where
    fewer : (own waits : Bool) (hart : ℕ) → waits ≡ false
        → length (if own && waits
        then x ∷ filter (λ y. (y.event.id.hart == hart) && is_waiting log y.event) rest
        else filter (λ y. (y.event.id.hart == hart) && is_waiting log y.event) rest) ≡ 0
        → length (filter (λ y. (y.event.id.hart == hart) && is_waiting log y.event) rest) ≡ 0
    fewer true true hart none is = cc is
    fewer true false hart none is = is
    fewer false waits hart none is = is

-- where the first ten are none, there is none
ten-none : (ws : List Wait) → take 10 ws ≡ [] → ws ≡ []
ten-none [] none = refl
ten-none (w ∷ ws) none = cc none

-- so none of the log waits
pub no-waits : (log : List Entry) → WellFormed log → take 10 (waits log) ≡ [] → waiting_of log ≡ 0
no-waits log ok firsts =
    let none = ten-none (waits log) firsts in
    let known = indexed_from_WellFormed log ok in
    none-waits (events log) log (λ x c. known.harts x.event (
      c.0,
      subst (λ n. c.0 < n) (sym (length-map log (λ (y : Entry). y.event))) c.1,
      get_or-map (λ (y : Entry). y.event) log c.0 x x.event c.1 ∙ ap (λ (y : Entry). y.event) c.2,
    ))
    (λ hart low. sym (length-map _ _) ∙ none-of log hart none low)
