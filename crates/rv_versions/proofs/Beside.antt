-- Events beside what their LRs returned.
use Rattle.rv_versions.proofs.Common.{◌≡◌, List, [], ◌∷◌, ◌++◌, length, Contains, Option, inl, inr, refl, ap}
use Rattle.rv_versions.proofs.Common.{arith, Contains-cons, Contains-here, Contains-there, Event, beside}
use Rattle.rv_versions.proofs.Common.{Reservation}
use Rattle.rv_versions.proofs.Members.{Contains-none}

-- one event more beside its reservation
pub beside-push : (log : List Event) (rs : List (Option Reservation)) (e : Event) (r : Option Reservation) →
    length log ≡ length rs → beside (log ++ e ∷ []) (rs ++ r ∷ []) ≡ beside log rs ++ (e, r) ∷ []
beside-push [] [] e r same = refl
beside-push [] (q ∷ rs) e r same = absurd (omega (arith, same))
beside-push (a ∷ log) [] e r same = absurd (omega (arith, same))
beside-push (a ∷ log) (q ∷ rs) e r same = ap (λ (l : List (Event × Option Reservation)). (a, q) ∷ l)
    (beside-push log rs e r (omega (arith, same)))

-- its first half is of the log
pub beside_left : (log : List Event) (rs : List (Option Reservation)) (p : Event × Option Reservation) →
    Contains (beside log rs) p → Contains log p.0
beside_left [] rs p c = absurd (Contains-none p c)
beside_left (a ∷ log) [] p c = absurd (Contains-none p c)
beside_left (a ∷ log) (q ∷ rs) p c = elim (Contains-cons (a, q) (beside log rs) p c) [
  | inl is ↦ Contains-here a log p.0 (ap (λ (x : Event × Option Reservation). x.0) is)
  | inr d ↦ Contains-there a log p.0 (beside_left log rs p d)
]

-- each event of the log stands beside something
pub beside_of : (log : List Event) (rs : List (Option Reservation)) → length log ≡ length rs → (e : Event) →
    Contains log e → (r : Option Reservation) × Contains (beside log rs) (e, r)
beside_of [] rs same e c = absurd (Contains-none e c)
beside_of (a ∷ log) [] same e c = absurd (omega (arith, same))
beside_of (a ∷ log) (q ∷ rs) same e c = elim (Contains-cons a log e c) [
  | inl is ↦ (q, Contains-here (a, q) (beside log rs) (e, q) (ap (λ (x : Event). (x, q)) is))
  | inr d ↦ let again = beside_of log rs (omega (arith, same)) e d in (
    again.0,
    Contains-there (a, q)
        (beside log rs) (e, again.0) again.1,
  )
]
