-- The first fault over a log, where one of its faults is told by what was forgotten.
use Rattle.rv_event.specs.Faults.{fault_if, lowest}
use Rattle.rv_event.specs.Texts.{fault_number}
use Rattle.rv_event.specs.declared.event.Event.{Event}
use Rattle.rv_event.specs.declared.fault.Fault.{Fault}
use Rattle.rv_event.specs.declared.fault.Fault.TheVariants.{VersionTaken}
use Rattle.rv_settle.proofs.Faulted.{SameFaults, lowest-same}
use Rattle.std.proofs.Common.{ℕ, ◌≡◌, ◌∙◌, ◌<◌, ◌≤◌, ◌+◌, ◌++◌, ◌∷◌, ◌⊎◌, [], Bool, List, None}
use Rattle.std.proofs.Common.{Option, Some, ap, arith, false, inl, inr, length, option_map, refl}
use Rattle.std.proofs.Common.{suc, sym, true}
use Rattle.std.proofs.lemmas.Option.{none-some, same_Some}

-- the faults that hold have the numbers of their places, from this one on
abbrev pub AreFrom : ℕ → List (Option Fault) → Type 0
AreFrom k [] = Unit {0}
AreFrom k (o ∷ xs) = ((f : Fault) → o ≡ Some f → fault_number f ≡ k) × AreFrom (suc k) xs

-- so the first one has the number of its place
pub lowest-from : (k : ℕ) (xs : List (Option Fault)) → AreFrom k xs → (f : Fault) → lowest xs ≡ Some f →
    (k ≤ fault_number f) × (fault_number f < k + length xs)
lowest-from k [] from f is = absurd (none-some f is)
lowest-from k (Some g ∷ xs) from f is =
    let number = from.0 g refl in let same = ap fault_number (same_Some g f is) in (
      omega (arith, number, same),
      omega (arith, number, same),
    )
lowest-from k (None ∷ xs) from f is =
    let rest = lowest-from (suc k) xs from.1 f is in let least = rest.0 in let most = rest.1 in (
      omega (arith, least),
      omega (arith, most),
    )

-- a fault by a test has the number of that fault
pub tested : (b : Bool) (g f : Fault) → fault_if b g ≡ Some f → fault_number f ≡ fault_number g
tested true g f is = ap fault_number (sym (same_Some g f is))
tested false g f is = absurd (none-some f is)

-- and so has one by a writer
pub written : (o : Option Event) (f : Fault) → option_map (λ (w : Event). VersionTaken w.id) o ≡ Some f →
    fault_number f ≡ 5
written (Some w) f is = ap fault_number (sym (same_Some (VersionTaken w.id) f is))
written None f is = absurd (none-some f is)

-- the first fault is among the first ones, or is the first of the rest
pub parts : (xs ys : List (Option Fault)) → ((f : Fault) × (lowest xs ≡ Some f) × (lowest (xs ++ ys) ≡ Some f))
    ⊎ ((lowest xs ≡ None) × (lowest (xs ++ ys) ≡ lowest ys))
parts [] ys = inr (refl, refl)
parts (Some f ∷ xs) ys = inl (f, refl, refl)
parts (None ∷ xs) ys = parts xs ys

module _ (full : Fault → Fault) (front frontW : List (Option Fault)) (same : SameFaults full front frontW)
    (from : AreFrom 1 frontW) (k : ℕ) (next : suc (length frontW) ≡ k) (a : Option Fault) (back : List (Option Fault))
    (b : Option Fault) (backW : List (Option Fault)) (rest : AreFrom k (b ∷ backW)) (g : Fault) (is : a ≡ Some g) where
  -- where a fault holds over the log, the first one is that of the window where this has a lower number,
  -- and else this one
  pub first-told : ((f : Fault) × (lowest (frontW ++ b ∷ backW) ≡ Some f) × (fault_number f < k)
      × (lowest (front ++ a ∷ back) ≡ Some (full f)))
      ⊎ ((lowest (front ++ a ∷ back) ≡ Some g)
      × ((f : Fault) → lowest (frontW ++ b ∷ backW) ≡ Some f → k ≤ fault_number f))
  first-told = go (parts frontW (b ∷ backW)) (parts front (a ∷ back))
    where
      here : lowest (a ∷ back) ≡ Some g
      here = ap (λ (o : Option Fault). lowest (o ∷ back)) is

      told : lowest front ≡ option_map full (lowest frontW)
      told = lowest-same full front frontW same

      go : ((f : Fault) × (lowest frontW ≡ Some f) × (lowest (frontW ++ b ∷ backW) ≡ Some f))
          ⊎ ((lowest frontW ≡ None) × (lowest (frontW ++ b ∷ backW) ≡ lowest (b ∷ backW))) →
          ((f : Fault) × (lowest front ≡ Some f) × (lowest (front ++ a ∷ back) ≡ Some f))
          ⊎ ((lowest front ≡ None) × (lowest (front ++ a ∷ back) ≡ lowest (a ∷ back))) →
          ((f : Fault) × (lowest (frontW ++ b ∷ backW) ≡ Some f) × (fault_number f < k)
          × (lowest (front ++ a ∷ back) ≡ Some (full f)))
          ⊎ ((lowest (front ++ a ∷ back) ≡ Some g)
          × ((f : Fault) → lowest (frontW ++ b ∷ backW) ≡ Some f → k ≤ fault_number f))
      go (inl (f, early, whole)) (inl (e, early', whole')) =
          let low = (lowest-from 1 frontW from f early).1 in
          let same' : full f ≡ e = same_Some (full f) e (sym (ap (option_map full) early) ∙ sym told ∙ early') in
          inl (f, whole, omega (arith, low, next), whole' ∙ ap Some (sym same'))
      go (inl (f, early, whole)) (inr (none, whole')) =
          absurd (none-some (full f) (sym none ∙ told ∙ ap (option_map full) early))
      go (inr (none, whole)) (inl (e, early', whole')) =
          absurd (none-some e (sym (ap (option_map full) none) ∙ sym told ∙ early'))
      go (inr (none, whole)) (inr (none', whole')) =
          inr (whole' ∙ here, (λ f found. (lowest-from k (b ∷ backW) rest f (sym whole ∙ found)).0))
