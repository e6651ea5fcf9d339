-- What a log of all that was read tests, its sources' loads test.
use Rattle.rv_run.proofs.Common.{◌≡◌, ◌<◌, ◌∙◌, ℕ, List, [], ◌∷◌, Option, None, Some, IfSome}
use Rattle.rv_run.proofs.Common.{arith, get_or, length, length-map, map, sym, Fed, IsFedOf, MemoryModel, Stream}
use Rattle.rv_replay.specs.declared.strength.Strength.{Strength}
use Rattle.rv_run.specs.Comparisons.{IsTestedBy}
use Rattle.rv_run.specs.Strengths.{AreTested}
use Rattle.rv_run.proofs.Outcomes.{each-of, every, merge-true, read-true}

-- of sources that were fed, by what each feeder gave
pub tested-true :
    (streams : List (Option Stream)) (fed : List Fed) (any : Fed) (same : length fed ≡ length streams) →
    ((i : ℕ) (f : Fed) → i < length streams → IsFedOf (get_or streams i None) (get_or fed i f)) →
    (model : MemoryModel) (s : Option Strength) → IfSome s (IsTestedBy model fed) → IfSome s (AreTested model streams)
tested-true streams fed any same each model None told = tt
tested-true streams fed any same each model (Some s) (log, whole, is) =
    let merge = merge-true streams fed any same each log whole in (
      every streams fed any same each,
      read-true streams fed any same each log whole,
      (log, (λ source. sym (merge.2 source)), is),
    )

-- of readers, by what each says
pub readers-tested :
    {R : Type 0} (says : R → Option Stream) (readers : List R) (fed : List Fed) → 0 < length readers →
    length fed ≡ length readers →
    ((i : ℕ) (r : R) (f : Fed) → i < length readers → IsFedOf (says (get_or readers i r)) (get_or fed i f)) →
    (model : MemoryModel) (s : Option Strength) → IfSome s (IsTestedBy model fed) →
    IfSome s (AreTested model (map says readers))
readers-tested says [] fed some same each model s told = absurd (omega (arith, some))
readers-tested says (r ∷ rs) [] some same each model s told = absurd (omega (arith, same))
readers-tested says (r ∷ rs) (f ∷ fs) some same each model s told =
    tested-true (map says (r ∷ rs)) (f ∷ fs) f (same ∙ sym (length-map (r ∷ rs) says))
    (each-of says (r ∷ rs) (f ∷ fs) same each r) model s told
