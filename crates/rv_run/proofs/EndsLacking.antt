-- The end records of sources, one after another.
use Rattle.rv_run.proofs.Common.{◌≡◌, ◌+◌, ◌<◌, ℕ, List, [], ◌∷◌, zero, suc, arith, Option, None, Some, true}
use Rattle.rv_run.proofs.Common.{false, length, get_or, below_more, subst}
use Rattle.rv_run.proofs.Common.{Fed}
use Rattle.std.specs.Prelude.{is_some}
use Rattle.rv_run.specs.Comparisons.{AreCountedFed, AreEndsLacking, IsCountedFed, IsFedLacking}
use Rattle.rv_run.specs.declared.missing.Missing.{Missing}

-- the source that stands at a place, whatever is given where none stands there
at-place : (fed : List Fed) (i : ℕ) (one f : Fed) → i < length fed → one ≡ get_or fed i one → one ≡ get_or fed i f
at-place [] i one f low is = absurd (omega (arith, low))
at-place (x ∷ fed) zero one f low is = is
at-place (x ∷ fed) (suc i) one f low is = at-place fed i one f (omega (arith, low)) is

-- a source more whose end record counts its rows
pub counted-more : (fed : List Fed) (i : ℕ) (one : Fed) (m : Option Missing) → AreCountedFed fed i → i < length fed →
    one ≡ get_or fed i one → IsFedLacking i one m → is_some m ≡ false → AreCountedFed fed (i + 1)
counted-more fed i one None so_far low is lacks none =
    λ k f below. below_more (λ j. IsCountedFed (get_or fed j f)) i (λ j under. so_far j f under)
    (subst IsCountedFed (at-place fed i one f low is) lacks) k below
counted-more fed i one (Some m) so_far low is lacks none = cc none

-- the first that does not
pub first-end : (fed : List Fed) (i : ℕ) (one : Fed) (m : Option Missing) → AreCountedFed fed i → i < length fed →
    one ≡ get_or fed i one → IsFedLacking i one m → is_some m ≡ true → AreEndsLacking fed m
first-end fed i one None so_far low is lacks some = cc some
first-end fed i one (Some m) so_far low is lacks some =
    (i, so_far, low, λ f. subst (λ (x : Fed). IsFedLacking i x (Some m)) (at-place fed i one f low is) lacks)

-- where nothing is lacking, the end records of all count their rows
pub ends-counted : (fed : List Fed) (m : Option Missing) → AreEndsLacking fed m → is_some m ≡ false →
    AreCountedFed fed (length fed)
ends-counted fed None told none = told
ends-counted fed (Some m) told none = cc none
