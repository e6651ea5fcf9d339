-- The versions of a row by its times and by the value that it returned.
use Rattle.std.proofs.Common.{ℕ, ◌≡◌, ◌<◌, ◌++◌, ◌∷◌, [], Bool, List, Option, Some, None, append-nil}
use Rattle.std.proofs.Common.{arith, get_or, inl, inr, length, refl, subst, sym, true}
use Rattle.std.proofs.lemmas.Bool.{false≢true}
use Rattle.rv_log.specs.declared.record.Performed.{Performed}
use Rattle.rv_memory.specs.Stores.{IsOrder}
use Rattle.rv_values.specs.Index.{IsFoundWith, IsIndex}
use Rattle.rv_values.specs.Issues.{AreSingle}
use Rattle.rv_values.specs.Memory.{IsMemory}
use Rattle.rv_values.specs.Values.{MayGrow}
use Rattle.rv_values.specs.declared.index.Found.TheVariants.{One}
use Rattle.rv_values.specs.declared.index.Index.{Index}
use Rattle.rv_values.specs.declared.issues.Issued.{Issued}
use Rattle.rv_values.specs.declared.memory.Memory.{Memory}
use Rattle.rv_commits.specs.Queues.{IsAtRest, IsFrontRefused}
use Rattle.rv_commits.specs.Settled.{IsAtStage, IsFoundByValue, IsOpenRow, IsValueRefused, is_ended}
use Rattle.rv_commits.specs.declared.pending.Pending.{Pending}
use Rattle.rv_commits.specs.declared.pending.Stage.{Stage}
use Rattle.rv_commits.specs.declared.pending.Stage.TheVariants.{Ended, Reading}
use Rattle.rv_commits.specs.declared.pending.ValueFault.{ValueFault}
use Rattle.rv_commits.specs.declared.pending.Waiting.{Waiting}

-- at the end of the log its index is that of all records
pub ended-index : (issued more : List Issued) (performed later : List Performed) (stage : Stage) (index : Index) →
    stage ≡ Ended index → IsAtStage issued more performed later stage →
    IsIndex (issued ++ more) (performed ++ later) index
ended-index issued more performed later stage index is at =
    let end = subst (IsAtStage issued more performed later) is at in
    subst (λ (m : List Issued). IsIndex (issued ++ m) (performed ++ later) index) (sym end.1)
    (subst (λ (l : List Performed). IsIndex (issued ++ []) (performed ++ l) index) (sym end.2)
    (subst (λ (i : List Issued). IsIndex i (performed ++ []) index) (sym (append-nil issued))
    (subst (λ (p : List Performed). IsIndex issued p index) (sym (append-nil performed)) end.0)))

module _ (issued : List Issued) (performed : List Performed) (w : Waiting) (initial : Option ℕ) (value : ℕ)
    (shown : w.returned ≡ Some value) where
  -- the one version that holds the value
  pub one-found : (version : ℕ) → IsFoundWith issued performed w.address initial value (Some (One version)) →
      IsFoundByValue issued performed w initial version
  one-found version is = record { value = value; shown = shown; only = inl is }

  -- and version 0, where none does
  pub none-found : initial ≡ None → IsFoundWith issued performed w.address initial value None →
      IsFoundByValue issued performed w initial 0
  none-found unknown is = record { value = value; shown = shown; only = inr (refl, unknown, is) }

-- nothing comes behind the end
pub none-later : (issued more : List Issued) (performed later : List Performed) (stage : Stage) →
    is_ended stage ≡ true → IsAtStage issued more performed later stage → later ≡ []
none-later issued more performed later Reading ended at = absurd (false≢true ended)
none-later issued more performed later (Ended index) ended at = at.2

-- what holds with nothing more holds
pub with-none : (P : List Issued → List Performed → Type 0) (issued : List Issued) (performed : List Performed) →
    P (issued ++ []) (performed ++ []) → P issued performed
with-none P issued performed is =
    subst (λ (i : List Issued). P i performed) (append-nil issued)
    (subst (P (issued ++ [])) (append-nil performed) is)

-- a memory may stay as it is
pub none-more : (issued : List Issued) (performed : List Performed) (m : Memory) → IsMemory issued performed m →
    MayGrow issued [] performed []
none-more issued performed m is = record {
  single = subst AreSingle (sym (append-nil issued)) is.single;
  order = subst IsOrder (sym (append-nil performed)) is.stores.order;
}

module _ (issued : List Issued) (performed : List Performed) (initial : Option ℕ) where
  -- what holds of the first row that waits holds of the hart
  pub first-open : (ended : Bool) (p : Pending) (queue : List Pending) → 0 < length queue → p ≡ get_or queue 0 p →
      IsOpenRow issued performed initial ended p → IsAtRest issued performed initial ended queue
  first-open ended p [] low at open' = tt
  first-open ended p (first ∷ rest) low at open' = subst (IsOpenRow issued performed initial ended) at open'

  pub first-refused : (fault : ValueFault) (p : Pending) (queue : List Pending) → 0 < length queue →
      p ≡ get_or queue 0 p → IsValueRefused issued performed p.waiting initial fault →
      IsFrontRefused issued performed initial queue fault
  first-refused fault p [] low at refused = absurd (omega (low, arith))
  first-refused fault p (first ∷ rest) low at refused =
      subst (λ (x : Pending). IsValueRefused issued performed x.waiting initial fault) at refused
