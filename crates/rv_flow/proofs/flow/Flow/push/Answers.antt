-- The flow of one instruction more.
use Rattle.std.proofs.Common.{◌≡◌, ◌↔◌, ◌⊎◌, ◌++◌, ◌∷◌, [], inl, inr, ℕ, List, IsTrue, length}
use Rattle.rv_insn.specs.Roles.{is_branch}
use Rattle.rv_insn.specs.declared.unit.Unit.{Unit}
use Rattle.rv_rows.specs.Bits.{Has}
use Rattle.rv_flow.specs.Dependencies.{HasControl, IsSource}
use Rattle.rv_flow.specs.declared.flow.Flow.{Flow}
use Rattle.rv_flow.specs.declared.step.Step.{Step}
use Rattle.rv_flow.specs.Flows.{ComesFrom, Holds, IsFlowOf}
use Rattle.rv_flow.proofs.Dependents.{control-longer}
use Rattle.rv_flow.proofs.Longer.{After, flow-longer}
use Rattle.rv_flow.proofs.flow.Flow.push.Goals as goal

-- where units have their rows, they hold the same
same-rows : (old new : Flow) → (new.units ≡ old.units) → (new.rows ≡ old.rows) → (u : Unit) (n : ℕ) →
    Holds new u n ↔ Holds old u n
same-rows old new units rows u n = rw (units, rows) (λ h. h, λ h. h)

pub returns-clause-taken : goal.returns-clause-taken
returns-clause-taken c = λ steps so. record {
  units = λ u n. (
    λ h. (longer steps so u n).0 ((c.take.ensures.after u n).0 h),
    λ came. (c.take.ensures.after u n).1 ((longer steps so u n).1 came),
  );
  tested = λ n. (
    λ h. (control-longer steps c.args.step n).0
        (to steps so n ((c.test.ensures.tested n).0 (rw c.take.ensures.tested at h))),
    λ control. rw c.take.ensures.tested ((c.test.ensures.tested n).1
        (from steps so n ((control-longer steps c.args.step n).1 control))),
  );
}
  where
    Control : List Step → ℕ → Type 0
    Control steps n = HasControl steps (length steps) n ⊎
        (IsTrue (is_branch c.args.step.insn.operation) × (u : Unit) × IsSource c.args.step.insn u × ComesFrom steps u n)

    Tested : ℕ → Type 0
    Tested n = Has c.reserve.new.self.tested n ⊎
        (IsTrue (is_branch c.args.step.insn.operation) × (u : Unit) × IsSource c.args.step.insn u ×
        Holds c.reserve.new.self u n)

    reserved : (steps : List Step) → IsFlowOf steps c.args.self.now → (u : Unit) (n : ℕ) →
        Holds c.reserve.new.self u n ↔ ComesFrom steps u n
    reserved steps so u n = (
      λ h. (so.units u n).0 ((c.reserve.ensures.kept.units u n).0 h),
      λ came. (c.reserve.ensures.kept.units u n).1 ((so.units u n).1 came),
    )

    to : (steps : List Step) → IsFlowOf steps c.args.self.now → (n : ℕ) → Tested n → Control steps n
    to steps so n (inl old) = inl ((so.tested n).0 (rw c.reserve.ensures.kept.tested at old))
    to steps so n (inr (branch, u, source, held)) = inr (branch, u, source, (reserved steps so u n).0 held)

    from : (steps : List Step) → IsFlowOf steps c.args.self.now → (n : ℕ) → Control steps n → Tested n
    from steps so n (inl old) = inl (rw c.reserve.ensures.kept.tested ((so.tested n).1 old))
    from steps so n (inr (branch, u, source, came)) = inr (branch, u, source, (reserved steps so u n).1 came)

    tested-same : (u : Unit) (n : ℕ) → Holds c.test.new.self u n ↔ Holds c.reserve.new.self u n
    tested-same = same-rows c.reserve.new.self c.test.new.self c.test.ensures.units.0 c.test.ensures.units.1

    after : (steps : List Step) → IsFlowOf steps c.args.self.now → (u : Unit) (n : ℕ) →
        Holds c.test.new.self u n ↔ ComesFrom steps u n
    after steps so u n = (
      λ h. (reserved steps so u n).0 ((tested-same u n).0 h),
      λ came. (tested-same u n).1 ((reserved steps so u n).1 came),
    )

    longer : (steps : List Step) → (so : IsFlowOf steps c.args.self.now) → (u : Unit) (n : ℕ) →
        After steps c.args.step (Holds c.test.new.self) (after steps so) u n ↔
        ComesFrom (steps ++ c.args.step ∷ []) u n
    longer steps so = flow-longer steps c.args.step (Holds c.test.new.self) (after steps so)
