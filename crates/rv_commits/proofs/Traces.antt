-- A hart's trace that says the same of its instructions.
use Rattle.std.proofs.Common.{ℕ, ◌≡◌, ◌<◌, List, subst, sym, Result, Ok, Err, OnErr}
use Rattle.rv_flow.specs.Carriers.{AreCarriers, IsEvent}
use Rattle.rv_flow.specs.Flows.{IsFlowOf, IsSame}
use Rattle.rv_flow.specs.Traces.{IsStill, Traced}
use Rattle.rv_flow.specs.declared.carrier.Carrier.{Carrier}
use Rattle.rv_flow.specs.declared.flow.Flow.{Flow}
use Rattle.rv_flow.specs.declared.step.Step.{Step}
use Rattle.rv_rows.specs.Bits.{Has}

-- so it does where registers hold the same
flow-same : (steps : List Step) (old new : Flow) → IsSame old new → IsFlowOf steps old → IsFlowOf steps new
flow-same steps old new same is = record {
  units = λ u n. (
    λ holds. (is.units u n).0 ((same.units u n).0 holds),
    λ comes. (same.units u n).1 ((is.units u n).1 comes),
  );
  tested = λ n. (
    λ has. (is.tested n).0 (subst (λ (row : List ℕ). Has row n) same.tested has),
    λ control. subst (λ (row : List ℕ). Has row n) (sym same.tested) ((is.tested n).1 control),
  );
}

pub still-same : (old new : Traced) → IsSame old.flow new.flow → new.carriers ≡ old.carriers → new.rows ≡ old.rows →
    IsStill old new
still-same old new same carriers rows steps is = record {
  flow = flow-same steps old.flow new.flow same is.flow;
  carriers = subst (λ (cs : List Carrier). AreCarriers cs new.rows) (sym carriers)
      (subst (AreCarriers old.carriers) (sym rows) is.carriers);
  events = λ i n event.
      let old-event = is.events i n event in (
        subst (λ (cs : List Carrier). IsEvent cs n) (sym carriers) old-event.0,
        subst (λ (k : ℕ). n < k) (sym rows) old-event.1,
      );
}

-- what holds after an error by two clauses
pub err-by : {T E A B C : Type 0} (r : Result T E) → (A → B → C) → OnErr r A → OnErr r B → OnErr r C
err-by (Ok x) f a b = tt
err-by (Err e) f a b = f a b

pub on_err : {T E A : Type 0} (r : Result T E) → A → OnErr r A
on_err (Ok x) a = tt
on_err (Err e) a = a
