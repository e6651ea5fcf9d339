-- A hart's rows, as rows and instructions come.
use Rattle.std.proofs.Common.{◌≡◌, ℕ, ◌<◌, ◌≤◌, true, not, ◌&&◌, List, length, Contains}
use Rattle.std.proofs.Common.{Option, Some, None, Result, Ok, Err, IfOk, OnErr, OnOk, IsTrue, ◌⊎◌, ◌↔◌, inl, inr}
use Rattle.std.proofs.Common.{sym, ap, refl, subst, ◌∙◌, arith}
use Rattle.std.proofs.lemmas.Bool.{and_from, and_parts, cases_Bool, cases_eq, false≢true}
use Rattle.std.proofs.lemmas.List.{length_push}
use Rattle.std.proofs.lemmas.Option.{same_Some, slice_get_within}
use Rattle.rv_insn.specs.Roles.{is_branch}
use Rattle.rv_insn.specs.declared.insn.Insn.{Insn}
use Rattle.rv_insn.specs.declared.unit.Unit.{Unit}
use Rattle.rv_rows.specs.Bits.{Has, has_bit}
use Rattle.rv_flow.specs.Carriers.{AreCarriers, AreEvents, AreParts, IsBehind, IsEvent, IsGrown}
use Rattle.rv_flow.specs.Dependencies.{EventAt, HasAddress, HasBy, HasControl, HasData, IsAt, IsSource}
use Rattle.rv_flow.specs.Flows.{Holds, IsFlowOf, IsSame, OfNext, with_next}
use Rattle.rv_flow.specs.Listed.{AreLists}
use Rattle.rv_flow.specs.Traces.{AddsControl, IsTraceOf, ListsNext, Traced}
use Rattle.rv_flow.specs.declared.carrier.Carrier.{Carrier}
use Rattle.rv_flow.specs.declared.carriers.Carriers.{Carriers}
use Rattle.rv_flow.specs.declared.carriers.Lists.{Lists}
use Rattle.rv_flow.specs.declared.flow.Flow.{Flow}
use Rattle.rv_flow.specs.declared.step.Step.{Step}
use Rattle.rv_flow.specs.declared.unlisted.Unlisted.{Unlisted}
use Rattle.rv_flow.proofs.Dependents.{by-role, control-longer}
use Rattle.rv_flow.proofs.Gathering.{none_some}
use Rattle.rv_flow.proofs.Growing.{event-still}
use Rattle.rv_flow.proofs.Longer.{at-end, at-lower}

-- what the next instruction depends on by a role are events with rows of their own
pub events-of-next : (role : Insn → Option Unit) → ((i : Insn) (r : Unit) → role i ≡ Some r → IsSource i r) →
    (trace : Traced) → ((steps : List Step) × IsTraceOf steps trace) → (insn : Insn) (row : List ℕ) →
    OfNext (HasBy role) trace.flow insn row → AreEvents trace.carriers trace.rows row
events-of-next role is-source trace (steps, of) insn row says n has =
    let x : Step = record { insn = insn; event = None } in
    let came = (by-role steps x role is-source n).1 ((says steps x of.flow refl n).0 has) in
    let from = came.2 in
    of.events from.0 n from.3

-- rows that are no event's come
pub rows-more : (steps : List Step) (old new : Traced) → new.flow ≡ old.flow →
    IsGrown old.carriers old.rows new.carriers new.rows → IsTraceOf steps old → IsTraceOf steps new
rows-more steps old new same grown of = record {
  flow = subst (λ (f : Flow). IsFlowOf steps f) (sym same) of.flow;
  carriers = grown.are;
  events = λ i n at.
      let known = of.events i n at in
      let low = known.1 in
      let more = grown.next in (
        event-still old.carriers new.carriers old.rows new.rows of.carriers grown n low known.0,
        omega (low, more, arith),
      );
}

-- the next instruction comes, with an event of the next row or none
pub trace-pushed : (steps : List Step) (x : Step) (old new : Traced) → IsTraceOf steps old →
    IsFlowOf (with_next steps x) new.flow → new.carriers ≡ old.carriers → AreCarriers new.carriers new.rows →
    old.rows ≤ new.rows → ((n : ℕ) → x.event ≡ Some n → (n ≡ old.rows) × (old.rows < new.rows)) →
    IsTraceOf (with_next steps x) new
trace-pushed steps x old new of flow carriers are more next = record {
  flow = flow;
  carriers = are;
  events = event;
}
  where
    fresh : (n : ℕ) → n ≡ old.rows → IsEvent old.carriers n
    fresh n is c has same = let low = of.carriers.before c has in absurd (omega (low, is, same, arith))

    kept : (n : ℕ) → IsEvent old.carriers n → IsEvent new.carriers n
    kept n = subst (λ (l : List Carrier). IsEvent l n) (sym carriers)

    event : (i n : ℕ) → EventAt (with_next steps x) i n → IsEvent new.carriers n × (n < new.rows)
    event i n (z, at, made) = elim (cases_eq i (length steps)) [
      | inl last ↦ (
          let is : z ≡ x =
          same_Some z x (sym (subst (λ (k : ℕ). IsAt (with_next steps x) k z) last at) ∙ at-end steps x) in
          let now = next n (ap (λ (y : Step). y.event) (sym is) ∙ made) in
          let number = now.0 in
          let low = now.1 in
          (kept n (fresh n number), omega (number, low, arith)))
      | inr apart ↦ (
          let within = slice_get_within (with_next steps x) i z at in
          let long = length_push steps x in
          let known = of.events i n (z, at-lower steps x i z at (omega (within, long, apart, arith)), made) in
          let low = known.1 in
          (kept n known.0, omega (low, more, arith)))
    ]

-- a flow that holds the same is of the same instructions
pub same-flow : (steps : List Step) (old new : Flow) → IsSame old new → IsFlowOf steps old → IsFlowOf steps new
same-flow steps old new same of = record {
  units = λ u n. (
    λ h. (of.units u n).0 ((same.units u n).0 h),
    λ h. (same.units u n).1 ((of.units u n).1 h),
  );
  tested = λ n. subst (λ (row : List ℕ). Has row n ↔ HasControl steps (length steps) n) (sym same.tested) (of.tested n);
}

-- a trace whose flow holds the same, with the same rows
pub trace-same : (steps : List Step) (old new : Traced) → IsSame old.flow new.flow → new.carriers ≡ old.carriers →
    new.rows ≡ old.rows → IsTraceOf steps old → IsTraceOf steps new
trace-same steps old new same carriers rows of = record {
  flow = same-flow steps old.flow new.flow same of.flow;
  carriers = rw (carriers, rows) of.carriers;
  events = rw (carriers, rows) of.events;
}

-- the next instruction comes without an event
trace-took : (steps : List Step) (x : Step) (old new : Traced) → x.event ≡ None → IsTraceOf steps old →
    IsFlowOf (with_next steps x) new.flow → new.carriers ≡ old.carriers → new.rows ≡ old.rows →
    IsTraceOf (with_next steps x) new
trace-took steps x old new none of flow carriers rows =
    trace-pushed steps x old new of flow carriers (rw (carriers, rows) of.carriers) (omega (rows, arith))
    (λ n some. absurd (none_some n (sym none ∙ some)))

-- unless memory ran out
pub trace-next : {A E : Type 0} (result : Result A E) (steps : List Step) (x : Step) (old new : Traced) →
    x.event ≡ None → (IsFlowOf steps old.flow → OnOk result (IsFlowOf (with_next steps x) new.flow)) →
    new.carriers ≡ old.carriers → new.rows ≡ old.rows → IsTraceOf steps old →
    OnOk result (IsTraceOf (with_next steps x) new)
trace-next (Err why) steps x old new none taken carriers rows of = tt
trace-next (Ok a) steps x old new none taken carriers rows of =
    trace-took steps x old new none of (taken of.flow) carriers rows

pub trace-after : {A E : Type 0} (result : Result A E) (steps : List Step) (x : Step) (old new : Traced) →
    x.event ≡ None → OnErr result (IsSame old.flow new.flow) →
    (IsFlowOf steps old.flow → OnOk result (IsFlowOf (with_next steps x) new.flow)) → new.carriers ≡ old.carriers →
    new.rows ≡ old.rows → IsTraceOf steps old → (all : List Step) × IsTraceOf all new
trace-after (Err why) steps x old new none kept taken carriers rows of =
    (steps, trace-same steps old new kept carriers rows of)
trace-after (Ok a) steps x old new none kept taken carriers rows of =
    (with_next steps x, trace-took steps x old new none of (taken of.flow) carriers rows)

-- the next instruction's lists
pub next-lists : (result : Result Lists Unlisted) (old new : Traced) (carriers : Carriers) (flow : Flow) (insn : Insn)
    (address value : List ℕ) → flow ≡ old.flow → new.carriers ≡ carriers.all.items → new.rows ≡ carriers.next →
    OfNext HasAddress flow insn address → OfNext HasData flow insn value →
    IfOk result (AreLists carriers address value) → IfOk result (ListsNext old insn new)
next-lists (Err why) old new carriers flow insn address value same all rows addresses values lists = tt
next-lists (Ok l) old new carriers flow insn address value same all rows addresses values lists =
    λ steps x of is.
    let so : IsFlowOf steps flow = subst (λ (f : Flow). IsFlowOf steps f) (sym same) of.flow in
    record {
      few = lists.few;
      address_parts = subst (λ (k : ℕ). AreParts k l.address.items) (sym rows) lists.address_parts;
      value_parts = subst (λ (k : ℕ). AreParts k l.value.items) (sym rows) lists.value_parts;
      address = λ n. (
        λ h. (addresses steps x so is n).0 ((lists.address n).1
            (subst (λ (c : List Carrier). IsBehind c l.address.items n) all h)),
        λ h. subst (λ (c : List Carrier). IsBehind c l.address.items n) (sym all)
            ((lists.address n).0 ((addresses steps x so is n).1 h)),
      );
      value = λ n. (
        λ h. (values steps x so is n).0 ((lists.value n).1
            (subst (λ (c : List Carrier). IsBehind c l.value.items n) all h)),
        λ h. subst (λ (c : List Carrier). IsBehind c l.value.items n) (sym all)
            ((lists.value n).0 ((values steps x so is n).1 h)),
      );
    }

-- what a branch adds: what its sources hold and no branch before it does
module _ (trace : Traced) (insn : Insn) (row left events : List ℕ)
    (held : (n : ℕ) → Has row n ↔
    (IsTrue (is_branch insn.operation) × (u : Unit) × IsSource insn u × Holds trace.flow u n))
    (less : (n : ℕ) → has_bit left n ≡ (has_bit row n && not (has_bit trace.flow.tested n)))
    (numbers : (n : ℕ) → Has left n ↔ Contains events n) where
  parts : (n : ℕ) → Contains events n → Has row n × (not (has_bit trace.flow.tested n) ≡ true)
  parts n listed = and_parts (has_bit row n) (not (has_bit trace.flow.tested n)) (sym (less n) ∙ (numbers n).1 listed)

  pub branch-once : (n : ℕ) → Contains events n → Has trace.flow.tested n → ⊥
  branch-once n listed tested = false≢true (sym (ap not tested) ∙ (parts n listed).1)

  pub branch-control : AddsControl trace insn events
  branch-control steps x of is n = (to, from)
    where
      Later : ℕ → Type 0
      Later m = HasControl (with_next steps x) (length (with_next steps x)) m

      branch-of : Insn → Type 0
      branch-of i = IsTrue (is_branch i.operation)

      to : Later n → HasControl steps (length steps) n ⊎ Contains events n
      to h = elim ((control-longer steps x n).1 h) [
        | inl before ↦ inl before
        | inr (branch, u, source, came) ↦ elim (cases_Bool (has_bit trace.flow.tested n)) [
          | inl tested ↦ inl ((of.flow.tested n).0 tested)
          | inr fresh ↦ inr ((numbers n).0 (less n ∙ and_from (has_bit row n) (not (has_bit trace.flow.tested n))
              ((held n).1 (
                subst branch-of is branch,
                u,
                subst (λ (i : Insn). IsSource i u) is source,
                (of.flow.units u n).1 came,
              )) (ap not fresh)))
        ]
      ]

      from : HasControl steps (length steps) n ⊎ Contains events n → Later n
      from (inl before) = (control-longer steps x n).0 (inl before)
      from (inr listed) =
          let h = (held n).0 (parts n listed).0 in
          (control-longer steps x n).0 (inr (
            subst branch-of (sym is) h.0,
            h.1,
            subst (λ (i : Insn). IsSource i h.1) (sym is) h.2,
            (of.flow.units h.1 n).0 h.3,
          ))
