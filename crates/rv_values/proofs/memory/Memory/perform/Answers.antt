use Rattle.std.proofs.Common.{List, Contains, refl, subst, sym}
use Rattle.rv_log.specs.declared.record.Performed.{Performed}
use Rattle.rv_values.specs.Issues.{IsOf}
use Rattle.rv_values.specs.Memory.{Agree, IsMemory}
use Rattle.rv_values.specs.declared.issues.Issued.{Issued}
use Rattle.rv_values.proofs.Agreement.{agree-perform, performed-more}
use Rattle.rv_values.proofs.memory.Memory.perform.Goals.{in-Some+in_default-mismatch_of, in_default, In-Ok}
use Rattle.rv_values.proofs.memory.Memory.perform.Goals as goal

-- the instruction that there was agrees
agree : (c : In-Ok) (issued : List Issued) (performed : List Performed) →
    IsMemory issued performed c.args.self.now → (i : Issued) → Contains issued i →
    IsOf c.args.store.hart c.args.store.order i → Agree i c.args.store
agree c issued performed is = elim c.match-issued_by.branch [
  | in-Some+in_default-mismatch_of w ↦ (
      let by = subst (λ (l : List Issued). Contains l w.in-Some.issued) is.issues w.in-Some.ensures.0 in
      agree-perform issued performed c.args.self.now is c.args.store w.in-Some.issued by w.in-Some.ensures.1
      w.in_default-mismatch_of.ensures)
  | in_default w ↦ λ i ci of. absurd (w.in_default.ensures i
      (subst (λ (l : List Issued). Contains l i) (sym is.issues) ci) of)
]

pub returns-in-Ok-clause-taken : goal.returns-in-Ok-clause-taken
returns-in-Ok-clause-taken c = λ issued performed is.
    let taken = c.in-Ok.ensures.taken performed is.stores in (
      taken.0,
      performed-more issued performed c.args.self.now is c.args.store
          (record { stores = c.push.new.self; issues = c.args.self.now.issues }) taken.1 refl
          (agree c issued performed is),
      taken.2,
    )

pub returns-in-Err-clause-refused : goal.returns-in-Err-clause-refused
returns-in-Err-clause-refused c = λ issued performed is. c.in-Err.ensures.refused performed is.stores

pub returns-in-Err-clause-kept : goal.returns-in-Err-clause-kept
returns-in-Err-clause-kept c = λ issued performed is. record {
  stores = c.in-Err.ensures.kept performed is.stores;
  issues = is.issues;
  single = is.single;
  agree = is.agree;
}
