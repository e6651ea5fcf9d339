use Rattle.std.proofs.Common.{List, Contains, refl, subst, sym}
use Rattle.rv_log.specs.declared.record.Performed.{Performed}
use Rattle.rv_values.specs.Issues.{IsNew, IsOf}
use Rattle.rv_values.specs.Memory.{Agree, IsMemory}
use Rattle.rv_values.specs.declared.issues.Issued.{Issued}
use Rattle.rv_values.proofs.Agreement.{agree-issue, issued-more}
use Rattle.rv_values.proofs.memory.Memory.issue.Goals.{in-Some+in_default-mismatch_of, in_default, In-Ok}
use Rattle.rv_values.proofs.memory.Memory.issue.Goals as goal

pub returns-in-Some-mismatch_of-clause-refused : goal.returns-in-Some-mismatch_of-clause-refused
returns-in-Some-mismatch_of-clause-refused c = λ issued performed is.
    let by = c.in-Some.ensures performed is.stores in
    (c.in-Some.performed, by.0, by.1, c.in-Some-mismatch_of.ensures)

-- the effect that there was agrees
agree : (c : In-Ok) (issued : List Issued) (performed : List Performed) →
    IsMemory issued performed c.args.self.now → (p : Performed) → Contains performed p →
    IsOf p.hart p.order c.args.store → Agree c.args.store p
agree c issued performed is = elim c.match-performed_by.branch [
  | in-Some+in_default-mismatch_of w ↦ (
      let by = w.in-Some.ensures performed is.stores in
      agree-issue issued performed c.args.self.now is c.args.store w.in-Some.performed by.0 by.1
      w.in_default-mismatch_of.ensures)
  | in_default w ↦ λ p cp of. absurd (w.in_default.ensures performed is.stores p cp (sym of.0, sym of.1))
]

pub returns-in-Ok-clause-taken : goal.returns-in-Ok-clause-taken
returns-in-Ok-clause-taken c = λ issued performed is.
    issued-more issued performed c.args.self.now is c.args.store
    (record { stores = c.args.self.now.stores; issues = c.push.new.self })
    (subst (λ (l : List Issued). IsNew l c.args.store) is.issues c.in-Ok.ensures.new) refl c.in-Ok.ensures.pushed
    (agree c issued performed is)
