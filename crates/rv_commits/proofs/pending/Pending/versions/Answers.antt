use Rattle.std.proofs.Common.{◌++◌, ◌∙◌, [], IfSome, List, Ok, ap, inl, inr, refl, subst, sym}
use Rattle.rv_log.specs.declared.record.Performed.{Performed}
use Rattle.rv_values.specs.Memory.{IsMemory}
use Rattle.rv_values.specs.Values.{MayGrow}
use Rattle.rv_values.specs.declared.issues.Issued.{Issued}
use Rattle.rv_commits.specs.Awaited.{AreVersions}
use Rattle.rv_commits.specs.Settled.{IsAtStage, IsFoundByValue, IsUntimed}
use Rattle.rv_commits.proofs.Valued.{none-later, none-more, with-none}
use Rattle.rv_commits.proofs.pending.Pending.versions.Goals.{in-Some+in-Differs, in-None+in-Value}
use Rattle.rv_commits.proofs.pending.Pending.versions.Goals.{After-version_by_value}
use Rattle.rv_commits.proofs.pending.Pending.versions.Goals as goal

pub returns-in-Open-clause-waits : goal.returns-in-Open-clause-waits
returns-in-Open-clause-waits c = λ issued performed is at none. inr (inl (
  c.in-Some.versions,
  with-none (λ i p. AreVersions p c.args.self.now.row.id.hart c.args.self.now.waiting.awaited c.in-Some.versions)
      issued performed
      (c.in-Some.ensures.versions performed [] is.stores (none-more issued performed c.args.memory.now is).order
      (λ ended. refl)),
  c.in-Open.ensures issued [] performed [] is (none-more issued performed c.args.memory.now is),
))

pub returns-in-Agrees-clause-versions : goal.returns-in-Agrees-clause-versions
returns-in-Agrees-clause-versions c = λ issued more performed later is grow at. inl (record {
  are = c.in-Some.ensures.versions performed later is.stores grow.order
      (λ ended. none-later issued more performed later c.args.stage.now (sym c.is_ended.ensures ∙ ended) at);
  fits = c.in-Agrees.ensures issued more performed later is grow;
})

-- the times don't tell what was returned
untimed : (c : After-version_by_value) (issued more : List Issued) (performed later : List Performed) →
    IsMemory issued performed c.args.memory.now → MayGrow issued more performed later →
    IsAtStage issued more performed later c.args.stage.now →
    IsUntimed (issued ++ more) (performed ++ later) c.args.initial c.args.self.now c.match-by_time.wrote
untimed c issued more performed later is grow at = elim c.match-by_time.branch [
  | in-Some+in-Differs w ↦ inr (
    w.in-Some.versions,
    record {
      are = w.in-Some.ensures.versions performed later is.stores grow.order
          (λ ended. none-later issued more performed later c.args.stage.now (sym c.is_ended.ensures ∙ ended) at);
      other = w.in-Differs.ensures issued more performed later is grow;
    },
    w.wrote-is,
  )
  | in-None+in-Value w ↦ inl (w.in-Value.is, w.wrote-is)
]

pub returns-in-Ok-Some-clause-versions : goal.returns-in-Ok-Some-clause-versions
returns-in-Ok-Some-clause-versions c = λ issued more performed later is grow at. inr (record {
  untimed = untimed (goal.at.returns-in-Ok-Some-clause-versions c).After-version_by_value issued more performed later
      is grow at;
  found = subst
      (λ o. IfSome o (IsFoundByValue (issued ++ more) (performed ++ later) c.args.self.now.waiting c.args.initial))
      c.in-Ok-Some.field-0-is (c.in-Ok-Some.ensures.found issued more performed later at);
})

pub returns-in-Ok-None-clause-waits : goal.returns-in-Ok-None-clause-waits
returns-in-Ok-None-clause-waits c = λ issued performed is at none. inr (inr (
  c.in-Ok-None.ensures.waits (ap Ok c.in-Ok-None.field-0-is),
  (
    c.match-by_time.wrote,
    with-none (λ i p. IsUntimed i p c.args.initial c.args.self.now c.match-by_time.wrote) issued performed
        (untimed (goal.at.returns-in-Ok-None-clause-waits c).After-version_by_value issued [] performed [] is
        (none-more issued performed c.args.memory.now is) at),
  ),
))

pub returns-in-Err-clause-refused : goal.returns-in-Err-clause-refused
returns-in-Err-clause-refused c = λ issued performed is at.
    c.in-Err.ensures.refused issued performed at
