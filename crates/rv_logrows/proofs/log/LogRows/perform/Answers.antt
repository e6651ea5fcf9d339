use Rattle.std.proofs.Common.{◌<◌, ◌∙◌, ◌++◌, ◌∷◌, [], List, Contains, ap, arith, subst, sym}
use Rattle.rv_log.specs.declared.record.Before.{Before}
use Rattle.rv_log.specs.declared.record.Performed.{Performed}
use Rattle.rv_values.specs.Issues.{IsOf}
use Rattle.rv_values.specs.Memory.{IsMemory, IsPerformRefused}
use Rattle.rv_values.specs.declared.issues.Issued.{Issued}
use Rattle.rv_values.proofs.Single.{none-issued, some-issued}
use Rattle.rv_logrows.specs.Log.{IsLog, IsPast, retired_of}
use Rattle.rv_logrows.proofs.Kept.{performed-log}
use Rattle.rv_logrows.proofs.log.LogRows.perform.Goals.{else-has_retired-via-then-has_retired+else-is_none}
use Rattle.rv_logrows.proofs.log.LogRows.perform.Goals.{else-has_retired-via-else-has_retired, In-Ok}
use Rattle.rv_logrows.proofs.log.LogRows.perform.Goals as goal

pub returns-then-is_none-clause-refused : goal.returns-then-is_none-clause-refused
returns-then-is_none-clause-refused c = λ issued performed log. (
  c.if-has_retired.true,
  λ i ci of. none-issued c.args.self.now.memory.issues c.args.store.now.hart c.args.store.now.order
      c.issued_by.result c.issued_by.ensures c.if-is_none.ensures i
      (subst (λ (l : List Issued). Contains l i) (sym log.memory.issues) ci) of,
)

-- where the store's instruction retired, it is one of those that make one
own : (c : In-Ok) (issued : List Issued) (performed : List Performed) → IsLog issued performed c.args.self.now →
    c.args.store.now.order < retired_of c.args.self.now c.args.store.now.hart →
    (i : Issued) × Contains issued i × IsOf c.args.store.now.hart c.args.store.now.order i
own c issued performed log low = elim c.else-has_retired.branch [
  | else-has_retired-via-then-has_retired+else-is_none w ↦ (
      let found = some-issued c.args.self.now.memory.issues c.args.store.now.hart c.args.store.now.order
      w.issued_by.result w.issued_by.ensures w.if-is_none.ensures in
      (found.0, subst (λ (l : List Issued). Contains l found.0) log.memory.issues found.1, found.2))
  | else-has_retired-via-else-has_retired w ↦ (let high = w.if-has_retired.false in absurd (omega (low, high, arith)))
]

pub returns-in-Ok-clause-performed : goal.returns-in-Ok-clause-performed
returns-in-Ok-clause-performed c = λ issued performed log.
    let same = c.in_default-next_record.ensures.same in
    let still = c.pass.ensures.same in
    let taken = c.in-Ok.ensures.taken issued performed
    (subst (IsMemory issued performed) (sym same.2) log.memory) in
    let retired = ap (λ (b : Before). b.retired) still.3 ∙ same.3 in record {
      log = performed-log issued performed c.args.self.now log c.args.store.now c.pass.new.self
          (subst (IsMemory issued (performed ++ c.args.store.now ∷ [])) (sym still.2) taken.1) retired
          (own (goal.at.returns-in-Ok-clause-performed c).In-Ok issued performed log)
          (c.pass.ensures.past performed (subst (IsPast performed) (sym same.4) log.past));
      next = taken.0;
      retired = retired;
      records = ap (λ (b : Before). b.records) still.3 ∙ c.in_default-next_record.ensures.counted.1 ∙
          c.in_default-next_record.ensures.counted.0;
      words = still.0 ∙ same.0;
      harts = still.1 ∙ same.1;
    }

pub returns-in-Err-Differs-clause-refused : goal.returns-in-Err-Differs-clause-refused
returns-in-Err-Differs-clause-refused c = λ issued performed log.
    subst (IsPerformRefused issued performed c.args.store.now) c.in-Err-Differs.field-0-is
    (c.in-Err-Differs.ensures.refused issued performed
    (subst (IsMemory issued performed) (sym c.in_default-next_record.ensures.same.2) log.memory))

pub returns-in-Err-Store-clause-refused : goal.returns-in-Err-Store-clause-refused
returns-in-Err-Store-clause-refused c = λ issued performed log.
    subst (IsPerformRefused issued performed c.args.store.now) c.in-Err-Store.field-0-is
    (c.in-Err-Store.ensures.refused issued performed
    (subst (IsMemory issued performed) (sym c.in_default-next_record.ensures.same.2) log.memory))
