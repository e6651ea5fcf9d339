use Rattle.std.proofs.Common.{ℕ, ◌≡◌, ◌∙◌, ◌+◌, ◌++◌, List, ap, set, subst, sym}
use Rattle.rv_log.specs.declared.record.Before.{Before}
use Rattle.rv_memory.specs.declared.words.Word.{Word}
use Rattle.rv_values.specs.Memory.{IsMemory}
use Rattle.rv_logrows.proofs.Kept.{refused-for, retired-log}
use Rattle.rv_logrows.specs.Harts.{IsRetiredBy}
use Rattle.rv_logrows.specs.Log.{issues}
use Rattle.rv_logrows.specs.Stored.{IsWordOf}
use Rattle.rv_logrows.specs.declared.harts.Harts.{Harts}
use Rattle.rv_logrows.proofs.log.LogRows.retire.Goals.{In_ok-retire}
use Rattle.rv_logrows.proofs.log.LogRows.retire.Goals as goal

pub returns-in-Err-store-clause-refused : goal.returns-in-Err-store-clause-refused
returns-in-Err-store-clause-refused c = λ issued performed log.
    refused-for issued performed c.args.instruction.now c.args.self.now c.in-Err-store.fault
    (c.in-Err-store.ensures.refused issued performed log.memory)

-- the counts of the harts, with this instruction
counts : (c : In_ok-retire) → set c.next_record.new.self.before.retired c.args.instruction.now.hart c.in-Some.next ≡
    set c.args.self.now.before.retired c.args.instruction.now.hart (c.args.instruction.now.order + 1)
counts c =
    ap (λ (l : List ℕ). set l c.args.instruction.now.hart c.in-Some.next)
    (c.in-Ok-next_record.ensures.same.3 ∙ ap (λ (b : Before). b.retired) c.in_default-store.ensures.same.2) ∙
    ap (set c.args.self.now.before.retired c.args.instruction.now.hart)
    (c.in-Some.ensures.1 ∙ ap (λ (n : ℕ). n + 1) (sym c.if-instruction-order.false))

pub returns-clause-retired : goal.returns-clause-retired
returns-clause-retired c = λ issued performed log.
    let r = (goal.at.returns-clause-retired c).In_ok-retire in
    let stored = c.in_default-store.ensures.stored issued performed log.memory in
    let same = c.in_default-store.ensures.same in record {
      log = retired-log issued performed c.args.self.now log c.args.instruction.now _ c.if-instruction-order.false
          (counts r)
          (subst (IsMemory (issued ++ issues c.args.instruction.now) performed) (sym c.in-Ok-next_record.ensures.same.2)
          stored.0) stored.1 (c.in-Ok-next_record.ensures.same.4 ∙ same.3);
      next = c.if-instruction-order.false;
      retired = counts r;
      records = c.in-Ok-next_record.ensures.counted.1 ∙ c.in-Ok-next_record.ensures.counted.0 ∙
          ap (λ (b : Before). b.records + 1) same.2;
      word = c.in-Ok.word;
      is_word = subst (λ (words : List Word).
          IsWordOf c.args.instruction.now c.args.self.now.words words c.in-Ok.word)
          (sym (c.in-Ok-next_record.ensures.same.0 ∙ same.0)) c.in-Ok.ensures.numbered;
      hart = subst (λ (n : ℕ). IsRetiredBy c.args.instruction.now c.in-Ok.word n c.args.self.now.harts.all.items
          c.retire.new.self.all.items) (sym c.in-Ok-next_record.ensures.counted.1)
          (subst (λ (h : Harts). IsRetiredBy c.args.instruction.now c.in-Ok.word c.in-Ok-next_record.row h.all.items
          c.retire.new.self.all.items) (c.in-Ok-next_record.ensures.same.1 ∙ same.1) c.in_ok-retire.ensures.retired);
    }
