use Rattle.std.proofs.Common.{subst}
use Rattle.rv_memory.specs.Words.{IsRefused}
use Rattle.rv_logrows.specs.Stored.{word_by}
use Rattle.rv_logrows.proofs.stored.word_of.Goals as goal

pub returns-in-Err-Full-clause-refused : goal.returns-in-Err-Full-clause-refused
returns-in-Err-Full-clause-refused c =
    subst (IsRefused c.args.words.now (word_by c.args.instruction.now)) c.in-Err-Full.field-0-is
    (subst (λ word. IsRefused c.args.words.now word c.in-Err-Full.field-0) c.word_by-word.ensures
    c.in-Err-Full.ensures.refused)
