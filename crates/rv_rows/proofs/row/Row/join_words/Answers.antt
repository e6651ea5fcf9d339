use Rattle.std.proofs.Common.{arith, sym}
use Rattle.rv_rows.proofs.Words.{joined_part}
use Rattle.rv_rows.proofs.row.Row.join_words.Goals as goal

pub returns : goal.returns
returns c j =
    rw (sym c.self.view_is) (joined_part c.words.self-inside.words c.self.inside.words c.args.words.now c.args.first
    (λ k low. c.words.invariant.1 k (omega arith)) c.words.invariant.2
    (λ k high. c.words.invariant.3 k (omega arith)) j)
