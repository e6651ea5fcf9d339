use Rattle.std.proofs.Common.{sym, arith}
use Rattle.rv_memory.proofs.words.Words.number_of.Goals as goal

pub index-requires : goal.index-requires
index-requires c =
    let there = (c.self.invariant.there _ _ c.args.word (sym c.in_ok-number.ensures.value)).0 in
    let long = c.self.inside.all.ok.0 in
    omega (there, long, arith)
