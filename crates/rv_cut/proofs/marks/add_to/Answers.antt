-- A mark has the places of both.
use Rattle.std.proofs.Common.{length, rules, ◌<◌, ◌∙◌}
use Rattle.std.proofs.lemmas.Grind.{get_or_default_zero}
use Rattle.rv_cut.proofs.Places.{set-places}
use Rattle.rv_cut.proofs.marks.add_to.Goals as goal

pub returns-then-seq-len : goal.returns-then-seq-len
returns-then-seq-len c = λ s k has.
    let low : c.args.seq < length c.args.row.now.items = search rules in
    set-places c.args.row.now.items c.args.seq c.args.mark c.index_mut.result.now
    low
    (c.index_mut.ensures.value ∙ get_or_default_zero c.args.row.now.items c.args.seq c.index_mut.result.now low) s k has
