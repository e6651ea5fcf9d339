-- The event is marked where it stands there.
use Rattle.std.proofs.Common.{refl}
use Rattle.rv_cut.proofs.MoreMarks.{leads-one, leads-own, marked-more}
use Rattle.rv_cut.proofs.bars.mark_bar.Goals as goal

pub returns-then-is_bar : goal.returns-then-is_bar
returns-then-is_bar c = λ log loads stores own marked.
    let bar = c.is_bar.ensures log loads stores c.if-is_bar.true in
    let event = c.args.event.now in
    marked-more c.args.model log c.args.marks.now c.add.new.self event.id c.mark.result c.add.ensures
    (leads-one c.args.model log event.id event.id.hart c.args.later c.mark.result c.mark.ensures
    (leads-own c.args.model log event.id.hart c.args.later event own bar.0 refl bar.1)) marked
