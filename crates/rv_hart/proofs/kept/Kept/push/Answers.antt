use Rattle.rv_hart.proofs.Common.{refl, arith, AreCarriedRows, Event}
use Rattle.rv_hart.proofs.Common.{IsPushed, Hart, hart_with, hart_of, Kept}
use Rattle.rv_hart.proofs.CarriedRows.{carried-longer, kept-own}
use Rattle.rv_hart.proofs.HartFacts.{Fits, fits_of, known_of, own-deps-few}
use Rattle.rv_hart.proofs.GrownHart.{kept-same, kept-pushed, row-low, means-same}
use Rattle.rv_hart.specs.Sets.{AreCarriedWith}
use Rattle.rv_hart.proofs.kept.Kept.push.Goals as goal

pub push-requires-clause-few : goal.push-requires-clause-few
push-requires-clause-few c =
    let h : Hart = hart_of c.args.events.now c.args.self.now in
    let f : Fits h c.args.event.now = fits_of h c.args.event.now c.requires.kept.hart c.requires.follows in
    let room = f.room in
    let count = c.requires.kept.count in
    omega arith

pub push-requires-clause-below : goal.push-requires-clause-below
push-requires-clause-below c =
    let h : Hart = hart_of c.args.events.now c.args.self.now in
    let f : Fits h c.args.event.now = fits_of h c.args.event.now c.requires.kept.hart c.requires.follows in
    row-low f c.args.self.now.rows c.args.row.now c.requires.kept.count c.requires.row

pub push_carried-requires : goal.push_carried-requires
push_carried-requires c = record {
  next = record {
    h = hart_of c.args.events.now c.args.self.now;
    is_hart = c.requires.kept.hart;
    follows = c.requires.follows;
    are = c.requires.kept.carried;
    are_sets = c.requires.kept.sets;
    one_each = c.requires.kept.carried_count;
  };
}

pub returns-in-Err-clause-unchanged : goal.returns-in-Err-clause-unchanged
returns-in-Err-clause-unchanged c =
    let k : Kept = c.args.self.now in
    let pushed : IsPushed k.rows c.args.row.now c.push.new.self = c.in_ok-push.ensures.pushed in
    kept-same c.args.events.now k _ c.requires.kept refl (c.pop.ensures k.rows pushed.last pushed.is_last)
    c.in-Err.ensures.unchanged refl c.requires.kept.words

pub add-requires-clause-numbered : goal.add-requires-clause-numbered
add-requires-clause-numbered c = (known_of (hart_of c.args.events.now c.args.self.now) c.requires.kept.hart).at

pub add-requires-clause-next : goal.add-requires-clause-next
add-requires-clause-next c = (fits_of (hart_of c.args.events.now c.args.self.now) c.args.event.now
    c.requires.kept.hart c.requires.follows).seq

pub returns-in-Err-add-clause-unchanged : goal.returns-in-Err-add-clause-unchanged
returns-in-Err-add-clause-unchanged c =
    let k : Kept = c.args.self.now in
    let pushed : IsPushed k.rows c.args.row.now c.push.new.self = c.in_ok-push.ensures.pushed in
    let carried : AreCarriedWith c.args.event.now k.sets k.carried c.push_carried.new.carried =
    c.in_default.ensures.pushed in
    kept-same c.args.events.now k _ c.requires.kept refl (c.pop-in-Err-add.ensures k.rows pushed.last pushed.is_last)
    (c.pop_carried.ensures k.carried carried.last carried.is_last) refl c.in-Err-add.ensures.unchanged

pub absorb-requires-clause-dependencies : goal.absorb-requires-clause-dependencies
absorb-requires-clause-dependencies c =
    let h : Hart = hart_of c.args.events.now c.args.self.now in
    own-deps-few (fits_of h c.args.event.now c.requires.kept.hart c.requires.follows)

pub absorb-requires-clause-carried : goal.absorb-requires-clause-carried
absorb-requires-clause-carried c =
    let h : Hart = hart_of c.args.events.now c.args.self.now in
    let k : Kept = c.args.self.now in
    let carried : AreCarriedWith c.args.event.now k.sets k.carried c.push_carried.new.carried =
    c.in_default.ensures.pushed in
    let longer : AreCarriedRows c.args.events.now c.push_carried.new.carried =
    carried-longer c.args.events.now c.args.self.now.carried c.push_carried.new.carried carried.last carried.is_last
    c.requires.kept.carried in
    kept-own (fits_of h c.args.event.now c.requires.kept.hart c.requires.follows) c.push_carried.new.carried longer.long

pub returns-clause-pushed : goal.returns-clause-pushed
returns-clause-pushed c =
    let k : Kept = c.args.self.now in
    let e : Event = c.args.event.now in
    let h : Hart = hart_of c.args.events.now k in
    let pushed : IsPushed k.rows c.args.row.now c.push.new.self = c.in_ok-push.ensures.pushed in
    let carried : AreCarriedWith e k.sets k.carried c.push_carried.new.carried = c.in_default.ensures.pushed in
    let longer : AreCarriedRows c.args.events.now c.push_carried.new.carried =
    carried-longer c.args.events.now k.carried c.push_carried.new.carried carried.last carried.is_last
    c.requires.kept.carried in
    kept-pushed c.args.events.now k _ e pushed.last carried.last c.requires.kept c.requires.follows refl pushed.is_last
    (means-same (hart_with h e) e.id.seq c.args.row.now pushed.last pushed.same c.requires.row) carried.is_last
    (carried.says h c.requires.kept.hart c.requires.follows c.requires.kept.carried c.requires.kept.sets)
    (c.absorb.ensures h c.requires.kept.hart c.requires.follows refl longer c.requires.kept.sets)
    c.in_default-add.ensures.pushed
