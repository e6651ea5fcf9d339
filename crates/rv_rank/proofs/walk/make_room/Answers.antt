use Rattle.rv_rank.proofs.Common.{arith, rules, get_or, length, ◌<◌, take_all}
use Rattle.rv_rank.proofs.RowTables.{IsRoomy-more}
use Rattle.rv_rank.proofs.walk.make_room.Goals as goal

pub loop-place-preserved : goal.loop-place-preserved
loop-place-preserved c =
    let place = get_or c.args.places.now c.loop-place.place-index 0 in
    let within : place < length c.loop-place.nodes =
    omega (arith, c.requires c.loop-place.place-index 0 c.loop-place-test.true) in
    let told = c.in_ok-reserve.ensures in
    IsRoomy-more c.args.nodes.now c.loop-place.nodes c.args.places.now c.args.more c.loop-place.place-index
    c.reserve.new.self c.index-nodes-place.result c.loop-place.invariant c.loop-place-test.true within
    told.outgoing told.incoming told.kept told.room

pub returns-clause-room : goal.returns-clause-room
returns-clause-room c = search (take_all, rules)
