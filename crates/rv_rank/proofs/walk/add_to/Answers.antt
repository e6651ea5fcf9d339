use Rattle.rv_rank.proofs.Common.{arith, get_or, length, ◌<◌, sym, ◌∙◌, set-get_or, false≢true, EndsIn, row_of}
use Rattle.rv_rank.proofs.Common.{other}
use Rattle.rv_rank.proofs.RowTables.{Filling-more, Filling-skip, not_yet, room_at, room_by_side, degree_by_side}
use Rattle.rv_rank.proofs.walk.add_to.Goals.{then-not-ends_in, else-not-ends_in}
use Rattle.rv_rank.proofs.walk.add_to.Goals as goal

pub append-requires : goal.append-requires
append-requires c =
    let place = get_or c.args.places.now c.loop-place.place-index 0 in
    let d = c.index-nodes-place.result in
    let within : place < length c.loop-place.nodes =
    omega (arith, c.requires.placed c.loop-place.place-index 0 c.loop-place-test.true) in
    let fresh = not_yet (row_of c.args.side) (row_of (other c.args.side)) c.args.nodes.now c.loop-place.nodes
    c.args.places.now c.args.node c.loop-place.place-index d c.loop-place.invariant within
    (λ e. let t = rw c.row.ensures at c.ends_in.ensures in
    false≢true (sym c.if-not-ends_in.true ∙ t.1 e)) in
    let room = c.requires.room c.loop-place.place-index 0 c.loop-place-test.true in
    let h = room_at (row_of c.args.side) (row_of (other c.args.side)) c.args.nodes.now c.loop-place.nodes
    c.args.places.now c.args.node c.loop-place.place-index d c.loop-place.invariant within fresh
    (room_by_side c.args.side c.args.nodes.now place room) in
    omega (arith, h, degree_by_side c.args.side (get_or c.loop-place.nodes place d))

pub loop-place-preserved : goal.loop-place-preserved
loop-place-preserved c =
    let place = get_or c.args.places.now c.loop-place.place-index 0 in
    let d = c.index-nodes-place.result in
    let within : place < length c.loop-place.nodes =
    omega (arith, c.requires.placed c.loop-place.place-index 0 c.loop-place-test.true) in
    elim c.if-not-ends_in.branch [
      | then-not-ends_in w ↦
          let fresh = not_yet (row_of c.args.side) (row_of (other c.args.side)) c.args.nodes.now c.loop-place.nodes
          c.args.places.now c.args.node c.loop-place.place-index d c.loop-place.invariant within
          (λ e. let t = rw c.row.ensures at c.ends_in.ensures in
          false≢true (sym w.if-not-ends_in.true ∙ t.1 e)) in
          let told = w.append.ensures in
          rw w.nodes-is (Filling-more (row_of c.args.side) (row_of (other c.args.side)) c.args.nodes.now
          c.loop-place.nodes c.args.places.now c.args.node c.loop-place.place-index d
          c.loop-place.invariant within w.append.new.self c.loop-place-test.true told.appended
          told.other told.kept fresh)
      | else-not-ends_in w ↦
          let same = set-get_or c.loop-place.nodes place d in
          let ends : EndsIn (row_of c.args.side (get_or c.loop-place.nodes place d)) c.args.node =
          let t = rw c.row.ensures at c.ends_in.ensures in t.0 w.if-not-ends_in.false in
          rw (w.nodes-is, same) (Filling-skip (row_of c.args.side) (row_of (other c.args.side)) c.args.nodes.now
          c.loop-place.nodes c.args.places.now c.args.node c.loop-place.place-index d
          c.loop-place.invariant within c.loop-place-test.true c.requires.fresh ends)
    ]
