-- The ties of one event more come behind the others.
use Rattle.std.proofs.Common.{rules}
use Rattle.rv_edges.proofs.Common.{Sides, arith, events, kept_from, length, own_from, ◌<◌}
use Rattle.rv_edges.proofs.TiesOfLinks.{ties-done, ties-more, total-more}
use Rattle.rv_edges.specs.Ties.{ties_of}
use Rattle.rv_edges.proofs.links.ties_from.Goals as goal

abbrev none : Sides
none = record { before = 0; after = 0 }

pub loop-k-preserved : goal.loop-k-preserved
loop-k-preserved c =
    let few : c.loop-k.k < length c.args.sides.now = omega arith in
    let long : c.loop-k.k < length c.args.log.now = omega (arith, c.requires.long) in
    let t = total-more c.args.log.now c.args.sides.now c.loop-k.k none c.index-log-k.result few long c.loop-k.rest.now
    c.loop-k.invariant.0 in
    let m = ties-more c.args.log.now c.args.sides.now c.loop-k.k none c.index-log-k.result few long c.loop-k.rest.now
    c.loop-k.ties.items
    (ties_of (kept_from (events c.args.log.now) (own_from c.args.links.now c.args.sides.now))) c.loop-k.invariant.1 in
    (search (t, rules), search (m, rules))

pub returns : goal.returns
returns c =
    ties-done c.args.log.now c.args.sides.now c.loop-k.k c.loop-k.rest.now c.loop-k.ties.items _ (omega arith)
    c.loop-k.invariant.1
