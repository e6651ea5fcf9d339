use Rattle.std.proofs.Common.{◌≡◌, ◌≤◌, ◌*◌, take}
use Rattle.rv_event.specs.Log.{events}
use Rattle.rv_coverage.specs.Counts.{pairs_of}
use Rattle.rv_coverage.specs.Shares.{AreMetByHart, AreMetOnWord}
use Rattle.rv_coverage.proofs.sharing.count_pairs.Given as goal

-- the events so far are counted, and so are their pairs, at most 65,536 for each event
abbrev pub invariant-entries : goal.invariant-entries
invariant-entries l =
    AreMetOnWord (events (take l.entry-index l.log)) l.words × AreMetByHart (events (take l.entry-index l.log)) l.harts
    × (l.pairs ≡ pairs_of (events (take l.entry-index l.log))) × (l.pairs ≤ 65536 * l.entry-index)
