use Rattle.rv_endless.proofs.Partners.{NoneWithin}
use Rattle.rv_event.specs.Log.{events}
use Rattle.std.proofs.Common.{length, ◌≤◌}
use Rattle.rv_endless.proofs.window.exclusive_before.Given as goal

abbrev pub invariant-later : goal.invariant-later
invariant-later l = (l.rest ≤ length l.log) × NoneWithin (events l.log) l.next.hart l.number l.next.seq

abbrev pub decreases-later : goal.decreases-later
decreases-later l = l.rest
