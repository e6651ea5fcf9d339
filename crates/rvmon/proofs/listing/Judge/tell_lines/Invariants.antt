use Rattle.rvmon.proofs.Told.{IsBefore}
use Rattle.rvmon.proofs.listing.Judge.tell_lines.Given as goal

abbrev pub invariant-lines : goal.invariant-lines
invariant-lines g l =
    IsBefore (g.O.Opener.known l.self.opener.now) l.self.asked.now (g.R.Read.remaining l.fn.reader)
    (g.W.Write.contents l.fn.out) (g.R.Read.remaining l.reader) (g.W.Write.contents l.out) l.number l.gravest
