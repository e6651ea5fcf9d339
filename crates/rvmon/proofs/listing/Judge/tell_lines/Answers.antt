use Rattle.std.proofs.Common.{ℕ, List, ◌+◌, subst, sym}
use Rattle.rvmon.specs.Listing.{IsLineTold, Writes}
use Rattle.rvmon.proofs.Told.{IsBefore, begins, told-all, told-more}
use Rattle.rvmon.proofs.listing.Judge.tell_lines.Goals as goal

pub lines-init : goal.lines-init
lines-init g c = begins (g.O.Opener.known c.args.self.now.opener.now) c.args.self.now.asked.now
    (g.R.Read.remaining c.args.reader.now) (g.W.Write.contents c.args.out.now)

pub returns-then-not-found : goal.returns-then-not-found
returns-then-not-found g c = told-all _ _ _ _ _ _ c.lines.number c.lines.gravest c.lines.invariant
    (c.in-Ok.ensures.end c.if-not-found.true) _ c.list_status.ensures

pub lines-preserved : goal.lines-preserved
lines-preserved g c =
    let known = g.O.Opener.known c.args.self.now.opener.now in
    let asked = c.args.self.now.asked.now in
    let status = c.in_ok-status.status in
    let written = subst (λ (line : List ℕ). Writes (g.W.Write.contents c.lines.out)
    (g.W.Write.contents c.tell_line.new.out) (λ text. IsLineTold known asked line text status))
    c.as_slice.ensures.value c.in_ok-status.ensures in
    subst (λ (n : ℕ). IsBefore known asked (g.R.Read.remaining c.args.reader.now) (g.W.Write.contents c.args.out.now)
    (g.R.Read.remaining c.next_line.new.reader) (g.W.Write.contents c.flush.new.self) (c.lines.number + 1) n)
    (sym c.graver-gravest.ensures)
    (told-more known asked _ _ _ _ c.lines.number c.lines.gravest c.lines.invariant _ _ _ c.next_line.new.line.items
    status (c.in-Ok.ensures.line c.if-not-found.false) written c.flush.ensures.bytes)
