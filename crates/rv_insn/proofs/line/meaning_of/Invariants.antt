-- None of the lines so far fits.
use Rattle.std.proofs.Common.{◌≡◌, map, drop}
use Rattle.std.specs.List.{find}
use Rattle.rv_insn.specs.Lines.{fits, line_of}
use Rattle.rv_insn.proofs.line.meaning_of.Given as goal

abbrev pub invariant-loop-line : goal.invariant-loop-line
invariant-loop-line l =
    find (fits l.width l.bits) (map line_of (drop l.line-index l.table))
    ≡ find (fits l.width l.bits) (map line_of l.table)
