-- The list is that of the listing.
use Rattle.std.proofs.Common.{◌∙◌, ap, Option, Some, None, Bool, ◌&&◌, ◌≡◌, if◌then◌else◌}
use Rattle.rv_insn.specs.Units.{is_other_csr, names_flags, names_frm}
use Rattle.rv_insn.specs.declared.unit.Unit.{Unit}
use Rattle.rv_insn.proofs.Carried.{csr-given}
use Rattle.rv_insn.proofs.roles.carried_csr.Goals as goal

-- a test by the code is the test of the definition
tested : (o : Option Unit) (rd test named : Bool) (u : Unit) → o ≡ (if (rd && test) then Some u else None) →
    test ≡ named → o ≡ (if (rd && named) then Some u else None)
tested o rd test named u is same = is ∙ ap (λ (b : Bool). if (rd && b) then Some u else None) same

pub returns : goal.returns
returns c = csr-given c.args.insn c.args.to c.is_csr_part.result rd
    (rw c.requires at c.is_csr_part.ensures) (rw c.requires at c.is_csr_rd-is_rd.ensures) c.args.usage c.requires
    c.read_if-given.result c.unit_if-mode.result c.unit_if-whole.result c.unit_if-inexact.result
    c.unit_if-underflow.result c.unit_if-overflow.result c.unit_if-by_zero.result c.unit_if-invalid.result
    c.read_if-given.ensures
    (tested _ rd c.names_frm.result (names_frm c.args.insn.csr) _ c.unit_if-mode.ensures c.names_frm.ensures)
    (tested _ rd c.is_other_csr.result (is_other_csr c.args.insn.csr) _ c.unit_if-whole.ensures c.is_other_csr.ensures)
    (flagged _ _ c.unit_if-inexact.ensures) (flagged _ _ c.unit_if-underflow.ensures)
    (flagged _ _ c.unit_if-overflow.ensures) (flagged _ _ c.unit_if-by_zero.ensures)
    (flagged _ _ c.unit_if-invalid.ensures)
  where
    rd : Bool
    rd = c.is_csr_rd-is_rd.result

    flagged : (o : Option Unit) (u : Unit) → o ≡ (if (rd && c.names_flags.result) then Some u else None) →
        o ≡ (if (rd && names_flags c.args.insn.csr) then Some u else None)
    flagged o u is = tested o rd c.names_flags.result (names_flags c.args.insn.csr) u is c.names_flags.ensures
