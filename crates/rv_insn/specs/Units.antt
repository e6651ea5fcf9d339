-- The units of registers by which dependencies are tracked: manual, section 14.1 ("Syntactic
-- Dependencies").
use Rattle.std.specs.Prelude.{ℕ, Bool, false, ◌/◌, ◌==◌, ◌||◌, ◌&&◌, not, nat_le}
use Rattle.rv_insn.specs.declared.unit.Flag.{Flag}
use Rattle.rv_insn.specs.declared.unit.Flag.TheVariants.{Nx, Uf, Of, Dz, Nv}
use Rattle.rv_insn.specs.declared.unit.Unit.{Unit}
use Rattle.rv_insn.specs.declared.unit.Unit.TheVariants as unit
use Rattle.rv_insn.specs.declared.usage.Flags.{Flags}

-- the flag is one of these
abbrev pub flag_of : Flags → Flag → Bool
flag_of flags Nx = flags.nx
flag_of flags Uf = flags.uf
flag_of flags Of = flags.of
flag_of flags Dz = flags.dz
flag_of flags Nv = flags.nv

-- the CSR has the flags: fflags and fcsr
abbrev pub names_flags : ℕ → Bool
names_flags csr = (csr == 1) || (csr == 3)

-- the CSR has the rounding mode: frm and fcsr
abbrev pub names_frm : ℕ → Bool
names_frm csr = (csr == 2) || (csr == 3)

abbrev pub is_within : ℕ → ℕ → ℕ → Bool
is_within csr low high = nat_le low csr && nat_le csr high

-- What is written to the CSR is what is read from it next. That is own, and not so of CSRs that can
-- only be read (numbers from 0xc00 on), nor of those that hardware writes by itself: status, output
-- of the entropy source, epc, cause, tval and ip of each mode, tinst and tval2, debug and trace, and
-- counters.
abbrev pub takes_part : ℕ → Bool
takes_part csr = not (
    (csr / 0x400 == 3) || is_within csr 0x100 0x100 || is_within csr 0x200 0x200 || is_within csr 0x300 0x300
    || is_within csr 0x310 0x310 || is_within csr 0x015 0x015 || is_within csr 0x141 0x144
    || is_within csr 0x241 0x244 || is_within csr 0x341 0x344 || is_within csr 0x34a 0x34b
    || is_within csr 0x643 0x644 || is_within csr 0x7a0 0x7b3 || is_within csr 0xb00 0xb1f
    || is_within csr 0xb80 0xb9f)

-- the CSR is tracked as a whole
abbrev pub is_other_csr : ℕ → Bool
is_other_csr csr = not (names_flags csr) && not (names_frm csr) && takes_part csr

-- the CSR has the unit
abbrev pub names : ℕ → Unit → Bool
names csr (unit.X n) = false
names csr (unit.F n) = false
names csr (unit.Accrued f) = names_flags csr
names csr unit.Frm = names_frm csr
names csr (unit.Csr n) = is_other_csr csr && (n == csr)
