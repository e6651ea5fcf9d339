-- What each format has in which field.
-- Manual, sections 2.2, 2.3, 8.2, 9.1, 11.2 and 16.2 to 16.8.
use Rattle.std.specs.Prelude.{ℕ, ℤ, pos, ◌*ℤ◌, ◌+◌, ◌^◌, Bool, false}
use Rattle.rv_insn.specs.Fields.{field, popular, is_set, imm_i, imm_s, imm_b, imm_u, imm_j, imm_ci}
use Rattle.rv_insn.specs.Fields.{imm_stack, imm_ciw, imm_word, imm_double, imm_load_word}
use Rattle.rv_insn.specs.Fields.{imm_load_double, imm_store_word, imm_store_double, imm_cb, imm_cj}
use Rattle.rv_insn.specs.Fields.{imm_ci_signed}
use Rattle.rv_insn.specs.declared.insn.Insn.{Insn}
use Rattle.rv_insn.specs.declared.operation.Operation.{Operation}
use Rattle.rv_insn.specs.declared.format.Format.{Format}
use Rattle.rv_insn.specs.declared.format.Format.TheVariants.{R, R4, Rounded, RoundedUnary, I}
use Rattle.rv_insn.specs.declared.format.Format.TheVariants.{Shift, S, B, U, J, Csr, CsrImmediate}
use Rattle.rv_insn.specs.declared.format.Format.TheVariants.{LoadReserved, Atomic, FenceSets, Bare}
use Rattle.rv_insn.specs.declared.format.Format.TheVariants.{Ciw, ClWord, ClDouble, CsWord}
use Rattle.rv_insn.specs.declared.format.Format.TheVariants.{CsDouble, Ci, CiLoad, CiStack, CiUpper}
use Rattle.rv_insn.specs.declared.format.Format.TheVariants.{CiShift, CiWord, CiDouble, Cj, CjLink}
use Rattle.rv_insn.specs.declared.format.Format.TheVariants.{CbShift, CbImmediate, CbBranch, Ca}
use Rattle.rv_insn.specs.declared.format.Format.TheVariants.{CrJump, CrLink, CrMove, CrAdd, CssWord}
use Rattle.rv_insn.specs.declared.format.Format.TheVariants.{CssDouble}

-- the register whose number stands in the five bits from `low` on
abbrev pub register : ℕ → ℕ → ℕ
register bits low = field bits (low + 4) low

-- the destination register; x0 where there is none
abbrev pub rd_of : Format → ℕ → ℕ
rd_of S b = 0
rd_of B b = 0
rd_of FenceSets b = 0
rd_of Bare b = 0
rd_of CsWord b = 0
rd_of CsDouble b = 0
rd_of CssWord b = 0
rd_of CssDouble b = 0
rd_of CbBranch b = 0
rd_of Cj b = 0
rd_of CrJump b = 0
rd_of CjLink b = 1
rd_of CrLink b = 1
rd_of CiStack b = 2
rd_of Ciw b = popular b 2
rd_of ClWord b = popular b 2
rd_of ClDouble b = popular b 2
rd_of CbShift b = popular b 7
rd_of CbImmediate b = popular b 7
rd_of Ca b = popular b 7
rd_of _ b = register b 7

-- the first source register; x0 where there is none
abbrev pub rs1_of : Format → ℕ → ℕ
rs1_of U b = 0
rs1_of J b = 0
rs1_of CsrImmediate b = 0
rs1_of FenceSets b = 0
rs1_of Bare b = 0
rs1_of CiLoad b = 0
rs1_of CiUpper b = 0
rs1_of Cj b = 0
rs1_of CjLink b = 0
rs1_of CrMove b = 0
rs1_of Ciw b = 2
rs1_of CiStack b = 2
rs1_of CiWord b = 2
rs1_of CiDouble b = 2
rs1_of CssWord b = 2
rs1_of CssDouble b = 2
rs1_of ClWord b = popular b 7
rs1_of ClDouble b = popular b 7
rs1_of CsWord b = popular b 7
rs1_of CsDouble b = popular b 7
rs1_of CbShift b = popular b 7
rs1_of CbImmediate b = popular b 7
rs1_of CbBranch b = popular b 7
rs1_of Ca b = popular b 7
rs1_of Ci b = register b 7
rs1_of CiShift b = register b 7
rs1_of CrJump b = register b 7
rs1_of CrLink b = register b 7
rs1_of CrAdd b = register b 7
rs1_of _ b = register b 15

-- the second source register; x0 where there is none
abbrev pub rs2_of : Format → ℕ → ℕ
rs2_of R b = register b 20
rs2_of R4 b = register b 20
rs2_of Rounded b = register b 20
rs2_of S b = register b 20
rs2_of B b = register b 20
rs2_of Atomic b = register b 20
rs2_of CsWord b = popular b 2
rs2_of CsDouble b = popular b 2
rs2_of Ca b = popular b 2
rs2_of CrMove b = register b 2
rs2_of CrAdd b = register b 2
rs2_of CssWord b = register b 2
rs2_of CssDouble b = register b 2
rs2_of _ b = 0

-- the third source register; x0 where there is none
abbrev pub rs3_of : Format → ℕ → ℕ
rs3_of R4 b = register b 27
rs3_of _ b = 0

-- the immediate; 0 where there is none
abbrev pub immediate_of : Format → ℕ → ℤ
immediate_of I b = imm_i b
immediate_of S b = imm_s b
immediate_of B b = imm_b b
immediate_of U b = imm_u b
immediate_of J b = imm_j b
immediate_of Shift b = pos (field b 25 20)
immediate_of CsrImmediate b = pos (field b 19 15)
immediate_of Ci b = imm_ci_signed b
immediate_of CiLoad b = imm_ci_signed b
immediate_of CbImmediate b = imm_ci_signed b
immediate_of CiUpper b = imm_ci_signed b *ℤ pos (2 ^ 12)
immediate_of CiStack b = imm_stack b
immediate_of CiShift b = pos (imm_ci b)
immediate_of CbShift b = pos (imm_ci b)
immediate_of Ciw b = pos (imm_ciw b)
immediate_of ClWord b = pos (imm_word b)
immediate_of CsWord b = pos (imm_word b)
immediate_of ClDouble b = pos (imm_double b)
immediate_of CsDouble b = pos (imm_double b)
immediate_of CiWord b = pos (imm_load_word b)
immediate_of CiDouble b = pos (imm_load_double b)
immediate_of CssWord b = pos (imm_store_word b)
immediate_of CssDouble b = pos (imm_store_double b)
immediate_of CbBranch b = imm_cb b
immediate_of Cj b = imm_cj b
immediate_of CjLink b = imm_cj b
immediate_of _ b = pos 0

-- the CSR; 0 where there is none
abbrev pub csr_of : Format → ℕ → ℕ
csr_of Csr b = field b 31 20
csr_of CsrImmediate b = field b 31 20
csr_of _ b = 0

-- the rounding mode; 0 where there is none
abbrev pub rounding_of : Format → ℕ → ℕ
rounding_of R4 b = field b 14 12
rounding_of Rounded b = field b 14 12
rounding_of RoundedUnary b = field b 14 12
rounding_of _ b = 0

-- the bit of this place, `aq` or `rl`, is set
abbrev pub is_annotated : Format → ℕ → ℕ → Bool
is_annotated LoadReserved b place = is_set b place
is_annotated Atomic b place = is_set b place
is_annotated _ b place = false

-- the set of a fence whose four bits begin at this place; 0 where there is none
abbrev pub set_of : Format → ℕ → ℕ → ℕ
set_of FenceSets b low = field b (low + 3) low
set_of _ b low = 0

-- the instruction of this operation whose fields lie so in the bits
abbrev pub insn_of : Operation → Format → ℕ → Insn
insn_of operation format b = record {
  operation = operation;
  rd = rd_of format b;
  rs1 = rs1_of format b;
  rs2 = rs2_of format b;
  rs3 = rs3_of format b;
  immediate = immediate_of format b;
  csr = csr_of format b;
  rounding = rounding_of format b;
  acquire = is_annotated format b 26;
  release = is_annotated format b 25;
  predecessors = set_of format b 24;
  successors = set_of format b 20;
}
