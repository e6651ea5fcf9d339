-- The compressed encodings, of 16 bits: manual, section 16.8 ("RVC Instruction Set Listings").
use Rattle.std.specs.Prelude.{List, [], ◌∷◌}
use Rattle.rv_insn.specs.Lines.{Line, line, ◌but◌}
use Rattle.rv_insn.specs.declared.line.Widths.TheVariants.{Both, Only64, Only32}
use Rattle.rv_insn.specs.declared.line.Meaning.TheVariants.{Is, Refused}
use Rattle.rv_insn.specs.declared.format.Format.TheVariants.{Ciw, ClWord, ClDouble, CsWord}
use Rattle.rv_insn.specs.declared.format.Format.TheVariants.{CsDouble, Ci, CiLoad, CiStack, CiUpper}
use Rattle.rv_insn.specs.declared.format.Format.TheVariants.{CiShift, CiWord, CiDouble, Cj, CjLink}
use Rattle.rv_insn.specs.declared.format.Format.TheVariants.{CbShift, CbImmediate, CbBranch, Ca}
use Rattle.rv_insn.specs.declared.format.Format.TheVariants.{CrJump, CrLink, CrMove, CrAdd, CssWord}
use Rattle.rv_insn.specs.declared.format.Format.TheVariants.{CssDouble, Bare}
use Rattle.rv_insn.specs.declared.operation.Operation.TheVariants.{Beq, Bne, Jalr, Jal, Lui, Lw, Ld}
use Rattle.rv_insn.specs.declared.operation.Operation.TheVariants.{Sw, Sd, Addi, Andi, Slli, Srli}
use Rattle.rv_insn.specs.declared.operation.Operation.TheVariants.{Srai, Add, Sub, Xor, Or, And}
use Rattle.rv_insn.specs.declared.operation.Operation.TheVariants.{Addiw, Addw, Subw, Ebreak, Flw}
use Rattle.rv_insn.specs.declared.operation.Operation.TheVariants.{Fsw, Fld, Fsd}
use Rattle.rv_insn.specs.declared.undecoded.Undecoded.TheVariants.{Illegal, Reserved}

-- the lines, each with the operation of 32 bits that it stands for
abbrev pub compressed : List Line
compressed =
    (line 0xffff 0x0000 Both (Refused Illegal)) ∷
    (line 0xffe3 0x0000 Both (Refused Reserved) but (0x001c, 0x0000)) ∷
    (line 0xe003 0x0000 Both (Is Addi Ciw) but (0x1fe0, 0x0000)) ∷
    (line 0xe003 0x2000 Both (Is Fld ClDouble)) ∷
    (line 0xe003 0x4000 Both (Is Lw ClWord)) ∷
    (line 0xe003 0x6000 Only32 (Is Flw ClWord)) ∷
    (line 0xe003 0x6000 Only64 (Is Ld ClDouble)) ∷
    (line 0xe003 0x8000 Both (Refused Reserved)) ∷
    (line 0xe003 0xa000 Both (Is Fsd CsDouble)) ∷
    (line 0xe003 0xc000 Both (Is Sw CsWord)) ∷
    (line 0xe003 0xe000 Only32 (Is Fsw CsWord)) ∷
    (line 0xe003 0xe000 Only64 (Is Sd CsDouble)) ∷
    (line 0xe003 0x0001 Both (Is Addi Ci)) ∷
    (line 0xe003 0x2001 Only32 (Is Jal CjLink)) ∷
    (line 0xef83 0x2001 Only64 (Refused Reserved)) ∷
    (line 0xe003 0x2001 Only64 (Is Addiw Ci) but (0x0f80, 0x0000)) ∷
    (line 0xe003 0x4001 Both (Is Addi CiLoad)) ∷
    (line 0xf07f 0x6001 Both (Refused Reserved)) ∷
    (line 0xef83 0x6101 Both (Is Addi CiStack) but (0x107c, 0x0000)) ∷
    (line 0xe003 0x6001 Both (Is Lui CiUpper) but (0x107c, 0x0000) but (0x0f80, 0x0100)) ∷
    (line 0xfc03 0x8001 Only32 (Is Srli CbShift)) ∷
    (line 0xfc03 0x9001 Only32 (Refused Reserved)) ∷
    (line 0xec03 0x8001 Only64 (Is Srli CbShift)) ∷
    (line 0xfc03 0x8401 Only32 (Is Srai CbShift)) ∷
    (line 0xfc03 0x9401 Only32 (Refused Reserved)) ∷
    (line 0xec03 0x8401 Only64 (Is Srai CbShift)) ∷
    (line 0xec03 0x8801 Both (Is Andi CbImmediate)) ∷
    (line 0xfc63 0x8c01 Both (Is Sub Ca)) ∷
    (line 0xfc63 0x8c21 Both (Is Xor Ca)) ∷
    (line 0xfc63 0x8c41 Both (Is Or Ca)) ∷
    (line 0xfc63 0x8c61 Both (Is And Ca)) ∷
    (line 0xfc03 0x9c01 Only32 (Refused Reserved)) ∷
    (line 0xfc63 0x9c01 Only64 (Is Subw Ca)) ∷
    (line 0xfc63 0x9c21 Only64 (Is Addw Ca)) ∷
    (line 0xfc43 0x9c41 Only64 (Refused Reserved)) ∷
    (line 0xe003 0xa001 Both (Is Jal Cj)) ∷
    (line 0xe003 0xc001 Both (Is Beq CbBranch)) ∷
    (line 0xe003 0xe001 Both (Is Bne CbBranch)) ∷
    (line 0xf003 0x0002 Only32 (Is Slli CiShift)) ∷
    (line 0xf003 0x1002 Only32 (Refused Reserved)) ∷
    (line 0xe003 0x0002 Only64 (Is Slli CiShift)) ∷
    (line 0xe003 0x2002 Both (Is Fld CiDouble)) ∷
    (line 0xef83 0x4002 Both (Refused Reserved)) ∷
    (line 0xe003 0x4002 Both (Is Lw CiWord) but (0x0f80, 0x0000)) ∷
    (line 0xe003 0x6002 Only32 (Is Flw CiWord)) ∷
    (line 0xef83 0x6002 Only64 (Refused Reserved)) ∷
    (line 0xe003 0x6002 Only64 (Is Ld CiDouble) but (0x0f80, 0x0000)) ∷
    (line 0xffff 0x8002 Both (Refused Reserved)) ∷
    (line 0xf07f 0x8002 Both (Is Jalr CrJump) but (0x0f80, 0x0000)) ∷
    (line 0xf003 0x8002 Both (Is Add CrMove) but (0x007c, 0x0000)) ∷
    (line 0xffff 0x9002 Both (Is Ebreak Bare)) ∷
    (line 0xf07f 0x9002 Both (Is Jalr CrLink) but (0x0f80, 0x0000)) ∷
    (line 0xf003 0x9002 Both (Is Add CrAdd) but (0x007c, 0x0000)) ∷
    (line 0xe003 0xa002 Both (Is Fsd CssDouble)) ∷
    (line 0xe003 0xc002 Both (Is Sw CssWord)) ∷
    (line 0xe003 0xe002 Only32 (Is Fsw CssWord)) ∷
    (line 0xe003 0xe002 Only64 (Is Sd CssDouble)) ∷ []
