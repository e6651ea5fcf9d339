-- The encodings of 32 bits: manual, chapter 24 ("RV32/64G Instruction Set Listings"), and the
-- opcodes that are refused under a name of their own.
use Rattle.std.specs.Prelude.{List, [], ◌∷◌}
use Rattle.rv_insn.specs.Lines.{Line, line, ◌but◌}
use Rattle.rv_insn.specs.declared.line.Widths.TheVariants.{Both, Only64, Only32}
use Rattle.rv_insn.specs.declared.line.Meaning.TheVariants.{Is, Refused}
use Rattle.rv_insn.specs.declared.format.Format.TheVariants.{R, R4, Rounded, Unary, RoundedUnary, I}
use Rattle.rv_insn.specs.declared.format.Format.TheVariants.{Shift, S, B, U, J, Csr, CsrImmediate}
use Rattle.rv_insn.specs.declared.format.Format.TheVariants.{LoadReserved, Atomic, FenceSets, Bare}
use Rattle.rv_insn.specs.declared.operation.Operation.TheVariants.{Beq, Bne, Blt, Bge, Bltu, Bgeu}
use Rattle.rv_insn.specs.declared.operation.Operation.TheVariants.{Jalr, Jal, Lui, Auipc, Lb, Lh}
use Rattle.rv_insn.specs.declared.operation.Operation.TheVariants.{Lw, Ld, Lbu, Lhu, Lwu, Sb, Sh}
use Rattle.rv_insn.specs.declared.operation.Operation.TheVariants.{Sw, Sd, Addi, Slti, Sltiu, Xori}
use Rattle.rv_insn.specs.declared.operation.Operation.TheVariants.{Ori, Andi, Slli, Srli, Srai, Add}
use Rattle.rv_insn.specs.declared.operation.Operation.TheVariants.{Sub, Sll, Slt, Sltu, Xor, Srl}
use Rattle.rv_insn.specs.declared.operation.Operation.TheVariants.{Sra, Or, And, Addiw, Slliw}
use Rattle.rv_insn.specs.declared.operation.Operation.TheVariants.{Srliw, Sraiw, Addw, Subw, Sllw}
use Rattle.rv_insn.specs.declared.operation.Operation.TheVariants.{Srlw, Sraw, FenceTso, Fence}
use Rattle.rv_insn.specs.declared.operation.Operation.TheVariants.{FenceI, Ecall, Ebreak, Uret}
use Rattle.rv_insn.specs.declared.operation.Operation.TheVariants.{Sret, Mret, Dret, Wfi, SfenceVma}
use Rattle.rv_insn.specs.declared.operation.Operation.TheVariants.{Csrrw, Csrrs, Csrrc, Csrrwi}
use Rattle.rv_insn.specs.declared.operation.Operation.TheVariants.{Csrrsi, Csrrci, Mul, Mulh}
use Rattle.rv_insn.specs.declared.operation.Operation.TheVariants.{Mulhsu, Mulhu, Div, Divu, Rem}
use Rattle.rv_insn.specs.declared.operation.Operation.TheVariants.{Remu, Mulw, Divw, Divuw, Remw}
use Rattle.rv_insn.specs.declared.operation.Operation.TheVariants.{Remuw, LrW, ScW, AmoswapW}
use Rattle.rv_insn.specs.declared.operation.Operation.TheVariants.{AmoaddW, AmoxorW, AmoandW}
use Rattle.rv_insn.specs.declared.operation.Operation.TheVariants.{AmoorW, AmominW, AmomaxW}
use Rattle.rv_insn.specs.declared.operation.Operation.TheVariants.{AmominuW, AmomaxuW, LrD, ScD}
use Rattle.rv_insn.specs.declared.operation.Operation.TheVariants.{AmoswapD, AmoaddD, AmoxorD}
use Rattle.rv_insn.specs.declared.operation.Operation.TheVariants.{AmoandD, AmoorD, AmominD}
use Rattle.rv_insn.specs.declared.operation.Operation.TheVariants.{AmomaxD, AmominuD, AmomaxuD, Flw}
use Rattle.rv_insn.specs.declared.operation.Operation.TheVariants.{Fsw, FmaddS, FmsubS, FnmsubS}
use Rattle.rv_insn.specs.declared.operation.Operation.TheVariants.{FnmaddS, FaddS, FsubS, FmulS}
use Rattle.rv_insn.specs.declared.operation.Operation.TheVariants.{FdivS, FsqrtS, FsgnjS, FsgnjnS}
use Rattle.rv_insn.specs.declared.operation.Operation.TheVariants.{FsgnjxS, FminS, FmaxS, FleS}
use Rattle.rv_insn.specs.declared.operation.Operation.TheVariants.{FltS, FeqS, FclassS, FmvXW}
use Rattle.rv_insn.specs.declared.operation.Operation.TheVariants.{FmvWX, FcvtWS, FcvtSW, FcvtWuS}
use Rattle.rv_insn.specs.declared.operation.Operation.TheVariants.{FcvtSWu, FcvtLS, FcvtSL, FcvtLuS}
use Rattle.rv_insn.specs.declared.operation.Operation.TheVariants.{FcvtSLu, Fld, Fsd, FmaddD}
use Rattle.rv_insn.specs.declared.operation.Operation.TheVariants.{FmsubD, FnmsubD, FnmaddD, FaddD}
use Rattle.rv_insn.specs.declared.operation.Operation.TheVariants.{FsubD, FmulD, FdivD, FsqrtD}
use Rattle.rv_insn.specs.declared.operation.Operation.TheVariants.{FsgnjD, FsgnjnD, FsgnjxD, FminD}
use Rattle.rv_insn.specs.declared.operation.Operation.TheVariants.{FmaxD, FleD, FltD, FeqD, FclassD}
use Rattle.rv_insn.specs.declared.operation.Operation.TheVariants.{FmvXD, FmvDX, FcvtWD, FcvtDW}
use Rattle.rv_insn.specs.declared.operation.Operation.TheVariants.{FcvtWuD, FcvtDWu, FcvtLD, FcvtDL}
use Rattle.rv_insn.specs.declared.operation.Operation.TheVariants.{FcvtLuD, FcvtDLu, FcvtSD, FcvtDS}
use Rattle.rv_insn.specs.declared.undecoded.Undecoded.TheVariants.{Vector, HalfPrecision}
use Rattle.rv_insn.specs.declared.undecoded.Undecoded.TheVariants.{QuadPrecision, CacheBlock}
use Rattle.rv_insn.specs.declared.undecoded.Undecoded.TheVariants.{Custom, Hypervisor}

-- the lines, in the manual's order of extensions
abbrev pub encodings : List Line
encodings =
    (line 0x0000707f 0x00000063 Both (Is Beq B)) ∷
    (line 0x0000707f 0x00001063 Both (Is Bne B)) ∷
    (line 0x0000707f 0x00004063 Both (Is Blt B)) ∷
    (line 0x0000707f 0x00005063 Both (Is Bge B)) ∷
    (line 0x0000707f 0x00006063 Both (Is Bltu B)) ∷
    (line 0x0000707f 0x00007063 Both (Is Bgeu B)) ∷
    (line 0x0000707f 0x00000067 Both (Is Jalr I)) ∷
    (line 0x0000007f 0x0000006f Both (Is Jal J)) ∷
    (line 0x0000007f 0x00000037 Both (Is Lui U)) ∷
    (line 0x0000007f 0x00000017 Both (Is Auipc U)) ∷
    (line 0x0000707f 0x00000003 Both (Is Lb I)) ∷
    (line 0x0000707f 0x00001003 Both (Is Lh I)) ∷
    (line 0x0000707f 0x00002003 Both (Is Lw I)) ∷
    (line 0x0000707f 0x00003003 Only64 (Is Ld I)) ∷
    (line 0x0000707f 0x00004003 Both (Is Lbu I)) ∷
    (line 0x0000707f 0x00005003 Both (Is Lhu I)) ∷
    (line 0x0000707f 0x00006003 Only64 (Is Lwu I)) ∷
    (line 0x0000707f 0x00000023 Both (Is Sb S)) ∷
    (line 0x0000707f 0x00001023 Both (Is Sh S)) ∷
    (line 0x0000707f 0x00002023 Both (Is Sw S)) ∷
    (line 0x0000707f 0x00003023 Only64 (Is Sd S)) ∷
    (line 0x0000707f 0x00000013 Both (Is Addi I)) ∷
    (line 0x0000707f 0x00002013 Both (Is Slti I)) ∷
    (line 0x0000707f 0x00003013 Both (Is Sltiu I)) ∷
    (line 0x0000707f 0x00004013 Both (Is Xori I)) ∷
    (line 0x0000707f 0x00006013 Both (Is Ori I)) ∷
    (line 0x0000707f 0x00007013 Both (Is Andi I)) ∷
    (line 0xfe00707f 0x00001013 Only32 (Is Slli Shift)) ∷
    (line 0xfc00707f 0x00001013 Only64 (Is Slli Shift)) ∷
    (line 0xfe00707f 0x00005013 Only32 (Is Srli Shift)) ∷
    (line 0xfc00707f 0x00005013 Only64 (Is Srli Shift)) ∷
    (line 0xfe00707f 0x40005013 Only32 (Is Srai Shift)) ∷
    (line 0xfc00707f 0x40005013 Only64 (Is Srai Shift)) ∷
    (line 0xfe00707f 0x00000033 Both (Is Add R)) ∷
    (line 0xfe00707f 0x40000033 Both (Is Sub R)) ∷
    (line 0xfe00707f 0x00001033 Both (Is Sll R)) ∷
    (line 0xfe00707f 0x00002033 Both (Is Slt R)) ∷
    (line 0xfe00707f 0x00003033 Both (Is Sltu R)) ∷
    (line 0xfe00707f 0x00004033 Both (Is Xor R)) ∷
    (line 0xfe00707f 0x00005033 Both (Is Srl R)) ∷
    (line 0xfe00707f 0x40005033 Both (Is Sra R)) ∷
    (line 0xfe00707f 0x00006033 Both (Is Or R)) ∷
    (line 0xfe00707f 0x00007033 Both (Is And R)) ∷
    (line 0x0000707f 0x0000001b Only64 (Is Addiw I)) ∷
    (line 0xfe00707f 0x0000101b Only64 (Is Slliw Shift)) ∷
    (line 0xfe00707f 0x0000501b Only64 (Is Srliw Shift)) ∷
    (line 0xfe00707f 0x4000501b Only64 (Is Sraiw Shift)) ∷
    (line 0xfe00707f 0x0000003b Only64 (Is Addw R)) ∷
    (line 0xfe00707f 0x4000003b Only64 (Is Subw R)) ∷
    (line 0xfe00707f 0x0000103b Only64 (Is Sllw R)) ∷
    (line 0xfe00707f 0x0000503b Only64 (Is Srlw R)) ∷
    (line 0xfe00707f 0x4000503b Only64 (Is Sraw R)) ∷
    (line 0xfff0707f 0x8330000f Both (Is FenceTso FenceSets)) ∷
    (line 0x0000707f 0x0000000f Both (Is Fence FenceSets) but (0xfff00000, 0x83300000)) ∷
    (line 0x0000707f 0x0000100f Both (Is FenceI Bare)) ∷
    (line 0xffffffff 0x00000073 Both (Is Ecall Bare)) ∷
    (line 0xffffffff 0x00100073 Both (Is Ebreak Bare)) ∷
    (line 0xffffffff 0x00200073 Both (Is Uret Bare)) ∷
    (line 0xffffffff 0x10200073 Both (Is Sret Bare)) ∷
    (line 0xffffffff 0x30200073 Both (Is Mret Bare)) ∷
    (line 0xffffffff 0x7b200073 Both (Is Dret Bare)) ∷
    (line 0xffffffff 0x10500073 Both (Is Wfi Bare)) ∷
    (line 0xfe007fff 0x12000073 Both (Is SfenceVma Bare)) ∷
    (line 0x0000707f 0x00001073 Both (Is Csrrw Csr)) ∷
    (line 0x0000707f 0x00002073 Both (Is Csrrs Csr)) ∷
    (line 0x0000707f 0x00003073 Both (Is Csrrc Csr)) ∷
    (line 0x0000707f 0x00005073 Both (Is Csrrwi CsrImmediate)) ∷
    (line 0x0000707f 0x00006073 Both (Is Csrrsi CsrImmediate)) ∷
    (line 0x0000707f 0x00007073 Both (Is Csrrci CsrImmediate)) ∷
    (line 0xfe00707f 0x02000033 Both (Is Mul R)) ∷
    (line 0xfe00707f 0x02001033 Both (Is Mulh R)) ∷
    (line 0xfe00707f 0x02002033 Both (Is Mulhsu R)) ∷
    (line 0xfe00707f 0x02003033 Both (Is Mulhu R)) ∷
    (line 0xfe00707f 0x02004033 Both (Is Div R)) ∷
    (line 0xfe00707f 0x02005033 Both (Is Divu R)) ∷
    (line 0xfe00707f 0x02006033 Both (Is Rem R)) ∷
    (line 0xfe00707f 0x02007033 Both (Is Remu R)) ∷
    (line 0xfe00707f 0x0200003b Only64 (Is Mulw R)) ∷
    (line 0xfe00707f 0x0200403b Only64 (Is Divw R)) ∷
    (line 0xfe00707f 0x0200503b Only64 (Is Divuw R)) ∷
    (line 0xfe00707f 0x0200603b Only64 (Is Remw R)) ∷
    (line 0xfe00707f 0x0200703b Only64 (Is Remuw R)) ∷
    (line 0xf9f0707f 0x1000202f Both (Is LrW LoadReserved)) ∷
    (line 0xf800707f 0x1800202f Both (Is ScW Atomic)) ∷
    (line 0xf800707f 0x0800202f Both (Is AmoswapW Atomic)) ∷
    (line 0xf800707f 0x0000202f Both (Is AmoaddW Atomic)) ∷
    (line 0xf800707f 0x2000202f Both (Is AmoxorW Atomic)) ∷
    (line 0xf800707f 0x6000202f Both (Is AmoandW Atomic)) ∷
    (line 0xf800707f 0x4000202f Both (Is AmoorW Atomic)) ∷
    (line 0xf800707f 0x8000202f Both (Is AmominW Atomic)) ∷
    (line 0xf800707f 0xa000202f Both (Is AmomaxW Atomic)) ∷
    (line 0xf800707f 0xc000202f Both (Is AmominuW Atomic)) ∷
    (line 0xf800707f 0xe000202f Both (Is AmomaxuW Atomic)) ∷
    (line 0xf9f0707f 0x1000302f Only64 (Is LrD LoadReserved)) ∷
    (line 0xf800707f 0x1800302f Only64 (Is ScD Atomic)) ∷
    (line 0xf800707f 0x0800302f Only64 (Is AmoswapD Atomic)) ∷
    (line 0xf800707f 0x0000302f Only64 (Is AmoaddD Atomic)) ∷
    (line 0xf800707f 0x2000302f Only64 (Is AmoxorD Atomic)) ∷
    (line 0xf800707f 0x6000302f Only64 (Is AmoandD Atomic)) ∷
    (line 0xf800707f 0x4000302f Only64 (Is AmoorD Atomic)) ∷
    (line 0xf800707f 0x8000302f Only64 (Is AmominD Atomic)) ∷
    (line 0xf800707f 0xa000302f Only64 (Is AmomaxD Atomic)) ∷
    (line 0xf800707f 0xc000302f Only64 (Is AmominuD Atomic)) ∷
    (line 0xf800707f 0xe000302f Only64 (Is AmomaxuD Atomic)) ∷
    (line 0x0000707f 0x00002007 Both (Is Flw I)) ∷
    (line 0x0000707f 0x00002027 Both (Is Fsw S)) ∷
    (line 0x0600007f 0x00000043 Both (Is FmaddS R4)) ∷
    (line 0x0600007f 0x00000047 Both (Is FmsubS R4)) ∷
    (line 0x0600007f 0x0000004b Both (Is FnmsubS R4)) ∷
    (line 0x0600007f 0x0000004f Both (Is FnmaddS R4)) ∷
    (line 0xfe00007f 0x00000053 Both (Is FaddS Rounded)) ∷
    (line 0xfe00007f 0x08000053 Both (Is FsubS Rounded)) ∷
    (line 0xfe00007f 0x10000053 Both (Is FmulS Rounded)) ∷
    (line 0xfe00007f 0x18000053 Both (Is FdivS Rounded)) ∷
    (line 0xfff0007f 0x58000053 Both (Is FsqrtS RoundedUnary)) ∷
    (line 0xfe00707f 0x20000053 Both (Is FsgnjS R)) ∷
    (line 0xfe00707f 0x20001053 Both (Is FsgnjnS R)) ∷
    (line 0xfe00707f 0x20002053 Both (Is FsgnjxS R)) ∷
    (line 0xfe00707f 0x28000053 Both (Is FminS R)) ∷
    (line 0xfe00707f 0x28001053 Both (Is FmaxS R)) ∷
    (line 0xfe00707f 0xa0000053 Both (Is FleS R)) ∷
    (line 0xfe00707f 0xa0001053 Both (Is FltS R)) ∷
    (line 0xfe00707f 0xa0002053 Both (Is FeqS R)) ∷
    (line 0xfff0707f 0xe0001053 Both (Is FclassS Unary)) ∷
    (line 0xfff0707f 0xe0000053 Both (Is FmvXW Unary)) ∷
    (line 0xfff0707f 0xf0000053 Both (Is FmvWX Unary)) ∷
    (line 0xfff0007f 0xc0000053 Both (Is FcvtWS RoundedUnary)) ∷
    (line 0xfff0007f 0xd0000053 Both (Is FcvtSW RoundedUnary)) ∷
    (line 0xfff0007f 0xc0100053 Both (Is FcvtWuS RoundedUnary)) ∷
    (line 0xfff0007f 0xd0100053 Both (Is FcvtSWu RoundedUnary)) ∷
    (line 0xfff0007f 0xc0200053 Only64 (Is FcvtLS RoundedUnary)) ∷
    (line 0xfff0007f 0xd0200053 Only64 (Is FcvtSL RoundedUnary)) ∷
    (line 0xfff0007f 0xc0300053 Only64 (Is FcvtLuS RoundedUnary)) ∷
    (line 0xfff0007f 0xd0300053 Only64 (Is FcvtSLu RoundedUnary)) ∷
    (line 0x0000707f 0x00003007 Both (Is Fld I)) ∷
    (line 0x0000707f 0x00003027 Both (Is Fsd S)) ∷
    (line 0x0600007f 0x02000043 Both (Is FmaddD R4)) ∷
    (line 0x0600007f 0x02000047 Both (Is FmsubD R4)) ∷
    (line 0x0600007f 0x0200004b Both (Is FnmsubD R4)) ∷
    (line 0x0600007f 0x0200004f Both (Is FnmaddD R4)) ∷
    (line 0xfe00007f 0x02000053 Both (Is FaddD Rounded)) ∷
    (line 0xfe00007f 0x0a000053 Both (Is FsubD Rounded)) ∷
    (line 0xfe00007f 0x12000053 Both (Is FmulD Rounded)) ∷
    (line 0xfe00007f 0x1a000053 Both (Is FdivD Rounded)) ∷
    (line 0xfff0007f 0x5a000053 Both (Is FsqrtD RoundedUnary)) ∷
    (line 0xfe00707f 0x22000053 Both (Is FsgnjD R)) ∷
    (line 0xfe00707f 0x22001053 Both (Is FsgnjnD R)) ∷
    (line 0xfe00707f 0x22002053 Both (Is FsgnjxD R)) ∷
    (line 0xfe00707f 0x2a000053 Both (Is FminD R)) ∷
    (line 0xfe00707f 0x2a001053 Both (Is FmaxD R)) ∷
    (line 0xfe00707f 0xa2000053 Both (Is FleD R)) ∷
    (line 0xfe00707f 0xa2001053 Both (Is FltD R)) ∷
    (line 0xfe00707f 0xa2002053 Both (Is FeqD R)) ∷
    (line 0xfff0707f 0xe2001053 Both (Is FclassD Unary)) ∷
    (line 0xfff0707f 0xe2000053 Only64 (Is FmvXD Unary)) ∷
    (line 0xfff0707f 0xf2000053 Only64 (Is FmvDX Unary)) ∷
    (line 0xfff0007f 0xc2000053 Both (Is FcvtWD RoundedUnary)) ∷
    (line 0xfff0007f 0xd2000053 Both (Is FcvtDW Unary)) ∷
    (line 0xfff0007f 0xc2100053 Both (Is FcvtWuD RoundedUnary)) ∷
    (line 0xfff0007f 0xd2100053 Both (Is FcvtDWu Unary)) ∷
    (line 0xfff0007f 0xc2200053 Only64 (Is FcvtLD RoundedUnary)) ∷
    (line 0xfff0007f 0xd2200053 Only64 (Is FcvtDL RoundedUnary)) ∷
    (line 0xfff0007f 0xc2300053 Only64 (Is FcvtLuD RoundedUnary)) ∷
    (line 0xfff0007f 0xd2300053 Only64 (Is FcvtDLu RoundedUnary)) ∷
    (line 0xfff0007f 0x40100053 Both (Is FcvtSD RoundedUnary)) ∷
    (line 0xfff0007f 0x42000053 Both (Is FcvtDS Unary)) ∷
    (line 0x0000007f 0x00000057 Both (Refused Vector)) ∷
    (line 0x0000707f 0x00000007 Both (Refused Vector)) ∷
    (line 0x0000707f 0x00005007 Both (Refused Vector)) ∷
    (line 0x0000707f 0x00006007 Both (Refused Vector)) ∷
    (line 0x0000707f 0x00007007 Both (Refused Vector)) ∷
    (line 0x0000707f 0x00001007 Both (Refused HalfPrecision)) ∷
    (line 0x0000707f 0x00004007 Both (Refused QuadPrecision)) ∷
    (line 0x0000707f 0x00000027 Both (Refused Vector)) ∷
    (line 0x0000707f 0x00005027 Both (Refused Vector)) ∷
    (line 0x0000707f 0x00006027 Both (Refused Vector)) ∷
    (line 0x0000707f 0x00007027 Both (Refused Vector)) ∷
    (line 0x0000707f 0x00001027 Both (Refused HalfPrecision)) ∷
    (line 0x0000707f 0x00004027 Both (Refused QuadPrecision)) ∷
    (line 0x0600007f 0x04000043 Both (Refused HalfPrecision)) ∷
    (line 0x0600007f 0x06000043 Both (Refused QuadPrecision)) ∷
    (line 0x0600007f 0x04000047 Both (Refused HalfPrecision)) ∷
    (line 0x0600007f 0x06000047 Both (Refused QuadPrecision)) ∷
    (line 0x0600007f 0x0400004b Both (Refused HalfPrecision)) ∷
    (line 0x0600007f 0x0600004b Both (Refused QuadPrecision)) ∷
    (line 0x0600007f 0x0400004f Both (Refused HalfPrecision)) ∷
    (line 0x0600007f 0x0600004f Both (Refused QuadPrecision)) ∷
    (line 0x0600007f 0x04000053 Both (Refused HalfPrecision)) ∷
    (line 0x0600007f 0x06000053 Both (Refused QuadPrecision)) ∷
    (line 0x0000707f 0x0000200f Both (Refused CacheBlock)) ∷
    (line 0x0000007f 0x0000000b Both (Refused Custom)) ∷
    (line 0x0000007f 0x0000002b Both (Refused Custom)) ∷
    (line 0x0000007f 0x0000005b Both (Refused Custom)) ∷
    (line 0x0000007f 0x0000007b Both (Refused Custom)) ∷
    (line 0x0000707f 0x00004073 Both (Refused Hypervisor)) ∷ []
