-- The mnemonics of the operations: manual, chapter 24.
use Rattle.std.specs.Prelude.{ℕ, List, codes}
use Rattle.rv_insn.specs.declared.operation.Operation.{Operation}
use Rattle.rv_insn.specs.declared.operation.Operation.TheVariants.{Beq, Bne, Blt, Bge, Bltu, Bgeu}
use Rattle.rv_insn.specs.declared.operation.Operation.TheVariants.{Jalr, Jal, Lui, Auipc, Lb, Lh}
use Rattle.rv_insn.specs.declared.operation.Operation.TheVariants.{Lw, Ld, Lbu, Lhu, Lwu, Sb, Sh}
use Rattle.rv_insn.specs.declared.operation.Operation.TheVariants.{Sw, Sd, Addi, Slti, Sltiu, Xori}
use Rattle.rv_insn.specs.declared.operation.Operation.TheVariants.{Ori, Andi, Slli, Srli, Srai, Add}
use Rattle.rv_insn.specs.declared.operation.Operation.TheVariants.{Sub, Sll, Slt, Sltu, Xor, Srl}
use Rattle.rv_insn.specs.declared.operation.Operation.TheVariants.{Sra, Or, And, Addiw, Slliw}
use Rattle.rv_insn.specs.declared.operation.Operation.TheVariants.{Srliw, Sraiw, Addw, Subw, Sllw}
use Rattle.rv_insn.specs.declared.operation.Operation.TheVariants.{Srlw, Sraw, FenceTso, Fence}
use Rattle.rv_insn.specs.declared.operation.Operation.TheVariants.{FenceI, Ecall, Ebreak, Uret}
use Rattle.rv_insn.specs.declared.operation.Operation.TheVariants.{Sret, Mret, Dret, Wfi, SfenceVma}
use Rattle.rv_insn.specs.declared.operation.Operation.TheVariants.{Csrrw, Csrrs, Csrrc, Csrrwi}
use Rattle.rv_insn.specs.declared.operation.Operation.TheVariants.{Csrrsi, Csrrci, Mul, Mulh}
use Rattle.rv_insn.specs.declared.operation.Operation.TheVariants.{Mulhsu, Mulhu, Div, Divu, Rem}
use Rattle.rv_insn.specs.declared.operation.Operation.TheVariants.{Remu, Mulw, Divw, Divuw, Remw}
use Rattle.rv_insn.specs.declared.operation.Operation.TheVariants.{Remuw, LrW, ScW, AmoswapW}
use Rattle.rv_insn.specs.declared.operation.Operation.TheVariants.{AmoaddW, AmoxorW, AmoandW}
use Rattle.rv_insn.specs.declared.operation.Operation.TheVariants.{AmoorW, AmominW, AmomaxW}
use Rattle.rv_insn.specs.declared.operation.Operation.TheVariants.{AmominuW, AmomaxuW, LrD, ScD}
use Rattle.rv_insn.specs.declared.operation.Operation.TheVariants.{AmoswapD, AmoaddD, AmoxorD}
use Rattle.rv_insn.specs.declared.operation.Operation.TheVariants.{AmoandD, AmoorD, AmominD}
use Rattle.rv_insn.specs.declared.operation.Operation.TheVariants.{AmomaxD, AmominuD, AmomaxuD, Flw}
use Rattle.rv_insn.specs.declared.operation.Operation.TheVariants.{Fsw, FmaddS, FmsubS, FnmsubS}
use Rattle.rv_insn.specs.declared.operation.Operation.TheVariants.{FnmaddS, FaddS, FsubS, FmulS}
use Rattle.rv_insn.specs.declared.operation.Operation.TheVariants.{FdivS, FsqrtS, FsgnjS, FsgnjnS}
use Rattle.rv_insn.specs.declared.operation.Operation.TheVariants.{FsgnjxS, FminS, FmaxS, FleS}
use Rattle.rv_insn.specs.declared.operation.Operation.TheVariants.{FltS, FeqS, FclassS, FmvXW}
use Rattle.rv_insn.specs.declared.operation.Operation.TheVariants.{FmvWX, FcvtWS, FcvtSW, FcvtWuS}
use Rattle.rv_insn.specs.declared.operation.Operation.TheVariants.{FcvtSWu, FcvtLS, FcvtSL, FcvtLuS}
use Rattle.rv_insn.specs.declared.operation.Operation.TheVariants.{FcvtSLu, Fld, Fsd, FmaddD}
use Rattle.rv_insn.specs.declared.operation.Operation.TheVariants.{FmsubD, FnmsubD, FnmaddD, FaddD}
use Rattle.rv_insn.specs.declared.operation.Operation.TheVariants.{FsubD, FmulD, FdivD, FsqrtD}
use Rattle.rv_insn.specs.declared.operation.Operation.TheVariants.{FsgnjD, FsgnjnD, FsgnjxD, FminD}
use Rattle.rv_insn.specs.declared.operation.Operation.TheVariants.{FmaxD, FleD, FltD, FeqD, FclassD}
use Rattle.rv_insn.specs.declared.operation.Operation.TheVariants.{FmvXD, FmvDX, FcvtWD, FcvtDW}
use Rattle.rv_insn.specs.declared.operation.Operation.TheVariants.{FcvtWuD, FcvtDWu, FcvtLD, FcvtDL}
use Rattle.rv_insn.specs.declared.operation.Operation.TheVariants.{FcvtLuD, FcvtDLu, FcvtSD, FcvtDS}

-- the operation's name, in small letters
abbrev pub mnemonic : Operation → List ℕ
mnemonic Beq = codes "beq"
mnemonic Bne = codes "bne"
mnemonic Blt = codes "blt"
mnemonic Bge = codes "bge"
mnemonic Bltu = codes "bltu"
mnemonic Bgeu = codes "bgeu"
mnemonic Jalr = codes "jalr"
mnemonic Jal = codes "jal"
mnemonic Lui = codes "lui"
mnemonic Auipc = codes "auipc"
mnemonic Lb = codes "lb"
mnemonic Lh = codes "lh"
mnemonic Lw = codes "lw"
mnemonic Ld = codes "ld"
mnemonic Lbu = codes "lbu"
mnemonic Lhu = codes "lhu"
mnemonic Lwu = codes "lwu"
mnemonic Sb = codes "sb"
mnemonic Sh = codes "sh"
mnemonic Sw = codes "sw"
mnemonic Sd = codes "sd"
mnemonic Addi = codes "addi"
mnemonic Slti = codes "slti"
mnemonic Sltiu = codes "sltiu"
mnemonic Xori = codes "xori"
mnemonic Ori = codes "ori"
mnemonic Andi = codes "andi"
mnemonic Slli = codes "slli"
mnemonic Srli = codes "srli"
mnemonic Srai = codes "srai"
mnemonic Add = codes "add"
mnemonic Sub = codes "sub"
mnemonic Sll = codes "sll"
mnemonic Slt = codes "slt"
mnemonic Sltu = codes "sltu"
mnemonic Xor = codes "xor"
mnemonic Srl = codes "srl"
mnemonic Sra = codes "sra"
mnemonic Or = codes "or"
mnemonic And = codes "and"
mnemonic Addiw = codes "addiw"
mnemonic Slliw = codes "slliw"
mnemonic Srliw = codes "srliw"
mnemonic Sraiw = codes "sraiw"
mnemonic Addw = codes "addw"
mnemonic Subw = codes "subw"
mnemonic Sllw = codes "sllw"
mnemonic Srlw = codes "srlw"
mnemonic Sraw = codes "sraw"
mnemonic FenceTso = codes "fence.tso"
mnemonic Fence = codes "fence"
mnemonic FenceI = codes "fence.i"
mnemonic Ecall = codes "ecall"
mnemonic Ebreak = codes "ebreak"
mnemonic Uret = codes "uret"
mnemonic Sret = codes "sret"
mnemonic Mret = codes "mret"
mnemonic Dret = codes "dret"
mnemonic Wfi = codes "wfi"
mnemonic SfenceVma = codes "sfence.vma"
mnemonic Csrrw = codes "csrrw"
mnemonic Csrrs = codes "csrrs"
mnemonic Csrrc = codes "csrrc"
mnemonic Csrrwi = codes "csrrwi"
mnemonic Csrrsi = codes "csrrsi"
mnemonic Csrrci = codes "csrrci"
mnemonic Mul = codes "mul"
mnemonic Mulh = codes "mulh"
mnemonic Mulhsu = codes "mulhsu"
mnemonic Mulhu = codes "mulhu"
mnemonic Div = codes "div"
mnemonic Divu = codes "divu"
mnemonic Rem = codes "rem"
mnemonic Remu = codes "remu"
mnemonic Mulw = codes "mulw"
mnemonic Divw = codes "divw"
mnemonic Divuw = codes "divuw"
mnemonic Remw = codes "remw"
mnemonic Remuw = codes "remuw"
mnemonic LrW = codes "lr.w"
mnemonic ScW = codes "sc.w"
mnemonic AmoswapW = codes "amoswap.w"
mnemonic AmoaddW = codes "amoadd.w"
mnemonic AmoxorW = codes "amoxor.w"
mnemonic AmoandW = codes "amoand.w"
mnemonic AmoorW = codes "amoor.w"
mnemonic AmominW = codes "amomin.w"
mnemonic AmomaxW = codes "amomax.w"
mnemonic AmominuW = codes "amominu.w"
mnemonic AmomaxuW = codes "amomaxu.w"
mnemonic LrD = codes "lr.d"
mnemonic ScD = codes "sc.d"
mnemonic AmoswapD = codes "amoswap.d"
mnemonic AmoaddD = codes "amoadd.d"
mnemonic AmoxorD = codes "amoxor.d"
mnemonic AmoandD = codes "amoand.d"
mnemonic AmoorD = codes "amoor.d"
mnemonic AmominD = codes "amomin.d"
mnemonic AmomaxD = codes "amomax.d"
mnemonic AmominuD = codes "amominu.d"
mnemonic AmomaxuD = codes "amomaxu.d"
mnemonic Flw = codes "flw"
mnemonic Fsw = codes "fsw"
mnemonic FmaddS = codes "fmadd.s"
mnemonic FmsubS = codes "fmsub.s"
mnemonic FnmsubS = codes "fnmsub.s"
mnemonic FnmaddS = codes "fnmadd.s"
mnemonic FaddS = codes "fadd.s"
mnemonic FsubS = codes "fsub.s"
mnemonic FmulS = codes "fmul.s"
mnemonic FdivS = codes "fdiv.s"
mnemonic FsqrtS = codes "fsqrt.s"
mnemonic FsgnjS = codes "fsgnj.s"
mnemonic FsgnjnS = codes "fsgnjn.s"
mnemonic FsgnjxS = codes "fsgnjx.s"
mnemonic FminS = codes "fmin.s"
mnemonic FmaxS = codes "fmax.s"
mnemonic FleS = codes "fle.s"
mnemonic FltS = codes "flt.s"
mnemonic FeqS = codes "feq.s"
mnemonic FclassS = codes "fclass.s"
mnemonic FmvXW = codes "fmv.x.w"
mnemonic FmvWX = codes "fmv.w.x"
mnemonic FcvtWS = codes "fcvt.w.s"
mnemonic FcvtSW = codes "fcvt.s.w"
mnemonic FcvtWuS = codes "fcvt.wu.s"
mnemonic FcvtSWu = codes "fcvt.s.wu"
mnemonic FcvtLS = codes "fcvt.l.s"
mnemonic FcvtSL = codes "fcvt.s.l"
mnemonic FcvtLuS = codes "fcvt.lu.s"
mnemonic FcvtSLu = codes "fcvt.s.lu"
mnemonic Fld = codes "fld"
mnemonic Fsd = codes "fsd"
mnemonic FmaddD = codes "fmadd.d"
mnemonic FmsubD = codes "fmsub.d"
mnemonic FnmsubD = codes "fnmsub.d"
mnemonic FnmaddD = codes "fnmadd.d"
mnemonic FaddD = codes "fadd.d"
mnemonic FsubD = codes "fsub.d"
mnemonic FmulD = codes "fmul.d"
mnemonic FdivD = codes "fdiv.d"
mnemonic FsqrtD = codes "fsqrt.d"
mnemonic FsgnjD = codes "fsgnj.d"
mnemonic FsgnjnD = codes "fsgnjn.d"
mnemonic FsgnjxD = codes "fsgnjx.d"
mnemonic FminD = codes "fmin.d"
mnemonic FmaxD = codes "fmax.d"
mnemonic FleD = codes "fle.d"
mnemonic FltD = codes "flt.d"
mnemonic FeqD = codes "feq.d"
mnemonic FclassD = codes "fclass.d"
mnemonic FmvXD = codes "fmv.x.d"
mnemonic FmvDX = codes "fmv.d.x"
mnemonic FcvtWD = codes "fcvt.w.d"
mnemonic FcvtDW = codes "fcvt.d.w"
mnemonic FcvtWuD = codes "fcvt.wu.d"
mnemonic FcvtDWu = codes "fcvt.d.wu"
mnemonic FcvtLD = codes "fcvt.l.d"
mnemonic FcvtDL = codes "fcvt.d.l"
mnemonic FcvtLuD = codes "fcvt.lu.d"
mnemonic FcvtDLu = codes "fcvt.d.lu"
mnemonic FcvtSD = codes "fcvt.s.d"
mnemonic FcvtDS = codes "fcvt.d.s"
