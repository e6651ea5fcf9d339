-- What each operation reads and writes: manual, section 14.3 ("Source and Destination Register
-- Listings").
use Rattle.std.specs.Prelude.{true, false}
use Rattle.rv_insn.specs.declared.usage.CsrUse.TheVariants.{NoCsr, Swap, Change}
use Rattle.rv_insn.specs.declared.usage.Flags.{Flags}
use Rattle.rv_insn.specs.declared.usage.Usage.{Usage}
use Rattle.rv_insn.specs.declared.usage.Operand.TheVariants.{Unused, X, F, AddressX, DataX, DataF}
use Rattle.rv_insn.specs.declared.usage.Target.TheVariants.{Nowhere, ToX, ToF}
use Rattle.rv_insn.specs.declared.operation.Operation.{Operation}
use Rattle.rv_insn.specs.declared.operation.Operation.TheVariants.{Beq, Bne, Blt, Bge, Bltu, Bgeu}
use Rattle.rv_insn.specs.declared.operation.Operation.TheVariants.{Jalr, Jal, Lui, Auipc, Lb, Lh}
use Rattle.rv_insn.specs.declared.operation.Operation.TheVariants.{Lw, Ld, Lbu, Lhu, Lwu, Sb, Sh}
use Rattle.rv_insn.specs.declared.operation.Operation.TheVariants.{Sw, Sd, Addi, Slti, Sltiu}
use Rattle.rv_insn.specs.declared.operation.Operation.TheVariants.{Xori, Ori, Andi, Slli, Srli}
use Rattle.rv_insn.specs.declared.operation.Operation.TheVariants.{Srai, Add, Sub, Sll, Slt, Sltu}
use Rattle.rv_insn.specs.declared.operation.Operation.TheVariants.{Xor, Srl, Sra, Or, And, Addiw}
use Rattle.rv_insn.specs.declared.operation.Operation.TheVariants.{Slliw, Srliw, Sraiw, Addw}
use Rattle.rv_insn.specs.declared.operation.Operation.TheVariants.{Subw, Sllw, Srlw, Sraw}
use Rattle.rv_insn.specs.declared.operation.Operation.TheVariants.{FenceTso, Fence, FenceI, Ecall}
use Rattle.rv_insn.specs.declared.operation.Operation.TheVariants.{Ebreak, Uret, Sret, Mret, Dret}
use Rattle.rv_insn.specs.declared.operation.Operation.TheVariants.{Wfi, SfenceVma, Csrrw, Csrrs}
use Rattle.rv_insn.specs.declared.operation.Operation.TheVariants.{Csrrc, Csrrwi, Csrrsi, Csrrci}
use Rattle.rv_insn.specs.declared.operation.Operation.TheVariants.{Mul, Mulh, Mulhsu, Mulhu, Div}
use Rattle.rv_insn.specs.declared.operation.Operation.TheVariants.{Divu, Rem, Remu, Mulw, Divw}
use Rattle.rv_insn.specs.declared.operation.Operation.TheVariants.{Divuw, Remw, Remuw, LrW, ScW}
use Rattle.rv_insn.specs.declared.operation.Operation.TheVariants.{AmoswapW, AmoaddW, AmoxorW}
use Rattle.rv_insn.specs.declared.operation.Operation.TheVariants.{AmoandW, AmoorW, AmominW}
use Rattle.rv_insn.specs.declared.operation.Operation.TheVariants.{AmomaxW, AmominuW, AmomaxuW}
use Rattle.rv_insn.specs.declared.operation.Operation.TheVariants.{LrD, ScD, AmoswapD, AmoaddD}
use Rattle.rv_insn.specs.declared.operation.Operation.TheVariants.{AmoxorD, AmoandD, AmoorD}
use Rattle.rv_insn.specs.declared.operation.Operation.TheVariants.{AmominD, AmomaxD, AmominuD}
use Rattle.rv_insn.specs.declared.operation.Operation.TheVariants.{AmomaxuD, Flw, Fsw, FmaddS}
use Rattle.rv_insn.specs.declared.operation.Operation.TheVariants.{FmsubS, FnmsubS, FnmaddS}
use Rattle.rv_insn.specs.declared.operation.Operation.TheVariants.{FaddS, FsubS, FmulS, FdivS}
use Rattle.rv_insn.specs.declared.operation.Operation.TheVariants.{FsqrtS, FsgnjS, FsgnjnS}
use Rattle.rv_insn.specs.declared.operation.Operation.TheVariants.{FsgnjxS, FminS, FmaxS, FleS}
use Rattle.rv_insn.specs.declared.operation.Operation.TheVariants.{FltS, FeqS, FclassS, FmvXW}
use Rattle.rv_insn.specs.declared.operation.Operation.TheVariants.{FmvWX, FcvtWS, FcvtSW, FcvtWuS}
use Rattle.rv_insn.specs.declared.operation.Operation.TheVariants.{FcvtSWu, FcvtLS, FcvtSL}
use Rattle.rv_insn.specs.declared.operation.Operation.TheVariants.{FcvtLuS, FcvtSLu, Fld, Fsd}
use Rattle.rv_insn.specs.declared.operation.Operation.TheVariants.{FmaddD, FmsubD, FnmsubD}
use Rattle.rv_insn.specs.declared.operation.Operation.TheVariants.{FnmaddD, FaddD, FsubD, FmulD}
use Rattle.rv_insn.specs.declared.operation.Operation.TheVariants.{FdivD, FsqrtD, FsgnjD, FsgnjnD}
use Rattle.rv_insn.specs.declared.operation.Operation.TheVariants.{FsgnjxD, FminD, FmaxD, FleD}
use Rattle.rv_insn.specs.declared.operation.Operation.TheVariants.{FltD, FeqD, FclassD, FmvXD}
use Rattle.rv_insn.specs.declared.operation.Operation.TheVariants.{FmvDX, FcvtWD, FcvtDW, FcvtWuD}
use Rattle.rv_insn.specs.declared.operation.Operation.TheVariants.{FcvtDWu, FcvtLD, FcvtDL}
use Rattle.rv_insn.specs.declared.operation.Operation.TheVariants.{FcvtLuD, FcvtDLu, FcvtSD}
use Rattle.rv_insn.specs.declared.operation.Operation.TheVariants.{FcvtDS}

-- no flag is raised
abbrev pub quiet : Flags
quiet = record { nx = false; uf = false; of = false; dz = false; nv = false }

-- the flags of a sum, a product, a quotient, a square root or a conversion to an integer, a
-- comparison, and a conversion from an integer
abbrev pub adds : Flags
adds = record quiet { nv = true; of = true; nx = true }

abbrev pub multiplies : Flags
multiplies = record quiet { nv = true; of = true; uf = true; nx = true }

abbrev pub divides : Flags
divides = record quiet { nv = true; dz = true; of = true; uf = true; nx = true }

abbrev pub converts : Flags
converts = record quiet { nv = true; nx = true }

abbrev pub compares : Flags
compares = record quiet { nv = true }

abbrev pub rounds : Flags
rounds = record quiet { nx = true }

-- nothing read and nothing written
abbrev pub nothing : Usage
nothing = record {
  first = Unused;
  second = Unused;
  third = Unused;
  to = Nowhere;
  carries = true;
  raises = quiet;
  csr = NoCsr;
}

-- what the operation reads and writes
abbrev pub listing : Operation → Usage
listing Beq = record nothing { first = X; second = X }
listing Bne = record nothing { first = X; second = X }
listing Blt = record nothing { first = X; second = X }
listing Bge = record nothing { first = X; second = X }
listing Bltu = record nothing { first = X; second = X }
listing Bgeu = record nothing { first = X; second = X }
listing Jalr = record nothing { first = X; to = ToX; carries = false }
listing Jal = record nothing { to = ToX }
listing Lui = record nothing { to = ToX }
listing Auipc = record nothing { to = ToX }
listing Lb = record nothing { first = AddressX; to = ToX; carries = false }
listing Lh = record nothing { first = AddressX; to = ToX; carries = false }
listing Lw = record nothing { first = AddressX; to = ToX; carries = false }
listing Ld = record nothing { first = AddressX; to = ToX; carries = false }
listing Lbu = record nothing { first = AddressX; to = ToX; carries = false }
listing Lhu = record nothing { first = AddressX; to = ToX; carries = false }
listing Lwu = record nothing { first = AddressX; to = ToX; carries = false }
listing Sb = record nothing { first = AddressX; second = DataX }
listing Sh = record nothing { first = AddressX; second = DataX }
listing Sw = record nothing { first = AddressX; second = DataX }
listing Sd = record nothing { first = AddressX; second = DataX }
listing Addi = record nothing { first = X; to = ToX }
listing Slti = record nothing { first = X; to = ToX }
listing Sltiu = record nothing { first = X; to = ToX }
listing Xori = record nothing { first = X; to = ToX }
listing Ori = record nothing { first = X; to = ToX }
listing Andi = record nothing { first = X; to = ToX }
listing Slli = record nothing { first = X; to = ToX }
listing Srli = record nothing { first = X; to = ToX }
listing Srai = record nothing { first = X; to = ToX }
listing Add = record nothing { first = X; second = X; to = ToX }
listing Sub = record nothing { first = X; second = X; to = ToX }
listing Sll = record nothing { first = X; second = X; to = ToX }
listing Slt = record nothing { first = X; second = X; to = ToX }
listing Sltu = record nothing { first = X; second = X; to = ToX }
listing Xor = record nothing { first = X; second = X; to = ToX }
listing Srl = record nothing { first = X; second = X; to = ToX }
listing Sra = record nothing { first = X; second = X; to = ToX }
listing Or = record nothing { first = X; second = X; to = ToX }
listing And = record nothing { first = X; second = X; to = ToX }
listing Addiw = record nothing { first = X; to = ToX }
listing Slliw = record nothing { first = X; to = ToX }
listing Srliw = record nothing { first = X; to = ToX }
listing Sraiw = record nothing { first = X; to = ToX }
listing Addw = record nothing { first = X; second = X; to = ToX }
listing Subw = record nothing { first = X; second = X; to = ToX }
listing Sllw = record nothing { first = X; second = X; to = ToX }
listing Srlw = record nothing { first = X; second = X; to = ToX }
listing Sraw = record nothing { first = X; second = X; to = ToX }
listing FenceTso = nothing
listing Fence = nothing
listing FenceI = nothing
listing Ecall = nothing
listing Ebreak = nothing
listing Uret = nothing
listing Sret = nothing
listing Mret = nothing
listing Dret = nothing
listing Wfi = nothing
listing SfenceVma = nothing
listing Csrrw = record nothing { first = X; to = ToX; csr = Swap }
listing Csrrs = record nothing { first = X; to = ToX; csr = Change }
listing Csrrc = record nothing { first = X; to = ToX; csr = Change }
listing Csrrwi = record nothing { to = ToX; csr = Swap }
listing Csrrsi = record nothing { to = ToX; csr = Change }
listing Csrrci = record nothing { to = ToX; csr = Change }
listing Mul = record nothing { first = X; second = X; to = ToX }
listing Mulh = record nothing { first = X; second = X; to = ToX }
listing Mulhsu = record nothing { first = X; second = X; to = ToX }
listing Mulhu = record nothing { first = X; second = X; to = ToX }
listing Div = record nothing { first = X; second = X; to = ToX }
listing Divu = record nothing { first = X; second = X; to = ToX }
listing Rem = record nothing { first = X; second = X; to = ToX }
listing Remu = record nothing { first = X; second = X; to = ToX }
listing Mulw = record nothing { first = X; second = X; to = ToX }
listing Divw = record nothing { first = X; second = X; to = ToX }
listing Divuw = record nothing { first = X; second = X; to = ToX }
listing Remw = record nothing { first = X; second = X; to = ToX }
listing Remuw = record nothing { first = X; second = X; to = ToX }
listing LrW = record nothing { first = AddressX; to = ToX; carries = false }
listing ScW = record nothing { first = AddressX; second = DataX; to = ToX; carries = false }
listing AmoswapW = record nothing { first = AddressX; second = DataX; to = ToX; carries = false }
listing AmoaddW = record nothing { first = AddressX; second = DataX; to = ToX; carries = false }
listing AmoxorW = record nothing { first = AddressX; second = DataX; to = ToX; carries = false }
listing AmoandW = record nothing { first = AddressX; second = DataX; to = ToX; carries = false }
listing AmoorW = record nothing { first = AddressX; second = DataX; to = ToX; carries = false }
listing AmominW = record nothing { first = AddressX; second = DataX; to = ToX; carries = false }
listing AmomaxW = record nothing { first = AddressX; second = DataX; to = ToX; carries = false }
listing AmominuW = record nothing { first = AddressX; second = DataX; to = ToX; carries = false }
listing AmomaxuW = record nothing { first = AddressX; second = DataX; to = ToX; carries = false }
listing LrD = record nothing { first = AddressX; to = ToX; carries = false }
listing ScD = record nothing { first = AddressX; second = DataX; to = ToX; carries = false }
listing AmoswapD = record nothing { first = AddressX; second = DataX; to = ToX; carries = false }
listing AmoaddD = record nothing { first = AddressX; second = DataX; to = ToX; carries = false }
listing AmoxorD = record nothing { first = AddressX; second = DataX; to = ToX; carries = false }
listing AmoandD = record nothing { first = AddressX; second = DataX; to = ToX; carries = false }
listing AmoorD = record nothing { first = AddressX; second = DataX; to = ToX; carries = false }
listing AmominD = record nothing { first = AddressX; second = DataX; to = ToX; carries = false }
listing AmomaxD = record nothing { first = AddressX; second = DataX; to = ToX; carries = false }
listing AmominuD = record nothing { first = AddressX; second = DataX; to = ToX; carries = false }
listing AmomaxuD = record nothing { first = AddressX; second = DataX; to = ToX; carries = false }
listing Flw = record nothing { first = AddressX; to = ToF; carries = false }
listing Fsw = record nothing { first = AddressX; second = DataF }
listing FmaddS = record nothing { first = F; second = F; third = F; to = ToF; raises = multiplies }
listing FmsubS = record nothing { first = F; second = F; third = F; to = ToF; raises = multiplies }
listing FnmsubS = record nothing { first = F; second = F; third = F; to = ToF; raises = multiplies }
listing FnmaddS = record nothing { first = F; second = F; third = F; to = ToF; raises = multiplies }
listing FaddS = record nothing { first = F; second = F; to = ToF; raises = adds }
listing FsubS = record nothing { first = F; second = F; to = ToF; raises = adds }
listing FmulS = record nothing { first = F; second = F; to = ToF; raises = multiplies }
listing FdivS = record nothing { first = F; second = F; to = ToF; raises = divides }
listing FsqrtS = record nothing { first = F; to = ToF; raises = converts }
listing FsgnjS = record nothing { first = F; second = F; to = ToF }
listing FsgnjnS = record nothing { first = F; second = F; to = ToF }
listing FsgnjxS = record nothing { first = F; second = F; to = ToF }
listing FminS = record nothing { first = F; second = F; to = ToF; raises = compares }
listing FmaxS = record nothing { first = F; second = F; to = ToF; raises = compares }
listing FleS = record nothing { first = F; second = F; to = ToX; raises = compares }
listing FltS = record nothing { first = F; second = F; to = ToX; raises = compares }
listing FeqS = record nothing { first = F; second = F; to = ToX; raises = compares }
listing FclassS = record nothing { first = F; to = ToX }
listing FmvXW = record nothing { first = F; to = ToX }
listing FmvWX = record nothing { first = X; to = ToF }
listing FcvtWS = record nothing { first = F; to = ToX; raises = converts }
listing FcvtSW = record nothing { first = X; to = ToF; raises = rounds }
listing FcvtWuS = record nothing { first = F; to = ToX; raises = converts }
listing FcvtSWu = record nothing { first = X; to = ToF; raises = rounds }
listing FcvtLS = record nothing { first = F; to = ToX; raises = converts }
listing FcvtSL = record nothing { first = X; to = ToF; raises = rounds }
listing FcvtLuS = record nothing { first = F; to = ToX; raises = converts }
listing FcvtSLu = record nothing { first = X; to = ToF; raises = rounds }
listing Fld = record nothing { first = AddressX; to = ToF; carries = false }
listing Fsd = record nothing { first = AddressX; second = DataF }
listing FmaddD = record nothing { first = F; second = F; third = F; to = ToF; raises = multiplies }
listing FmsubD = record nothing { first = F; second = F; third = F; to = ToF; raises = multiplies }
listing FnmsubD = record nothing { first = F; second = F; third = F; to = ToF; raises = multiplies }
listing FnmaddD = record nothing { first = F; second = F; third = F; to = ToF; raises = multiplies }
listing FaddD = record nothing { first = F; second = F; to = ToF; raises = adds }
listing FsubD = record nothing { first = F; second = F; to = ToF; raises = adds }
listing FmulD = record nothing { first = F; second = F; to = ToF; raises = multiplies }
listing FdivD = record nothing { first = F; second = F; to = ToF; raises = divides }
listing FsqrtD = record nothing { first = F; to = ToF; raises = converts }
listing FsgnjD = record nothing { first = F; second = F; to = ToF }
listing FsgnjnD = record nothing { first = F; second = F; to = ToF }
listing FsgnjxD = record nothing { first = F; second = F; to = ToF }
listing FminD = record nothing { first = F; second = F; to = ToF; raises = compares }
listing FmaxD = record nothing { first = F; second = F; to = ToF; raises = compares }
listing FleD = record nothing { first = F; second = F; to = ToX; raises = compares }
listing FltD = record nothing { first = F; second = F; to = ToX; raises = compares }
listing FeqD = record nothing { first = F; second = F; to = ToX; raises = compares }
listing FclassD = record nothing { first = F; to = ToX }
listing FmvXD = record nothing { first = F; to = ToX }
listing FmvDX = record nothing { first = X; to = ToF }
listing FcvtWD = record nothing { first = F; to = ToX; raises = converts }
listing FcvtDW = record nothing { first = X; to = ToF }
listing FcvtWuD = record nothing { first = F; to = ToX; raises = converts }
listing FcvtDWu = record nothing { first = X; to = ToF }
listing FcvtLD = record nothing { first = F; to = ToX; raises = converts }
listing FcvtDL = record nothing { first = X; to = ToF; raises = rounds }
listing FcvtLuD = record nothing { first = F; to = ToX; raises = converts }
listing FcvtDLu = record nothing { first = X; to = ToF; raises = rounds }
listing FcvtSD = record nothing { first = F; to = ToF; raises = multiplies }
listing FcvtDS = record nothing { first = F; to = ToF; raises = compares }
