-- What an instruction reads and writes, and which of its sources goes on to which of its
-- destinations: manual, sections 14.1 ("Syntactic Dependencies") and 14.3.
use Rattle.std.specs.Prelude.{ℕ, pos, ◌≡◌, ◌⊎◌, ◌==◌, ◌&&◌, ◌||◌, not, Bool, true, false, List, []}
use Rattle.std.specs.Prelude.{◌∷◌, Option, Some, None}
use Rattle.std.specs.Prelude.{if◌then◌else◌, IsTrue}
use Rattle.std.specs.Ordering.{int_eq}
use Rattle.rv_insn.specs.Listing.{listing}
use Rattle.rv_insn.specs.Units.{flag_of, is_other_csr, names, names_flags, names_frm}
use Rattle.rv_insn.specs.declared.insn.Insn.{Insn}
use Rattle.rv_insn.specs.declared.operation.Operation.{Operation}
use Rattle.rv_insn.specs.declared.operation.Operation.TheVariants.{Beq, Bne, Blt, Bge, Bltu, Bgeu, Jalr}
use Rattle.rv_insn.specs.declared.unit.Flag.{Flag}
use Rattle.rv_insn.specs.declared.unit.Flag.TheVariants.{Nx, Uf, Of, Dz, Nv}
use Rattle.rv_insn.specs.declared.unit.Unit.{Unit}
use Rattle.rv_insn.specs.declared.unit.Unit.TheVariants as unit
use Rattle.rv_insn.specs.declared.usage.CsrUse.{CsrUse}
use Rattle.rv_insn.specs.declared.usage.CsrUse.TheVariants.{NoCsr, Swap, Change}
use Rattle.rv_insn.specs.declared.usage.Operand.{Operand}
use Rattle.rv_insn.specs.declared.usage.Operand.TheVariants as operand
use Rattle.rv_insn.specs.declared.usage.Target.{Target}
use Rattle.rv_insn.specs.declared.usage.Target.TheVariants.{Nowhere, ToX, ToF}

-- an x register; x0 is none
abbrev pub x_register : ℕ → Option Unit
x_register n = if (n == 0) then None else Some (unit.X n)

-- the register that an operand reads
abbrev pub read : Operand → ℕ → Option Unit
read operand.Unused n = None
read operand.X n = x_register n
read operand.F n = Some (unit.F n)
read operand.AddressX n = x_register n
read operand.DataX n = x_register n
read operand.DataF n = Some (unit.F n)

-- the register from which an operand takes the address of an access
abbrev pub address : Operand → ℕ → Option Unit
address operand.AddressX n = x_register n
address _ n = None

-- the register from which an operand takes the value that is stored
abbrev pub value : Operand → ℕ → Option Unit
value operand.DataX n = x_register n
value operand.DataF n = Some (unit.F n)
value _ n = None

-- the register that is written
abbrev pub written : Target → ℕ → Option Unit
written Nowhere n = None
written ToX n = x_register n
written ToF n = Some (unit.F n)

-- the instruction reads its CSR
abbrev pub reads_csr : CsrUse → Insn → Bool
reads_csr NoCsr i = false
reads_csr Swap i = not (i.rd == 0)
reads_csr Change i = true

-- the instruction writes its CSR
abbrev pub writes_csr : CsrUse → Insn → Bool
writes_csr NoCsr i = false
writes_csr Swap i = true
writes_csr Change i = not (i.rs1 == 0 && int_eq i.immediate (pos 0))

-- the flag may be raised by the operation
abbrev pub raises : Insn → Flag → Bool
raises i f = flag_of (listing i.operation).raises f

-- the instruction takes the rounding mode from frm
abbrev pub is_dynamic : Insn → Bool
is_dynamic i = i.rounding == 7

-- a flag that is a source: one that may be raised, as it accumulates, or that is read with its CSR
abbrev pub flag_source : Insn → Flag → Option Unit
flag_source i f =
    if (raises i f || (reads_csr (listing i.operation).csr i && names_flags i.csr)) then Some (unit.Accrued f)
    else None

-- a flag that is a destination
abbrev pub flag_destination : Insn → Flag → Option Unit
flag_destination i f =
    if (raises i f || (writes_csr (listing i.operation).csr i && names_flags i.csr)) then Some (unit.Accrued f)
    else None

abbrev pub frm_source : Insn → Option Unit
frm_source i =
    if (is_dynamic i || (reads_csr (listing i.operation).csr i && names_frm i.csr)) then Some unit.Frm else None

abbrev pub frm_destination : Insn → Option Unit
frm_destination i = if (writes_csr (listing i.operation).csr i && names_frm i.csr) then Some unit.Frm else None

abbrev pub csr_source : Insn → Option Unit
csr_source i =
    if (reads_csr (listing i.operation).csr i && is_other_csr i.csr) then Some (unit.Csr i.csr) else None

abbrev pub csr_destination : Insn → Option Unit
csr_destination i =
    if (writes_csr (listing i.operation).csr i && is_other_csr i.csr) then Some (unit.Csr i.csr) else None

-- the sources of an instruction, each in a place of its own
abbrev pub sources : Insn → List (Option Unit)
sources i =
    read (listing i.operation).first i.rs1 ∷ read (listing i.operation).second i.rs2
    ∷ read (listing i.operation).third i.rs3 ∷ frm_source i ∷ csr_source i ∷ flag_source i Nx ∷ flag_source i Uf
    ∷ flag_source i Of ∷ flag_source i Dz ∷ flag_source i Nv ∷ []

-- its destinations
abbrev pub destinations : Insn → List (Option Unit)
destinations i =
    written (listing i.operation).to i.rd ∷ frm_destination i ∷ csr_destination i ∷ flag_destination i Nx
    ∷ flag_destination i Uf ∷ flag_destination i Of ∷ flag_destination i Dz ∷ flag_destination i Nv ∷ []

-- the source of its address, and of the value that it stores
abbrev pub address_source : Insn → Option Unit
address_source i = address (listing i.operation).first i.rs1

abbrev pub data_source : Insn → Option Unit
data_source i = value (listing i.operation).second i.rs2

-- the unit is a register that it reads, or frm where it takes the rounding mode from there
abbrev pub IsOperand : Insn → Unit → Type 0
IsOperand i p =
    (read (listing i.operation).first i.rs1 ≡ Some p) ⊎ (read (listing i.operation).second i.rs2 ≡ Some p)
    ⊎ (read (listing i.operation).third i.rs3 ≡ Some p) ⊎ (IsTrue (is_dynamic i) × (p ≡ unit.Frm))

-- the unit is a flag that it may raise
abbrev pub IsRaised : Insn → Unit → Type 0
IsRaised i (unit.Accrued f) = IsTrue (raises i f)
IsRaised i _ = ⊥

-- An operation on registers carries from each operand to rd, but for what loads and JALR put there;
-- from each operand to each flag that it may raise; and from such a flag to itself.
abbrev pub CarriesOver : Insn → Unit → Unit → Type 0
CarriesOver i p q =
    (IsTrue (listing i.operation).carries × IsOperand i p × (written (listing i.operation).to i.rd ≡ Some q))
    ⊎ (IsRaised i q × (IsOperand i p ⊎ (p ≡ q)))

-- an operation on a CSR carries from rs1 to the CSR, and from the CSR to rd
abbrev pub CarriesCsr : Insn → Unit → Unit → Type 0
CarriesCsr i p q =
    (IsTrue (writes_csr (listing i.operation).csr i) × (read (listing i.operation).first i.rs1 ≡ Some p)
    × IsTrue (names i.csr q))
    ⊎ (IsTrue (reads_csr (listing i.operation).csr i) × IsTrue (names i.csr p)
    × (written (listing i.operation).to i.rd ≡ Some q))

-- the instruction carries a dependency from a source to a destination, by its kind
abbrev pub CarriesBy : CsrUse → Insn → Unit → Unit → Type 0
CarriesBy NoCsr i p q = CarriesOver i p q
CarriesBy Swap i p q = CarriesCsr i p q
CarriesBy Change i p q = CarriesCsr i p q

abbrev pub Carries : Insn → Unit → Unit → Type 0
Carries i p q = CarriesBy (listing i.operation).csr i p q

-- a conditional branch or an indirect jump
abbrev pub is_branch : Operation → Bool
is_branch Beq = true
is_branch Bne = true
is_branch Blt = true
is_branch Bge = true
is_branch Bltu = true
is_branch Bgeu = true
is_branch Jalr = true
is_branch _ = false
