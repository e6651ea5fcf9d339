-- Syntactic dependencies: manual, section 14.1 ("Syntactic Dependencies").
use Rattle.std.specs.Prelude.{ℕ, ◌≡◌, ◌<◌, List, Contains, Option, Some, IsTrue, slice_get}
use Rattle.rv_insn.specs.Roles.{Carries, address_source, data_source, destinations, is_branch, sources}
use Rattle.rv_insn.specs.declared.insn.Insn.{Insn}
use Rattle.rv_insn.specs.declared.unit.Unit.{Unit}
use Rattle.rv_flow.specs.declared.step.Step.{Step}

-- the unit is a source of the instruction
abbrev pub IsSource : Insn → Unit → Type 0
IsSource i u = Contains (sources i) (Some u)

-- and a destination
abbrev pub IsDestination : Insn → Unit → Type 0
IsDestination i u = Contains (destinations i) (Some u)

-- instruction number j of the hart
abbrev pub IsAt : List Step → ℕ → Step → Type 0
IsAt steps j x = slice_get steps j ≡ Some x

-- Instruction j has a syntactic dependency on instruction i, by source r of j and destination s of i:
-- r is s, and no instruction between them has it as a destination; or j has one on an instruction m
-- between them, by r and a destination q of m, m has one on i, by a source p of m and s, and m carries
-- a dependency from p to q.
pub data DependsVia (steps : List Step) : ℕ → Unit → ℕ → Unit → Type 0 where
  direct :
      {j i : ℕ} {x y : Step} {r : Unit} → i < j → IsAt steps j x → IsAt steps i y → IsSource x.insn r →
      IsDestination y.insn r →
      ((m : ℕ) (z : Step) → i < m → m < j → IsAt steps m z → IsDestination z.insn r → ⊥) →
      DependsVia steps j r i r
  through :
      {j m i : ℕ} {y : Step} {r q p s : Unit} → IsAt steps m y → DependsVia steps j r m q →
      DependsVia steps m p i s → Carries y.insn p q → DependsVia steps j r i s

-- instruction i made event n
abbrev pub EventAt : List Step → ℕ → ℕ → Type 0
EventAt steps i n = (z : Step) × IsAt steps i z × (z.event ≡ Some n)

-- instruction j has a syntactic dependency, by source r, on the instruction that made event n
abbrev pub DependsOn : List Step → ℕ → Unit → ℕ → Type 0
DependsOn steps j r n = (i : ℕ) × (s : Unit) × DependsVia steps j r i s × EventAt steps i n

-- instruction j depends on event n by the source in this role
pub record HasBy (role : Insn → Option Unit) (steps : List Step) (j n : ℕ) : Type 0 where
  pub x : Step
  pub at : IsAt steps j x
  pub r : Unit
  pub source : role x.insn ≡ Some r
  pub depends : DependsOn steps j r n

-- an address dependency: by the source of its address
abbrev pub HasAddress : List Step → ℕ → ℕ → Type 0
HasAddress = HasBy address_source

-- a data dependency: by the source of the value that it stores
abbrev pub HasData : List Step → ℕ → ℕ → Type 0
HasData = HasBy data_source

-- a control dependency: a branch before it has a syntactic dependency on that instruction
pub record HasControl (steps : List Step) (j n : ℕ) : Type 0 where
  pub m : ℕ
  pub before : m < j
  pub x : Step
  pub at : IsAt steps m x
  pub branch : IsTrue (is_branch x.insn.operation)
  pub r : Unit
  pub depends : DependsOn steps m r n
