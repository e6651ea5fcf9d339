-- The rows that a hart's instructions make, and what they list.
use Rattle.std.specs.Prelude.{ℕ, ◌≡◌, ◌+◌, ◌++◌, [], List, Bool, true, false, Some, None, if◌then◌else◌}
use Rattle.std.specs.Prelude.{◌<◌, ◌≤◌, All, Contains, length, map, slice_index_or}
use Rattle.std.specs.Global.{Global}
use Rattle.std.specs.List.{flat_map}
use Rattle.std.specs.Prelude.{Option, Vec}
use Rattle.rv_event.specs.declared.event.DepKind.TheVariants.{Addr, Ctrl, DataOf}
use Rattle.rv_event.specs.declared.event.Event.{Event}
use Rattle.rv_event.specs.declared.event.Op.{Op}
use Rattle.rv_event.specs.declared.event.Op.TheVariants as op
use Rattle.rv_flow.specs.Carriers.{AreNextRows, IsGrown}
use Rattle.rv_flow.specs.Flows.{with_next}
use Rattle.rv_flow.specs.Traces.{AddsControl, IsStill, IsTraceOf, ListsNext, Traced}
use Rattle.rv_flow.specs.declared.carriers.Lists.{Lists}
use Rattle.rv_flow.specs.declared.step.Step.{Step}
use Rattle.rv_insn.specs.declared.insn.Insn.{Insn}
use Rattle.rv_rows.specs.Bits.{Has}
use Rattle.rv_log.specs.declared.record.Retired.{Retired}
use Rattle.rv_commits.specs.Made.{made, plain}
use Rattle.rv_commits.specs.Rows.{parts_of}
use Rattle.rv_commits.specs.declared.hart.NewRows.{NewRows}
use Rattle.rv_commits.specs.declared.hart.NewRows.TheVariants.{Branch, Nothing, One}
use Rattle.rv_commits.specs.declared.made.Made.{Made}

-- a later instruction may depend on the operation
abbrev pub gives_value : Op → Bool
gives_value op.Load = true
gives_value op.Lr = true
gives_value op.Sc = true
gives_value op.Amo = true
gives_value _ = false

-- the instruction, with row n as its event where it gives a value
abbrev pub step_of : Insn → Op → ℕ → Step
step_of insn o n = record { insn = insn; event = if gives_value o then Some n else None }

-- the trace is that of one instruction more, which has the row of this number
pub record IsTaken (insn : Insn) (o : Op) (old new : Traced) (n : ℕ) : Type 0 where
  pub number : n ≡ old.rows
  pub rows : new.rows ≡ old.rows + 1
  pub carriers : new.carriers ≡ old.carriers
  pub trace : (steps : List Step) → IsTraceOf steps old → IsTraceOf (with_next steps (step_of insn o n)) new

-- the fields of a row but its dependencies; versions are not known yet, and are 0
pub record IsRow (hart : ℕ) (made : Made) (word_number : ℕ) (row : Event) (n : ℕ) : Type 0 where
  pub id : row.id ≡ record { hart = hart; seq = n }
  pub op : row.op ≡ made.op
  pub word : row.word ≡ word_number
  pub acquire : row.acquire ≡ made.acquire
  pub release : row.release ≡ made.release
  pub read : row.read ≡ 0
  pub wrote : row.wrote ≡ 0

-- those of a carrier
abbrev pub IsCarrierFields : ℕ → ℕ → Event → Type 0
IsCarrierFields hart n row = IsRow hart (plain op.Carrier) 0 row n

-- The row of an access to memory. New carriers come first, the next rows of the hart; then the row, which lists at
-- most eight rows, behind which are just the events on which its address and its data depend.
pub record IsAccessRow (hart : ℕ) (insn : Insn) (made : Made) (word_number : ℕ) (old new : Traced)
    (row : Event) : Type 0 where
  pub listed : Traced
  pub lists : Lists
  pub still : IsStill old listed
  pub grown : IsGrown old.carriers old.rows listed.carriers listed.rows
  pub numbered : AreNextRows old.carriers old.rows listed.carriers listed.rows
  pub dependencies : ListsNext old insn listed lists
  pub deps : row.deps ≡ parts_of Addr lists.address.items ++ parts_of DataOf lists.value.items
  pub fields : IsRow hart made word_number row listed.rows
  pub taken : IsTaken insn made.op listed new listed.rows

-- the row of a fence, which depends on nothing
pub record IsFenceRow (hart : ℕ) (insn : Insn) (made : Made) (old new : Traced) (row : Event) : Type 0 where
  pub deps : row.deps ≡ []
  pub fields : IsRow hart made 0 row old.rows
  pub taken : IsTaken insn made.op old new old.rows

-- the numbers that a row lists
abbrev pub listed_by : Event → List ℕ
listed_by row = map (λ d. d.seq) row.deps

-- row n of a branch, which lists these events
pub record IsBranchRow (hart n : ℕ) (row : Event) : Type 0 where
  pub fields : IsRow hart (plain op.Branch) 0 row n
  pub few : length row.deps ≤ 8
  pub control : All (λ d. d.kind ≡ Ctrl) row.deps

-- rows of a branch from number `first` on, which list these events together
pub record AreBranchRows (hart first : ℕ) (events : List ℕ) (rows : List Event) : Type 0 where
  pub each : (k : ℕ) (d : Event) → k < length rows → IsBranchRow hart (first + k) (slice_index_or rows k d)
  pub all : flat_map listed_by rows ≡ events

-- The rows of a branch. They list the events on which it depends, and no branch before it: with these the
-- instructions behind it have just the control dependencies of the manual.
pub record AreOfBranch (hart : ℕ) (insn : Insn) (old new : Traced) (rows : List Event) : Type 0 where
  pub events : List ℕ
  pub control : AddsControl old insn events
  pub once : (n : ℕ) → Contains events n → Has old.flow.tested n → ⊥
  pub are : AreBranchRows hart old.rows events rows
  pub count : new.rows ≡ old.rows + length rows
  pub carriers : new.carriers ≡ old.carriers
  pub trace : (steps : List Step) → IsTraceOf steps old →
      IsTraceOf (with_next steps (record { insn = insn; event = None })) new

-- an instruction without a row
pub record IsWithoutRow (insn : Insn) (old new : Traced) : Type 0 where
  pub rows : new.rows ≡ old.rows
  pub carriers : new.carriers ≡ old.carriers
  pub trace : (steps : List Step) → IsTraceOf steps old →
      IsTraceOf (with_next steps (record { insn = insn; event = None })) new

-- what an instruction that makes this operation adds to the rows of its hart: rows of a branch, the row of a fence,
-- or that of an access to this word
abbrev pub IsAddedAs : Op → ℕ → Insn → Made → ℕ → Traced → Traced → NewRows → Type 0
IsAddedAs op.Branch hart insn made word_number old new rows =
    (many : Vec Event Global) × (rows ≡ Branch many) × AreOfBranch hart insn old new many.items
IsAddedAs (op.Fence pred succ) hart insn made word_number old new rows =
    (row : Event) × (rows ≡ One row) × IsFenceRow hart insn made old new row
IsAddedAs op.FenceTso hart insn made word_number old new rows =
    (row : Event) × (rows ≡ One row) × IsFenceRow hart insn made old new row
IsAddedAs _ hart insn made word_number old new rows =
    (row : Event) × (rows ≡ One row) × IsAccessRow hart insn made word_number old new row

abbrev pub IsAddedBy : Option Made → ℕ → Insn → ℕ → Traced → Traced → NewRows → Type 0
IsAddedBy (Some m) hart insn word_number old new rows = IsAddedAs m.op hart insn m word_number old new rows
IsAddedBy None hart insn word_number old new rows = (rows ≡ Nothing) × IsWithoutRow insn old new

-- what an instruction adds to the rows of its hart
abbrev pub IsAdded : ℕ → Retired → ℕ → Traced → Traced → NewRows → Type 0
IsAdded hart r word_number old new rows = IsAddedBy (made r) hart r.insn word_number old new rows
