-- The harts of a log.
use Rattle.std.specs.Prelude.{ℕ, ◌≡◌, ◌<◌, ◌≤◌, ◌⊎◌, [], List, Bool, Option, length, slice_index_or, slice_set}
use Rattle.rv_event.specs.declared.event.Event.{Event}
use Rattle.rv_flow.specs.Traces.{IsTraceOf}
use Rattle.rv_log.specs.declared.record.Performed.{Performed}
use Rattle.rv_log.specs.declared.record.Retired.{Retired}
use Rattle.rv_values.specs.declared.issues.Issued.{Issued}
use Rattle.rv_commits.specs.Owns.{AreOwns}
use Rattle.rv_commits.specs.Queues.{HasNumbers, IsAtRest, IsGiven, IsRetired, IsRowRefused}
use Rattle.rv_commits.specs.declared.queue.RowFault.{RowFault}
use Rattle.rv_commits.specs.declared.queue.WaitingHart.{WaitingHart}
use Rattle.rv_logrows.specs.declared.fault.LogFault.{LogFault}
use Rattle.rv_logrows.specs.declared.fault.LogFault.TheVariants.{Hart, TooManyRows, NoMemory}

-- the hart of this number, whose rows that wait are numbered
pub record IsHart (n : ℕ) (h : WaitingHart) : Type 0 where
  pub number : h.rows.hart ≡ n
  pub rows : HasNumbers h

-- so many harts, each at the place of its number
pub record AreHarts (count : ℕ) (harts : List WaitingHart) : Type 0 where
  pub many : length harts ≡ count
  pub each : (n : ℕ) (d : WaitingHart) → n < count → IsHart n (slice_index_or harts n d)

-- a hart that retired nothing and gave no row: its first one has number 0
pub record IsNew (h : WaitingHart) : Type 0 where
  pub trace : IsTraceOf [] h.rows.trace
  pub owns : AreOwns [] h.owns
  pub queue : h.queue.items ≡ []
  pub given : h.given ≡ 0

-- so many are new
abbrev pub AreNew : ℕ → List WaitingHart → Type 0
AreNew count harts = (n : ℕ) (d : WaitingHart) → n < count → IsNew (slice_index_or harts n d)

-- the hart changed so, and the others are as before
pub record IsChanged (Changes : WaitingHart → WaitingHart → Type 0) (n : ℕ) (old new : List WaitingHart) : Type 0 where
  pub below : n < 16
  pub hart : WaitingHart
  pub is : new ≡ slice_set old n hart
  pub changes : Changes (slice_index_or old n hart) hart

-- the hart took the instruction, and is the same one
abbrev pub Retires : Retired → (word_number log_row : ℕ) → WaitingHart → WaitingHart → Type 0
Retires r word_number log_row before after =
    (after.rows.hart ≡ before.rows.hart) × ((done : List Retired) → AreOwns done before.owns →
    IsRetired done r word_number log_row before after)

-- the hart of the instruction took it
abbrev pub IsRetiredBy : Retired → (word_number log_row : ℕ) → List WaitingHart → List WaitingHart → Type 0
IsRetiredBy r word_number log_row old new = IsChanged (Retires r word_number log_row) r.hart old new

-- why an instruction is not taken
abbrev pub IsRetireRefused : Retired → LogFault → Type 0
IsRetireRefused r Hart = 15 < r.hart
IsRetireRefused r TooManyRows = r.hart ≤ 15
IsRetireRefused r NoMemory = r.hart ≤ 15
IsRetireRefused r _ = ⊥

-- the row is the hart's next, and all else of the hart is the same
abbrev pub Gives : List Issued → List Performed → (initial : Option ℕ) → Event → WaitingHart → WaitingHart → Type 0
Gives issued performed initial event before after =
    IsGiven issued performed initial before after event × (after.rows ≡ before.rows) × (after.owns ≡ before.owns)

-- the row is the next one of the hart
abbrev pub IsGivenBy : List Issued → List Performed → (initial : Option ℕ) → (n : ℕ) → List WaitingHart →
    List WaitingHart → Event → Type 0
IsGivenBy issued performed initial n old new event = IsChanged (Gives issued performed initial event) n old new

-- the hart has no row to give
abbrev pub IsHartAtRest : List Issued → List Performed → (initial : Option ℕ) → Bool → (n : ℕ) → List WaitingHart →
    Type 0
IsHartAtRest issued performed initial ended n harts =
    (15 < n) ⊎ ((d : WaitingHart) → IsAtRest issued performed initial ended (slice_index_or harts n d).queue.items)

-- why it gives none
abbrev pub IsHartRefused : List Issued → List Performed → (initial : Option ℕ) → (n : ℕ) → List WaitingHart →
    RowFault → Type 0
IsHartRefused issued performed initial n harts fault =
    (n ≤ 15) × ((d : WaitingHart) →
    IsRowRefused issued performed initial (slice_index_or harts n d).queue.items fault)
