-- The rows of a hart that wait, in their order.
use Rattle.std.specs.Prelude.{ℕ, ◌≡◌, ◌++◌, ◌∷◌, [], ◌≤◌, ◌+◌, Bool, List, Option, Some, None}
use Rattle.std.specs.Prelude.{◌≢◌, ◌⊎◌, ⊤, drop, length, map}
use Rattle.rv_event.specs.declared.event.Event.{Event}
use Rattle.rv_flow.specs.Traces.{IsTraceOf}
use Rattle.rv_flow.specs.declared.carrier.Carrier.{Carrier}
use Rattle.rv_flow.specs.declared.step.Step.{Step}
use Rattle.rv_log.specs.declared.record.Performed.{Performed}
use Rattle.rv_log.specs.declared.record.Retired.{Retired}
use Rattle.rv_values.specs.declared.issues.Issued.{Issued}
use Rattle.rv_commits.specs.Harts.{IsAdded, IsCarrierFields}
use Rattle.rv_commits.specs.Owns.{AreOwns, IsLastStore}
use Rattle.rv_commits.specs.Rows.{IsRowOf}
use Rattle.rv_commits.specs.Settled.{IsOpenRow, IsSettled, IsValueRefused, waiting_by}
use Rattle.rv_commits.specs.declared.hart.NewRows.{NewRows}
use Rattle.rv_commits.specs.declared.hart.NewRows.TheVariants.{Branch, Nothing, One}
use Rattle.rv_commits.specs.declared.pending.Pending.{Pending}
use Rattle.rv_commits.specs.declared.pending.ValueFault.{ValueFault}
use Rattle.rv_commits.specs.declared.pending.Waiting.{Waiting}
use Rattle.rv_commits.specs.declared.queue.RowFault.{RowFault}
use Rattle.rv_commits.specs.declared.queue.RowFault.TheVariants.{Value, NoMemory}
use Rattle.rv_commits.specs.declared.queue.WaitingHart.{WaitingHart}

-- a row that waits for this
abbrev pub pending : Waiting → Event → Pending
pending w row = record { row = row; waiting = w }

-- the rows that an instruction added
abbrev pub pendings : NewRows → Waiting → List Pending
pendings Nothing w = []
pendings (One row) w = pending w row ∷ []
pendings (Branch rows) w = map (pending w) rows.items

-- the row of the log that the first row that waits is of
abbrev pub first_log_row : List Pending → Option ℕ
first_log_row [] = None
first_log_row (first ∷ rest) = Some first.waiting.log_row

-- the hart took the instruction: its rows wait behind the others
pub record IsRetired (done : List Retired) (r : Retired) (word_number log_row : ℕ) (old new : WaitingHart) :
    Type 0 where
  pub added : NewRows
  pub is_added : IsAdded old.rows.hart r word_number old.rows.trace new.rows.trace added
  pub own : Option ℕ
  pub is_own : IsLastStore done r.address own
  pub queued : new.queue.items ≡ old.queue.items ++ pendings added (waiting_by r own log_row)
  pub owns : AreOwns (done ++ r ∷ []) new.owns

-- the row is the first that waited, with its versions; the others wait still
pub record IsFirst (issued : List Issued) (performed : List Performed) (initial : Option ℕ) (old new : List Pending)
    (event : Event) : Type 0 where
  pub first : Pending
  pub queue : old ≡ first ∷ new
  pub settled : Pending
  pub is_settled : IsSettled issued performed initial first settled
  pub row : event ≡ settled.row

-- the row was the first that waited, by its id
pub record IsFront (old new : List Pending) (event : Event) : Type 0 where
  pub first : Pending
  pub queue : old ≡ first ∷ new
  pub id : event.id ≡ first.row.id

-- no row can be given: none waits, or the versions of the first are open
abbrev pub IsAtRest : List Issued → List Performed → Option ℕ → Bool → List Pending → Type 0
IsAtRest issued performed initial ended [] = ⊤
IsAtRest issued performed initial ended (first ∷ rest) = IsOpenRow issued performed initial ended first

-- why none is given: the value that the first returned tells no version
abbrev pub IsFrontRefused : List Issued → List Performed → Option ℕ → List Pending → ValueFault → Type 0
IsFrontRefused issued performed initial [] fault = ⊥
IsFrontRefused issued performed initial (first ∷ rest) fault =
    IsValueRefused issued performed first.waiting initial fault

abbrev pub IsRowRefused : List Issued → List Performed → Option ℕ → List Pending → RowFault → Type 0
IsRowRefused issued performed initial queue (Value fault) = IsFrontRefused issued performed initial queue fault
IsRowRefused issued performed initial queue NoMemory = ⊤

-- the numbers from n up to the end are those of the carriers and of the rows that wait, in their order
pub data Merged (hart : ℕ) : ℕ → ℕ → List Carrier → List Pending → Type 0 where
  none : {end : ℕ} → Merged hart end end [] []
  carrier :
      {n end : ℕ} {c : Carrier} {carriers : List Carrier} {rows : List Pending} → c.number ≡ n →
      Merged hart (n + 1) end carriers rows → Merged hart n end (c ∷ carriers) rows
  row :
      {n end : ℕ} {p : Pending} {carriers : List Carrier} {rows : List Pending} →
      p.row.id ≡ record { hart = hart; seq = n } → Merged hart (n + 1) end carriers rows →
      Merged hart n end carriers (p ∷ rows)

-- the rows of the hart that were not given are the carriers that were not, and the rows that wait
pub record HasNumbers (h : WaitingHart) : Type 0 where
  pub steps : List Step
  pub trace : IsTraceOf steps h.rows.trace
  pub few : h.carriers ≤ length h.rows.trace.carriers
  pub merged : Merged h.rows.hart h.given h.rows.trace.rows (drop h.carriers h.rows.trace.carriers) h.queue.items

-- the row is that of the next carrier, which has the hart's next number
pub record IsCarrierNext (h : WaitingHart) (event : Event) : Type 0 where
  pub carrier : Carrier
  pub is : drop h.carriers h.rows.trace.carriers ≡ carrier ∷ drop (h.carriers + 1) h.rows.trace.carriers
  pub number : carrier.number ≡ h.given
  pub id : event.id ≡ record { hart = h.rows.hart; seq = h.given }
  pub fields : IsCarrierFields h.rows.hart h.given event
  pub row : IsRowOf carrier event

-- exactly where there is one
abbrev pub IsNextCarrier : WaitingHart → Option Event → Type 0
IsNextCarrier h (Some event) = IsCarrierNext h event
IsNextCarrier h None =
    (c : Carrier) (rest : List Carrier) → drop h.carriers h.rows.trace.carriers ≡ c ∷ rest → c.number ≢ h.given

-- the row is that of the next carrier, or the first that waited, with its versions
abbrev pub IsGiven : List Issued → List Performed → Option ℕ → WaitingHart → WaitingHart → Event → Type 0
IsGiven issued performed initial old new event =
    (IsCarrierNext old event × (new.queue.items ≡ old.queue.items)) ⊎
    IsFirst issued performed initial old.queue.items new.queue.items event
