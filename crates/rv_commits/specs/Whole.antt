-- The rows of a hart over all of its instructions.
use Rattle.std.specs.Prelude.{ℕ, ◌≡◌, ◌++◌, ◌∷◌, [], List, Option}
use Rattle.rv_event.specs.declared.event.Event.{Event}
use Rattle.rv_flow.specs.Traces.{IsTraceOf, Traced}
use Rattle.rv_flow.specs.declared.carrier.Carrier.{Carrier}
use Rattle.rv_log.specs.declared.record.Performed.{Performed}
use Rattle.rv_log.specs.declared.record.Retired.{Retired}
use Rattle.rv_values.specs.declared.issues.Issued.{Issued}
use Rattle.rv_commits.specs.Harts.{IsAdded, IsCarrierFields}
use Rattle.rv_commits.specs.Owns.{IsLastStore}
use Rattle.rv_commits.specs.Queues.{IsGiven, IsRetired, pendings}
use Rattle.rv_commits.specs.Rows.{IsRowOf}
use Rattle.rv_commits.specs.Settled.{IsSettled, waiting_by}
use Rattle.rv_commits.specs.declared.hart.NewRows.{NewRows}
use Rattle.rv_commits.specs.declared.pending.Pending.{Pending}
use Rattle.rv_commits.specs.declared.queue.WaitingHart.{WaitingHart}

-- what the instructions add to the rows of the hart, one after the other; carriers are in the trace
pub data AreAdded (hart : ℕ) : List Retired → Traced → List Pending → Type 0 where
  none : {start : Traced} → IsTraceOf [] start → AreAdded hart [] start []
  next : {done : List Retired} {old new : Traced} {all : List Pending} (r : Retired) (word_number log_row : ℕ)
      (added : NewRows) (own : Option ℕ) → AreAdded hart done old all → IsAdded hart r word_number old new added →
      IsLastStore done r.address own →
      AreAdded hart (done ++ r ∷ []) new (all ++ pendings added (waiting_by r own log_row))

-- the rows that were given: carriers, and those that waited, each with the versions that the log tells
pub data AreGiven (issued : List Issued) (performed : List Performed) (hart : ℕ) :
    List Pending → List Event → Type 0 where
  nothing : AreGiven issued performed hart [] []
  carrier : {passed : List Pending} {given : List Event} {event : Event} {c : Carrier} →
      AreGiven issued performed hart passed given → IsCarrierFields hart c.number event → IsRowOf c event →
      AreGiven issued performed hart passed (given ++ event ∷ [])
  row : {passed : List Pending} {given : List Event} {event : Event} {first settled : Pending} {initial : Option ℕ} →
      AreGiven issued performed hart passed given → IsSettled issued performed initial first settled →
      event ≡ settled.row → AreGiven issued performed hart (passed ++ first ∷ []) (given ++ event ∷ [])

-- The rows that the hart's instructions add are those that were given and those that wait, in this order.
pub record AreWhole (issued : List Issued) (performed : List Performed) (done : List Retired) (given : List Event)
    (h : WaitingHart) : Type 0 where
  pub passed : List Pending
  pub added : AreAdded h.rows.hart done h.rows.trace (passed ++ h.queue.items)
  pub are : AreGiven issued performed h.rows.hart passed given

-- a new hart has all its rows; each instruction that it takes, and each row that it gives, leaves that so
abbrev pub RowsAreWhole : Type 0
RowsAreWhole =
    (issued : List Issued) (performed : List Performed) →
    ((h : WaitingHart) → IsTraceOf [] h.rows.trace → h.queue.items ≡ [] → AreWhole issued performed [] [] h) ×
    ((done : List Retired) (given : List Event) (old new : WaitingHart) → AreWhole issued performed done given old →
    ((r : Retired) (word_number log_row : ℕ) → new.rows.hart ≡ old.rows.hart →
    IsRetired done r word_number log_row old new → AreWhole issued performed (done ++ r ∷ []) given new) ×
    ((initial : Option ℕ) (event : Event) → new.rows ≡ old.rows → IsGiven issued performed initial old new event →
    AreWhole issued performed done (given ++ event ∷ []) new))
