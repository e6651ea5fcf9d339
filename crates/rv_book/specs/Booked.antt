-- A log with an order that is lawful for it, and what an offer tells.
use Rattle.std.specs.Prelude.{Bool, ◌≡◌, ◌++◌, List, [], ◌∷◌, Option, Some, None}
use Rattle.rv_event.specs.Log.{events}
use Rattle.rv_event.specs.Orders.{Lawful}
use Rattle.rv_event.specs.Faults.{fault_of}
use Rattle.rv_event.specs.WellFormed.{WellFormed}
use Rattle.rv_event.specs.declared.event.Id.{Id}
use Rattle.rv_event.specs.declared.event.Entry.{Entry}
use Rattle.rv_event.specs.declared.memory_model.MemoryModel.{MemoryModel}
use Rattle.rv_cert.specs.Certificates.{Certifies}
use Rattle.rv_cert.specs.Refusals.{FaultyLog, Refusal}
use Rattle.rv_cert.specs.declared.verdict.Verdict.{Verdict}
use Rattle.rv_cert.specs.declared.verdict.Verdict.TheVariants as verdict
use Rattle.rv_edges.specs.Kept.{happened}
use Rattle.rv_book.specs.Arranged.{Arranged, IsOwn, order_of}

-- what contracts see of a book
pub record Booked : Type 0 where
  pub model : MemoryModel
  pub log : List Entry
  pub order : List Id
  pub stopped : Bool

abbrev pub booked_of : List Entry → Arranged → Bool → Booked
booked_of log v stopped = record { model = v.model; log = log; order = order_of v.ranks v.ids; stopped = stopped }

-- the log is well formed, the arrangement is of its events, and its order is lawful
pub record IsBooked (log : List Entry) (v : Arranged) : Type 0 where
  pub well_formed : WellFormed log
  pub same : happened v.history ≡ events log
  pub lawful : Lawful v.model (events log) (order_of v.ranks v.ids)

-- some order is lawful for the entries
abbrev pub SomeLawful : MemoryModel → List Entry → Type 0
SomeLawful model log = (order : List Id) × Lawful model (events log) order

-- the entry has this fault over the log, which with the entry is the evidence
pub record IsMalformedOn (model : MemoryModel) (log : List Entry) (x : Entry) (m : FaultyLog) : Type 0 where
  pub judged_by : m.model ≡ model
  pub evidence : m.evidence ≡ log ++ x ∷ []
  pub fault : fault_of log x ≡ Some m.fault

-- The entry has no fault, and no order is lawful for the log followed by it, which is the evidence.
-- The certificate is the entry's own: a circle that begins with its event and names none twice, or
-- a stale pair with it as the load.
pub record IsForbiddenOn (model : MemoryModel) (log : List Entry) (x : Entry) (f : Refusal) : Type 0 where
  pub judged_by : f.model ≡ model
  pub evidence : f.evidence ≡ log ++ x ∷ []
  pub sound : fault_of log x ≡ None
  pub certified : Certifies model (events (log ++ x ∷ [])) f.certificate
  pub own : IsOwn x.event f.certificate
  pub none : SomeLawful model (log ++ x ∷ []) → ⊥

-- the log has grown by this entry alone, which has no fault, and some order is lawful for it
pub record IsTaken (old new : Booked) (x : Entry) : Type 0 where
  pub model : new.model ≡ old.model
  pub stopped : new.stopped ≡ old.stopped
  pub sound : fault_of old.log x ≡ None
  pub log : new.log ≡ old.log ++ x ∷ []
  pub lawful : SomeLawful old.model (old.log ++ x ∷ [])

-- what a verdict tells of a log and an entry
abbrev pub IsVerdictOn : MemoryModel → List Entry → Entry → Verdict → Type 0
IsVerdictOn model log x (verdict.Malformed m) = IsMalformedOn model log x m
IsVerdictOn model log x (verdict.Forbidden f) = IsForbiddenOn model log x f

-- what a judgement tells of the book before and after
abbrev pub IsJudged : Booked → Booked → Entry → Option Verdict → Type 0
IsJudged old new x None = IsTaken old new x
IsJudged old new x (Some v) = (new ≡ old) × IsVerdictOn old.model old.log x v
