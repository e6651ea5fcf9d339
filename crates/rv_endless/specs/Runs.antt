-- Runs of any length, and the logs for which they stand. These are this project's own.
use Rattle.std.specs.Prelude.{⊤, ℕ, ◌≡◌, ◌≢◌, ◌≤◌, ◌<◌, ◌+◌, ◌↔◌, ◌++◌, ◌∷◌, [], All, Bool}
use Rattle.std.specs.Prelude.{Contains, IsFalse, IsTrue}
use Rattle.std.specs.Prelude.{List, None, Some, length, slice_index_or}
use Rattle.rv_book.specs.Booked.{IsForbiddenOn, SomeLawful}
use Rattle.rv_cut.specs.Cuts.{first_of}
use Rattle.rv_event.specs.Edges.{IsEdge}
use Rattle.rv_event.specs.Faults.{fault_within}
use Rattle.rv_event.specs.Log.{events, of_hart}
use Rattle.rv_event.specs.Orders.{Lawful}
use Rattle.rv_event.specs.WellFormed.{WellFormedWithin}
use Rattle.rv_event.specs.declared.event.Entry.{Entry}
use Rattle.rv_event.specs.declared.event.Event.{Event}
use Rattle.rv_event.specs.declared.event.Id.{Id}
use Rattle.rv_event.specs.declared.event.Op.TheVariants.{Carrier, Sc}
use Rattle.rv_event.specs.declared.fault.Fault.{Fault}
use Rattle.rv_event.specs.declared.fault.Fault.TheVariants.{Dependency, OtherSource, Sequence}
use Rattle.rv_event.specs.declared.fault.Fault.TheVariants.{TooManyDeps, VersionTaken}
use Rattle.rv_past.specs.Before.{version_by}
use Rattle.rv_past.specs.Facts.{AreFacts}
use Rattle.rv_past.specs.declared.edge.PastEdge.{PastEdge}
use Rattle.rv_past.specs.declared.facts.Misfit.{Misfit}
use Rattle.rv_past.specs.declared.facts.Misfit.TheVariants as misfit
use Rattle.rv_past.specs.declared.facts.Misfit.TheVariants.{Depends}
use Rattle.rv_past.specs.Gone.{AreGone}
use Rattle.rv_settle.specs.Cuts.{IsCut}
use Rattle.rv_settle.specs.Windows.{IsBelow, KeepsFew, KeepsPairs, renumbered, window}
use Rattle.rv_cut.specs.Exclusives.{IsLastExclusive}
use Rattle.rv_endless.specs.Exclusives.{AreLast}
use Rattle.rv_endless.specs.declared.exclusives.Exclusive.{Exclusive}
use Rattle.rv_endless.specs.declared.answer.Answer.{Answer}
use Rattle.rv_endless.specs.declared.answer.Answer.TheVariants as answer
use Rattle.rv_endless.specs.declared.answer.Answer.TheVariants.{Accepted, BeforePast, Forbidden}
use Rattle.rv_endless.specs.declared.answer.Answer.TheVariants.{Malformed, NoMemory}
use Rattle.rv_endless.specs.declared.answer.Answer.TheVariants.{Stopped, Taken}
use Rattle.rv_endless.specs.declared.answer.Beyond.{Beyond}
use Rattle.rv_endless.specs.declared.answer.Beyond.TheVariants as why
use Rattle.rv_endless.specs.declared.answer.Beyond.TheVariants.{Inactive, LastNumber, LrForgotten, WindowFull}
use Rattle.rv_endless.specs.declared.run.Endless.{Endless}

-- how many events of a hart a log may have: as many as there are numbers of 32 bits
abbrev pub limit : ℕ
limit = 4294967296

-- the entry was forgotten: its number is below the first of its hart that is kept
abbrev pub IsForgotten : List ℕ → Entry → Type 0
IsForgotten firsts y = y.event.id.seq < first_of firsts y.event.id.hart

-- the entry without its dependencies: what is known of the past has none
abbrev pub bare : Entry → Entry
bare y = record y { event = record y.event { deps = [] } }

-- the entry is one of the log that was forgotten, without its dependencies
abbrev pub IsForgottenOf : List ℕ → List Entry → Entry → Type 0
IsForgottenOf firsts log y = (z : Entry) × Contains log z × IsForgotten firsts z × (bare z ≡ y)

-- these are the entries of the log that were forgotten, and what is known of them
pub record AreForgotten (run : Endless) (log gone : List Entry) : Type 0 where
  pub each : (y : Entry) → Contains gone y ↔ IsForgottenOf run.firsts log y
  pub past : AreGone (events gone) run.past
  pub facts : AreFacts gone run.facts
  pub exclusives : AreLast (events gone) run.exclusives

-- the events that were forgotten are the past of a cut of the log
pub record AreCut (run : Endless) (log : List Entry) : Type 0 where
  pub past : Event → Bool
  pub below : IsBelow (events log) past (first_of run.firsts)
  pub cut : IsCut run.book.model (events log) run.active.items past

-- The run goes on, and stands for the log: the log is well formed, no event is a carrier, and some order
-- is lawful for it; the window is that of the log, the counts are those of its harts; what was forgotten
-- is the past of a cut, and is known; an SC that is kept is paired with an LR that is kept; and no hart
-- keeps more than 4,096 events.
pub record StandsFor (run : Endless) (log : List Entry) : Type 0 where
  pub going : IsFalse run.stopped
  pub book_going : IsFalse run.book.stopped
  pub formed : WellFormedWithin limit log
  pub plain : All (λ m. m.op ≢ Carrier) (events log)
  pub lawful : (order : List Id) × Lawful run.book.model (events log) order
  pub window_is : run.book.log ≡ window (first_of run.firsts) log
  pub harts : length run.counts ≡ 16
  pub counts_are : (hart : ℕ) → slice_index_or run.counts hart 0 ≡ length (of_hart hart (events log))
  pub numbers : (hart : ℕ) → length (of_hart hart (events log)) < limit
  pub within : (hart : ℕ) → first_of run.firsts hart ≤ length (of_hart hart (events log))
  pub few : KeepsFew (first_of run.firsts) (events log)
  pub pairs : KeepsPairs (first_of run.firsts) (events log)
  pub cut : AreCut run log
  pub gone : (gone : List Entry) × AreForgotten run log gone

-- the fault's number, where it has one, is one of 32 bits
abbrev pub HasNumber : Fault → Type 0
HasNumber (Sequence n) = n < limit
HasNumber (VersionTaken i) = i.seq < limit
HasNumber f = ⊤

-- the number of the fault of an entry that doesn't fit what was forgotten
abbrev pub misfit_number : Misfit → ℕ
misfit_number Depends = 3
misfit_number misfit.Taken = 5
misfit_number misfit.OtherSource = 8
misfit_number misfit.TooManyDeps = 9

-- and how it is answered
abbrev pub misfit_answer : Misfit → Answer
misfit_answer Depends = Malformed Dependency
misfit_answer misfit.Taken = Taken
misfit_answer misfit.OtherSource = Malformed OtherSource
misfit_answer misfit.TooManyDeps = Malformed TooManyDeps

-- the entry, as the window has it
abbrev pub in_window : Endless → Entry → Entry
in_window run x = record x { event = renumbered (first_of run.firsts) x.event }

-- a store that was forgotten wrote the version that the entry's event writes, and no fault before that holds
pub record IsTakenBefore (run : Endless) (log : List Entry) (x : Entry) : Type 0 where
  pub store : Entry
  pub of_log : Contains log store
  pub forgotten : IsForgotten run.firsts store
  pub fault : fault_within limit log x ≡ Some (VersionTaken store.event.id)

-- the entry has no fault, and no order is lawful for the log followed by it
pub record IsForbidden (run : Endless) (log : List Entry) (x : Entry) : Type 0 where
  pub sound : fault_within limit log x ≡ None
  pub none : SomeLawful run.book.model (log ++ x ∷ []) → ⊥

-- an edge leads from the entry's event, for this reason, to an event that was forgotten, which has the word
-- and the version
pub record IsEdgeIntoPast (run : Endless) (log : List Entry) (x : Entry) (edge : PastEdge) : Type 0 where
  pub past : Event
  pub of_log : Contains (events log) past
  pub forgotten : past.id.seq < first_of run.firsts past.id.hart
  pub leads : IsEdge run.book.model (events (log ++ x ∷ [])) x.event.id edge.reason past.id
  pub word : past.word ≡ edge.word
  pub version : version_by edge.reason past ≡ edge.version

-- what was forgotten leaves the hart with a reservation, and the window has no LR, SC or failed SC of it
pub record HasLrForgotten (run : Endless) (hart : ℕ) : Type 0 where
  pub last : Exclusive
  pub known : slice_index_or run.exclusives hart None ≡ Some last
  pub lr : IsTrue last.is_lr
  pub none : IsLastExclusive (events run.book.log) hart None

-- its number is the next one of its hart
abbrev pub IsNumbered : Endless → Entry → Type 0
IsNumbered run x = x.event.id.seq ≡ slice_index_or run.counts x.event.id.hart 0

-- why an entry of one of the 16 harts can't be judged
abbrev pub IsBeyond : Endless → Entry → Beyond → Type 0
IsBeyond run x Inactive = Contains run.active.items x.event.id.hart → ⊥
IsBeyond run x why.Carrier = x.event.op ≡ Carrier
IsBeyond run x WindowFull =
    first_of run.firsts x.event.id.hart + 4096 ≤ slice_index_or run.counts x.event.id.hart 0
IsBeyond run x LastNumber = slice_index_or run.counts x.event.id.hart 0 ≡ 4294967295
IsBeyond run x LrForgotten = (x.event.op ≡ Sc) × IsNumbered run x × HasLrForgotten run x.event.id.hart

-- it can be: its hart is active, it is no carrier, there is room for it, and it is not the hart's next
-- event and an SC whose LR was forgotten
pub record IsWithin (run : Endless) (x : Entry) : Type 0 where
  pub active : Contains run.active.items x.event.id.hart
  pub plain : x.event.op ≢ Carrier
  pub room : slice_index_or run.counts x.event.id.hart 0 < first_of run.firsts x.event.id.hart + 4096
  pub numbers : slice_index_or run.counts x.event.id.hart 0 < 4294967295
  pub pair : x.event.op ≡ Sc → IsNumbered run x → HasLrForgotten run x.event.id.hart → ⊥

-- and its number is the next one of its hart
pub record IsNext (run : Endless) (x : Entry) : Type 0 where
  pub hart : x.event.id.hart < 16
  pub within : IsWithin run x
  pub seq : IsNumbered run x

-- the run has stopped, and its window is as it was
abbrev pub HasStopped : Endless → Endless → Type 0
HasStopped old new = IsTrue new.stopped × (new.book.log ≡ old.book.log)

-- the memory model, the active harts and the first numbers of the window stay as they are
pub record KeepsSettings (old new : Endless) : Type 0 where
  pub model : new.book.model ≡ old.book.model
  pub active : new.active ≡ old.active
  pub firsts : new.firsts ≡ old.firsts

-- what an answer tells of a log for which the run stood before
abbrev pub IsAnswered : Endless → Endless → List Entry → Entry → Answer → Type 0
IsAnswered old new log x Accepted = (fault_within limit log x ≡ None) × StandsFor new (log ++ x ∷ [])
IsAnswered old new log x (Malformed f) = (fault_within limit log x ≡ Some f) × HasStopped old new
IsAnswered old new log x Taken = IsTakenBefore old log x × HasStopped old new
IsAnswered old new log x (Forbidden f) =
    IsForbidden old log x × IsForbiddenOn old.book.model old.book.log (in_window old x) f × HasStopped old new
IsAnswered old new log x (BeforePast edge) =
    IsForbidden old log x × IsEdgeIntoPast old log x edge × HasStopped old new
IsAnswered old new log x (answer.Beyond b) = (x.event.id.hart < 16) × IsBeyond old x b × (new ≡ old)
IsAnswered old new log x Stopped = ⊥
IsAnswered old new log x NoMemory = new ≡ old
