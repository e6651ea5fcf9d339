-- What an offered chunk tells.
use Rattle.std.specs.Prelude.{ℕ, ◌+◌, ◌-◌, ◌*◌, ◌<◌, ◌≤◌, ◌≡◌, ◌↔◌, ◌++◌, List, [], ◌∷◌, length, map, take, drop}
use Rattle.std.specs.Prelude.{IsTrue, IsFalse}
use Rattle.rv_event.specs.Log.{events}
use Rattle.rv_event.specs.Merges.{from_source}
use Rattle.rv_event.specs.declared.event.Event.{Event}
use Rattle.rv_event.specs.declared.event.Entry.{Entry}
use Rattle.rv_chunk.specs.Packing.{Content}
use Rattle.rv_cert.specs.declared.verdict.Verdict.{Verdict}
use Rattle.rv_book.specs.Booked.{Booked, IsVerdictOn}
use Rattle.rv_book.specs.ChunkOffers.{IfApplied, IfHalted, OnNoMemory, IfNotYet, OnAlready, OnOffered, OnPassed}
use Rattle.rv_book.specs.declared.book.ChunkOffer.{ChunkOffer}
use Rattle.rv_book.specs.declared.book.ChunkOffer.TheVariants.{Applied, NotYet, Already, Halted, Stopped, NoMemory}

-- the events that a source has given to a log, in order, and how many they are
abbrev pub given_by : ℕ → List Entry → List Event
given_by source log = events (from_source source log)

abbrev pub count_of_source : List Entry → ℕ → ℕ
count_of_source log source = length (given_by source log)

-- events as entries of a source
abbrev pub entries_of : ℕ → List Event → List Entry
entries_of source = map (λ e. record { source = source; event = e })

-- the log has grown by so many of the events, as entries of the source
pub record HasTaken (old new : Booked) (source : ℕ) (events : List Event) (count : ℕ) : Type 0 where
  pub model : new.model ≡ old.model
  pub log : new.log ≡ old.log ++ entries_of source (take count events)

-- the first of the events were taken, and there is a next one
pub record StopsAt (old new : Booked) (source : ℕ) (events : List Event) (count : ℕ) (next : Event) : Type 0 where
  pub taken : HasTaken old new source events count
  pub within : count < length events
  pub follows : take (count + 1) events ≡ take count events ++ next ∷ []

-- all of the events were taken, and the book goes on
abbrev pub TakesAll : Booked → Booked → ℕ → List Event → ℕ → Type 0
TakesAll old new source events count =
    IsFalse new.stopped × (count ≡ length events) × HasTaken old new source events count

-- the book stopped at one of them, with this verdict
abbrev pub HaltsWith : Booked → Booked → ℕ → List Event → Verdict → Type 0
HaltsWith old new source events v =
    IsTrue new.stopped × ((count : ℕ) × (next : Event) × StopsAt old new source events count next
    × IsVerdictOn new.model new.log (record { source = source; event = next }) v)

-- memory ran out at one of them, and the book goes on
abbrev pub RunsOut : Booked → Booked → ℕ → List Event → Type 0
RunsOut old new source events =
    IsFalse new.stopped × ((count : ℕ) × (next : Event) × StopsAt old new source events count next)

-- the place in its source of a chunk's first event
abbrev pub first_of : Content → ℕ
first_of chunk = 8 * chunk.number

-- the chunk's events from the first one that its source has not given
abbrev pub rest_of : ℕ → Content → List Event
rest_of count chunk = drop (count - first_of chunk) chunk.events

-- those of a log
abbrev pub rest_for : List Entry → Content → List Event
rest_for log chunk = rest_of (count_of_source log chunk.source) chunk

-- the source's entries end in the chunk, and it is its turn
abbrev pub IsTurn : ℕ → Content → Type 0
IsTurn count chunk = (first_of chunk ≤ count) × (count < first_of chunk + length chunk.events)

-- what an answer to a chunk tells of the book before and after
pub record IsChunkOffered (old new : Booked) (chunk : Content) (answer : ChunkOffer) : Type 0 where
  pub turn : OnOffered answer (IsTurn (count_of_source old.log chunk.source) chunk)
  pub applied : IfApplied answer (TakesAll old new chunk.source (rest_for old.log chunk))
  pub halted : IfHalted answer (HaltsWith old new chunk.source (rest_for old.log chunk))
  pub no_memory : OnNoMemory answer (RunsOut old new chunk.source (rest_for old.log chunk))
  pub not_yet : IfNotYet answer (λ count. (count ≡ count_of_source old.log chunk.source) × (count < first_of chunk))
  pub already : OnAlready answer (first_of chunk + length chunk.events ≤ count_of_source old.log chunk.source)
  pub stopped : (answer ≡ Stopped) ↔ IsTrue old.stopped
  pub passed : OnPassed answer (new ≡ old)

-- the first list is the beginning of the second
abbrev pub IsPrefix : List Event → List Event → Type 0
IsPrefix first all = (rest : List Event) × (all ≡ first ++ rest)

-- the chunk holds the events of a list from the chunk's place on
abbrev pub IsChunkOf : Content → List Event → Type 0
IsChunkOf chunk all =
    (before after : List Event) × (length before ≡ first_of chunk) × (all ≡ before ++ chunk.events ++ after)

-- how many more events of the chunk are in the log, as far as the answer tells
abbrev pub IsApplied : ChunkOffer → ℕ → Type 0
IsApplied (Applied n) more = more ≡ n
IsApplied (Halted v) more = Unit {0}
IsApplied NoMemory more = Unit {0}
IsApplied (NotYet c) more = more ≡ 0
IsApplied Already more = more ≡ 0
IsApplied Stopped more = more ≡ 0

-- a source's entries stay the beginning of its list, and are longer by what was applied
pub record IsContinued (old new : Booked) (chunk : Content) (all : List Event) (answer : ChunkOffer) : Type 0 where
  pub prefix : IsPrefix (given_by chunk.source new.log) all
  pub more : ℕ
  pub longer : count_of_source new.log chunk.source ≡ count_of_source old.log chunk.source + more
  pub applied : IsApplied answer more

-- chunks of a list, offered in whatever order, give the log the beginning of that list
abbrev pub ChunksContinue : Type 0
ChunksContinue =
    (old new : Booked) (chunk : Content) (all : List Event) (answer : ChunkOffer) →
    IsChunkOffered old new chunk answer → IsChunkOf chunk all → IsPrefix (given_by chunk.source old.log) all →
    IsContinued old new chunk all answer
