-- What is kept of a hart.
use Rattle.std.specs.Prelude.{◌≡◌, Contains, List, Option, Some, None, length}
use Rattle.rv_event.specs.Log.{of_hart}
use Rattle.rv_event.specs.Operations.{IsMemory}
use Rattle.rv_event.specs.Relations.{Paired}
use Rattle.rv_event.specs.Edges.{IsStale}
use Rattle.rv_event.specs.declared.event.Id.{Id}
use Rattle.rv_event.specs.declared.event.Event.{Event}
use Rattle.rv_hart.specs.Harts.{Hart, Follows, IsHart, IsReturned, followed}
use Rattle.rv_hart.specs.Places.{places_of}
use Rattle.rv_hart.specs.Rows.{RowsMean}
use Rattle.rv_hart.specs.Sets.{AreCarriedRows, AreSets}
use Rattle.rv_hart.specs.Words.{AreWords}
use Rattle.rv_hart.specs.declared.hart.HartOrder.{HartOrder}
use Rattle.rv_hart.specs.declared.kept.Kept.{Kept}
use Rattle.rv_hart.specs.declared.next.Next.{Next}

-- the hart of which it is kept, with these events
abbrev pub hart_of : List Event → Kept → Hart
hart_of events k = record { model = k.model; number = k.number; events = events }

-- rows, sets and words are those of the hart's events
pub record IsKept (events : List Event) (k : Kept) : Type 0 where
  pub hart : IsHart (hart_of events k)
  pub rows : RowsMean (hart_of events k) k.rows
  pub count : length k.rows ≡ length events
  pub carried : AreCarriedRows events k.carried
  pub carried_count : length k.carried ≡ length events
  pub sets : AreSets (hart_of events k) k.sets
  pub words : AreWords events k.words

-- the hart as the log has it
abbrev pub hart_of_log : List Event → HartOrder → Hart
hart_of_log log h = hart_of (of_hart h.kept.number log) h.kept

-- places are those of the hart's events in the log, and the rest is kept of these
pub record IsHartOf (log : List Event) (h : HartOrder) : Type 0 where
  pub places : h.places.items ≡ places_of h.kept.number log
  pub kept : IsKept (of_hart h.kept.number log) h.kept

-- the hart of a next event
abbrev pub hart_at : Next → Hart
hart_at n = hart_of n.events n.kept.now

-- the event may follow, and returns this own store
pub record IsNext (n : Next) : Type 0 where
  pub kept : IsKept n.events n.kept.now
  pub follows : Follows (hart_at n) n.event.now
  pub returned : IsReturned (hart_at n) n.event.now n.returned

-- and it is a memory operation
pub record IsAsked (n : Next) : Type 0 where
  pub next : IsNext n
  pub memory : IsMemory n.event.now

-- the LR of the hart with which the event is paired, exactly where there is one
abbrev pub IsPartner : Hart → Event → Option Event → Type 0
IsPartner h e (Some lr) = Contains h.events lr × Paired (followed h e) lr e
IsPartner h e None = (lr : Event) → Contains h.events lr → Paired (followed h e) lr e → ⊥

-- an own earlier store of the event's word, of a higher version than the event, a load, returned,
-- exactly where there is one
abbrev pub IsStaleBy : Hart → Event → Option Id → Type 0
IsStaleBy h e (Some s) = IsStale (followed h e) e.id s
IsStaleBy h e None = (s : Id) → IsStale (followed h e) e.id s → ⊥
