-- Events in the order in which they were recorded: names, program order, and who wrote a version.
-- Program order is that of the manual's section 14.1; that a read names the version it returned,
-- and a store the version it wrote, is how this project records an execution.
use Rattle.std.specs.Prelude.{ℕ, Bool, ◌&&◌, ◌==◌, ◌<◌, ◌≡◌, List, map, filter, find, Option, None, if◌then◌else◌}
use Rattle.rv_event.specs.Operations.{is_store}
use Rattle.rv_event.specs.declared.event.Id.{Id}
use Rattle.rv_event.specs.declared.event.Event.{Event}
use Rattle.rv_event.specs.declared.event.Entry.{Entry}

-- the events of the entries of a log
abbrev pub events : List Entry → List Event
events log = map (λ x. x.event) log

abbrev pub same_id : Id → Id → Bool
same_id i j = (i.hart == j.hart) && (i.seq == j.seq)

-- an id names the first event that has it
abbrev pub named : List Event → Id → Option Event
named log i = find (λ e. same_id i e.id) log

-- the events of a hart, in order
abbrev pub of_hart : ℕ → List Event → List Event
of_hart hart log = filter (λ e. hart == e.id.hart) log

-- whether the event wrote this version of the word
abbrev pub did_write : ℕ → ℕ → Event → Bool
did_write word version e = is_store e.op && ((word == e.word) && (version == e.wrote))

-- the first store that wrote this version of the word; version 0, the initial value, has none
abbrev pub writer : List Event → ℕ → ℕ → Option Event
writer log word version = if version == 0 then None else find (did_write word version) log

-- a is earlier than b in program order
pub record Earlier (a b : Event) : Type 0 where
  pub hart : a.id.hart ≡ b.id.hart
  pub seq : a.id.seq < b.id.seq

-- m stands between a and b in program order, ends not counted
pub record Between (a m b : Event) : Type 0 where
  pub after : Earlier a m
  pub before : Earlier m b
