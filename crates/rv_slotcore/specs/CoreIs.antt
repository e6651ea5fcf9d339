-- What state of the machine the core's code is in. A seat's records have the first at the front in
-- the code, and the latest at the front in the machine.
use Rattle.std.specs.Prelude.{◌≡◌, ◌<◌, ◌≤◌, ◌/◌, ◌^◌, ℕ, ◌==◌, ◌&&◌, nat_lt, List, [], map}
use Rattle.std.specs.Prelude.{slice_index_or, reverse, vec_len, vec_items}
use Rattle.std.specs.Int.{bit_at}
use Rattle.rv_slotcore.specs.Places.{seats_at_most, claimed_bit, full_bit, done_bit, generation_bit}
use Rattle.rv_slotcore.specs.Machine.{blank_slot}
use Rattle.rv_slotcore.specs.Machine as machine
use Rattle.rv_slotcore.specs.declared.step.Step.{Step}
use Rattle.rv_slotcore.specs.declared.step.Act.{Act}
use Rattle.rv_slotcore.specs.declared.step.Act.TheVariants.{Claim, Put, Publish, Pin, Get, Done}
use Rattle.rv_slotcore.specs.declared.step.Act.TheVariants.{Unpin, Free}
use Rattle.rv_slotcore.specs.declared.step.Answer as coded
use Rattle.rv_slotcore.specs.declared.parts.SlotState.{SlotState}
use Rattle.rv_slotcore.specs.declared.parts.SeatState as states
use Rattle.rv_slotcore.specs.declared.parts.Record.{Record}
use Rattle.rv_slotcore.specs.declared.parts.SeatEntry.{SeatEntry}
use Rattle.rv_slotcore.specs.declared.parts.Parts.{Parts}

-- ---- acts, answers, states and records of the code as the machine's
abbrev pub act_of : Act → machine.Act
act_of (Claim i) = machine.Claim i
act_of (Put j w) = machine.Put j w
act_of Publish = machine.Publish
act_of (Pin i) = machine.Pin i
act_of (Get j) = machine.Get j
act_of Done = machine.Done
act_of Unpin = machine.Unpin
act_of (Free i w) = machine.Free i w

abbrev pub step_of : Step → machine.Step
step_of e = record { seat = e.seat; act = act_of e.act }

abbrev pub answer_of : coded.Answer → machine.Answer
answer_of coded.TheVariants.Filling = machine.Fills
answer_of coded.TheVariants.Busy = machine.Busy
answer_of coded.TheVariants.Stored = machine.Stored
answer_of coded.TheVariants.Published = machine.Published
answer_of coded.TheVariants.Pinned = machine.Pins
answer_of coded.TheVariants.Stray = machine.Strays
answer_of (coded.TheVariants.Word w) = machine.Word w
answer_of coded.TheVariants.Finished = machine.Finished
answer_of (coded.TheVariants.Unpinned w) = machine.Unpinned w
answer_of coded.TheVariants.Freed = machine.Freed
answer_of coded.TheVariants.Held = machine.Held
answer_of coded.TheVariants.Worn = machine.Worn
answer_of coded.TheVariants.Unfit = machine.Unfit

abbrev pub state_of : states.SeatState → machine.SeatState
state_of states.TheVariants.Idle = machine.Idle
state_of (states.TheVariants.Filling i p) = machine.Filling i p
state_of (states.TheVariants.Pinned i g w) = machine.Pinned i g w
state_of (states.TheVariants.Stray i) = machine.Stray i

abbrev pub record_of : Record → machine.Record
record_of r = record { slot = r.slot; generation = r.generation; content = r.content }

-- a state word read by its bits
abbrev pub slot_read : ℕ → List ℕ → machine.Slot
slot_read w content = record {
  generation = w / 2 ^ generation_bit;
  claimed = bit_at w claimed_bit == 1;
  full = bit_at w full_bit == 1;
  done = bit_at w done_bit == 1;
  pins = λ s. nat_lt s seats_at_most && (bit_at w s == 1);
  content = content;
}

abbrev pub slot_of : SlotState → machine.Slot
slot_of x = slot_read x.word x.content

abbrev pub seat_of : SeatEntry → machine.Seat
seat_of q = record {
  state = state_of q.state;
  records = reverse (map record_of (vec_items q.records));
}

abbrev pub idle_seat : machine.Seat
idle_seat = record { state = machine.Idle; records = [] }

-- the machine's state
abbrev pub core_of : Parts → machine.Core
core_of h = record {
  slot_count = vec_len h.slots;
  seat_count = vec_len h.seats;
  slots = λ i. slice_index_or (map slot_of (vec_items h.slots)) i blank_slot;
  seats = λ s. slice_index_or (map seat_of (vec_items h.seats)) s idle_seat;
}

-- the code went where the machine goes, with its answer
pub record Went (h : Parts) (answer : coded.Answer) (m : machine.Moved) : Type 0 where
  pub core : core_of h ≡ m.0
  pub same : answer_of answer ≡ m.1

-- the slot that a seat's state names is one of the table
abbrev pub names_slot_below : ℕ → machine.SeatState → Type 0
names_slot_below n machine.Idle = Unit {0}
names_slot_below n (machine.Filling i p) = i < n
names_slot_below n (machine.Pinned i g w) = i < n
names_slot_below n (machine.Stray i) = i < n

abbrev pub IsHeld : Parts → ℕ → Type 0
IsHeld h s = names_slot_below (vec_len h.slots) ((core_of h).seats s).state

abbrev pub AllHeld : Parts → Type 0
AllHeld h = (s : ℕ) → IsHeld h s

-- there is a pin for each seat, and each state names a slot of the table
pub record IsWhole (h : Parts) : Type 0 where
  pub few : vec_len h.seats ≤ seats_at_most
  pub held : AllHeld h
