-- The slot table as a pure machine. A step is a function: a state, a seat and an act give the next
-- state and the answer.
use Rattle.std.specs.Prelude.{ℕ, ◌+◌, ◌*◌, ◌/◌, ◌%◌, ◌^◌, zero, suc, Bool, true}
use Rattle.std.specs.Prelude.{false, not, ◌&&◌, if◌then◌else◌, ◌==◌, nat_lt, List, [], ◌∷◌}
use Rattle.std.specs.Prelude.{slice_index, slice_set, replicate}
use Rattle.std.specs.Prelude.{Option, Some, None}
use Rattle.std.specs.Int.{bit_at}
use Rattle.rv_chunk.specs.Chunks.{is_chunk_text}
use Rattle.rv_slotcore.specs.Places.{seats_at_most, claimed_bit, full_bit, done_bit, generation_bit}
use Rattle.rv_slotcore.specs.Places.{last_generation}

-- a slot: its state word by its parts, and its words
pub record Slot : Type 0 where
  pub generation : ℕ
  pub claimed : Bool
  pub full : Bool
  pub done : Bool
  pub pins : ℕ → Bool
  pub content : List ℕ

-- a filling seat has put some of the words; a pinned seat knows what it has pinned
pub data SeatState : Type 0 where
  Idle : SeatState
  Filling : (slot : ℕ) → (put : List (Option ℕ)) → SeatState
  Pinned : (slot : ℕ) → (generation : ℕ) → (content : List ℕ) → SeatState
  Stray : (slot : ℕ) → SeatState

-- what a seat knows of a fill
pub record Record : Type 0 where
  pub slot : ℕ
  pub generation : ℕ
  pub content : List ℕ

pub record Seat : Type 0 where
  pub state : SeatState
  pub records : List Record

pub record Core : Type 0 where
  pub slot_count : ℕ
  pub seat_count : ℕ
  pub slots : ℕ → Slot
  pub seats : ℕ → Seat

pub data Act : Type 0 where
  Claim : (slot : ℕ) → Act
  Put : (place : ℕ) → (word : ℕ) → Act
  Publish : Act
  Pin : (slot : ℕ) → Act
  Get : (place : ℕ) → Act
  Done : Act
  Unpin : Act
  Free : (slot : ℕ) → (seen : ℕ) → Act

pub data Answer : Type 0 where
  Fills : Answer
  Busy : Answer
  Stored : Answer
  Published : Answer
  Pins : Answer
  Strays : Answer
  Word : ℕ → Answer
  Finished : Answer
  Unpinned : (seen : ℕ) → Answer
  Freed : Answer
  Held : Answer
  Worn : Answer
  Unfit : Answer

abbrev pub flag : Bool → ℕ
flag true = 1
flag false = 0

-- the pins of the seats below k, seat s at bit s
abbrev pub pin_bits : (ℕ → Bool) → ℕ → ℕ
pin_bits pins zero = 0
pin_bits pins (suc k) = flag (pins k) * 2 ^ k + pin_bits pins k

-- the state word of a slot
abbrev pub word_of : Slot → ℕ
word_of x = x.generation * 2 ^ generation_bit +
    ((flag x.done * 4 + (flag x.full * 2 + flag x.claimed)) * 2 ^ claimed_bit
    + pin_bits x.pins seats_at_most)

-- a function with one value changed
abbrev pub put_at : {A : Type 0} → (ℕ → A) → ℕ → A → ℕ → A
put_at f i x k = if k == i then x else f k

abbrev pub no_words : List (Option ℕ)
no_words = replicate 58 None

-- each word is there
abbrev pub all_put : List (Option ℕ) → Bool
all_put [] = true
all_put (None ∷ ws) = false
all_put (Some w ∷ ws) = all_put ws

-- the words that are there, and 0 where there is none
abbrev pub put_words : List (Option ℕ) → List ℕ
put_words [] = []
put_words (None ∷ ws) = 0 ∷ put_words ws
put_words (Some w ∷ ws) = w ∷ put_words ws

abbrev pub blank_slot : Slot
blank_slot = record {
  generation = 0;
  claimed = false;
  full = false;
  done = false;
  pins = λ s. false;
  content = replicate 58 0;
}

-- n slots whose words are all 0, and m idle seats without a record
abbrev pub start : ℕ → ℕ → Core
start n m = record {
  slot_count = n;
  seat_count = m;
  slots = λ i. blank_slot;
  seats = λ s. record { state = Idle; records = [] };
}

abbrev pub with_both : Core → ℕ → Slot → ℕ → Seat → Core
with_both c i x s q = record c { slots = put_at c.slots i x; seats = put_at c.seats s q }

abbrev pub with_seat : Core → ℕ → Seat → Core
with_seat c s q = record c { seats = put_at c.seats s q }

abbrev pub with_slot : Core → ℕ → Slot → Core
with_slot c i x = record c { slots = put_at c.slots i x }

abbrev pub in_state : Seat → SeatState → Seat
in_state q st = record q { state = st }

abbrev pub recorded : Seat → SeatState → Record → Seat
recorded q st r = record { state = st; records = r ∷ q.records }

abbrev pub claimed_slot : Slot → Slot
claimed_slot x = record x { claimed = true }

abbrev pub written_slot : Slot → ℕ → ℕ → Slot
written_slot x j w = record x { content = slice_set x.content j w }

abbrev pub full_slot : Slot → Slot
full_slot x = record x { full = true }

abbrev pub pinned_slot : Slot → ℕ → Bool → Slot
pinned_slot x s b = record x { pins = put_at x.pins s b }

abbrev pub done_slot : Slot → Slot
done_slot x = record x { done = true }

-- the content stays
abbrev pub freed_slot : Slot → Slot
freed_slot x =
    record x { generation = x.generation + 1; claimed = false; full = false; done = false; pins = λ s. false }

-- claimed, full and done, without a pin
abbrev pub is_free_word : ℕ → Bool
is_free_word seen = ((seen % 2 ^ claimed_bit == 0) && (bit_at seen claimed_bit == 1)) &&
    ((bit_at seen full_bit == 1) && (bit_at seen done_bit == 1))

-- ---- a step gives the next state and the answer
abbrev pub Moved : Type 0
Moved = Core × Answer

module _ (c : Core) (s : ℕ) where
  abbrev pub claims : ℕ → SeatState → Bool → Moved
  claims i Idle false = (
    with_both c i (claimed_slot (c.slots i)) s (in_state (c.seats s) (Filling i no_words)),
    Fills,
  )
  claims i Idle true = (c, Busy)
  claims i (Filling k p) b = (c, Unfit)
  claims i (Pinned k g w) b = (c, Unfit)
  claims i (Stray k) b = (c, Unfit)

  abbrev pub puts : ℕ → ℕ → SeatState → Moved
  puts j w Idle = (c, Unfit)
  puts j w (Filling i p) = (
    with_both c i (written_slot (c.slots i) j w) s
        (in_state (c.seats s) (Filling i (slice_set p j (Some w)))),
    Stored,
  )
  puts j w (Pinned k g v) = (c, Unfit)
  puts j w (Stray k) = (c, Unfit)

  abbrev pub publishes_if : ℕ → List (Option ℕ) → Bool → Moved
  publishes_if i p false = (c, Unfit)
  publishes_if i p true = (
    with_both c i (full_slot (c.slots i)) s
        (recorded (c.seats s) Idle
        (record { slot = i; generation = (c.slots i).generation; content = put_words p })),
    Published,
  )

  abbrev pub publishes : SeatState → Moved
  publishes Idle = (c, Unfit)
  publishes (Filling i p) = publishes_if i p (all_put p && is_chunk_text (put_words p))
  publishes (Pinned k g w) = (c, Unfit)
  publishes (Stray k) = (c, Unfit)

  abbrev pub pins_as : ℕ → Bool → Moved
  pins_as i true = (
    with_both c i (pinned_slot (c.slots i) s true) s
        (recorded (c.seats s) (Pinned i (c.slots i).generation (c.slots i).content)
        (record {
          slot = i;
          generation = (c.slots i).generation;
          content = (c.slots i).content;
        })),
    Pins,
  )
  pins_as i false = (
    with_both c i (pinned_slot (c.slots i) s true) s
        (in_state (c.seats s) (Stray i)),
    Strays,
  )

  abbrev pub pins_on : ℕ → SeatState → Moved
  pins_on i Idle = pins_as i ((c.slots i).full && not (c.slots i).done)
  pins_on i (Filling k p) = (c, Unfit)
  pins_on i (Pinned k g w) = (c, Unfit)
  pins_on i (Stray k) = (c, Unfit)

  abbrev pub gets : ℕ → SeatState → Moved
  gets j Idle = (c, Unfit)
  gets j (Filling i p) = (c, Unfit)
  gets j (Pinned i g w) = (c, Word (slice_index (c.slots i).content j))
  gets j (Stray i) = (c, Unfit)

  abbrev pub finishes : SeatState → Moved
  finishes Idle = (c, Unfit)
  finishes (Filling i p) = (c, Unfit)
  finishes (Pinned i g w) = (with_slot c i (done_slot (c.slots i)), Finished)
  finishes (Stray i) = (c, Unfit)

  abbrev pub lets_go : ℕ → Moved
  lets_go i = let x : Slot = pinned_slot (c.slots i) s false in
      (with_both c i x s (in_state (c.seats s) Idle), Unpinned (word_of x))

  abbrev pub unpins : SeatState → Moved
  unpins Idle = (c, Unfit)
  unpins (Filling i p) = (c, Unfit)
  unpins (Pinned i g w) = lets_go i
  unpins (Stray i) = lets_go i

  -- the word seen may be freed, its generation is the last, and it is the slot's word
  abbrev pub frees_if : ℕ → Bool → Bool → Bool → Moved
  frees_if i false last same = (c, Held)
  frees_if i true true same = (c, Worn)
  frees_if i true false false = (c, Held)
  frees_if i true false true = (with_slot c i (freed_slot (c.slots i)), Freed)

  abbrev pub frees : ℕ → ℕ → SeatState → Moved
  frees i seen Idle = frees_if i (is_free_word seen) (seen / 2 ^ generation_bit == last_generation)
      (word_of (c.slots i) == seen)
  frees i seen (Filling k p) = (c, Unfit)
  frees i seen (Pinned k g w) = (c, Unfit)
  frees i seen (Stray k) = (c, Unfit)

  -- where a number is out of range nothing changes
  abbrev pub if_fits : Bool → Moved → Moved
  if_fits true m = m
  if_fits false m = (c, Unfit)

  abbrev pub has_seat : Bool
  has_seat = nat_lt s c.seat_count

  abbrev pub has_slot : ℕ → Bool
  has_slot i = nat_lt i c.slot_count

  abbrev pub moves : Act → Moved
  moves (Claim i) = if_fits (has_seat && has_slot i)
      (claims i (c.seats s).state (c.slots i).claimed)
  moves (Put j w) = if_fits (has_seat && nat_lt j 58) (puts j w (c.seats s).state)
  moves Publish = if_fits has_seat (publishes (c.seats s).state)
  moves (Pin i) = if_fits (has_seat && has_slot i) (pins_on i (c.seats s).state)
  moves (Get j) = if_fits (has_seat && nat_lt j 58) (gets j (c.seats s).state)
  moves Done = if_fits has_seat (finishes (c.seats s).state)
  moves Unpin = if_fits has_seat (unpins (c.seats s).state)
  moves (Free i seen) = if_fits (has_seat && has_slot i) (frees i seen (c.seats s).state)

pub record Step : Type 0 where
  pub seat : ℕ
  pub act : Act

abbrev pub after : Core → Step → Core
after c e = (moves c e.seat e.act).0

abbrev pub answer : Core → Step → Answer
answer c e = (moves c e.seat e.act).1

-- the steps one after another
abbrev pub run : List Step → Core → Core
run [] c = c
run (e ∷ es) c = run es (after c e)

-- the answers of the steps, in their order
abbrev pub answers : List Step → Core → List Answer
answers [] c = []
answers (e ∷ es) c = answer c e ∷ answers es (after c e)
