-- The table's rule: between any two exchanges the words, the views' seats and their records are a
-- state that the machine reaches.
use Rattle.rv_slotcore.specs.Places.{seats_at_most, slot_words}
use Rattle.rv_chunk.specs.Chunks.{is_chunk_text}
use Rattle.std.specs.Prelude.{◌≡◌, ◌<◌, ◌≤◌, ◌+◌, ◌*◌, ℕ, Bool, true}
use Rattle.std.specs.Prelude.{List, [], ◌∷◌, length, slice_index, slice_index_or, Option}
use Rattle.std.specs.Prelude.{Some, None, Contains}
use mathlib.Core.Option.{some}
use lib.ListN.{get_elem?}
use Rattle.atomic_table.specs.Table.{State}
use Rattle.rv_slotcore.specs.Machine.{Core, Slot, Seat, Step, start, run, flag, all_put}
use Rattle.rv_slotcore.specs.Machine.{put_words}
use Rattle.rv_slotcore.specs.Machine as core
use Rattle.rv_slotcore.specs.Word.{Reads}
use Rattle.rv_slots.specs.declared.views.View.{View}
use Rattle.rv_slots.specs.declared.views.Mark.{Mark}
use Rattle.rv_slots.specs.declared.views.Record.{Record}
use Rattle.rv_slots.specs.declared.views.SeatView.{SeatView}
use Rattle.rv_slots.specs.declared.views.SeatState.{SeatState}
use Rattle.rv_slots.specs.declared.views.SeatState.TheVariants.{Idle, Filling, Pinned, Stray}
use Rattle.rv_slots.specs.Lines.{fresh_seats}

-- the words of the table are the slots of the machine: for each slot in turn its state word, and
-- then its content
pub record IsTable (n : ℕ) (words : List ℕ) (slots : ℕ → Slot) : Type 0 where
  pub sized : length words ≡ slot_words * n
  pub states : (i : ℕ) → i < n → Reads (slice_index words (slot_words * i)) (slots i)
  pub contents : (i j : ℕ) → i < n → j < 58
      → slice_index words (slot_words * i + (1 + j)) ≡ slice_index (slots i).content j
  pub long : (i : ℕ) → i < n → length (slots i).content ≡ 58

-- the m-th seat in the view of the table's seat k
abbrev pub At : List View → ℕ → ℕ → SeatView → Type 0
At views k m p = (v : View) × (get_elem? views k ≡ some v) × (get_elem? v.seats m ≡ some p)

-- each of the seats stands in one view, at one place
pub record IsSeated (views : List View) (seat : ℕ → SeatView) (row column : ℕ → ℕ) : Type 0 where
  pub there : (t : ℕ) → t < seats_at_most → At views (row t) (column t) (seat t)
  pub named : (t : ℕ) → t < seats_at_most → (seat t).number ≡ t
  pub only : (k m : ℕ) (p : SeatView) → At views k m p
      → (p.number < seats_at_most) × (row p.number ≡ k) × (column p.number ≡ m)

-- a view says of a pin no content
abbrev pub shown : core.SeatState → SeatState
shown core.Idle = Idle
shown (core.Filling i p) = Filling i p
shown (core.Pinned i g w) = Pinned i g
shown (core.Stray i) = Stray i

-- the words that a record has are those of the content
abbrev pub WordsFit : List (Option ℕ) → List ℕ → Type 0
WordsFit ws c = (j w : ℕ) → slice_index_or ws j None ≡ Some w → slice_index c j ≡ w

pub record RecordFits (r : Record) (q : core.Record) : Type 0 where
  pub slot : r.slot ≡ q.slot
  pub generation : r.generation ≡ q.generation
  pub long : length r.words ≡ 58
  pub words : WordsFit r.words q.content

-- a record that is not whole stands for the content of its fill
abbrev pub RecordsFit : List Record → List core.Record → Type 0
RecordsFit [] [] = Unit {0}
RecordsFit [] (q ∷ qs) = ⊥
RecordsFit (r ∷ rs) [] = ⊥
RecordsFit (r ∷ rs) (q ∷ qs) = RecordFits r q × RecordsFit rs qs

-- what a seat's view says of it is what the machine's seat is
pub record Fits (p : SeatView) (q : Seat) : Type 0 where
  pub state : p.state ≡ shown q.state
  pub records : RecordsFit p.records q.records

-- a mark of this slot and generation is among these
abbrev pub HasMark : List Mark → ℕ → ℕ → Type 0
HasMark ms i g = Contains ms (record { slot = i; generation = g })

-- marks explain the done bits and the generations
pub record IsMarked (done : ℕ → Bool) (generation : ℕ → ℕ)
    (dones frees : ℕ → List Mark) : Type 0 where
  pub marks : (i : ℕ) → done i ≡ true
      → (t : ℕ) × (t < seats_at_most) × HasMark (dones t) i (generation i)
  pub marked : (t i g : ℕ) → t < seats_at_most → HasMark (dones t) i g
      → (g ≤ generation i) × (g ≡ generation i → done i ≡ true)
  pub freed : (i g : ℕ) → g < generation i → (t : ℕ) × (t < seats_at_most) × HasMark (frees t) i g
  pub older : (t i g : ℕ) → t < seats_at_most → HasMark (frees t) i g → g < generation i

-- each record has a whole one of its slot and generation, and whole ones are chunk texts
pub record AreWhole (records : ℕ → List Record) : Type 0 where
  pub whole : (t : ℕ) (r : Record) → t < seats_at_most → Contains (records t) r
      → (u : ℕ) × (q : Record) × (u < seats_at_most) × Contains (records u) q × (q.slot ≡ r.slot)
      × (q.generation ≡ r.generation) × (all_put q.words ≡ true)
  pub text : (t : ℕ) (r : Record) → t < seats_at_most → Contains (records t) r
      → all_put r.words ≡ true → is_chunk_text (put_words r.words) ≡ true

abbrev pub Marked : (ℕ → Slot) → (ℕ → SeatView) → Type 0
Marked slots seat = IsMarked (λ i. (slots i).done) (λ i. (slots i).generation)
    (λ t. (seat t).dones) (λ t. (seat t).frees)

abbrev pub Whole : (ℕ → SeatView) → Type 0
Whole seat = AreWhole (λ t. (seat t).records)

-- the machine, on n slots and all the seats, gets there by some steps
abbrev pub IsReached : ℕ → Core → Type 0
IsReached n c = (steps : List Step) × (run steps (start n seats_at_most) ≡ c)

-- The rule of a table of n slots: some steps of the machine lead to a state whose slots are the
-- words, and whose seats are those of the views; and the marks and records explain the words.
pub record Kept (n : ℕ) (s : State (Unit {0}) View) : Type 0 where
  pub core : Core
  pub reached : IsReached n core
  pub counts : (core.slot_count ≡ n) × (core.seat_count ≡ seats_at_most)
  pub table : IsTable n s.words core.slots
  pub seat : ℕ → SeatView
  pub row : ℕ → ℕ
  pub column : ℕ → ℕ
  pub seated : IsSeated s.views seat row column
  pub fits : (t : ℕ) → t < seats_at_most → Fits (seat t) (core.seats t)
  pub marked : Marked core.slots seat
  pub whole : Whole seat

-- before any seat is given out one view has them all, idle
abbrev pub opening_view : View
opening_view = record { seats = fresh_seats seats_at_most }
