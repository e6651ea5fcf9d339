-- What the rule says of the table between any two exchanges.
use Rattle.rv_slotcore.specs.Places.{claimed_bit, done_bit, full_bit, generation_bit}
use Rattle.rv_slotcore.specs.Places.{seats_at_most, slot_words}
use Rattle.rv_chunk.specs.Chunks.{is_chunk_text}
use Rattle.std.specs.Prelude.{◌≡◌, ◌<◌, ◌≤◌, ◌+◌, ◌*◌, ◌/◌, ◌^◌, ◌↔◌, ℕ, true, List, slice_index}
use Rattle.std.specs.Prelude.{slice_index_or, Option, Some, None, Contains}
use Rattle.std.specs.Int.{bit_at}
use Rattle.atomic_table.specs.Table.{State}
use Rattle.rv_slotcore.specs.Machine.{all_put, put_words}
use Rattle.rv_slotcore.specs.Safe.{Protected, Agreeing, Dated}
use Rattle.rv_slots.specs.declared.views.View.{View}
use Rattle.rv_slots.specs.declared.views.Record.{Record}
use Rattle.rv_slots.specs.declared.views.SeatView.{SeatView}
use Rattle.rv_slots.specs.declared.views.SeatState.{SeatState}
use Rattle.rv_slots.specs.declared.views.SeatState.TheVariants.{Idle, Filling, Pinned, Stray}
use Rattle.rv_slots.specs.Lines.{Meet}
use Rattle.rv_slots.specs.Rule.{At, Kept, HasMark}

-- a seat in some view
abbrev pub Stands : List View → SeatView → Type 0
Stands views p = (k : ℕ) × (m : ℕ) × At views k m p

-- the seat's bit is set on this slot
abbrev pub IsOn : SeatState → ℕ → Type 0
IsOn Idle i = ⊥
IsOn (Filling k p) i = ⊥
IsOn (Pinned k g) i = i ≡ k
IsOn (Stray k) i = i ≡ k

module _ (n : ℕ) (s : State (Unit {0}) View) where
  abbrev pub state_word : ℕ → ℕ
  state_word i = slice_index s.words (slot_words * i)

  abbrev pub content_word : ℕ → ℕ → ℕ
  content_word i j = slice_index s.words (slot_words * i + (1 + j))

  abbrev pub generation : ℕ → ℕ
  generation i = state_word i / 2 ^ generation_bit

  pub record Says : Type 0 where
    -- no seat stands twice among the views
    pub once : (k m k' m' : ℕ) (p q : SeatView) → At s.views k m p → At s.views k' m' q
        → p.number ≡ q.number → (k ≡ k') × (m ≡ m')
    -- a full slot is claimed, and a done slot is full
    pub flags : (i : ℕ) → i < n
        → (bit_at (state_word i) full_bit ≡ 1 → bit_at (state_word i) claimed_bit ≡ 1)
        × (bit_at (state_word i) done_bit ≡ 1 → bit_at (state_word i) full_bit ≡ 1)
    -- a pin is set exactly where its seat is pinned or stray on the slot
    pub pins : (i t : ℕ) → i < n → t < seats_at_most → (bit_at (state_word i) t ≡ 1)
        ↔ ((p : SeatView) × Stands s.views p × (p.number ≡ t) × IsOn p.state i)
    -- a slot is claimed and not full exactly where a seat fills it
    pub filling : (i : ℕ) → i < n
        → ((bit_at (state_word i) claimed_bit ≡ 1) × (bit_at (state_word i) full_bit ≡ 0))
        ↔ ((p : SeatView) × (ws : List (Option ℕ)) × Stands s.views p × (p.state ≡ Filling i ws))
    -- no two seats fill one slot
    pub filler : (i : ℕ) (p q : SeatView) (ws vs : List (Option ℕ))
        → Stands s.views p → Stands s.views q → p.state ≡ Filling i ws → q.state ≡ Filling i vs
        → p.number ≡ q.number
    -- the words put are the slot's
    pub put : (i j w : ℕ) (p : SeatView) (ws : List (Option ℕ)) → i < n → j < 58
        → Stands s.views p → p.state ≡ Filling i ws → slice_index_or ws j None ≡ Some w
        → content_word i j ≡ w
    -- a slot is full exactly where there is a record of its generation
    pub full : (i : ℕ) → i < n → (bit_at (state_word i) full_bit ≡ 1)
        ↔ ((p : SeatView) × (r : Record) × Stands s.views p × Contains p.records r
        × (r.slot ≡ i) × (r.generation ≡ generation i))
    -- the words of such a record are the slot's
    pub words : (i j w : ℕ) (p : SeatView) (r : Record) → i < n → j < 58 → Stands s.views p
        → Contains p.records r → r.slot ≡ i → r.generation ≡ generation i
        → slice_index_or r.words j None ≡ Some w → content_word i j ≡ w
    -- no record is of a generation above its slot's own
    pub dated : (p : SeatView) (r : Record) → r.slot < n → Stands s.views p
        → Contains p.records r → r.generation ≤ generation r.slot
    -- a pinned slot is full, and of the pinned generation
    pub pinned : (i g : ℕ) (p : SeatView) → i < n → Stands s.views p → p.state ≡ Pinned i g
        → (bit_at (state_word i) full_bit ≡ 1) × (generation i ≡ g)
    -- two records of one slot and generation agree on each word that both have
    pub meet : (p q : SeatView) → Stands s.views p → Stands s.views q → Meet p.records q.records
    -- for each record some seat has a whole one of its slot and generation
    pub whole : (p : SeatView) (r : Record) → Stands s.views p → Contains p.records r
        → (u : SeatView) × (q : Record) × Stands s.views u × Contains u.records q
        × (q.slot ≡ r.slot) × (q.generation ≡ r.generation) × (all_put q.words ≡ true)
    -- a whole record is a chunk text
    pub text : (p : SeatView) (r : Record) → Stands s.views p → Contains p.records r
        → all_put r.words ≡ true → is_chunk_text (put_words r.words) ≡ true
    -- a slot is done exactly where there is a done mark of its generation
    pub done : (i : ℕ) → i < n → (bit_at (state_word i) done_bit ≡ 1)
        ↔ ((p : SeatView) × Stands s.views p × HasMark p.dones i (generation i))
    -- no done mark is of a later generation
    pub none_later : (i g : ℕ) (p : SeatView) → i < n → Stands s.views p → HasMark p.dones i g
        → g ≤ generation i
    -- there is a free mark of a generation exactly where the slot's own is above it
    pub freed : (i g : ℕ) → i < n → (g < generation i)
        ↔ ((p : SeatView) × Stands s.views p × HasMark p.frees i g)

-- the rule says so, and its machine's state is safe
abbrev pub RuleSays : Type 0
RuleSays = (n : ℕ) (s : State (Unit {0}) View) (k : Kept n s)
    → Says n s × Protected k.core × Agreeing k.core × Dated k.core
