-- What a seat knows after each of its steps, and what a step tells it.
use Rattle.rv_slotcore.specs.Places.{claimed_bit, done_bit, full_bit, generation_bit, last_seat}
use Rattle.rv_slotcore.specs.Places.{slot_words}
use Rattle.rv_chunk.specs.Chunks.{is_chunk_text}
use Rattle.std.specs.Prelude.{◌≡◌, ◌/◌, ◌*◌, ◌+◌, ◌^◌, ◌<◌, ◌≤◌, slice_set, Contains, Bool, true}
use Rattle.std.specs.Prelude.{false, ◌-◌, ℕ, zero, suc, List, [], ◌∷◌, slice_index_or, drop, take}
use Rattle.std.specs.Prelude.{Option, Some, None, replicate, ◌==◌, ◌++◌}
use Rattle.std.specs.Int.{bit_at}
use Rattle.atomic_table.specs.Table.{Me, Step}
use Rattle.rv_slotcore.specs.Machine.{all_put, put_words}
use Rattle.rv_slots.specs.declared.views.View.{View}
use Rattle.rv_slots.specs.declared.views.Last.{Last}
use Rattle.rv_slots.specs.declared.views.SeatView.{SeatView}
use Rattle.rv_slots.specs.declared.views.SeatState.{SeatState}
use Rattle.rv_slots.specs.declared.views.SeatState.TheVariants.{Idle, Filling, Pinned, Stray}
use Rattle.rv_slots.specs.declared.views.Mark.{Mark}
use Rattle.rv_slots.specs.declared.views.Record.{Record}
use Rattle.rv_slots.specs.declared.views.Kind.{Kind}
use Rattle.rv_slots.specs.declared.views.Kind.TheVariants.{Claiming, Putting, Publishing, Pinning}
use Rattle.rv_slots.specs.declared.views.Kind.TheVariants.{Getting, Finishing, Unpinning, Freeing}

-- what stands for a view or a record where there is none
abbrev pub blank : SeatView
blank = record { number = 0; state = Idle; records = []; dones = []; frees = []; last = None }

abbrev pub blank_record : Record
blank_record = record { slot = 0; generation = 0; words = [] }

-- the view of the one seat
abbrev pub the_view : View → SeatView
the_view v = slice_index_or v.seats 0 blank

-- the seat's last step
abbrev pub last_step : Kind → ℕ → Option ℕ → Option Last
last_step kind slot found = Some (record { kind = kind; slot = slot; found = found })

-- the words put, where the seat is filling
abbrev pub put_in : SeatState → List (Option ℕ)
put_in Idle = []
put_in (Filling i p) = p
put_in (Pinned i g) = []
put_in (Stray i) = []

-- a split takes the first seat off
abbrev pub cut_left : View → View
cut_left v = record { seats = take 1 v.seats }

abbrev pub cut_right : View → View
cut_right v = record { seats = drop 1 v.seats }

-- ---- the eight lines: the view after a step, from the view before, the slot and the word found

-- a claim found the flag claimed as b
abbrev pub claim_state : SeatView → ℕ → ℕ → SeatState
claim_state p i zero = Filling i (replicate 58 None)
claim_state p i (suc b) = p.state

abbrev pub claimed : SeatView → ℕ → ℕ → SeatView
claimed p i found = record {
  number = p.number;
  state = claim_state p i (bit_at found claimed_bit);
  records = p.records;
  dones = p.dones;
  frees = p.frees;
  last = last_step Claiming i (Some found);
}

-- the word w is put at j; a store finds none
abbrev pub put_line : SeatView → ℕ → ℕ → ℕ → SeatView
put_line p i j w = record {
  number = p.number;
  state = Filling i (slice_set (put_in p.state) j (Some w));
  records = p.records;
  dones = p.dones;
  frees = p.frees;
  last = last_step Putting i None;
}

abbrev pub published : SeatView → ℕ → ℕ → SeatView
published p i found = record {
  number = p.number;
  state = Idle;
  records = record { slot = i; generation = found / 2 ^ generation_bit; words = put_in p.state }
      ∷ p.records;
  dones = p.dones;
  frees = p.frees;
  last = last_step Publishing i (Some found);
}

-- a pin found the flag full as f and done as d
abbrev pub pin_state : ℕ → ℕ → ℕ → ℕ → SeatState
pin_state i g zero d = Stray i
pin_state i g (suc f) zero = Pinned i g
pin_state i g (suc f) (suc d) = Stray i

abbrev pub pin_records : SeatView → ℕ → ℕ → ℕ → ℕ → List Record
pin_records p i g zero d = p.records
pin_records p i g (suc f) zero = record { slot = i; generation = g; words = replicate 58 None }
    ∷ p.records
pin_records p i g (suc f) (suc d) = p.records

abbrev pub pinned : SeatView → ℕ → ℕ → SeatView
pinned p i found = record {
  number = p.number;
  state = pin_state i (found / 2 ^ generation_bit) (bit_at found full_bit)
      (bit_at found done_bit);
  records = pin_records p i (found / 2 ^ generation_bit) (bit_at found full_bit)
      (bit_at found done_bit);
  dones = p.dones;
  frees = p.frees;
  last = last_step Pinning i (Some found);
}

-- the pin's record is the first
abbrev pub got_in : List Record → ℕ → ℕ → List Record
got_in [] j w = []
got_in (r ∷ rs) j w = record {
  slot = r.slot;
  generation = r.generation;
  words = slice_set r.words j (Some w);
} ∷ rs

abbrev pub got : SeatView → ℕ → ℕ → ℕ → SeatView
got p i j found = record {
  number = p.number;
  state = p.state;
  records = got_in p.records j found;
  dones = p.dones;
  frees = p.frees;
  last = last_step Getting i (Some found);
}

abbrev pub finished : SeatView → ℕ → ℕ → SeatView
finished p i found = record {
  number = p.number;
  state = p.state;
  records = p.records;
  dones = record { slot = i; generation = found / 2 ^ generation_bit } ∷ p.dones;
  frees = p.frees;
  last = last_step Finishing i (Some found);
}

abbrev pub unpinned : SeatView → ℕ → ℕ → SeatView
unpinned p i found = record {
  number = p.number;
  state = Idle;
  records = p.records;
  dones = p.dones;
  frees = p.frees;
  last = last_step Unpinning i (Some found);
}

-- the exchange took place
abbrev pub free_marks : SeatView → ℕ → ℕ → Bool → List Mark
free_marks p i g true = record { slot = i; generation = g } ∷ p.frees
free_marks p i g false = p.frees

abbrev pub freed : SeatView → ℕ → ℕ → ℕ → SeatView
freed p i seen found = record {
  number = p.number;
  state = p.state;
  records = p.records;
  dones = p.dones;
  frees = free_marks p i (seen / 2 ^ generation_bit) (found == seen);
  last = last_step Freeing i (Some found);
}

-- ---- what a step tells its caller
abbrev pub Told : Type 1
Told = Step (Unit {0}) → Me (Unit {0}) View → ℕ → Me (Unit {0}) View → Type 0

abbrev pub only : SeatView → Me (Unit {0}) View
only p = (record { seats = p ∷ [] }, [])

-- the step changed the word of slot i, and the view by its line
abbrev pub ToldFor : ℕ → (ℕ → SeatView) → Me (Unit {0}) View → Type 0
ToldFor word line w = (i : ℕ) × (word ≡ slot_words * i) × (w ≡ only (line i))

-- the same for word j of slot i's content
abbrev pub ToldAt : ℕ → (ℕ → ℕ → SeatView) → Me (Unit {0}) View → Type 0
ToldAt word line w = (i : ℕ) × (j : ℕ) × (j < 58) × (word ≡ slot_words * i + (1 + j))
    × (w ≡ only (line i j))

abbrev pub claim_told : Told
claim_told st m n w = ToldFor st.word (λ i. claimed (the_view m.0) i n) w

abbrev pub put_told : Told
put_told st m n w = ToldAt st.word (λ i j. put_line (the_view m.0) i j n) w

abbrev pub publish_told : Told
publish_told st m n w = ToldFor st.word (λ i. published (the_view m.0) i n) w

-- the generation found is no lower than that of any record that the seat has of the slot
abbrev pub IsNewest : SeatView → ℕ → ℕ → Type 0
IsNewest p word n = (r : Record) → Contains p.records r → word ≡ slot_words * r.slot
    → r.generation ≤ n / 2 ^ generation_bit

abbrev pub pin_told : Told
pin_told st m n w = ToldFor st.word (λ i. pinned (the_view m.0) i n) w
    × IsNewest (the_view m.0) st.word n

-- what the pin's record has at j
abbrev pub known : List Record → ℕ → Option ℕ
known [] j = None
known (r ∷ rs) j = slice_index_or r.words j None

-- the words of the pin's record
abbrev pub pin_words : List Record → List (Option ℕ)
pin_words [] = []
pin_words (r ∷ rs) = r.words

-- words that are all there are a chunk text
abbrev pub IsText : List (Option ℕ) → Type 0
IsText ws = all_put ws ≡ true → is_chunk_text (put_words ws) ≡ true

abbrev pub get_told : Told
get_told st m n w = ToldAt st.word (λ i j. got (the_view m.0) i j n) w
    × ((j : ℕ) (v : ℕ) → j < 58 → (i : ℕ) → st.word ≡ slot_words * i + (1 + j)
    → known (the_view m.0).records j ≡ Some v → n ≡ v)
    × IsText (pin_words (the_view w.0).records)

abbrev pub done_told : Told
done_told st m n w = ToldFor st.word (λ i. finished (the_view m.0) i n) w

abbrev pub unpin_told : Told
unpin_told st m n w = ToldFor st.word (λ i. unpinned (the_view m.0) i n) w

abbrev pub free_told : Told
free_told st m n w = ToldFor st.word (λ i. freed (the_view m.0) i st.first n) w

-- seat t before its first step
abbrev pub fresh : ℕ → SeatView
fresh t = record { number = t; state = Idle; records = []; dones = []; frees = []; last = None }

-- the last k of the seats, in their order
abbrev pub fresh_seats : ℕ → List SeatView
fresh_seats zero = []
fresh_seats (suc k) = fresh (last_seat - k) ∷ fresh_seats k

-- ---- joins and splits
abbrev pub joined : View → View → View
joined v w = record { seats = v.seats ++ w.seats }

abbrev pub spent : View
spent = record { seats = [] }

-- two records of one slot and generation agree on each word that both have
abbrev pub Meet : List Record → List Record → Type 0
Meet rs qs = (r q : Record) → Contains rs r → Contains qs q
    → r.slot ≡ q.slot → r.generation ≡ q.generation
    → (j a b : ℕ) → slice_index_or r.words j None ≡ Some a
    → slice_index_or q.words j None ≡ Some b → a ≡ b

abbrev pub meet_told : Told
meet_told st m n w = (w ≡ m) × ((p q : SeatView)
    → Contains m.0.seats p → Contains m.0.seats q → Meet p.records q.records)
