-- Each exchange is the step of the machine that its name says.
use Rattle.rv_slotcore.specs.Places.{claimed_bit, done_bit, full_bit, generation_bit}
use Rattle.rv_slotcore.specs.Places.{last_generation, slot_words}
use Rattle.rv_chunk.specs.Chunks.{is_chunk_text}
use Rattle.std.specs.Prelude.{◌≡◌, ◌≢◌, ◌<◌, ◌+◌, ◌*◌, ◌/◌, ◌^◌, ◌==◌, ℕ, true, bit_or, slice_index}
use mathlib.Core.Option.{some, none}
use lib.ListN.{get_elem?}
use prog.Atomic.{either}
use Rattle.atomic_table.specs.Table.{State, Me, step, stepped, keeps}
use Rattle.rv_slotcore.specs.Machine.{Step, Act, after, Claim, Put, Publish, Pin, Get, Done, Unpin}
use Rattle.rv_slotcore.specs.Machine.{Free, all_put, put_words, is_free_word}
use Rattle.rv_slots.specs.declared.views.View.{View}
use Rattle.rv_slots.specs.Lines.{the_view, put_in, claim_told, put_told, publish_told, pin_told}
use Rattle.rv_slots.specs.Lines.{get_told, done_told, unpin_told, free_told}
use Rattle.rv_slots.specs.Knows.{IsIdle, IsFilling, IsPinned, IsStray}
use Rattle.rv_slots.specs.Calls.{without}
use Rattle.rv_slots.specs.Rule.{Kept}

-- Whatever the table is when its word at this index becomes f of what it was: the rule holds
-- afterwards, the machine's state is the one after the step e, the seat alone has a new view, and
-- `told` says of it and of the word found what they are.
abbrev pub Refines : ℕ → ℕ → Me (Unit {0}) View → ℕ → (ℕ → ℕ) → Step
    → (ℕ → Me (Unit {0}) View → Type 0) → Type 0
Refines n id me at f e told = (s : State (Unit {0}) View) (k : Kept n s)
    → get_elem? s.views id ≡ some me.0 → slice_index s.words at < 2 ^ 64
    → (w : View)
    × (k' : Kept n (stepped s at (f (slice_index s.words at)) id me.1 w keeps))
    × (k'.core ≡ after k.core e)
    × told (slice_index s.words at) (w, me.1)

abbrev pub of_seat : Me (Unit {0}) View → Act → Step
of_seat me a = record { seat = (the_view me.0).number; act = a }

-- where a slot's state word stands, and where a word of its content
abbrev pub state_at : ℕ → ℕ
state_at i = slot_words * i

abbrev pub content_at : ℕ → ℕ → ℕ
content_at i j = slot_words * i + (1 + j)

abbrev pub ClaimIsStep : Type 0
ClaimIsStep = (n slots id q i : ℕ) (me : Me (Unit {0}) View) → IsIdle q me → i < n
    → Refines n id me (state_at i) (λ w. bit_or w (2 ^ claimed_bit)) (of_seat me (Claim i))
    (claim_told (step slots (state_at i) (2 ^ claimed_bit) 0 none) me)

abbrev pub PutIsStep : Type 0
PutIsStep = (n slots id q i j v : ℕ) (me : Me (Unit {0}) View) → IsFilling q i me → i < n → j < 58
    → Refines n id me (content_at i j) (λ _. v) (of_seat me (Put j v))
    (λ _. put_told (step slots (content_at i j) v 0 none) me v)

abbrev pub PublishIsStep : Type 0
PublishIsStep = (n slots id q i : ℕ) (me : Me (Unit {0}) View) → IsFilling q i me
    → all_put (put_in (the_view me.0).state) ≡ true
    → is_chunk_text (put_words (put_in (the_view me.0).state)) ≡ true → i < n
    → Refines n id me (state_at i) (λ w. bit_or w (2 ^ full_bit)) (of_seat me Publish)
    (publish_told (step slots (state_at i) (2 ^ full_bit) 0 none) me)

abbrev pub PinIsStep : Type 0
PinIsStep = (n slots id q i : ℕ) (me : Me (Unit {0}) View) → IsIdle q me → i < n
    → Refines n id me (state_at i) (λ w. bit_or w (2 ^ q)) (of_seat me (Pin i))
    (pin_told (step slots (state_at i) (2 ^ q) 0 none) me)

abbrev pub GetIsStep : Type 0
GetIsStep = (n slots id q i j : ℕ) (me : Me (Unit {0}) View) → IsPinned q i me → i < n → j < 58
    → Refines n id me (content_at i j) (λ w. w) (of_seat me (Get j))
    (get_told (step slots (content_at i j) 0 0 none) me)

abbrev pub DoneIsStep : Type 0
DoneIsStep = (n slots id q i : ℕ) (me : Me (Unit {0}) View) → IsPinned q i me → i < n
    → Refines n id me (state_at i) (λ w. bit_or w (2 ^ done_bit)) (of_seat me Done)
    (done_told (step slots (state_at i) (2 ^ done_bit) 0 none) me)

abbrev pub UnpinIsStep : Type 0
UnpinIsStep = (n slots id q i mask : ℕ) (me : Me (Unit {0}) View) → IsPinned q i me → i < n
    → Refines n id me (state_at i) (λ w. without w q) (of_seat me Unpin)
    (unpin_told (step slots (state_at i) mask 0 none) me)

abbrev pub UnpinStrayIsStep : Type 0
UnpinStrayIsStep = (n slots id q i mask : ℕ) (me : Me (Unit {0}) View) → IsStray q i me → i < n
    → Refines n id me (state_at i) (λ w. without w q) (of_seat me Unpin)
    (unpin_told (step slots (state_at i) mask 0 none) me)

-- the word of the generation after that of a word
abbrev pub next_word : ℕ → ℕ
next_word w = (w / 2 ^ generation_bit + 1) * 2 ^ generation_bit

abbrev pub FreeIsStep : Type 0
FreeIsStep = (n slots id q i seen : ℕ) (me : Me (Unit {0}) View) → IsIdle q me → i < n
    → is_free_word seen ≡ true → seen / 2 ^ generation_bit ≢ last_generation
    → Refines n id me (state_at i) (λ w. either (w == seen) (next_word seen) w)
    (of_seat me (Free i seen)) (free_told (step slots (state_at i) seen (next_word seen) none) me)
