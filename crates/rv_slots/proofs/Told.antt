-- What a step told, for the type that the seat becomes.
use Rattle.rv_slots.proofs.Common.{last_generation, claimed_bit, done_bit, full_bit, generation_bit, slot_words}
use Rattle.rv_slots.proofs.Common.{◌≡◌, ◌≢◌, ℕ, ◌+◌, ◌*◌, ◌/◌, ◌^◌, ◌<◌, ◌≤◌, Contains, Bool, false, [], bit_and}
use Rattle.rv_slots.proofs.Common.{sym, ap, ◌∙◌, arith, bit_at, and_pow, bit_at-lt, Me, TableId, View, SeatView}
use Rattle.rv_slots.proofs.Common.{◌==◌, eq-eqb, true≢false, common_steps, Record, IsNewest, the_view, ToldFor}
use Rattle.rv_slots.proofs.Seating.{one}

-- what one thread knows: a view
abbrev pub Mine : Type 0
Mine = Me (Unit {0}) View

-- the claim is clear
pub clear_bit : (n : ℕ) → bit_and n (2 ^ claimed_bit) ≡ 0 → bit_at n claimed_bit ≡ 0
clear_bit n h = let e : bit_and n (2 ^ claimed_bit) ≡ bit_at n claimed_bit * 2 ^ claimed_bit =
    and_pow n claimed_bit in omega arith

-- the claim is set
pub set_bit : (n : ℕ) → bit_and n (2 ^ claimed_bit) ≢ 0 → bit_at n claimed_bit ≡ 1
set_bit n h = let e : bit_and n (2 ^ claimed_bit) ≡ bit_at n claimed_bit * 2 ^ claimed_bit =
    and_pow n claimed_bit in let l = bit_at-lt n claimed_bit in omega arith

-- what the exchange told
pub told_here : (line : ℕ → SeatView) (slot : ℕ) (w : Mine) → ToldFor (slot_words * slot) line w
    → w ≡ (one (line slot), [])
told_here line slot w t = let k = t.0 in let f = t.1 in let same : k ≡ slot = omega arith in t.2
    ∙ ap (λ (z : ℕ). (one (line z), [])) same

-- the view afterwards
pub view_told : (line : ℕ → SeatView) (slot : ℕ) (w : Mine) → ToldFor (slot_words * slot) line w
    → the_view w.0 ≡ line slot
view_told line slot w t = ap (λ (z : Mine). the_view z.0) (told_here line slot w t)

-- the place is inside the table
pub inside_after : (i n : ℕ) (t u v : TableId) → i < n → t.words ≡ slot_words * n → u ≡ t → v ≡ u
    → slot_words * i < v.words
inside_after i n t u v h e a b = let w : v.words ≡ t.words = ap (λ (z : TableId). z.words) (b ∙ a)
    in omega arith

-- the slot of a seat that has one is a slot of the table
pub slot_below : (i n key : ℕ) (t u : TableId) → slot_words * i < u.words → u ≡ t → t.words
    ≡ slot_words * n → key ≡ n → (i < key) × (slot_words * i < t.words)
slot_below i n key t u h a e f = let w : u.words ≡ t.words = ap (λ (z : TableId). z.words) a in
    (omega arith, omega arith)

-- the flag full is clear
pub full_clear : (n : ℕ) → bit_and n (2 ^ full_bit) ≡ 0 → bit_at n full_bit ≡ 0
full_clear n h = let e : bit_and n (2 ^ full_bit) ≡ bit_at n full_bit * 2 ^ full_bit =
    and_pow n full_bit in omega arith

-- it is set
pub full_set : (n : ℕ) → bit_and n (2 ^ full_bit) ≢ 0 → bit_at n full_bit ≡ 1
full_set n h = let e : bit_and n (2 ^ full_bit) ≡ bit_at n full_bit * 2 ^ full_bit =
    and_pow n full_bit in let l = bit_at-lt n full_bit in omega arith

-- the flag done is clear
pub done_clear : (n : ℕ) → bit_and n (2 ^ done_bit) ≡ 0 → bit_at n done_bit ≡ 0
done_clear n h = let e : bit_and n (2 ^ done_bit) ≡ bit_at n done_bit * 2 ^ done_bit =
    and_pow n done_bit in omega arith

-- it is set
pub done_set : (n : ℕ) → bit_and n (2 ^ done_bit) ≢ 0 → bit_at n done_bit ≡ 1
done_set n h = let e : bit_and n (2 ^ done_bit) ≡ bit_at n done_bit * 2 ^ done_bit =
    and_pow n done_bit in let l = bit_at-lt n done_bit in omega arith

-- 0 is not 1
pub zero_one : ◌≡◌ {A = ℕ} 0 1 → ⊥
zero_one e = omega arith

-- no record is of a later generation
pub latest_told : (p : SeatView) (i n : ℕ) → IsNewest p (slot_words * i) n → (r : Record)
    → Contains p.records r → r.slot ≡ i → r.generation ≤ n / 2 ^ generation_bit
latest_told p i n h r c e = h r c (ap (λ (z : ℕ). slot_words * z) (sym e))

-- a generation that a test tells from the last is another
pub not_last : (g : ℕ) (b : Bool) → b ≡ (g == last_generation) → b ≡ false → g ≢ last_generation
not_last g b is clear e = true≢false (sym (eq-eqb g last_generation e) ∙ (sym is ∙ clear))

-- a content word is inside the table
pub content_below : (i j n key : ℕ) (t u : TableId) → slot_words * i < u.words → u ≡ t → t.words
    ≡ slot_words * n → key ≡ n → j < 58 → slot_words * i + (1 + j) < t.words
content_below i j n key t u h a e f l = let w : u.words ≡ t.words =
    grind (arith, common_steps) in omega arith
