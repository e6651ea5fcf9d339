-- The state word under one exchange.
use Rattle.rv_slotcore.proofs.Common.{◌≡◌, ◌≢◌, ℕ, zero, suc, ◌+◌, ◌*◌, ◌/◌, ◌%◌, ◌^◌, ◌<◌, ◌≤◌, Bool, true, false}
use Rattle.rv_slotcore.proofs.Common.{◌&&◌, ◌==◌, List, bit_and, bit_or, not, sym, refl, ap, ◌∙◌, subst, arith}
use Rattle.rv_slotcore.proofs.Common.{⊎_elim, eq-eqb, ne_eqb, zero-mul, ltb-true, eqb-true, cases_lt, nat_lt}
use Rattle.rv_slotcore.proofs.Common.{nat_eq, true≢false, w64, bit_at, bit_not, or_zero_r, div-eq_of_lt, or_shr}
use Rattle.rv_slotcore.proofs.Common.{pow_below, pow_pos, and_le_l, bit_at_or, bit_at-pow_same, bit_at-pow_other}
use Rattle.rv_slotcore.proofs.Common.{bit_at-lt, and_pow, bit_at_clear_same, bit_at_clear_other, bit_at_above}
use Rattle.rv_slotcore.proofs.Common.{same_from_bits, bit_at_cat_low, bit_at-zero, common_steps, seats_at_most}
use Rattle.rv_slotcore.proofs.Common.{claimed_bit, full_bit, done_bit, generation_bit, Slot, word_of, put_at}
use Rattle.rv_slotcore.proofs.Common.{claimed_slot, full_slot, done_slot, pinned_slot, freed_slot, Reads, slot_read}
use Rattle.rv_slotcore.proofs.Words.{one_word, word_reads, high_bit}

-- the bit that was set
pub or_here : (w k : ℕ) → bit_at (bit_or w (2 ^ k)) k ≡ 1
or_here w k = grind (arith, common_steps, bit_at_or, bit_at-pow_same, bit_at-lt)

-- any other bit
pub or_else : (w k i : ℕ) → i ≢ k → bit_at (bit_or w (2 ^ k)) i ≡ bit_at w i
or_else w k i n = let a = bit_at_or w (2 ^ k) i in let b = bit_at-pow_other k i n in omega arith

-- the generation stays when a flag is set
pub or_high : (w k : ℕ) → k < generation_bit → bit_or w (2 ^ k) / 2 ^ generation_bit
    ≡ w / 2 ^ generation_bit
or_high w k h = or_shr w (2 ^ k) generation_bit ∙ (ap (λ (z : ℕ). bit_or (w / 2 ^ generation_bit) z)
    (div-eq_of_lt (pow_below k generation_bit h)) ∙ or_zero_r (w / 2 ^ generation_bit))

one_is : (n : ℕ) → n ≡ 1 → (n == 1) ≡ true
one_is n e = eq-eqb n 1 e

same : (n m : ℕ) → n ≡ m → (n == 1) ≡ (m == 1)
same n m e = ap (λ (z : ℕ). z == 1) e

same_pin : (n m s : ℕ) → (s < seats_at_most → n ≡ m) → (nat_lt s seats_at_most && (n == 1)) ≡
    (nat_lt s seats_at_most && (m == 1))
same_pin n m s e = grind (arith, common_steps)

same_slot : (a b : Slot) → a.generation ≡ b.generation → a.claimed ≡ b.claimed → a.full ≡ b.full
    → a.done ≡ b.done → ((s : ℕ) → a.pins s ≡ b.pins s) → a.content ≡ b.content → a ≡ b
same_slot a b g c f d p w = grind (arith, common_steps)

module _ (w : ℕ) (content : List ℕ) where
  -- a word with the claim
  pub claimed_word : slot_read (bit_or w (2 ^ claimed_bit)) content ≡ claimed_slot
      (slot_read w content)
  claimed_word = same_slot _ _ (or_high w claimed_bit (omega arith))
      (one_is _ (or_here w claimed_bit))
      (same _ _ (or_else w claimed_bit full_bit (λ e. omega arith)))
      (same _ _ (or_else w claimed_bit done_bit (λ e. omega arith)))
      (λ s. same_pin _ _ s (λ h. or_else w claimed_bit s (λ e. omega arith))) refl

  -- a word with the flag full
  pub full_word : slot_read (bit_or w (2 ^ full_bit)) content ≡ full_slot (slot_read w content)
  full_word = same_slot _ _ (or_high w full_bit (omega arith))
      (same _ _ (or_else w full_bit claimed_bit (λ e. omega arith))) (one_is _ (or_here w full_bit))
      (same _ _ (or_else w full_bit done_bit (λ e. omega arith)))
      (λ s. same_pin _ _ s (λ h. or_else w full_bit s (λ e. omega arith))) refl

  -- a word with the flag done
  pub done_word : slot_read (bit_or w (2 ^ done_bit)) content ≡ done_slot (slot_read w content)
  done_word = same_slot _ _ (or_high w done_bit (omega arith))
      (same _ _ (or_else w done_bit claimed_bit (λ e. omega arith)))
      (same _ _ (or_else w done_bit full_bit (λ e. omega arith))) (one_is _ (or_here w done_bit))
      (λ s. same_pin _ _ s (λ h. or_else w done_bit s (λ e. omega arith))) refl

one_from : (n : ℕ) → n < 2 → (n ≡ 0 → ⊥) → n ≡ 1
one_from zero h n = absurd (n refl)
one_from (suc k) h n = omega arith

not_both : (p : ℕ) → 0 < p → 1 * p ≡ 0 → ⊥
not_both p h e = omega arith

-- the test of a bit by a mask
pub bit_set : (w k : ℕ) → (bit_and w (2 ^ k) ≡ 0 → ⊥) → (bit_at w k == 1) ≡ true
bit_set w k n = let m : bit_and w (2 ^ k) ≡ bit_at w k * 2 ^ k = and_pow w k in let l =
    bit_at-lt w k in one_is (bit_at w k)
    (one_from (bit_at w k) l (λ z. n (m ∙ ap (λ (t : ℕ). t * 2 ^ k) z ∙ zero-mul (2 ^ k))))

-- a mask tells the bit
pub mask_is : (w k : ℕ) → not (nat_eq (bit_and w (2 ^ k)) 0) ≡ (bit_at w k == 1)
mask_is w k =
    grind (
      arith,
      common_steps,
      eqb-true,
      bit_set,
      true≢false,
      eq-eqb,
      and_pow,
      bit_at-lt,
      pow_pos,
      ne_eqb,
      not_both,
    )

reads_itself : (w : ℕ) (content : List ℕ) → Reads w (slot_read w content)
reads_itself w content = grind (arith, common_steps)

-- the word of the slot that a word says is the word
pub word_back : (w : ℕ) (content : List ℕ) → word_of (slot_read w content) ≡ w
word_back w content = one_word (word_of (slot_read w content)) w (slot_read w content)
    (word_reads (slot_read w content)) (reads_itself w content)

-- ---- the own bit
pin_put : (w v s : ℕ) (b : Bool) (f : ℕ → Bool) → s < seats_at_most → ((bit_at v s == 1) ≡ b) →
    ((k : ℕ) → k < seats_at_most → k ≢ s → bit_at v k ≡ bit_at w k) →
    (k : ℕ) → (nat_lt k seats_at_most && (bit_at v k == 1)) ≡ put_at
    (λ k. nat_lt k seats_at_most && (bit_at w k == 1)) s b k
pin_put w v s b f h here else k = grind (arith, common_steps)

-- a word with a pin
pub pinned_word : (w : ℕ) (content : List ℕ) (s : ℕ) → s < seats_at_most → slot_read
    (bit_or w (2 ^ s)) content ≡ pinned_slot (slot_read w content) s true
pinned_word w content s h = same_slot _ _ (or_high w s (omega arith))
    (same _ _ (or_else w s claimed_bit (λ e. omega arith)))
    (same _ _ (or_else w s full_bit (λ e. omega arith)))
    (same _ _ (or_else w s done_bit (λ e. omega arith)))
    (pin_put w (bit_or w (2 ^ s)) s true (λ k. true) h (one_is _ (or_here w s))
    (λ k l n. or_else w s k n)) refl

-- a pin's word
pub one_shl : (s : ℕ) → s < seats_at_most → 1 * 2 ^ s % 2 ^ 64 ≡ 2 ^ s
one_shl s h = grind (arith, common_steps)

-- the word with bit k clear
abbrev pub cleared : ℕ → ℕ → ℕ
cleared w k = bit_and w (bit_not w64 (2 ^ k))

-- the bit that was cleared
pub cleared_here : (w k : ℕ) → k < seats_at_most → bit_at (cleared w k) k ≡ 0
cleared_here w k h = subst (λ (m : ℕ). bit_at (bit_and w (bit_not w64 m)) k ≡ 0) (one_shl k h)
    (bit_at_clear_same w64 w k (omega arith))

-- any other bit
pub cleared_else : (w k i : ℕ) → k < seats_at_most → i < 64 → i ≢ k
    → bit_at (cleared w k) i ≡ bit_at w i
cleared_else w k i h l n =
    subst (λ (m : ℕ). bit_at (bit_and w (bit_not w64 m)) i ≡ bit_at w i) (one_shl k h)
    (bit_at_clear_other w64 w k (omega arith) i l n)

le_then_lt : {a b c : ℕ} → a ≤ b → b < c → a < c
le_then_lt l m = omega arith

cleared_bit_high : (w k i : ℕ) → k < seats_at_most → w < 18446744073709551616 → bit_at
    (cleared w k / 2 ^ generation_bit) i ≡ bit_at (w / 2 ^ generation_bit) i
cleared_bit_high w k i h small = high_bit (cleared w k) i ∙ (⊎_elim
    (λ low. cleared_else w k (generation_bit + i) h low (λ e. omega arith))
    (λ high. let l = and_le_l w (bit_not w64 (2 ^ k)) in bit_at_above (cleared w k) 64
    (generation_bit + i) (le_then_lt l small) high ∙ sym
    (bit_at_above w 64 (generation_bit + i) small high))
    (cases_lt (generation_bit + i) 64) ∙ sym (high_bit w i))

-- the generation stays when a pin is cleared
pub cleared_high : (w k : ℕ) → k < seats_at_most → w < 18446744073709551616
    → cleared w k / 2 ^ generation_bit ≡ w / 2 ^ generation_bit
cleared_high w k h small = same_from_bits (cleared w k / 2 ^ generation_bit)
    (w / 2 ^ generation_bit) (λ i. cleared_bit_high w k i h small)

none_is : (n : ℕ) → n ≡ 0 → (n == 1) ≡ false
none_is n e = ap (λ (z : ℕ). z == 1) e

-- a word without the pin
pub unpinned_word : (w : ℕ) (content : List ℕ) (s : ℕ) → s < seats_at_most
    → w < 18446744073709551616
    → slot_read (cleared w s) content ≡ pinned_slot (slot_read w content) s false
unpinned_word w content s h small = same_slot _ _
    (same_from_bits (cleared w s / 2 ^ generation_bit) (w / 2 ^ generation_bit)
    (λ i. cleared_bit_high w s i h small))
    (same _ _ (cleared_else w s claimed_bit h (omega arith) (λ e. omega arith)))
    (same _ _ (cleared_else w s full_bit h (omega arith) (λ e. omega arith)))
    (same _ _ (cleared_else w s done_bit h (omega arith) (λ e. omega arith)))
    (pin_put w (cleared w s) s false (λ k. true) h (none_is _ (cleared_here w s h))
    (λ k l n. cleared_else w s k h (omega arith) n)) refl

-- ---- the next generation
none_low : (g k : ℕ) → k < generation_bit → bit_at (g * 2 ^ generation_bit) k ≡ 0
none_low g k h = let e : g * 2 ^ generation_bit + 0 ≡ g * 2 ^ generation_bit = omega arith in
    subst (λ (z : ℕ). bit_at z k ≡ 0) e (bit_at_cat_low g generation_bit 0 k h ∙ bit_at-zero k)

guarded_none : (b c : Bool) → (b ≡ true → c ≡ false) → (b && c) ≡ false
guarded_none true c e = e refl
guarded_none false c e = refl

-- a word of the next generation
pub freed_word : (w : ℕ) (content : List ℕ) → slot_read
    ((w / 2 ^ generation_bit + 1) * 2 ^ generation_bit) content ≡ freed_slot (slot_read w content)
freed_word w content =
    grind (arith, common_steps, same_slot, none_is, none_low, guarded_none, ltb-true)
