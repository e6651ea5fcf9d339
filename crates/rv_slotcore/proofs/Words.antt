-- The state word and its bits.
use Rattle.rv_slotcore.proofs.Common.{seats_at_most, claimed_bit, full_bit, done_bit, generation_bit, ◌≡◌, ◌≢◌, ℕ}
use Rattle.rv_slotcore.proofs.Common.{zero, suc, ◌+◌, ◌-◌, ◌*◌, ◌/◌, ◌%◌, ◌^◌, ◌<◌, ◌≤◌, Bool, true, false, ◌&&◌}
use Rattle.rv_slotcore.proofs.Common.{sym, refl, ap, ◌∙◌, subst, arith, shr-shr, ⊎_elim, pow-suc, eqb-true}
use Rattle.rv_slotcore.proofs.Common.{bit_at, cases_lt, cases_eq, shr_high}
use Rattle.rv_slotcore.proofs.Common.{same_from_bits}
use Rattle.rv_slotcore.proofs.Common.{bit_at_cat_low, bit_at_cat_high, common_steps, Slot, flag, pin_bits}
use Rattle.rv_slotcore.proofs.Common.{word_of, is_free_word, Reads}

flag_bit : (b : Bool) → bit_at (flag b) 0 ≡ flag b
flag_bit true = refl
flag_bit false = refl

room : (b : Bool) (p r t : ℕ) → r < p → t ≡ 2 * p → flag b * p + r < t
room true p r t h e = omega arith
room false p r t h e = omega arith

pin_bits_small : (f : ℕ → Bool) (k : ℕ) → pin_bits f k < 2 ^ k
pin_bits_small f zero = omega arith
pin_bits_small f (suc k) = let r = pin_bits_small f k in let p = pow-suc 2 k in room (f k) (2 ^ k)
    (pin_bits f k) (2 ^ suc k) r (p ∙ omega arith)

-- the pin of a seat
pub pin_bit : (f : ℕ → Bool) (k s : ℕ) → s < k → bit_at (pin_bits f k) s ≡ flag (f s)
pin_bit f zero s h = absurd (omega arith)
pin_bit f (suc k) s h = ⊎_elim
    (λ below. bit_at_cat_low (flag (f k)) k (pin_bits f k) s below ∙ pin_bit f k s below)
    (λ at. let is : s ≡ k = omega arith in subst
    (λ (z : ℕ). bit_at (flag (f k) * 2 ^ k + pin_bits f k) z ≡ flag (f z)) (sym is)
    (bit_at_cat_high (flag (f k)) k (pin_bits f k) k (pin_bits_small f k) (omega arith) ∙
    (ap (λ (z : ℕ). bit_at (flag (f k)) z) (let e : k - k ≡ 0 = omega arith in e) ∙ flag_bit
    (f k)))) (cases_lt s k)

abbrev flags : Bool → Bool → Bool → ℕ
flags d f c = flag d * 4 + (flag f * 2 + flag c)

flags_are : (d f c : Bool) → (bit_at (flags d f c) 0 ≡ flag c) × (bit_at (flags d f c) 1 ≡ flag f) ×
    (bit_at (flags d f c) 2 ≡ flag d) × (flags d f c < 8)
flags_are d f c = grind (arith, common_steps)

low_small : (a p : ℕ) → a < 8 → p < 2 ^ claimed_bit → a * 2 ^ claimed_bit + p < 2 ^ generation_bit
low_small a p h l = omega arith

-- a slot's word is read as the slot
pub word_reads : (x : Slot) → Reads (word_of x) x
word_reads x = let a : ℕ = flags x.done x.full x.claimed in let p : ℕ =
    pin_bits x.pins seats_at_most in
    let f = flags_are x.done x.full x.claimed in let ps = pin_bits_small x.pins seats_at_most in
    let low =
    low_small a p f.3 ps in record {
      generation = shr_high x.generation generation_bit (a * 2 ^ claimed_bit + p) low;
      claimed = grind (arith, common_steps);
      full = grind (arith, common_steps);
      done = grind (arith, common_steps);
      pins = λ s h. bit_at_cat_low x.generation generation_bit (a * 2 ^ claimed_bit + p) s
          (omega arith) ∙
          (bit_at_cat_low a claimed_bit p s h ∙ pin_bit x.pins seats_at_most s h);
    }

-- a bit of the generation
pub high_bit : (w i : ℕ) → bit_at (w / 2 ^ generation_bit) i ≡ bit_at w (generation_bit + i)
high_bit w i = ap (λ (z : ℕ). z % 2) (shr-shr w generation_bit i)

between : (i : ℕ) → claimed_bit ≤ i → i ≢ claimed_bit → i ≢ full_bit → i ≢ done_bit
    → i < generation_bit → ⊥
between i a b c d e = omega arith

same_bit : (a b : ℕ) (x : Slot) → Reads a x → Reads b x → (i : ℕ) → bit_at a i ≡ bit_at b i
same_bit a b x r t i = ⊎_elim (λ pin. r.pins i pin ∙ sym (t.pins i pin)) (λ over. ⊎_elim
    (λ low. ⊎_elim (λ at_claimed. subst (λ (z : ℕ). bit_at a z ≡ bit_at b z) (sym at_claimed)
    (r.claimed ∙ sym t.claimed))
    (λ not. ⊎_elim (λ at_full. subst (λ (z : ℕ). bit_at a z ≡ bit_at b z) (sym at_full)
    (r.full ∙ sym t.full))
    (λ nor. ⊎_elim (λ at_done. subst (λ (z : ℕ). bit_at a z ≡ bit_at b z) (sym at_done)
    (r.done ∙ sym t.done)) (λ neither. absurd (between i over not nor neither low))
    (cases_eq i done_bit)) (cases_eq i full_bit)) (cases_eq i claimed_bit))
    (λ high. let e : generation_bit + (i - generation_bit) ≡ i = omega arith in subst
    (λ (z : ℕ). bit_at a z ≡ bit_at b z) e (sym (high_bit a (i - generation_bit)) ∙
    (ap (λ (z : ℕ). bit_at z (i - generation_bit)) (r.generation ∙ sym t.generation) ∙ high_bit b
    (i - generation_bit)))) (cases_lt i generation_bit)) (cases_lt i seats_at_most)

-- one slot has one word
pub one_word : (a b : ℕ) (x : Slot) → Reads a x → Reads b x → a ≡ b
one_word a b x r t = same_from_bits a b (same_bit a b x r t)

-- both of two tests that hold together
pub both_true : (a b : Bool) → a && b ≡ true → (a ≡ true) × (b ≡ true)
both_true a b e = grind (arith, common_steps)

-- a flag that is 1
pub flag_one : (b : Bool) → flag b ≡ 1 → b ≡ true
flag_one true e = refl
flag_one false e = absurd (omega arith)

-- a flag that is 0
pub flag_none : (b : Bool) → flag b ≡ 0 → b ≡ false
flag_none true e = absurd (omega arith)
flag_none false e = refl

low_clear : (n t : ℕ) → n % 2 ^ claimed_bit ≡ 0 → t < seats_at_most → bit_at n t ≡ 0
low_clear n t e h = let a : ℕ = n / 2 ^ claimed_bit in let is : a * 2 ^ claimed_bit + 0 ≡ n =
    omega arith in
    subst (λ (z : ℕ). bit_at z t ≡ 0) is
    (bit_at_cat_low a claimed_bit 0 t h ∙ Rattle.std.proofs.lemmas.Nat.Bits.bit_at-zero t)

-- a word that may be freed says claimed, full, done and no pin
pub free_word : (seen : ℕ) (x : Slot) → is_free_word seen ≡ true → Reads seen x → (x.claimed ≡ true)
    × (x.full ≡ true) × (x.done ≡ true) × ((t : ℕ) → t < seats_at_most → x.pins t ≡ false)
free_word seen x e r =
    grind (arith, common_steps, both_true, flag_one, eqb-true, flag_none, low_clear)
