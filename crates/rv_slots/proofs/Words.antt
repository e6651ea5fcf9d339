-- A change of one word of the table.
use Rattle.rv_slots.proofs.Common.{claimed_bit, done_bit, full_bit, generation_bit, seats_at_most, slot_words}
use Rattle.rv_slots.proofs.Common.{◌≡◌, ℕ, ◌+◌, ◌*◌, ◌^◌, ◌<◌, true, false, List, get_or, set, bit_or, sym, ap}
use Rattle.rv_slots.proofs.Common.{◌∙◌, subst, arith, length-set, get_or-set_other, get_or-set_at, bit_at, Slot}
use Rattle.rv_slots.proofs.Common.{put_at, claimed_slot, written_slot, full_slot, done_slot, pinned_slot}
use Rattle.rv_slots.proofs.Common.{freed_slot, put_cases, Reads, IsTable, or_here, or_else, or_high, cleared}
use Rattle.rv_slots.proofs.Common.{cleared_here, cleared_else, cleared_high, set-get_or, dite, ℕ_discrete}
use Rattle.rv_slots.proofs.Common.{bit_at_cat_low, bit_at-zero, common_steps}

-- a slot with the claim is read
pub reads_claimed : (w : ℕ) (x : Slot) → Reads w x → Reads (bit_or w (2 ^ claimed_bit))
    (claimed_slot x)
reads_claimed w x r = record {
  generation = or_high w claimed_bit (omega arith) ∙ r.generation;
  claimed = or_here w seats_at_most;
  full = or_else w claimed_bit full_bit (λ e. omega arith) ∙ r.full;
  done = or_else w claimed_bit done_bit (λ e. omega arith) ∙ r.done;
  pins = λ s h. or_else w claimed_bit s (λ e. omega arith) ∙ r.pins s h;
}

-- with the flag full
pub reads_full : (w : ℕ) (x : Slot) → Reads w x → Reads (bit_or w (2 ^ full_bit)) (full_slot x)
reads_full w x r = record {
  generation = or_high w full_bit (omega arith) ∙ r.generation;
  claimed = or_else w full_bit claimed_bit (λ e. omega arith) ∙ r.claimed;
  full = or_here w full_bit;
  done = or_else w full_bit done_bit (λ e. omega arith) ∙ r.done;
  pins = λ s h. or_else w full_bit s (λ e. omega arith) ∙ r.pins s h;
}

-- with the flag done
pub reads_done : (w : ℕ) (x : Slot) → Reads w x → Reads (bit_or w (2 ^ done_bit)) (done_slot x)
reads_done w x r = record {
  generation = or_high w done_bit (omega arith) ∙ r.generation;
  claimed = or_else w done_bit claimed_bit (λ e. omega arith) ∙ r.claimed;
  full = or_else w done_bit full_bit (λ e. omega arith) ∙ r.full;
  done = or_here w done_bit;
  pins = λ s h. or_else w done_bit s (λ e. omega arith) ∙ r.pins s h;
}

-- with a pin
pub reads_pin : (w s : ℕ) (x : Slot) → s < seats_at_most → Reads w x → Reads (bit_or w (2 ^ s))
    (pinned_slot x s true)
reads_pin w s x l r = record {
  generation = or_high w s (omega arith) ∙ r.generation;
  claimed = or_else w s claimed_bit (λ e. omega arith) ∙ r.claimed;
  full = or_else w s full_bit (λ e. omega arith) ∙ r.full;
  done = or_else w s done_bit (λ e. omega arith) ∙ r.done;
  pins = grind (arith, common_steps, put_cases, or_here, or_else);
}

-- without it
pub reads_unpin : (w s : ℕ) (x : Slot) → s < seats_at_most → w < 18446744073709551616 → Reads w x
    → Reads (cleared w s) (pinned_slot x s false)
reads_unpin w s x l small r = record {
  generation = cleared_high w s l small ∙ r.generation;
  claimed = cleared_else w s claimed_bit l (omega arith) (λ e. omega arith) ∙ r.claimed;
  full = cleared_else w s full_bit l (omega arith) (λ e. omega arith) ∙ r.full;
  done = cleared_else w s done_bit l (omega arith) (λ e. omega arith) ∙ r.done;
  pins = grind (arith, common_steps, put_cases, cleared_here, cleared_else);
}

-- the next generation, with all lower bits clear
pub reads_free : (g : ℕ) (x : Slot) → g ≡ x.generation → Reads ((g + 1) * 2 ^ generation_bit)
    (freed_slot x)
reads_free g x e =
    let z : (g + 1) * 2 ^ generation_bit + 0 ≡ (g + 1) * 2 ^ generation_bit = omega arith in
    let low : (k : ℕ) → k < generation_bit → bit_at ((g + 1) * 2 ^ generation_bit) k ≡ 0 =
    λ k h. subst (λ (v : ℕ). bit_at v k ≡ 0) z
    (bit_at_cat_low (g + 1) generation_bit 0 k h ∙ bit_at-zero k) in
    record {
      generation = grind (arith, common_steps);
      claimed = low claimed_bit (omega arith);
      full = low full_bit (omega arith);
      done = low done_bit (omega arith);
      pins = λ s h. low s (omega arith);
    }

-- the state word of slot i changes
pub state_changes : (n : ℕ) (words : List ℕ) (slots : ℕ → Slot) (i w : ℕ) (x : Slot)
    → IsTable n words slots → i < n → Reads w x → x.content ≡ (slots i).content
    → IsTable n (set words (slot_words * i) w) (put_at slots i x)
state_changes n words slots i w x t h r same = grind (arith, common_steps)

-- the word changes and still reads as the slot
pub state_stays : (n : ℕ) (words : List ℕ) (slots : ℕ → Slot) (i w : ℕ) → IsTable n words slots
    → i < n → Reads w (slots i) → IsTable n (set words (slot_words * i) w) slots
state_stays n words slots i w t h r = grind (arith, common_steps)

-- word j of slot i's content changes
pub content_changes : (n : ℕ) (words : List ℕ) (slots : ℕ → Slot) (i j v : ℕ)
    → IsTable n words slots → i < n → j < 58 → IsTable n (set words (slot_words * i + (1 + j)) v)
    (put_at slots i (written_slot (slots i) j v))
content_changes n words slots i j v t h l = let wide = t.sized in let x : Slot = slots i in
    let y : Slot = written_slot x j v in let at : ℕ = slot_words * i + (1 + j) in record {
      sized = length-set words at v ∙ wide;
      states = grind (arith, common_steps);
      contents = λ k m below within. let long = t.long i h in put_cases
          (λ z. get_or (set words at v) (slot_words * k + (1 + m)) 0 ≡ get_or z.content m 0) slots i k
          y (λ e. dite (ℕ_discrete m j)
          (λ d. get_or-set_at words at (slot_words * k + (1 + m)) v 0 (omega arith) (omega arith)
          ∙ sym (get_or-set_at x.content j m v 0 d (omega arith)))
          (λ nd. get_or-set_other words at (slot_words * k + (1 + m)) v 0 (λ e'. nd (omega arith)) ∙
          (t.contents k m below within ∙ (ap (λ (u : ℕ). get_or (slots u).content m 0) e ∙ sym
          (get_or-set_other x.content j m v 0 nd)))))
          (λ ne. get_or-set_other words at (slot_words * k + (1 + m)) v 0 (λ e'. ne (omega arith))
          ∙ t.contents k m below within);
      long = grind (arith, common_steps);
    }

-- a load changes nothing
pub loads : (n : ℕ) (words : List ℕ) (slots : ℕ → Slot) (at : ℕ) → IsTable n words slots
    → IsTable n (set words at (get_or words at 0)) slots
loads n words slots at t = subst (λ (l : List ℕ). IsTable n l slots) (sym (set-get_or words at 0)) t
