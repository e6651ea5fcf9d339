-- An act of the code is the machine's.
use Rattle.rv_slotcore.proofs.Common.{Option, Some, None, unwrap_or, is_some, list_all, nat_lt, ◌≡◌, ◌<◌, ◌&&◌, ℕ}
use Rattle.rv_slotcore.proofs.Common.{List, [], ◌∷◌, map, refl, ap, ◌∙◌, arith, common_steps, Slot, Seat, with_slot}
use Rattle.rv_slotcore.proofs.Common.{with_seat, with_both, Moved, if_fits, put_words, all_put, core_of, answer_of}
use Rattle.rv_slotcore.proofs.Common.{Went, Parts}
use Rattle.rv_slotcore.specs.Machine as machine
use Rattle.rv_slotcore.specs.declared.step.Answer as coded

-- a program's act is the machine's
pub went : (h : Parts) (a : coded.Answer) (m n : Moved) → m ≡ n → core_of h ≡ n.0 → answer_of a
    ≡ n.1 → Went h a m
went h a m n e core same = grind (arith, common_steps)

-- a write of a slot and then of a seat
pub two_writes : (c : machine.Core) (f g : Parts) (i s : ℕ) (y : Slot) (z : Seat → Seat) → core_of f
    ≡ with_slot c i y → core_of g ≡ with_seat (core_of f) s (z ((core_of f).seats s)) → core_of g
    ≡ with_both c i y s (z (c.seats s))
two_writes c f g i s y z e d = d ∙ ap (λ (x : machine.Core). with_seat x s (z (x.seats s))) e

-- a write of a seat and then of a slot
pub two_writes_back : (c : machine.Core) (f g : Parts) (i s : ℕ) (q : Seat) (y : Slot → Slot)
    → core_of f ≡ with_seat c s q → core_of g ≡ with_slot (core_of f) i (y ((core_of f).slots i))
    → core_of g ≡ with_both c i (y (c.slots i)) s q
two_writes_back c f g i s q y e d = d ∙ ap (λ (x : machine.Core). with_slot x i (y (x.slots i))) e

-- the words that were put
pub put_is : (ws : List (Option ℕ)) → map (λ o. unwrap_or o 0) ws ≡ put_words ws
put_is [] = refl
put_is (None ∷ ws) = ap (λ (v : List ℕ). 0 ∷ v) (put_is ws)
put_is (Some w ∷ ws) = ap (λ (v : List ℕ). w ∷ v) (put_is ws)

-- whether all words were put
pub all_is : (ws : List (Option ℕ)) → list_all is_some ws ≡ all_put ws
all_is [] = refl
all_is (None ∷ ws) = refl
all_is (Some w ∷ ws) = all_is ws

-- an act whose numbers are in range is tried
pub went_in_range : (h : Parts) (a : coded.Answer) (c : machine.Core) (s i n k : ℕ)
    (m whole : Moved) → whole ≡ if_fits c s (nat_lt s n && nat_lt i k) m → s < n → i < k
    → Went h a m → Went h a whole
went_in_range h a c s i n k m whole is p q w = grind (arith, common_steps)
