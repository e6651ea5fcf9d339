-- What the calls of a carrier come to: the loops that put and get 58 words, and a pin let go.
use Rattle.rv_slots.proofs.Common.{◌≡◌, ℕ, suc, ◌<◌, ◌≤◌, true, List, [], ◌∷◌, length, get_or, Option, Some, None}
use Rattle.rv_slots.proofs.Common.{sym, refl, ap, ◌∙◌, subst, arith, drop, all_put, put_words, SeatView, pin_words}
use Rattle.rv_slots.proofs.Common.{pin_record, Free, IsUnpin, IsFree, IsLetGo}
use Rattle.rv_slots.specs.declared.seats.Seat.{Seat}

-- the words below j are there
abbrev pub HasWords : List (Option ℕ) → List ℕ → ℕ → Type 0
HasWords ws xs j = (m : ℕ) → m < j → get_or ws m None ≡ Some (get_or xs m 0)

-- all words are there
pub all_there : (ws : List (Option ℕ)) (xs : List ℕ) → length ws ≡ length xs → HasWords ws xs
    (length ws) → (all_put ws ≡ true) × (put_words ws ≡ xs)
all_there [] [] l h = (refl, refl)
all_there [] (x ∷ xs) l h = absurd (omega arith)
all_there (w ∷ ws) [] l h = absurd (omega arith)
all_there (None ∷ ws) (x ∷ xs) l h = let e : None ≡ Some x = h 0 (omega arith) in absurd (cc)
all_there (Some w ∷ ws) (x ∷ xs) l h = let e : Some w ≡ Some x = h 0 (omega arith) in let is : w
    ≡ x = cc in let r = all_there ws xs (omega arith) (λ m lt. h (suc m) (omega arith)) in
    (r.0, λ i. is i ∷ r.1 i)

-- the words of the pin's record
pub pin_words_is : (p : SeatView) → p.records ≡ pin_record p ∷ drop 1 p.records
    → pin_words p.records ≡ (pin_record p).words
pin_words_is p e = ap pin_words e

-- 58 words that are there are all
pub put_all : (ws : List (Option ℕ)) (xs : List ℕ) (j : ℕ) → 58 ≤ j → j ≤ 58 → length ws ≡ 58
    → length xs ≡ 58 → HasWords ws xs j → (all_put ws ≡ true) × (put_words ws ≡ xs)
put_all ws xs j past end long wide has =
    let n : j ≡ length ws = omega (arith, long) in
    all_there ws xs (long ∙ sym wide) (subst (HasWords ws xs) n has)

-- an unpin and a free that follows
pub let_go : (p : SeatView) (i j n m : ℕ) (u : Seat) (seen : ℕ) (answer : Free) (r : Seat)
    → j ≡ i → m ≡ n → IsUnpin p j m u seen → IsFree u i seen answer r → IsLetGo p i n r
let_go p i j n m u seen answer r e f step free =
    (u, seen, subst (λ (z : ℕ × ℕ). IsUnpin p z.0 z.1 u seen) (λ k. (e k, f k)) step, answer, free)
