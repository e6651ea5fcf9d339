-- The numbers of the seats.
use Rattle.rv_slots.proofs.Common.{◌≡◌, ℕ, ◌+◌, suc, zero, [], ◌∷◌, ◌++◌, ap, arith, range_with_len}

-- one number more
pub range-more : (a n next : ℕ) → a + n ≡ next → range_with_len a (suc n) ≡ range_with_len a n ++ next ∷ []
range-more a zero next is = let same : a ≡ next = omega (arith, is) in ap (λ (k : ℕ). k ∷ []) same
range-more a (suc n) next is = let then : (a + 1) + n ≡ next = omega (arith, is) in
    ap (λ l. a ∷ l) (range-more (a + 1) n next then)
