-- A well formed log with one more entry.
use Rattle.rv_event.proofs.Common.{common_steps, rules, ◌≡◌, List, [], ◌∷◌, ◌++◌, length, ◌⊎◌, inl, inr, refl, ap}
use Rattle.rv_event.proofs.Common.{arith, None, length-append, fault_of, fault_within, WellFormed, WellFormedWithin}
use Rattle.rv_event.proofs.Common.{ℕ, Entry}

-- a list with one more at its end is cut at that one, or before it
pub split_push : {X : Type 0} (xs : List X) (x : X) (before after : List X) (y : X) → xs ++ x ∷ [] ≡ before ++ y ∷
    after → ((xs ≡ before) × (x ≡ y)) ⊎ ((rest : List X) × (xs ≡ before ++ y ∷ rest))
split_push [] x [] after y e = inl (refl, cc)
split_push [] x (b ∷ bs) after y e = absurd (omega (arith, ap length e, length-append bs (y ∷ after)))
split_push (a ∷ as') x [] after y e = let h : a ≡ y = cc in inr (as', rw h)
split_push {X} (a ∷ as') x (b ∷ bs) after y e =
    let head : a ≡ b = cc in
    let tail : as' ++ x ∷ [] ≡ bs ++ y ∷ after = cc in
    go head (split_push as' x bs after y tail)
  where
    go : a ≡ b → ((as' ≡ bs) × (x ≡ y)) ⊎ ((rest : List X) × (as' ≡ bs ++ y ∷ rest)) → ((a ∷ as' ≡ b ∷ bs) × (x ≡ y)) ⊎
        ((rest : List X) × (a ∷ as' ≡ b ∷ bs ++ y ∷ rest))
    go h (inl (s, t)) = inl (cc, t)
    go h (inr (rest, s)) = inr (rest, cc)

-- the empty log is well formed
pub WellFormed-nil : WellFormed []
WellFormed-nil before after x e = absurd (omega (arith, ap length e, length-append before (x ∷ after)))

-- a log stays so with an entry that has no fault
pub WellFormed-push : (log : List Entry) (x : Entry) → WellFormed log → fault_of log x ≡ None →
    WellFormed (log ++ x ∷ [])
WellFormed-push log x ok none before after y e = search (split_push, rules)

-- so is the beginning of one, however many events a hart may have
pub within-front : (limit : ℕ) (log more : List Entry) → WellFormedWithin limit (log ++ more) →
    WellFormedWithin limit log
within-front limit log more ok before after x e = grind (arith, common_steps)

-- and its last entry has no fault
pub within-last : (limit : ℕ) (log : List Entry) (x : Entry) → WellFormedWithin limit (log ++ x ∷ []) →
    fault_within limit log x ≡ None
within-last limit log x ok = ok log [] x refl

-- the beginning of a well formed log is well formed
pub WellFormed-front : (log more : List Entry) → WellFormed (log ++ more) → WellFormed log
WellFormed-front log more ok = within-front 4096 log more ok

-- and its last entry has no fault
pub WellFormed-last : (log : List Entry) (x : Entry) → WellFormed (log ++ x ∷ []) → fault_of log x ≡ None
WellFormed-last log x ok = ok log [] x refl
