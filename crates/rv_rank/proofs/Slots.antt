-- The slots of an order, filled one after another.
use Rattle.rv_rank.proofs.Common.{◌≡◌, ◌≢◌, ℕ, zero, suc, ◌+◌, ◌-◌, ◌<◌, ◌≤◌, Bool, true, false, cond, List}
use Rattle.rv_rank.proofs.Common.{length, get_or, set, inl, inr, sym, ◌∙◌, arith, ap, refl, get_or-set_same}
use Rattle.rv_rank.proofs.Common.{get_or-set_other, length-set, cases_eq, cases_lt, false≢true, common_steps}
use Rattle.rv_rank.proofs.Common.{count_below, members_of, IsMended}

-- a count of slots goes up at one
pub below_yes : (s : ℕ → Bool) (k : ℕ) → s k ≡ true → count_below s (k + 1) ≡ count_below s k + 1
below_yes s k e = let q : k + 1 ≡ suc k =
    omega arith in rw q (ap (λ b. cond b (suc (count_below s k)) (count_below s k)) e ∙ omega arith)

-- and stays where there is none
pub below_no : (s : ℕ → Bool) (k : ℕ) → s k ≡ false → count_below s (k + 1) ≡ count_below s k
below_no s k e = let q : k + 1 ≡ suc k =
    omega arith in rw q (ap (λ b. cond b (suc (count_below s k)) (count_below s k)) e)

below_step : (s : ℕ → Bool) (k : ℕ) → count_below s k ≤ count_below s (suc k)
below_step s k = grind (arith, common_steps)

below_along : (s : ℕ → Bool) (k d : ℕ) → count_below s k ≤ count_below s (k + d)
below_along s k zero = let e : k + zero ≡ k = omega arith in rw e (omega arith)
below_along s k (suc d) = let e : k + suc d ≡ suc (k + d) =
    omega arith in rw e (omega (arith, below_along s k d, below_step s (k + d)))

-- it does not fall
pub below_mono : (s : ℕ → Bool) (j k : ℕ) → j ≤ k → count_below s j ≤ count_below s k
below_mono s j k l = let e : j + (k - j) ≡ k = omega arith in let h = below_along s j (k - j) in rw e at h

-- and rises past a slot
pub below_strict : (s : ℕ → Bool) (j k : ℕ) → s j ≡ true → j < k → count_below s j < count_below s k
below_strict s j k e l = omega (arith, below_yes s j e, below_mono s (j + 1) k (omega arith))

-- without slots it is 0
pub below_none : (s : ℕ → Bool) (r : ℕ) → ((k : ℕ) → k < r → s k ≡ false) → count_below s r ≡ 0
below_none s zero n = refl
below_none s (suc r) n = ap (λ b. cond b (suc (count_below s r)) (count_below s r)) (n r (omega arith)) ∙
    below_none s r (λ k l. n k (omega arith))

-- over ranks that are no slots it stays
pub below_jump : (s : ℕ → Bool) (j k : ℕ) → j ≤ k → ((i : ℕ) → j ≤ i → i < k → s i ≡ false) →
    count_below s k ≡ count_below s j
below_jump s j zero l n = let e : j ≡ zero = omega arith in rw e refl
below_jump s j (suc k) l n = elim (cases_eq j (suc k)) [
  | inl e ↦ rw e refl
  | inr less ↦
      let more = below_no s k (n k (omega arith) (omega arith)) in
      let q : k + 1 ≡ suc k = omega arith in
      (rw q at more) ∙ below_jump s j k (omega arith) (λ i from under. n i from (omega arith))
]

-- it is at most the rank
pub below_few : (s : ℕ → Bool) (k : ℕ) → count_below s k ≤ k
below_few s zero = omega arith
below_few s (suc k) =
    let h = below_few s k in
    elim (s k) as (λ b. cond b (suc (count_below s k)) (count_below s k) ≤ suc k) [
      | true ↦ omega (arith, h)
      | false ↦ omega (arith, h)
    ]

-- a slot takes the next member
pub IsMended-more : (slot : ℕ → Bool) (members nodes ranks new_nodes new_ranks : List ℕ) (r : ℕ) →
    IsMended slot members nodes ranks new_nodes new_ranks r → r < length nodes → slot r ≡ true →
    count_below slot r < length members → get_or members (count_below slot r) 0 < length ranks →
    ((i j : ℕ) → i < j → j < length members → get_or members i 0 ≢ get_or members j 0) →
    IsMended slot members nodes ranks (set new_nodes r (get_or members (count_below slot r) 0))
    (set new_ranks (get_or members (count_below slot r) 0) r) (r + 1)
IsMended-more slot members nodes ranks new_nodes new_ranks r h b e m within apart =
    let i = count_below slot r in
    let v = get_or members i 0 in
    let here = get_or-set_same new_nodes r v 0 (omega (arith, h.long_nodes)) in
    let there : (k : ℕ) → k ≢ r → get_or (set new_nodes r v) k 0 ≡ get_or new_nodes k 0 =
    λ k n. get_or-set_other new_nodes r k v 0 n in
    let rank_here = get_or-set_same new_ranks v r 0 (omega (arith, h.long_ranks)) in
    let rank_there : (a : ℕ) → a ≢ v → get_or (set new_ranks v r) a 0 ≡ get_or new_ranks a 0 =
    λ a n. get_or-set_other new_ranks v a r 0 n in
    record {
      long_nodes = length-set new_nodes r v ∙ h.long_nodes;
      long_ranks = length-set new_ranks v r ∙ h.long_ranks;
      filled = λ k l f. elim (cases_eq k r) [
        | inl q ↦ rw q (here, rank_here)
        | inr n ↦
            let p = h.filled k (omega arith) f in
            let less = below_strict slot k r f (omega arith) in
            let d = apart (count_below slot k) i less m in
            (there k n ∙ p.0, rank_there _ d ∙ p.1)
      ];
      spared = λ k l f. elim (cases_eq k r) [
        | inl q ↦ absurd (false≢true (sym f ∙ ap slot q ∙ e))
        | inr n ↦ there k n ∙ h.spared k (omega arith) f
      ];
      ahead = λ k l. there k (λ q. omega arith) ∙ h.ahead k (omega arith);
      others = λ a n. rank_there a (λ q. n i m (sym q)) ∙ h.others a n;
    }

-- where there are no slots from a rank on, all have taken their members
pub IsMended-all : (slot : ℕ → Bool) (members nodes ranks new_nodes new_ranks : List ℕ) (r n : ℕ) →
    IsMended slot members nodes ranks new_nodes new_ranks r → ((k : ℕ) → r ≤ k → k < n → slot k ≡ false) → r ≤ n →
    IsMended slot members nodes ranks new_nodes new_ranks n
IsMended-all slot members nodes ranks new_nodes new_ranks r n h none few = record {
  long_nodes = h.long_nodes;
  long_ranks = h.long_ranks;
  filled = λ k l f. elim (cases_lt k r) [
    | inl under ↦ h.filled k under f
    | inr over ↦ absurd (false≢true (sym (none k over l) ∙ f))
  ];
  spared = λ k l f. elim (cases_lt k r) [ inl under ↦ h.spared k under f | inr over ↦ h.ahead k over ];
  ahead = λ k from. h.ahead k (omega (arith, few, from));
  others = h.others;
}

-- there is one member more than visits
pub members_of-long : (visits : List ℕ) (split node : ℕ) → split ≤ length visits →
    length (members_of visits split node) ≡ length visits + 1
members_of-long visits split node l = grind (arith, common_steps)
