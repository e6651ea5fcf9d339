-- Places of marks.
use Rattle.std.proofs.Common.{IsTrue, List, ap, arith, get_or, inl, inr, length, subst, sym, ℕ, ◌%◌, ◌*◌, ◌<◌, ◌==◌}
use Rattle.std.proofs.Common.{◌^◌, ◌∙◌, ◌≡◌, ◌≢◌, ◌⊎◌}
use Rattle.std.proofs.Math.ListN.{set}
use Rattle.std.proofs.Math.Nat.{mod-eq_of_lt}
use Rattle.std.proofs.Math.Pow.{pow-lt}
use Rattle.std.proofs.lemmas.Bool.{cases_eq, eq-eqb, ne_eqb}
use Rattle.std.proofs.lemmas.Grind.{common_steps}
use Rattle.std.proofs.lemmas.List.{get_or-set_other, get_or-set_same}
use Rattle.std.proofs.lemmas.Nat.Bits.{bit_at-pow_other, bit_at-pow_same, bit_at-zero, bit_at_and, bit_at_or}
use Rattle.std.specs.Int.Bits.{bit_and, bit_or}
use Rattle.std.specs.Prelude.{nat_lt}
use Rattle.rv_cut.specs.Marked.{HasPlaces, has_place}

-- two marks together have the places of both
pub or-cases : (x y k : ℕ) → IsTrue (has_place (bit_or x y) k) → IsTrue (has_place x k) ⊎ IsTrue (has_place y k)
or-cases x y k has = let both = bit_at_or x y k in grind (arith, common_steps, both)

pub or-left : (x y k : ℕ) → IsTrue (has_place x k) → IsTrue (has_place (bit_or x y) k)
or-left x y k has = let both = bit_at_or x y k in grind (arith, common_steps, both)

pub or-right : (x y k : ℕ) → IsTrue (has_place y k) → IsTrue (has_place (bit_or x y) k)
or-right x y k has = let both = bit_at_or x y k in grind (arith, common_steps, both)

-- where nothing is lost of what is wanted, all of it is there
pub and-all : (mark wanted : ℕ) → bit_and mark wanted ≡ wanted → HasPlaces wanted mark
and-all mark wanted same k has = let both = bit_at_and mark wanted k in grind (arith, common_steps, both, same)

-- a mark of 0 has no place
pub none-there : (k : ℕ) → IsTrue (has_place 0 k) → ⊥
none-there k has = let zero-bit = bit_at-zero k in grind (arith, common_steps, zero-bit)

-- and a power of two has one
pub one-there : (p k : ℕ) → p < 32 → has_place (1 * 2 ^ p % 4294967296) k ≡ (k == p)
one-there p k low = ap (λ (n : ℕ). has_place n k) small ∙ go (cases_eq k p)
  where
    small : 1 * 2 ^ p % 4294967296 ≡ 2 ^ p
    small =
        let less : 2 ^ p < 2 ^ 32 = pow-lt low in
        mod-eq_of_lt (omega (arith, less)) ∙ omega arith

    go : (k ≡ p) ⊎ (k ≢ p) → has_place (2 ^ p) k ≡ (k == p)
    go (inl same) =
        ap (λ (n : ℕ). has_place (2 ^ p) n) same ∙ ap (λ (b : ℕ). nat_lt 0 b) (bit_at-pow_same p)
        ∙ sym (eq-eqb k p same)
    go (inr other) = ap (λ (b : ℕ). nat_lt 0 b) (bit_at-pow_other p k other) ∙ sym (ne_eqb k p other)

-- where places are added to one mark of a row, each has those from before, or it is that one
pub set-places : (xs : List ℕ) (seq mark old : ℕ) → seq < length xs → old ≡ get_or xs seq 0 → (s k : ℕ) →
    IsTrue (has_place (get_or (set xs seq (bit_or old mark)) s 0) k) →
    IsTrue (has_place (get_or xs s 0) k) ⊎ ((s ≡ seq) × IsTrue (has_place mark k))
set-places xs seq mark old low is s k has = go (cases_eq s seq)
  where
    go : (s ≡ seq) ⊎ (s ≢ seq) → IsTrue (has_place (get_or xs s 0) k) ⊎ ((s ≡ seq) × IsTrue (has_place mark k))
    go (inr other) =
        inl (subst (λ (n : ℕ). IsTrue (has_place n k)) (get_or-set_other xs seq s (bit_or old mark) 0 other) has)
    go (inl same) =
        let at = ap (λ (n : ℕ). get_or (set xs seq (bit_or old mark)) n 0) same
        ∙ get_or-set_same xs seq (bit_or old mark) 0 low in
        elim (or-cases old mark k (subst (λ (n : ℕ). IsTrue (has_place n k)) at has)) [
          | inl before ↦ inl (subst (λ (n : ℕ). IsTrue (has_place n k))
              (is ∙ ap (λ (n : ℕ). get_or xs n 0) (sym same)) before)
          | inr new ↦ inr (same, new)
        ]
