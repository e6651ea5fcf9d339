-- Words that share bytes begin in the same eight bytes.
use Rattle.std.proofs.Common.{ℕ, ◌≡◌, ◌+◌, ◌<◌, ◌≤◌, ◌/◌, ◌%◌, ◌⊎◌, inl, inr, sym, ◌∙◌, arith, subst}
use Rattle.std.proofs.lemmas.Bool.{cases_lt}
use Rattle.rv_memory.specs.Words.{IsAligned, IsSize, Meets}
use Rattle.rv_memory.specs.declared.words.Word.{Word}

-- an aligned word lies in eight bytes
same-block : (a s byte : ℕ) → IsSize s → a % s ≡ 0 → a ≤ byte → byte < a + s → a / 8 ≡ byte / 8
same-block a s byte size whole low high = elim size [
  | inl one ↦ omega (one, low, high, arith)
  | inr (inl two) ↦
      (let even : a % 2 ≡ 0 = subst (λ (n : ℕ). a % n ≡ 0) two whole in omega (two, even, low, high, arith))
  | inr (inr (inl four)) ↦
      (let even : a % 4 ≡ 0 = subst (λ (n : ℕ). a % n ≡ 0) four whole in omega (four, even, low, high, arith))
  | inr (inr (inr eight)) ↦
      (let even : a % 8 ≡ 0 = subst (λ (n : ℕ). a % n ≡ 0) eight whole in omega (eight, even, low, high, arith))
]

-- no access is of no bytes
pub some-bytes : (n : ℕ) → IsSize n → 0 < n
some-bytes n size = elim size [
  | inl one ↦ omega (one, arith)
  | inr (inl two) ↦ omega (two, arith)
  | inr (inr (inl four)) ↦ omega (four, arith)
  | inr (inr (inr eight)) ↦ omega (eight, arith)
]

module _ {x w : Word} (x-size : IsSize x.size) (x-whole : IsAligned x) (w-size : IsSize w.size)
    (w-whole : IsAligned w) where
  -- so words that share a byte begin in the same eight
  pub meets-block : Meets x w → x.address / 8 ≡ w.address / 8
  meets-block m =
      same-block x.address x.size m.0 x-size x-whole m.1.0 m.1.1 ∙
      sym (same-block w.address w.size m.0 w-size w-whole m.2.0 m.2.1)

-- they do, where each begins before the other ends
pub meets-from : (x w : Word) → IsSize x.size → IsSize w.size → x.address < w.address + w.size →
    w.address < x.address + x.size → Meets x w
meets-from x w x-size w-size low high = from (cases_lt x.address w.address)
  where
    x-some : 0 < x.size
    x-some = some-bytes x.size x-size

    w-some : 0 < w.size
    w-some = some-bytes w.size w-size

    from : (x.address < w.address) ⊎ (w.address ≤ x.address) → Meets x w
    from (inl before) = (w.address, (omega (before, arith), high), (omega arith, omega (w-some, arith)))
    from (inr after) = (x.address, (omega arith, omega (x-some, arith)), (after, low))

pub meets-bounds : (x w : Word) → Meets x w → (x.address < w.address + w.size) × (w.address < x.address + x.size)
meets-bounds x w m =
    let x-low = m.1.0 in let x-high = m.1.1 in let w-low = m.2.0 in let w-high = m.2.1 in
    (omega (x-low, w-high, arith), omega (w-low, x-high, arith))
