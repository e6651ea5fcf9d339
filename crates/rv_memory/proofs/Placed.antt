-- The places of words under their addresses.
use Rattle.std.proofs.Common.{ℕ, ◌≡◌, ◌≢◌, ◌+◌, ◌-◌, ◌<◌, ◌≤◌, ◌/◌, ◌%◌, ◌++◌, ◌∷◌, [], List, length, sym, ap, ◌∙◌}
use Rattle.std.proofs.Common.{Contains, Some, None, Option, arith, subst, get_or, ◌⊎◌, inl, inr}
use Rattle.std.proofs.lemmas.Bool.{cases_eq, cases_lt}
use Rattle.std.proofs.lemmas.List.{get_or_append_left, get_or_at, get_or_default, length_push}
use Rattle.std.proofs.lemmas.List.Elements.{Contains-get_or, Contains-push_cases}
use Rattle.std.proofs.lemmas.Option.{none-some}
use Rattle.rv_memory.specs.Words.{AreWords, IsAligned, IsApart, IsSize, Meets}
use Rattle.rv_memory.specs.declared.words.Word.{Word}
use Rattle.rv_memory.proofs.Lists.{some-same}
use Rattle.rv_memory.proofs.Blocks.{meets-block, meets-bounds, meets-from, some-bytes}

-- where the eight bytes of a word begin
abbrev base : Word → ℕ
base w = w.address - w.address % 8

-- the words that share bytes with this one begin from a place on
abbrev pub From : List Word → Word → ℕ → Type 0
From words w offset = (x : Word) → Contains words x → Meets x w → base w + offset ≤ x.address

module _ {place_of : ℕ → Option ℕ} {words : List Word} (are : AreWords place_of words) where
  -- a word's place is under its address
  pub place-of : (x : Word) (cx : Contains words x) → place_of x.address ≡ Some cx.0
  place-of x cx = subst (λ (y : Word). place_of y.address ≡ Some cx.0) cx.2 (are.placed cx.0 x cx.1)

  -- no word begins where there is no place
  pub none-there : (address : ℕ) → None ≡ place_of address → (x : Word) → Contains words x → x.address ≢ address
  none-there address none x cx same =
      none-some cx.0 (none ∙ ap place_of (sym same) ∙ place-of x cx)

  -- and one at most where there is
  pub one-there : (address k : ℕ) → Some k ≡ place_of address → (x : Word) → Contains words x → x.address ≡ address →
      get_or words k x ≡ x
  one-there address k some x cx same =
      let at : k ≡ cx.0 = some-same k cx.0 (some ∙ ap place_of (sym same) ∙ place-of x cx) in
      ap (λ (i : ℕ). get_or words i x) at ∙ cx.2

  module _ (w : Word) (w-size : IsSize w.size) (w-whole : IsAligned w) where
    block : (x : Word) → Contains words x → Meets x w → x.address / 8 ≡ w.address / 8
    block x cx m = meets-block {x = x} {w = w} (are.sized x cx).0 (are.sized x cx).1 w-size w-whole m

    pub from-start : From words w 0
    from-start x cx m = let same = block x cx m in omega (same, arith)

    pub from-next : (offset : ℕ) → From words w offset →
        ((x : Word) → Contains words x → Meets x w → x.address ≢ base w + offset) → From words w (offset + 1)
    from-next offset so apart x cx m =
        elim (cases_eq x.address (base w + offset)) [
          | inl here ↦ absurd (apart x cx m here)
          | inr other ↦ (let low = so x cx m in omega (low, other, arith))
        ]

    -- none begins behind the eight bytes
    pub from-end : (offset : ℕ) → 8 ≤ offset → From words w offset → (x : Word) → Contains words x → Meets x w → ⊥
    from-end offset high so x cx m =
        let same = block x cx m in let low = so x cx m in absurd (omega (same, low, high, arith))

    module _ (offset k : ℕ) (some : Some k ≡ place_of (base w + offset)) (other : Word)
        (at : get_or words k other ≡ other) where
      low : k < length words
      low = (are.there (base w + offset) k other (sym some)).0

      pub other-of : Contains words other
      other-of = (k, low, at)

      pub other-at : other.address ≡ base w + offset
      other-at = ap (λ (y : Word). y.address) (sym at) ∙ (are.there (base w + offset) k other (sym some)).1

      pub other-meets : offset < w.address % 8 + w.size → w.address % 8 < offset + other.size → Meets other w
      other-meets first second =
          let here = other-at in
          meets-from other w (are.sized other other-of).0 w-size (omega (here, first, arith))
          (omega (here, second, arith))

      pub other-lowest : From words w offset → (x : Word) → Contains words x → Meets x w → other.address ≤ x.address
      other-lowest so x cx m = let here = other-at in let low = so x cx m in omega (here, low, arith)

      is-other : (x : Word) → Contains words x → x.address ≡ base w + offset → x ≡ other
      is-other x cx same = sym (one-there (base w + offset) k some x cx same) ∙
          get_or_default words k x other low ∙ at

      pub other-apart :
          ((offset < w.address % 8 + w.size → ⊥) ⊎ (w.address % 8 < offset + other.size → ⊥)) →
          (x : Word) → Contains words x → Meets x w → x.address ≢ base w + offset
      other-apart fails x cx m same =
          let bounds = meets-bounds other w (subst (λ (y : Word). Meets y w) (is-other x cx same) m) in
          let here = other-at in
          elim fails [
            | inl first ↦ first (let b = bounds.0 in omega (b, here, arith))
            | inr second ↦ second (let b = bounds.1 in omega (b, here, arith))
          ]

-- the same places are under the addresses
pub same-words : (f g : ℕ → Option ℕ) (words new : List Word) → AreWords f words → new ≡ words →
    ((q : ℕ) → g q ≡ f q) → AreWords g new
same-words f g words new are same places = subst (AreWords g) (sym same) (record {
  few = are.few;
  sized = are.sized;
  placed = λ k d low. places (get_or words k d).address ∙ are.placed k d low;
  there = λ address k d some. are.there address k d (sym (places address) ∙ some);
})

-- a word more, whose bytes are its own
module _ {f g : ℕ → Option ℕ} {words : List Word} {w : Word} (are : AreWords f words) (size : IsSize w.size)
    (aligned : IsAligned w) (apart : IsApart words w) (here : g w.address ≡ Some (length words))
    (others : (q : ℕ) → w.address ≢ q → g q ≡ f q) where
  long : length (words ++ w ∷ []) ≡ length words + 1
  long = length_push words w

  -- no other word begins where it does
  other : (x : Word) → Contains words x → w.address ≢ x.address
  other x cx same =
      let x-size = (are.sized x cx).0 in
      let x-some = some-bytes x.size x-size in
      let w-some = some-bytes w.size size in
      apart x cx (meets-from x w x-size size (omega (same, w-some, arith)) (omega (same, x-some, arith)))

  placed : (k : ℕ) (d : Word) → (k < length words) ⊎ (length words ≤ k) → k < length words + 1 →
      g (get_or (words ++ w ∷ []) k d).address ≡ Some k
  placed k d (inl before) low =
      let x : Word = get_or words k d in
      ap (λ (y : Word). g y.address) (get_or_append_left words (w ∷ []) d k before)
      ∙ others x.address (other x (Contains-get_or words k d before)) ∙ are.placed k d before
  placed k d (inr last) low =
      let is : k ≡ length words = omega (last, low, arith) in
      ap (λ (y : Word). g y.address) (get_or_at words w [] d k (sym is)) ∙ here ∙ ap Some (sym is)

  there : (address k : ℕ) (d : Word) → (w.address ≡ address) ⊎ (w.address ≢ address) → g address ≡ Some k →
      (k < length words + 1) × ((get_or (words ++ w ∷ []) k d).address ≡ address)
  there address k d (inl own) some =
      let is : length words ≡ k = some-same (length words) k (sym here ∙ ap g own ∙ some) in
      (omega (is, arith), ap (λ (y : Word). y.address) (get_or_at words w [] d k is) ∙ own)
  there address k d (inr apart') some =
      let old = are.there address k d (sym (others address apart') ∙ some) in (
        (let low = old.0 in omega (low, arith)),
        ap (λ (y : Word). y.address) (get_or_append_left words (w ∷ []) d k old.0) ∙ old.1,
      )

  pub pushed-words : length words < 4294967295 → AreWords g (words ++ w ∷ [])
  pushed-words few = record {
    few = omega (few, long, arith);
    sized = λ x cx. elim (Contains-push_cases words w x cx) [
      | inl old ↦ are.sized x old
      | inr new ↦ subst (λ (y : Word). IsSize y.size × IsAligned y) new (size, aligned)
    ];
    placed = λ k d low. placed k d (cases_lt k (length words)) (omega (low, long, arith));
    there = λ address k d some.
        let new = there address k d (cases_eq w.address address) some in
        ((let low = new.0 in omega (low, long, arith)), new.1);
  }
