-- The values that versions hold, as more records come.
use Rattle.std.proofs.Common.{ℕ, ◌≡◌, ◌∙◌, ◌-◌, ◌++◌, ◌==◌, List, Contains, Option, Some, None, ap, arith}
use Rattle.std.proofs.Common.{get_or, inl, inr, length, refl, subst, sym}
use Rattle.std.proofs.lemmas.List.{get_or_append_left, get_or_default, length-append}
use Rattle.std.proofs.lemmas.List.Elements.{Contains-append_left, filter-append}
use Rattle.std.proofs.lemmas.Option.{none-some}
use Rattle.std.specs.Option.{option_or}
use Rattle.std.specs.Prelude.{unwrap_or}
use Rattle.rv_log.specs.declared.record.Performed.{Performed}
use Rattle.rv_memory.specs.Stores.{IsTold, of_word}
use Rattle.rv_values.proofs.Agreement.{one-issued}
use Rattle.rv_values.specs.Issues.{AreSingle, IsOf}
use Rattle.rv_values.specs.Memory.{low}
use Rattle.rv_values.specs.Values.{Holds, IsMade, IsOpen, IsWritten, MayGrow}
use Rattle.rv_values.specs.declared.issues.Issued.{Issued}

-- values of options
pub some-same : (a b : ℕ) → Some a ≡ Some b → a ≡ b
some-same a b same = ap (λ o. unwrap_or o 0) same

-- the store of a version stays, whatever takes effect later
pub told-more : (performed later : List Performed) (address version : ℕ) (p : Performed) →
    IsTold performed address version (Some p) → IsTold (performed ++ later) address version (Some p)
told-more performed later address version p told =
    let all : of_word address (performed ++ later) ≡ of_word address performed ++ of_word address later =
    filter-append (λ q. q.address == address) performed later in
    let long = length-append (of_word address performed) (of_word address later) in
    let more = ap (λ (l : List Performed). length l) all in
    let some = told.0 in
    let few = told.1 in (
      told.0,
      omega (long, more, few, arith),
      ap (λ (l : List Performed). get_or l (version - 1) p) all ∙
          get_or_append_left (of_word address performed) (of_word address later) p (version - 1)
          (omega (some, few, arith)) ∙ told.2,
    )

-- and it is one
pub told-one : (performed : List Performed) (address version : ℕ) (p q : Performed) →
    IsTold performed address version (Some p) → IsTold performed address version (Some q) → p ≡ q
told-one performed address version p q told other =
    let some = told.0 in
    let few = told.1 in
    sym told.2 ∙ get_or_default (of_word address performed) (version - 1) p q (omega (some, few, arith)) ∙ other.2

-- so are its two records
abbrev pub made-more : (issued more : List Issued) (performed later : List Performed) (address version : ℕ) →
    IsMade issued performed address version → IsMade (issued ++ more) (performed ++ later) address version
made-more issued more performed later address version made = record {
  effect = made.effect;
  told = told-more performed later address version made.effect made.told;
  instruction = made.instruction;
  retired = Contains-append_left issued more made.instruction made.retired;
  one = made.one;
}

module _ (issued : List Issued) (performed : List Performed) (single : AreSingle issued) (address version : ℕ) where
  pub one-effect : (m n : IsMade issued performed address version) → m.effect ≡ n.effect
  one-effect m n = told-one performed address version m.effect n.effect m.told n.told

  pub one-instruction : (m n : IsMade issued performed address version) → m.instruction ≡ n.instruction
  one-instruction m n =
      let same = one-effect m n in
      one-issued issued single m.instruction n.instruction m.retired n.retired (
        m.one.0 ∙ ap (λ (p : Performed). p.hart) same ∙ sym n.one.0,
        m.one.1 ∙ ap (λ (p : Performed). p.order) same ∙ sym n.one.1,
      )

  -- what is written of it
  pub number-one : (m : IsMade issued performed address version) (value : ℕ) →
      (w : IsWritten issued performed address version value) →
      option_or m.effect.wdata m.instruction.wdata ≡ Some w.number
  number-one m value w =
      ap (λ (p : Performed). option_or p.wdata m.instruction.wdata) (one-effect m w.made) ∙
      ap (λ (i : Issued). option_or w.made.effect.wdata i.wdata) (one-instruction m w.made) ∙ w.shown

  -- so a version holds one value
  pub value-one : (m : IsMade issued performed address version) (number value : ℕ) →
      option_or m.effect.wdata m.instruction.wdata ≡ Some number → IsWritten issued performed address version value →
      value ≡ low m.instruction.word.size number
  value-one m number value shown w =
      w.is ∙ ap (low w.made.instruction.word.size)
      (some-same w.number number (sym (number-one m value w) ∙ shown)) ∙
      ap (λ (i : Issued). low i.word.size number) (sym (one-instruction m w.made))

module _ (issued more : List Issued) (performed later : List Performed) (grow : MayGrow issued more performed later)
    (address version : ℕ) (initial : Option ℕ) (m : IsMade issued performed address version) where
  abbrev made : IsMade (issued ++ more) (performed ++ later) address version
  made = made-more issued more performed later address version m

  -- a version of which both records came holds what they show
  pub holds-number : (number : ℕ) → option_or m.effect.wdata m.instruction.wdata ≡ Some number →
      Holds (issued ++ more) (performed ++ later) address version initial (low m.instruction.word.size number)
  holds-number number shown = inr (record { made = made; number = number; shown = shown; is = refl })

  pub holds-just : (number value : ℕ) → option_or m.effect.wdata m.instruction.wdata ≡ Some number →
      Holds (issued ++ more) (performed ++ later) address version initial value →
      value ≡ low m.instruction.word.size number
  holds-just number value shown (inl zero) =
      let some = m.told.0 in let none = zero.0 in absurd (omega (some, none, arith))
  holds-just number value shown (inr w) =
      value-one (issued ++ more) (performed ++ later) grow.single address version made number value shown w

  -- and nothing where they show nothing
  pub holds-none : (value : ℕ) → option_or m.effect.wdata m.instruction.wdata ≡ None →
      Holds (issued ++ more) (performed ++ later) address version initial value → ⊥
  holds-none value unshown (inl zero) =
      let some = m.told.0 in let none = zero.0 in absurd (omega (some, none, arith))
  holds-none value unshown (inr w) =
      none-some w.number (sym unshown ∙
      number-one (issued ++ more) (performed ++ later) grow.single address version made value w)

-- an instruction that has not retired leaves its version open
pub open-effect : (issued : List Issued) (performed : List Performed) (address version : ℕ) (p : Performed) →
    IsTold performed address version (Some p) →
    ((i : Issued) → Contains issued i → IsOf p.hart p.order i → ⊥) → IsOpen issued performed address version
open-effect issued performed address version p told none = record {
  some = told.0;
  unmade = λ m.
      let same = told-one performed address version m.effect p m.told told in
      none m.instruction m.retired (subst (λ (q : Performed). IsOf q.hart q.order m.instruction) same m.one);
}
