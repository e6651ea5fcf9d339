-- Parts of the table of rules: tests, pairs of them, and the rows that they stand for.
use Rattle.rv_hart.proofs.Common.{◌≡◌, ℕ, Bool, true, false, ◌<◌, ◌↔◌, ◌⊎◌, inl, inr, List, Contains, IsTrue, sym}
use Rattle.rv_hart.proofs.Common.{refl, ◌∙◌, subst, length, get_or, ◌||◌, ◌==◌, eqb-true, eq-eqb, if◌then◌else◌}
use Rattle.rv_hart.proofs.Common.{or_cases, or_left, or_right, Contains-get_or, arith, common_steps, IsMemory}
use Rattle.rv_hart.proofs.Common.{Event, has_bit, Hart, IsOfPart, NamesEvents, IsPartFor, ArePartsFor, AddsPart}
use Rattle.rv_hart.proofs.Common.{Adds, RowIs, Part, Nothing}
use Rattle.rv_hart.specs.Parts.{IsUnder}
use Rattle.rv_hart.proofs.HartFacts.{Fits, Known, same_event}
use Rattle.rv_hart.proofs.RuleConditions.{HasMore, adds, more-both}

module _ (h : Hart) (e : Event) where
  -- a part under a test has its events where the test passes
  pub part-if :
      (b : Bool) (p q : Part) (T : Type 0) → q ≡ (if b then p else Nothing) → IsTrue b ↔ T →
      (a : Event) → IsOfPart h e q a ↔ (T × IsOfPart h e p a)
  part-if true p q T is decides a = grind (arith, common_steps)
  part-if false p q T is decides a = grind (arith, common_steps)

  -- and names events where the part does
  pub names-if : (b : Bool) (p q : Part) → q ≡ (if b then p else Nothing) → NamesEvents h p → NamesEvents h q
  names-if true p q is names = subst (NamesEvents h) (sym is) names
  names-if false p q is names = subst (NamesEvents h) (sym is) tt

  -- one part alone
  pub alone : (k : ℕ) (p : Part) → IsPartFor h e k p → ArePartsFor h e k p Nothing
  alone k p for = grind (arith, common_steps)

  -- a part under a test, where the test is what the rule asks of the new event
  pub tested :
      (k : ℕ) (b : Bool) (p q : Part) (T : Type 0) → q ≡ (if b then p else Nothing) → IsTrue b ↔ T →
      ((a : Event) → Contains h.events a → (T × IsOfPart h e p a) ↔ IsUnder h e k a) → NamesEvents h p →
      IsPartFor h e k q
  tested k b p q T is decides says names = grind (arith, common_steps)

  -- two parts, each under its test
  pub tested-both :
      (k : ℕ) (b c : Bool) (p p' q q' : Part) (T U : Type 0) → q ≡ (if b then p else Nothing) → IsTrue b ↔ T →
      q' ≡ (if c then p' else Nothing) → IsTrue c ↔ U → ((a : Event) → Contains h.events a →
      ((T × IsOfPart h e p a) ⊎ (U × IsOfPart h e p' a)) ↔ IsUnder h e k a) →
      NamesEvents h p → NamesEvents h p' → ArePartsFor h e k q q'
  tested-both k b c p p' q q' T U is decides is' decides' says names names' =
      grind (arith, common_steps)

  -- a number that is no rule's has no parts
  pub no-parts : (k : ℕ) → ((a : Event) → IsUnder h e k a → ⊥) → ArePartsFor h e k Nothing Nothing
  no-parts k none = grind (arith, common_steps)

-- whether a row has an event's number
pub row-at :
    {h : Hart} {e : Event} → Fits h e → (P : Event → Type 0) (row : List ℕ) (result : Bool) (a : Event) →
    Contains h.events a → RowIs row P h.events → result ≡ has_bit row a.id.seq → IsTrue result ↔ P a
row-at {h} {e} f P row result a ca are is = (
  λ t. (let y = (are a.id.seq).0 (sym is ∙ t) in
      subst P (same_event f.known y.a a y.of_list ca y.at) y.holds),
  λ p. is ∙ (are a.id.seq).1 (record { a = a; of_list = ca; at = refl; holds = p }),
)

-- what is read at a number is the event with that number
pub read-event : {h : Hart} → Known h → (x : Event) (n : ℕ) → n < length h.events → x ≡ get_or h.events n x →
    Contains h.events x × (x.id.seq ≡ n)
read-event {h} known x n low is = grind (arith, common_steps)

-- a number more is the event with that number
pub more-number :
    {h : Hart} → Known h → (n : ℕ) (d : Event) → n < length h.events → (row row' : List ℕ) →
    ((s : ℕ) → has_bit row' s ≡ (has_bit row s || (n == s))) → HasMore (λ a. a.id.seq ≡ n) h.events row row'
more-number {h} known n d low row row' more s = (
  λ x. elim (or_cases (has_bit row s) (n == s) (sym (more s) ∙ x)) [
    | inl old ↦ inl old
    | inr new ↦ inr (record {
      a = get_or h.events n d;
      of_list = Contains-get_or h.events n d low;
      at = known.at n d low ∙ eqb-true n s new;
      holds = known.at n d low;
    })
  ],
  λ x. more s ∙ elim x [
    | inl old ↦ or_left (has_bit row s) (n == s) old
    | inr y ↦ or_right (has_bit row s) (n == s) (eq-eqb n s (sym y.holds ∙ y.at))
  ],
)

-- more by one condition is more by an equal one
pub more-same : (P Q : Event → Type 0) (events : List Event) (row row' : List ℕ) →
    ((a : Event) → Contains events a → P a ↔ Q a) → HasMore P events row row' → HasMore Q events row row'
more-same P Q events row row' same more s = grind (arith, common_steps)

-- two parts that were added add what the rule orders
pub adds-parts :
    {h : Hart} {e : Event} → Fits h e → IsMemory e → (k : ℕ) (one other : Part) (row row' row'' : List ℕ) →
    ArePartsFor h e k one other → AddsPart h e one row row' → AddsPart h e other row' row'' → Adds h e k row row''
adds-parts {h} {e} f memory k one other row row' row'' for first second =
    adds f memory k (λ a. IsOfPart h e one a ⊎ IsOfPart h e other a) row row''
    (more-both (IsOfPart h e one) (IsOfPart h e other) h.events row row' row'' first second) for.says
