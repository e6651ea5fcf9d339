-- What an instruction writes besides rd: it carries to none of them from another one.
use Rattle.std.proofs.Common.{◌≡◌, ℕ, zero, suc, ◌+◌, ◌<◌, List, get_or, length, Bool, true, false, Option, Some, None}
use Rattle.std.proofs.Common.{◌⊎◌, ◌↔◌, inl, inr, refl, Contains, take, lit<, sym, ap, subst, ◌∙◌, arith, if◌then◌else◌}
use Rattle.std.proofs.lemmas.Grind.{common_steps}
use Rattle.std.proofs.lemmas.List.{get_or_default, get_or-take, length-take-le}
use Rattle.std.proofs.lemmas.Option.{same_Some}
use Rattle.rv_insn.specs.Listing.{listing}
use Rattle.rv_insn.specs.Roles.{Carries, CarriesBy, CarriesCsr, CarriesOver, IsOperand, destinations, read, written}
use Rattle.rv_insn.specs.declared.insn.Insn.{Insn}
use Rattle.rv_insn.specs.declared.unit.Flag.TheVariants.{Nx, Uf, Of, Dz, Nv}
use Rattle.rv_insn.specs.declared.unit.Unit.{Unit}
use Rattle.rv_insn.specs.declared.unit.Unit.TheVariants as unit
use Rattle.rv_insn.specs.declared.usage.CsrUse.{CsrUse}
use Rattle.rv_insn.specs.declared.usage.CsrUse.TheVariants.{NoCsr, Swap, Change}
use Rattle.rv_insn.specs.declared.usage.Operand.{Operand}
use Rattle.rv_insn.specs.declared.usage.Operand.TheVariants as operand
use Rattle.rv_insn.specs.declared.usage.Target.{Target}
use Rattle.rv_insn.specs.declared.usage.Target.TheVariants.{Nowhere, ToX, ToF}
use Rattle.rv_flow.specs.Dependencies.{IsDestination}
use Rattle.rv_flow.specs.Destinations.{IsOther, others, rd_of}
use Rattle.rv_flow.proofs.Setting.{After}
use Rattle.rv_flow.proofs.Units.{cases_unit}

-- the place of a unit among the others; registers have none
abbrev pub place-of : Unit → ℕ
place-of unit.Frm = 0
place-of (unit.Csr n) = 1
place-of (unit.Accrued Nx) = 2
place-of (unit.Accrued Uf) = 3
place-of (unit.Accrued Of) = 4
place-of (unit.Accrued Dz) = 5
place-of (unit.Accrued Nv) = 6
place-of (unit.X n) = 7
place-of (unit.F n) = 7

if-some : (b : Bool) (v u : Unit) → (if b then Some v else None) ≡ Some u → v ≡ u
if-some true v u is = same_Some v u is
if-some false v u is = grind (arith, common_steps)

-- what stands at a place has it
pub at-place : (i : Insn) (j : ℕ) (u : Unit) → j < 7 → get_or (others i) j None ≡ Some u → place-of u ≡ j
at-place i zero u low is = ap place-of (sym (if-some _ unit.Frm u is))
at-place i (suc zero) u low is = ap place-of (sym (if-some _ (unit.Csr i.csr) u is))
at-place i (suc (suc zero)) u low is = ap place-of (sym (if-some _ (unit.Accrued Nx) u is))
at-place i (suc (suc (suc zero))) u low is = ap place-of (sym (if-some _ (unit.Accrued Uf) u is))
at-place i (suc (suc (suc (suc zero)))) u low is = ap place-of (sym (if-some _ (unit.Accrued Of) u is))
at-place i (suc (suc (suc (suc (suc zero))))) u low is = ap place-of (sym (if-some _ (unit.Accrued Dz) u is))
at-place i (suc (suc (suc (suc (suc (suc zero)))))) u low is = ap place-of (sym (if-some _ (unit.Accrued Nv) u is))
at-place i (suc (suc (suc (suc (suc (suc (suc j))))))) u low is = absurd (omega (low, arith))

-- so one of the others has a place
pub other-place : (i : Insn) (u : Unit) → IsOther i u → place-of u < 7
other-place i u (j, low, is) =
    let same = at-place i j u low (get_or_default (others i) j None (Some u) low ∙ is) in omega (same, low, arith)

read-place : (o : Operand) (n : ℕ) (p : Unit) → read o n ≡ Some p → place-of p ≡ 7
read-place operand.Unused n p is = grind (arith, common_steps)
read-place operand.X n p is = grind (arith, common_steps)
read-place operand.F n p is = grind (arith, common_steps)
read-place operand.AddressX n p is = grind (arith, common_steps)
read-place operand.DataX n p is = grind (arith, common_steps)
read-place operand.DataF n p is = grind (arith, common_steps)

written-place : (t : Target) (n : ℕ) (q : Unit) → written t n ≡ Some q → place-of q ≡ 7
written-place Nowhere n q is = grind (arith, common_steps)
written-place ToX n q is = grind (arith, common_steps)
written-place ToF n q is = grind (arith, common_steps)

-- rd is none of the others
pub rd-apart : (i : Insn) (u : Unit) → rd_of i ≡ Some u → IsOther i u → ⊥
rd-apart i u is other =
    let same = written-place (listing i.operation).to i.rd u is in
    let low = other-place i u other in
    omega (same, low, arith)

-- ---- rd and the others are the destinations
rd-destination : (i : Insn) (u : Unit) → rd_of i ≡ Some u → IsDestination i u
rd-destination i u is = (0, lit< tt, is)

other-destination : (i : Insn) (u : Unit) → IsOther i u → IsDestination i u
other-destination i u (j, low, is) = (suc j, omega (low, arith), is)

destination-cases : (i : Insn) (u : Unit) → IsDestination i u → (rd_of i ≡ Some u) ⊎ IsOther i u
destination-cases i u (zero, low, is) = inl is
destination-cases i u (suc j, low, is) = inr (j, omega (low, arith), is)

-- the others stand behind rd
pub others-at : (i : Insn) (k : ℕ) → get_or (destinations i) (k + 1) None ≡ get_or (others i) k None
others-at i k = subst (λ (n : ℕ). get_or (destinations i) n None ≡ get_or (others i) k None)
    (same k) refl
  where
    same : (m : ℕ) → suc m ≡ m + 1
    same m = omega arith

-- without a CSR the rounding mode is not written
frm-kept : (i : Insn) → (listing i.operation).csr ≡ NoCsr → IsOther i unit.Frm → ⊥
frm-kept i none (j, low, is) = at-zero j low (at-place i j unit.Frm low at-j) at-j
  where
    at-j : get_or (others i) j None ≡ Some unit.Frm
    at-j = get_or_default (others i) j None (Some unit.Frm) low ∙ is

    at-zero : (k : ℕ) → k < 7 → place-of unit.Frm ≡ k → get_or (others i) k None ≡ Some unit.Frm → ⊥
    at-zero zero low' same at = never (rw none at at)
      where
        never : None ≡ Some unit.Frm → ⊥
        never wrong = grind (arith, common_steps)
    at-zero (suc k) low' same at = omega (same, arith)

module _ (i : Insn) (p q : Unit) (from : IsOther i p) (to : IsOther i q) where
  no-read : (o : Operand) (n : ℕ) → read o n ≡ Some p → ⊥
  no-read o n is =
      let same = read-place o n p is in let low = other-place i p from in omega (same, low, arith)

  no-operand : (listing i.operation).csr ≡ NoCsr → IsOperand i p → ⊥
  no-operand none (inl is) = no-read (listing i.operation).first i.rs1 is
  no-operand none (inr (inl is)) = no-read (listing i.operation).second i.rs2 is
  no-operand none (inr (inr (inl is))) = no-read (listing i.operation).third i.rs3 is
  no-operand none (inr (inr (inr (dynamic, is)))) = frm-kept i none (subst (IsOther i) is from)

  over : (listing i.operation).csr ≡ NoCsr → CarriesOver i p q → p ≡ q
  over none (inl (carries, operand, is)) = absurd (rd-apart i q is to)
  over none (inr (raised, inl operand)) = absurd (no-operand none operand)
  over none (inr (raised, inr same)) = same

  by-csr : CarriesCsr i p q → p ≡ q
  by-csr (inl (writes, is, named)) = absurd (no-read (listing i.operation).first i.rs1 is)
  by-csr (inr (reads, named, is)) = absurd (rd-apart i q is to)

  -- the instruction carries between two of the others only from one to itself
  pub carries-apart : Carries i p q → p ≡ q
  carries-apart c = go (listing i.operation).csr refl c
    where
      go : (kind : CsrUse) → (listing i.operation).csr ≡ kind → CarriesBy kind i p q → p ≡ q
      go NoCsr none c = over none c
      go Swap _ c = by-csr c
      go Change _ c = by-csr c

-- ---- destinations in turn
module _ (i : Insn) (k : ℕ) (low : k < 7) (q : Unit) (at : get_or (others i) k None ≡ Some q) where
  -- the next of the others is one of them
  next-other : IsOther i q
  next-other = (k, low, get_or_default (others i) k (Some q) None low ∙ at)

  -- the instruction carries to it from none of those before it
  pub before-apart : (p : Unit) → Carries i p q → Contains (take k (others i)) (Some p) → ⊥
  before-apart p c (j, below, is) =
      let short : length (take k (others i)) ≡ k = length-take-le k (others i) (omega (low, arith)) in
      let less : j < k = omega (below, short, arith) in
      let at-j : get_or (others i) j None ≡ Some p =
      get_or_default (others i) j None (Some p) (omega (less, low, arith)) ∙
      sym (get_or-take k (others i) j (Some p) less) ∙ is in
      let p-other : IsOther i p =
      (j, omega (less, low, arith), get_or_default (others i) j (Some p) None (omega (less, low, arith)) ∙ at-j) in
      let same : p ≡ q = carries-apart i p q p-other next-other c in
      let there : place-of p ≡ j = at-place i j p (omega (less, low, arith)) at-j in
      let here : place-of q ≡ k = at-place i k q low at in
      let equal : place-of p ≡ place-of q = ap place-of same in
      omega (there, here, equal, less, arith)

-- the next of the others gets what it would get at first
pub next-same :
    (event : Option ℕ) (Carried : Unit → Type 0) (known : List (Option Unit)) (Fresh Old Mid : Unit → ℕ → Type 0) →
    After known Fresh Old Mid → ((p : Unit) → Carried p → Contains known (Some p) → ⊥) →
    (n : ℕ) → ((event ≡ Some n) ⊎ ((p : Unit) × Carried p × Mid p n)) ↔
    ((event ≡ Some n) ⊎ ((p : Unit) × Carried p × Old p n))
next-same event Carried known Fresh Old Mid after apart n = (to, from)
  where
    to : (event ≡ Some n) ⊎ ((p : Unit) × Carried p × Mid p n) → (event ≡ Some n) ⊎ ((p : Unit) × Carried p × Old p n)
    to (inl own) = inl own
    to (inr (p, c, mid)) = elim ((after p n).0 mid) [
      | inl fresh ↦ absurd (apart p c fresh.0)
      | inr old ↦ inr (p, c, old.1)
    ]

    from : (event ≡ Some n) ⊎ ((p : Unit) × Carried p × Old p n) →
        (event ≡ Some n) ⊎ ((p : Unit) × Carried p × Mid p n)
    from (inl own) = inl own
    from (inr (p, c, old)) = inr (p, c, (after p n).1 (inr (apart p c, old)))

-- ---- rd after the others
module _ (i : Insn) (Fresh Old Mid : Unit → ℕ → Type 0) (after : After (others i) Fresh Old Mid) where
  -- it is a destination beside the others
  pub with-rd : (New : Unit → ℕ → Type 0) (rd : Unit) → rd_of i ≡ Some rd → (Row : ℕ → Type 0) →
      ((n : ℕ) → Row n ↔ Fresh rd n) →
      ((u : Unit) (n : ℕ) → New u n ↔ (((u ≡ rd) × Row n) ⊎ ((u ≡ rd → ⊥) × Mid u n))) →
      (u : Unit) (n : ℕ) → New u n ↔ ((IsDestination i u × Fresh u n) ⊎ ((IsDestination i u → ⊥) × Old u n))
  with-rd New rd is Row next set u n = (λ h. to ((set u n).0 h), λ h. (set u n).1 (from (cases_unit u rd) h))
    where
      to : ((u ≡ rd) × Row n) ⊎ ((u ≡ rd → ⊥) × Mid u n) →
          (IsDestination i u × Fresh u n) ⊎ ((IsDestination i u → ⊥) × Old u n)
      to (inl (same, row)) = inl (
        subst (IsDestination i) (sym same) (rd-destination i rd is),
        subst (λ (v : Unit). Fresh v n) (sym same) ((next n).0 row),
      )
      to (inr (apart, mid)) = elim ((after u n).0 mid) [
        | inl fresh ↦ inl (other-destination i u fresh.0, fresh.1)
        | inr old ↦ inr (
          λ d. elim (destination-cases i u d) [
            | inl rd-is ↦ apart (same_Some u rd (sym rd-is ∙ is))
            | inr other ↦ old.0 other
          ],
          old.1,
        )
      ]

      from : (u ≡ rd) ⊎ (u ≡ rd → ⊥) → (IsDestination i u × Fresh u n) ⊎ ((IsDestination i u → ⊥) × Old u n) →
          ((u ≡ rd) × Row n) ⊎ ((u ≡ rd → ⊥) × Mid u n)
      from (inl same) (inl (d, fresh)) = inl (same, (next n).1 (subst (λ (v : Unit). Fresh v n) same fresh))
      from (inl same) (inr (none, old)) =
          absurd (none (subst (IsDestination i) (sym same) (rd-destination i rd is)))
      from (inr apart) (inl (d, fresh)) = inr (
        apart,
        elim (destination-cases i u d) [
          | inl rd-is ↦ absurd (apart (same_Some u rd (sym rd-is ∙ is)))
          | inr other ↦ (after u n).1 (inl (other, fresh))
        ],
      )
      from (inr apart) (inr (none, old)) = inr (
        apart,
        (after u n).1 (inr (λ other. none (other-destination i u other), old)),
      )

  -- there is no rd
  pub without-rd : ((u : Unit) → rd_of i ≡ Some u → ⊥) → (u : Unit) (n : ℕ) →
      Mid u n ↔ ((IsDestination i u × Fresh u n) ⊎ ((IsDestination i u → ⊥) × Old u n))
  without-rd lacks u n = (λ mid. to ((after u n).0 mid), λ h. (after u n).1 (from h))
    where
      known : IsDestination i u → IsOther i u
      known d = elim (destination-cases i u d) [ inl rd-is ↦ absurd (lacks u rd-is) | inr other ↦ other ]

      to : (IsOther i u × Fresh u n) ⊎ ((IsOther i u → ⊥) × Old u n) →
          (IsDestination i u × Fresh u n) ⊎ ((IsDestination i u → ⊥) × Old u n)
      to (inl (other, fresh)) = inl (other-destination i u other, fresh)
      to (inr (none, old)) = inr (λ d. none (known d), old)

      from : (IsDestination i u × Fresh u n) ⊎ ((IsDestination i u → ⊥) × Old u n) →
          (IsOther i u × Fresh u n) ⊎ ((IsOther i u → ⊥) × Old u n)
      from (inl (d, fresh)) = inl (known d, fresh)
      from (inr (none, old)) = inr (λ other. none (other-destination i u other), old)
