-- The sources from which an instruction carries to a unit, as a list.
use Rattle.std.proofs.Common.{◌≡◌, zero, suc, ◌==◌, ◌&&◌, ◌||◌, List, [], ◌∷◌, Bool, true, false, IsTrue}
use Rattle.std.proofs.Common.{Option, Some, None, Contains, ◌↔◌, inl, inr, refl, sym, ap, subst, lit<, arith}
use Rattle.std.proofs.Common.{if◌then◌else◌, eqb-true, eq-eqb}
use Rattle.std.proofs.lemmas.Bool.{and_from, and_parts, false≢true, or_cases, or_left, or_right}
use Rattle.std.proofs.lemmas.Grind.{common_steps}
use Rattle.std.proofs.lemmas.Option.{same_Some}
use Rattle.rv_insn.specs.Listing.{listing}
use Rattle.rv_insn.specs.Roles.{CarriesCsr, CarriesOver, IsOperand, IsRaised, read, reads_csr, writes_csr}
use Rattle.rv_insn.specs.Roles.{written}
use Rattle.rv_insn.specs.Units.{is_other_csr, names, names_flags, names_frm}
use Rattle.rv_insn.specs.declared.insn.Insn.{Insn}
use Rattle.rv_insn.specs.declared.unit.Flag.TheVariants.{Nx, Uf, Of, Dz, Nv}
use Rattle.rv_insn.specs.declared.unit.Unit.{Unit}
use Rattle.rv_insn.specs.declared.unit.Unit.TheVariants as unit
use Rattle.rv_insn.specs.declared.usage.Usage.{Usage}

-- ---- places that a test fills
none_some : (p : Unit) → None ≡ Some p → ⊥
none_some p is = grind (arith, common_steps)

if-some : (b : Bool) (v p : Unit) → (if b then Some v else None) ≡ Some p → IsTrue b × (v ≡ p)
if-some true v p is = (refl, same_Some v p is)
if-some false v p is = absurd (none_some p is)

if-read : (b : Bool) (o : Option Unit) (p : Unit) → (if b then o else None) ≡ Some p → IsTrue b × (o ≡ Some p)
if-read true o p is = (refl, is)
if-read false o p is = absurd (none_some p is)

some-if : (b : Bool) (v p : Unit) → IsTrue b → v ≡ p → (if b then Some v else None) ≡ Some p
some-if true v p t is = ap Some is
some-if false v p t is = absurd (false≢true t)

read-if : (b : Bool) (o : Option Unit) (p : Unit) → IsTrue b → o ≡ Some p → (if b then o else None) ≡ Some p
read-if true o p t is = is
read-if false o p t is = absurd (false≢true t)

-- ---- an operation without a CSR
module _ (i : Insn) (to : Unit) (flag rd : Bool) (is-flag : IsTrue flag ↔ IsRaised i to)
    (is-rd : IsTrue rd ↔ (IsTrue (listing i.operation).carries × (written (listing i.operation).to i.rd ≡ Some to)))
  where
    abbrev any : Bool
    any = flag || rd

    abbrev pub over-list : List (Option Unit)
    over-list =
        (if any then read (listing i.operation).first i.rs1 else None)
        ∷ (if any then read (listing i.operation).second i.rs2 else None)
        ∷ (if any then read (listing i.operation).third i.rs3 else None)
        ∷ (if (any && (i.rounding == 7)) then Some unit.Frm else None) ∷ (if flag then Some to else None) ∷ None
        ∷ None ∷ None ∷ []

    operand-to : IsTrue any → (p : Unit) → IsOperand i p → CarriesOver i p to
    operand-to t p o = elim (or_cases flag rd t) [
      | inl f ↦ inr (is-flag.0 f, inl o)
      | inr r ↦ (let h = is-rd.0 r in inl (h.0, o, h.1))
    ]

    operand-in : IsTrue any → (p : Unit) → IsOperand i p → Contains over-list (Some p)
    operand-in t p (inl is) = (0, lit< tt, read-if any (read (listing i.operation).first i.rs1) p t is)
    operand-in t p (inr (inl is)) = (1, lit< tt, read-if any (read (listing i.operation).second i.rs2) p t is)
    operand-in t p (inr (inr (inl is))) = (2, lit< tt, read-if any (read (listing i.operation).third i.rs3) p t is)
    operand-in t p (inr (inr (inr (dynamic, is)))) =
        (3, lit< tt, some-if (any && (i.rounding == 7)) unit.Frm p (and_from any (i.rounding == 7) t dynamic) (sym is))

    over-from : (p : Unit) → Contains over-list (Some p) → CarriesOver i p to
    over-from p (zero, low, is) =
        let h = if-read any (read (listing i.operation).first i.rs1) p is in operand-to h.0 p (inl h.1)
    over-from p (suc zero, low, is) =
        let h = if-read any (read (listing i.operation).second i.rs2) p is in operand-to h.0 p (inr (inl h.1))
    over-from p (suc (suc zero), low, is) =
        let h = if-read any (read (listing i.operation).third i.rs3) p is in operand-to h.0 p (inr (inr (inl h.1)))
    over-from p (suc (suc (suc zero)), low, is) =
        let h = if-some (any && (i.rounding == 7)) unit.Frm p is in
        let t = and_parts any (i.rounding == 7) h.0 in
        operand-to t.0 p (inr (inr (inr (t.1, sym h.1))))
    over-from p (suc (suc (suc (suc zero))), low, is) =
        let h = if-some flag to p is in inr (is-flag.0 h.0, inr (sym h.1))
    over-from p (suc (suc (suc (suc (suc zero)))), low, is) = absurd (none_some p is)
    over-from p (suc (suc (suc (suc (suc (suc zero))))), low, is) = absurd (none_some p is)
    over-from p (suc (suc (suc (suc (suc (suc (suc zero)))))), low, is) = absurd (none_some p is)
    over-from p (suc (suc (suc (suc (suc (suc (suc (suc k))))))), low, is) = absurd (omega (low, arith))

    over-in : (p : Unit) → CarriesOver i p to → Contains over-list (Some p)
    over-in p (inl (carries, o, is)) = operand-in (or_right flag rd (is-rd.1 (carries, is))) p o
    over-in p (inr (raised, inl o)) = operand-in (or_left flag rd (is-flag.1 raised)) p o
    over-in p (inr (raised, inr same)) = (4, lit< tt, some-if flag to p (is-flag.1 raised) (sym same))

    -- the list has just the sources from which it carries
    pub over-lists : (p : Unit) → Contains over-list (Some p) ↔ CarriesOver i p to
    over-lists p = (over-from p, over-in p)

    -- so has a list whose places have these values
    pub over-given : (u : Usage) → u ≡ listing i.operation → (first second third mode own : Option Unit) →
        first ≡ (if any then read u.first i.rs1 else None) → second ≡ (if any then read u.second i.rs2 else None) →
        third ≡ (if any then read u.third i.rs3 else None) →
        mode ≡ (if (any && (i.rounding == 7)) then Some unit.Frm else None) →
        own ≡ (if flag then Some to else None) →
        (p : Unit) → Contains (first ∷ second ∷ third ∷ mode ∷ own ∷ None ∷ None ∷ None ∷ []) (Some p) ↔
        CarriesOver i p to
    over-given u is first second third mode own e1 e2 e3 e4 e5 p = rw (e1, e2, e3, e4, e5, is) (over-lists p)

-- ---- an operation on a CSR
module _ (i : Insn) (to : Unit) (part rd : Bool)
    (is-part : IsTrue part ↔ (IsTrue (writes_csr (listing i.operation).csr i) × IsTrue (names i.csr to)))
    (is-rd : IsTrue rd ↔
    (IsTrue (reads_csr (listing i.operation).csr i) × (written (listing i.operation).to i.rd ≡ Some to))) where
  abbrev flags : Bool
  flags = rd && names_flags i.csr

  abbrev pub csr-list : List (Option Unit)
  csr-list =
      (if part then read (listing i.operation).first i.rs1 else None)
      ∷ (if (rd && names_frm i.csr) then Some unit.Frm else None)
      ∷ (if (rd && is_other_csr i.csr) then Some (unit.Csr i.csr) else None)
      ∷ (if flags then Some (unit.Accrued Nx) else None) ∷ (if flags then Some (unit.Accrued Uf) else None)
      ∷ (if flags then Some (unit.Accrued Of) else None) ∷ (if flags then Some (unit.Accrued Dz) else None)
      ∷ (if flags then Some (unit.Accrued Nv) else None) ∷ []

  -- a unit of the CSR that is read
  unit-to : (test : Bool) (v p : Unit) → (if (rd && test) then Some v else None) ≡ Some p →
      (IsTrue test → IsTrue (names i.csr v)) → CarriesCsr i p to
  unit-to test v p is named =
      let h = if-some (rd && test) v p is in
      let t = and_parts rd test h.0 in
      let r = is-rd.0 t.0 in
      subst (λ (u : Unit). CarriesCsr i u to) h.1 (inr (r.0, named t.1, r.1))

  csr-from : (p : Unit) → Contains csr-list (Some p) → CarriesCsr i p to
  csr-from p (zero, low, is) =
      let h = if-read part (read (listing i.operation).first i.rs1) p is in
      let w = is-part.0 h.0 in
      inl (w.0, h.1, w.1)
  csr-from p (suc zero, low, is) = unit-to (names_frm i.csr) unit.Frm p is (λ t. t)
  csr-from p (suc (suc zero), low, is) = unit-to (is_other_csr i.csr) (unit.Csr i.csr) p is
      (λ t. and_from (is_other_csr i.csr) (i.csr == i.csr) t (eq-eqb i.csr i.csr refl))
  csr-from p (suc (suc (suc zero)), low, is) = unit-to (names_flags i.csr) (unit.Accrued Nx) p is (λ t. t)
  csr-from p (suc (suc (suc (suc zero))), low, is) = unit-to (names_flags i.csr) (unit.Accrued Uf) p is (λ t. t)
  csr-from p (suc (suc (suc (suc (suc zero)))), low, is) = unit-to (names_flags i.csr) (unit.Accrued Of) p is (λ t. t)
  csr-from p (suc (suc (suc (suc (suc (suc zero))))), low, is) =
      unit-to (names_flags i.csr) (unit.Accrued Dz) p is (λ t. t)
  csr-from p (suc (suc (suc (suc (suc (suc (suc zero)))))), low, is) =
      unit-to (names_flags i.csr) (unit.Accrued Nv) p is (λ t. t)
  csr-from p (suc (suc (suc (suc (suc (suc (suc (suc k))))))), low, is) = absurd (omega (low, arith))

  unit-in : IsTrue rd → (p : Unit) → IsTrue (names i.csr p) → Contains csr-list (Some p)
  unit-in t (unit.X n) named = absurd (false≢true named)
  unit-in t (unit.F n) named = absurd (false≢true named)
  unit-in t unit.Frm named =
      (1, lit< tt, some-if (rd && names_frm i.csr) unit.Frm unit.Frm (and_from rd (names_frm i.csr) t named) refl)
  unit-in t (unit.Csr n) named =
      let parts = and_parts (is_other_csr i.csr) (n == i.csr) named in
      let same : n ≡ i.csr = eqb-true n i.csr parts.1 in (
        2,
        lit< tt,
        some-if (rd && is_other_csr i.csr) (unit.Csr i.csr) (unit.Csr n)
            (and_from rd (is_other_csr i.csr) t parts.0) (ap unit.Csr (sym same)),
      )
  unit-in t (unit.Accrued Nx) named =
      (3, lit< tt, some-if flags (unit.Accrued Nx) (unit.Accrued Nx) (and_from rd (names_flags i.csr) t named) refl)
  unit-in t (unit.Accrued Uf) named =
      (4, lit< tt, some-if flags (unit.Accrued Uf) (unit.Accrued Uf) (and_from rd (names_flags i.csr) t named) refl)
  unit-in t (unit.Accrued Of) named =
      (5, lit< tt, some-if flags (unit.Accrued Of) (unit.Accrued Of) (and_from rd (names_flags i.csr) t named) refl)
  unit-in t (unit.Accrued Dz) named =
      (6, lit< tt, some-if flags (unit.Accrued Dz) (unit.Accrued Dz) (and_from rd (names_flags i.csr) t named) refl)
  unit-in t (unit.Accrued Nv) named =
      (7, lit< tt, some-if flags (unit.Accrued Nv) (unit.Accrued Nv) (and_from rd (names_flags i.csr) t named) refl)

  csr-in : (p : Unit) → CarriesCsr i p to → Contains csr-list (Some p)
  csr-in p (inl (writes, is, named)) =
      (0, lit< tt, read-if part (read (listing i.operation).first i.rs1) p (is-part.1 (writes, named)) is)
  csr-in p (inr (reads, named, is)) = unit-in (is-rd.1 (reads, is)) p named

  -- the list has just the sources from which it carries
  pub csr-lists : (p : Unit) → Contains csr-list (Some p) ↔ CarriesCsr i p to
  csr-lists p = (csr-from p, csr-in p)

  -- so has a list whose places have these values
  pub csr-given : (u : Usage) → u ≡ listing i.operation →
      (given mode whole inexact underflow overflow by-zero invalid : Option Unit) →
      given ≡ (if part then read u.first i.rs1 else None) →
      mode ≡ (if (rd && names_frm i.csr) then Some unit.Frm else None) →
      whole ≡ (if (rd && is_other_csr i.csr) then Some (unit.Csr i.csr) else None) →
      inexact ≡ (if flags then Some (unit.Accrued Nx) else None) →
      underflow ≡ (if flags then Some (unit.Accrued Uf) else None) →
      overflow ≡ (if flags then Some (unit.Accrued Of) else None) →
      by-zero ≡ (if flags then Some (unit.Accrued Dz) else None) →
      invalid ≡ (if flags then Some (unit.Accrued Nv) else None) →
      (p : Unit) →
      Contains (given ∷ mode ∷ whole ∷ inexact ∷ underflow ∷ overflow ∷ by-zero ∷ invalid ∷ []) (Some p) ↔
      CarriesCsr i p to
  csr-given u is given mode whole inexact underflow overflow by-zero invalid e1 e2 e3 e4 e5 e6 e7 e8 p =
      rw (e1, e2, e3, e4, e5, e6, e7, e8, is) (csr-lists p)
