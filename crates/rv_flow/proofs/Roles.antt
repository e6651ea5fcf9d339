-- What an instruction carries from is a source of it.
use Rattle.std.proofs.Common.{◌≡◌, ◌&&◌, ◌||◌, ◌==◌, true, IsTrue, Some, None}
use Rattle.std.proofs.Common.{inl, inr, sym, ap, refl, subst, lit<, eqb-true, if◌then◌else◌, Bool}
use Rattle.std.proofs.lemmas.Bool.{and_parts, false≢true, or_left, or_right}
use Rattle.rv_insn.specs.Listing.{listing}
use Rattle.rv_insn.specs.Roles.{Carries, CarriesBy, CarriesCsr, CarriesOver, IsOperand, IsRaised}
use Rattle.rv_insn.specs.Roles.{flag_source, is_dynamic, raises, reads_csr}
use Rattle.rv_insn.specs.Units.{is_other_csr, names, names_flags, names_frm}
use Rattle.rv_insn.specs.declared.insn.Insn.{Insn}
use Rattle.rv_insn.specs.declared.unit.Flag.{Flag}
use Rattle.rv_insn.specs.declared.unit.Flag.TheVariants.{Nx, Uf, Of, Dz, Nv}
use Rattle.rv_insn.specs.declared.unit.Unit.{Unit}
use Rattle.rv_insn.specs.declared.unit.Unit.TheVariants as unit
use Rattle.rv_insn.specs.declared.usage.CsrUse.{CsrUse}
use Rattle.rv_insn.specs.declared.usage.CsrUse.TheVariants.{NoCsr, Swap, Change}
use Rattle.rv_flow.specs.Dependencies.{IsSource}

both : (a b : Bool) → a ≡ true → b ≡ true → (a && b) ≡ true
both a b x y = rw (x, y) refl

-- a place whose test passes has its unit
if-true : {X : Type 0} (b : Bool) (x y : X) → b ≡ true → (if b then x else y) ≡ x
if-true b x y is = ap (λ (c : Bool). if c then x else y) is

-- a flag that is read is a source
flag-source : (i : Insn) (f : Flag) → flag_source i f ≡ Some (unit.Accrued f) → IsSource i (unit.Accrued f)
flag-source i Nx is = (5, lit< tt, is)
flag-source i Uf is = (6, lit< tt, is)
flag-source i Of is = (7, lit< tt, is)
flag-source i Dz is = (8, lit< tt, is)
flag-source i Nv is = (9, lit< tt, is)

-- a flag that may be raised is a source
raised-source : (i : Insn) (f : Flag) → IsTrue (raises i f) → IsSource i (unit.Accrued f)
raised-source i f is = flag-source i f
    (if-true (raises i f || (reads_csr (listing i.operation).csr i && names_flags i.csr))
    (Some (unit.Accrued f)) None (or_left (raises i f) (reads_csr (listing i.operation).csr i && names_flags i.csr) is))

raised-unit : (i : Insn) (u : Unit) → IsRaised i u → IsSource i u
raised-unit i (unit.X n) is = absurd is
raised-unit i (unit.F n) is = absurd is
raised-unit i (unit.Accrued f) is = raised-source i f is
raised-unit i unit.Frm is = absurd is
raised-unit i (unit.Csr n) is = absurd is

-- the rounding mode that is read is a source
frm-source : (i : Insn) → (is_dynamic i || (reads_csr (listing i.operation).csr i && names_frm i.csr)) ≡ true →
    IsSource i unit.Frm
frm-source i is = (
  3,
  lit< tt,
  if-true (is_dynamic i || (reads_csr (listing i.operation).csr i && names_frm i.csr)) (Some unit.Frm) None is,
)

operand-source : (i : Insn) (p : Unit) → IsOperand i p → IsSource i p
operand-source i p (inl is) = (0, lit< tt, is)
operand-source i p (inr (inl is)) = (1, lit< tt, is)
operand-source i p (inr (inr (inl is))) = (2, lit< tt, is)
operand-source i p (inr (inr (inr is))) = subst (IsSource i) (sym is.1) (frm-source i
    (or_left (is_dynamic i) (reads_csr (listing i.operation).csr i && names_frm i.csr) is.0))

csr-source : (i : Insn) (p : Unit) → IsTrue (reads_csr (listing i.operation).csr i) → IsTrue (names i.csr p) →
    IsSource i p
csr-source i (unit.X n) reads is = absurd (false≢true is)
csr-source i (unit.F n) reads is = absurd (false≢true is)
csr-source i (unit.Accrued f) reads is = flag-source i f
    (if-true (raises i f || (reads_csr (listing i.operation).csr i && names_flags i.csr)) (Some (unit.Accrued f)) None
    (or_right (raises i f) (reads_csr (listing i.operation).csr i && names_flags i.csr)
    (both (reads_csr (listing i.operation).csr i) (names_flags i.csr) reads is)))
csr-source i unit.Frm reads is = frm-source i
    (or_right (is_dynamic i) (reads_csr (listing i.operation).csr i && names_frm i.csr)
    (both (reads_csr (listing i.operation).csr i) (names_frm i.csr) reads is))
csr-source i (unit.Csr n) reads is =
    let parts = and_parts (is_other_csr i.csr) (n == i.csr) is in
    let same : n ≡ i.csr = eqb-true n i.csr parts.1 in
    subst (IsSource i) (ap unit.Csr (sym same)) (
      4,
      lit< tt,
      if-true (reads_csr (listing i.operation).csr i && is_other_csr i.csr) (Some (unit.Csr i.csr)) None
          (both (reads_csr (listing i.operation).csr i) (is_other_csr i.csr) reads parts.0),
    )

over-source : (i : Insn) (p q : Unit) → CarriesOver i p q → IsSource i p
over-source i p q (inl c) = operand-source i p c.1
over-source i p q (inr (is, inl c)) = operand-source i p c
over-source i p q (inr (is, inr same)) = subst (IsSource i) (sym same) (raised-unit i q is)

by-csr : (i : Insn) (p q : Unit) → CarriesCsr i p q → IsSource i p
by-csr i p q (inl c) = (0, lit< tt, c.1)
by-csr i p q (inr c) = csr-source i p c.0 c.1

-- what an instruction carries from is a source of it
pub carries-source : (i : Insn) (p q : Unit) → Carries i p q → IsSource i p
carries-source i p q c = go (listing i.operation).csr c
  where
    go : (kind : CsrUse) → CarriesBy kind i p q → IsSource i p
    go NoCsr c = over-source i p q c
    go Swap c = by-csr i p q c
    go Change c = by-csr i p q c
