-- Whether two units are one.
use Rattle.std.proofs.Common.{◌≡◌, ℕ, ◌⊎◌, inl, inr, sym, ap, refl, ◌∙◌, ◌==◌, if◌then◌else◌}
use Rattle.std.proofs.lemmas.Bool.{cases_eq}
use Rattle.rv_insn.specs.declared.unit.Flag.{Flag}
use Rattle.rv_insn.specs.declared.unit.Flag.TheVariants.{Nx, Uf, Of, Dz, Nv}
use Rattle.rv_insn.specs.declared.unit.Unit.{Unit}
use Rattle.rv_insn.specs.declared.unit.Unit.TheVariants as unit

-- the kind of a unit
abbrev kind : Unit → ℕ
kind (unit.X n) = 0
kind (unit.F n) = 1
kind (unit.Accrued f) = 2
kind unit.Frm = 3
kind (unit.Csr n) = 4

-- the number of a flag
abbrev flag-number : Flag → ℕ
flag-number Nx = 0
flag-number Uf = 1
flag-number Of = 2
flag-number Dz = 3
flag-number Nv = 4

-- the number of a unit among those of its kind
abbrev number : Unit → ℕ
number (unit.X n) = n
number (unit.F n) = n
number (unit.Accrued f) = flag-number f
number unit.Frm = 0
number (unit.Csr n) = n

-- the flag with this number
abbrev flag-at : ℕ → Flag
flag-at n = if n == 0 then Nx else if n == 1 then Uf else if n == 2 then Of else if n == 3 then Dz else Nv

-- the unit of this kind with this number
abbrev unit-at : ℕ → ℕ → Unit
unit-at k n =
    if k == 0 then unit.X n else if k == 1 then unit.F n else if k == 2 then unit.Accrued (flag-at n) else
    if k == 3 then unit.Frm else unit.Csr n

flag-back : (f : Flag) → flag-at (flag-number f) ≡ f
flag-back Nx = refl
flag-back Uf = refl
flag-back Of = refl
flag-back Dz = refl
flag-back Nv = refl

unit-back : (u : Unit) → unit-at (kind u) (number u) ≡ u
unit-back (unit.X n) = refl
unit-back (unit.F n) = refl
unit-back (unit.Accrued f) = ap unit.Accrued (flag-back f)
unit-back unit.Frm = refl
unit-back (unit.Csr n) = refl

-- two units are one, or they are not
pub cases_unit : (u v : Unit) → (u ≡ v) ⊎ (u ≡ v → ⊥)
cases_unit u v = go (cases_eq (kind u) (kind v)) (cases_eq (number u) (number v))
  where
    go : (kind u ≡ kind v) ⊎ (kind u ≡ kind v → ⊥) → (number u ≡ number v) ⊎ (number u ≡ number v → ⊥) →
        (u ≡ v) ⊎ (u ≡ v → ⊥)
    go (inl a) (inl b) = inl
        (sym (unit-back u) ∙ ap (λ (k : ℕ). unit-at k (number u)) a ∙ ap (unit-at (kind v)) b ∙ unit-back v)
    go (inr a) _ = inr (λ same. a (ap kind same))
    go (inl _) (inr b) = inr (λ same. b (ap number same))
