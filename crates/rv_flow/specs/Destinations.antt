-- The destinations of an instruction, rd apart from the others.
use Rattle.std.specs.Prelude.{List, ◌∷◌, [], Contains, Option, Some}
use Rattle.rv_insn.specs.Listing.{listing}
use Rattle.rv_insn.specs.Roles.{csr_destination, flag_destination, frm_destination, written}
use Rattle.rv_insn.specs.declared.insn.Insn.{Insn}
use Rattle.rv_insn.specs.declared.unit.Flag.TheVariants.{Nx, Uf, Of, Dz, Nv}
use Rattle.rv_insn.specs.declared.unit.Unit.{Unit}

-- the register that it writes
abbrev pub rd_of : Insn → Option Unit
rd_of i = written (listing i.operation).to i.rd

-- the parts of CSRs that it writes
abbrev pub others : Insn → List (Option Unit)
others i =
    frm_destination i ∷ csr_destination i ∷ flag_destination i Nx ∷ flag_destination i Uf ∷ flag_destination i Of
    ∷ flag_destination i Dz ∷ flag_destination i Nv ∷ []

-- the unit is one of these
abbrev pub IsOther : Insn → Unit → Type 0
IsOther i u = Contains (others i) (Some u)
