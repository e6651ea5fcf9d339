-- What the hart's next instruction depends on, by what its sources hold.
use Rattle.std.proofs.Common.{◌≡◌, ℕ, ◌<◌, List, [], ◌∷◌, ◌++◌, length, Option, Some, IsTrue, lit<, ◌⊎◌, ◌↔◌}
use Rattle.std.proofs.Common.{inl, inr, sym, ap, subst, ◌∙◌, arith}
use Rattle.std.proofs.lemmas.Bool.{cases_eq}
use Rattle.std.proofs.lemmas.Grind.{common_steps}
use Rattle.std.proofs.lemmas.Option.{same_Some}
use Rattle.rv_insn.specs.Listing.{listing}
use Rattle.rv_insn.specs.Roles.{address, address_source, data_source, is_branch, read, value}
use Rattle.rv_insn.specs.declared.insn.Insn.{Insn}
use Rattle.rv_insn.specs.declared.unit.Unit.{Unit}
use Rattle.rv_insn.specs.declared.usage.Operand.{Operand}
use Rattle.rv_insn.specs.declared.usage.Operand.TheVariants as operand
use Rattle.rv_rows.specs.Bits.{Has}
use Rattle.rv_flow.specs.Dependencies.{DependsOn, HasBy, HasControl, IsAt, IsSource}
use Rattle.rv_flow.specs.Flows.{ComesFrom, Holds, OfNext}
use Rattle.rv_flow.specs.Leading.{Leads}
use Rattle.rv_flow.specs.declared.flow.Flow.{Flow}
use Rattle.rv_flow.specs.declared.step.Step.{Step}
use Rattle.rv_flow.proofs.Longer.{at-end, at-low, at-lower, earlier, lift, lower, long}
use Rattle.rv_flow.proofs.Paths.{dependencies-lead}

-- ---- roles are sources
address-read : (o : Operand) (n : ℕ) (r : Unit) → address o n ≡ Some r → read o n ≡ Some r
address-read operand.AddressX n r is = is
address-read operand.Unused n r is = grind (arith, common_steps)
address-read operand.X n r is = grind (arith, common_steps)
address-read operand.F n r is = grind (arith, common_steps)
address-read operand.DataX n r is = grind (arith, common_steps)
address-read operand.DataF n r is = grind (arith, common_steps)

value-read : (o : Operand) (n : ℕ) (r : Unit) → value o n ≡ Some r → read o n ≡ Some r
value-read operand.DataX n r is = is
value-read operand.DataF n r is = is
value-read operand.Unused n r is = grind (arith, common_steps)
value-read operand.X n r is = grind (arith, common_steps)
value-read operand.F n r is = grind (arith, common_steps)
value-read operand.AddressX n r is = grind (arith, common_steps)

-- the source of an address is a source
pub address-source : (i : Insn) (r : Unit) → address_source i ≡ Some r → IsSource i r
address-source i r is = (0, lit< tt, address-read (listing i.operation).first i.rs1 r is)

-- and so is that of a value
pub data-source : (i : Insn) (r : Unit) → data_source i ≡ Some r → IsSource i r
data-source i r is = (1, lit< tt, value-read (listing i.operation).second i.rs2 r is)

module _ (steps : List Step) (x : Step) where
  abbrev pub all : List Step
  all = steps ++ x ∷ []

  -- the next instruction depends on what its sources hold
  next-depends : (r : Unit) → IsSource x.insn r → (n : ℕ) → ComesFrom steps r n → DependsOn all (length steps) r n
  next-depends r source n (i, s, l, (z, a, event)) = (
    i,
    s,
    (dependencies-lead all (length steps) i x r s (at-end steps x)).1 (source, lift steps x (length steps) i r s l),
    (z, at-low steps x i z a, event),
  )

  -- and on nothing else
  next-holds : (r : Unit) (n : ℕ) → DependsOn all (length steps) r n → IsSource x.insn r × ComesFrom steps r n
  next-holds r n (i, s, d, (z, a, event)) =
      let both = (dependencies-lead all (length steps) i x r s (at-end steps x)).0 d in
      let l : Leads steps (length steps) r i s = lower steps x (length steps) i r s (omega arith) both.1 in
      let low : i < length steps = earlier steps x (length steps) i r s l in
      (both.0, (i, s, l, (z, at-lower steps x i z a low, event)))

  -- an earlier one depends on what it did
  depends-still : (m : ℕ) (y : Step) (r : Unit) (n : ℕ) → IsAt steps m y → DependsOn steps m r n → DependsOn all m r n
  depends-still m y r n at (i, s, d, (z, a, event)) =
      let both = (dependencies-lead steps m i y r s at).0 d in (
        i,
        s,
        (dependencies-lead all m i y r s (at-low steps x m y at)).1 (both.0, lift steps x m i r s both.1),
        (z, at-low steps x i z a, event),
      )

  -- and on nothing more
  depends-before : (m : ℕ) (y : Step) (r : Unit) (n : ℕ) → m < length steps → IsAt all m y → DependsOn all m r n →
      DependsOn steps m r n
  depends-before m y r n low at (i, s, d, (z, a, event)) =
      let here : IsAt steps m y = at-lower steps x m y at low in
      let both = (dependencies-lead all m i y r s at).0 d in
      let l : Leads steps m r i s = lower steps x m i r s (omega (low, arith)) both.1 in
      let before : i < m = earlier steps x m i r s l in
      let at-i : IsAt steps i z = at-lower steps x i z a (omega (before, low, arith)) in
      (i, s, (dependencies-lead steps m i y r s here).1 (both.0, l), (z, at-i, event))

  is-next : (z : Step) → IsAt all (length steps) z → z ≡ x
  is-next z a = same_Some z x (sym a ∙ at-end steps x)

  -- what the instruction depends on by a role is what the source in it holds
  pub by-role : (role : Insn → Option Unit) → ((i : Insn) (r : Unit) → role i ≡ Some r → IsSource i r) →
      (n : ℕ) → ((u : Unit) × (role x.insn ≡ Some u) × ComesFrom steps u n) ↔ HasBy role all (length steps) n
  by-role role is-source n = (
    λ h. record {
      x = x;
      at = at-end steps x;
      r = h.0;
      source = h.1;
      depends = next-depends h.0 (is-source x.insn h.0 h.1) n h.2;
    },
    λ h. (
      h.r,
      subst (λ (z : Step). role z.insn ≡ Some h.r) (is-next h.x h.at) h.source,
      (next-holds h.r n h.depends).1,
    ),
  )

  -- the branches before the instruction are the same in the longer list
  pub control-same : (n : ℕ) → HasControl steps (length steps) n ↔ HasControl all (length steps) n
  control-same n = (
    λ h. record {
      m = h.m;
      before = h.before;
      x = h.x;
      at = at-low steps x h.m h.x h.at;
      branch = h.branch;
      r = h.r;
      depends = depends-still h.m h.x h.r n h.at h.depends;
    },
    λ h. record {
      m = h.m;
      before = h.before;
      x = h.x;
      at = at-lower steps x h.m h.x h.at h.before;
      branch = h.branch;
      r = h.r;
      depends = depends-before h.m h.x h.r n h.before h.at h.depends;
    },
  )

  -- behind it, it is one more where it is a branch
  pub control-longer : (n : ℕ) →
      (HasControl steps (length steps) n ⊎
      (IsTrue (is_branch x.insn.operation) × (u : Unit) × IsSource x.insn u × ComesFrom steps u n)) ↔
      HasControl all (length all) n
  control-longer n = (to, from)
    where
      to : HasControl steps (length steps) n ⊎
          (IsTrue (is_branch x.insn.operation) × (u : Unit) × IsSource x.insn u × ComesFrom steps u n) →
          HasControl all (length all) n
      to (inl h) = record {
        m = h.m;
        before = let low = h.before in let more = long steps x in omega (low, more, arith);
        x = h.x;
        at = at-low steps x h.m h.x h.at;
        branch = h.branch;
        r = h.r;
        depends = depends-still h.m h.x h.r n h.at h.depends;
      }
      to (inr (branch, u, source, came)) = record {
        m = length steps;
        before = let more = long steps x in omega (more, arith);
        x = x;
        at = at-end steps x;
        branch = branch;
        r = u;
        depends = next-depends u source n came;
      }

      from : HasControl all (length all) n → HasControl steps (length steps) n ⊎
          (IsTrue (is_branch x.insn.operation) × (u : Unit) × IsSource x.insn u × ComesFrom steps u n)
      from h = elim (cases_eq h.m (length steps)) [
        | inl last ↦ (
            let is : h.x ≡ x = is-next h.x (subst (λ (m : ℕ). IsAt all m h.x) last h.at) in
            let held = next-holds h.r n (subst (λ (m : ℕ). DependsOn all m h.r n) last h.depends) in
            inr (subst (λ (z : Step). IsTrue (is_branch z.insn.operation)) is h.branch, h.r, held.0, held.1))
        | inr apart ↦ (
            let before = h.before in
            let more = long steps x in
            let low : h.m < length steps = omega (before, more, apart, arith) in
            inl (record {
              m = h.m;
              before = low;
              x = h.x;
              at = at-lower steps x h.m h.x h.at low;
              branch = h.branch;
              r = h.r;
              depends = depends-before h.m h.x h.r n low h.at h.depends;
            }))
      ]

-- the row has what the source in the role holds
pub role-of-next : (role : Insn → Option Unit) → ((i : Insn) (r : Unit) → role i ≡ Some r → IsSource i r) →
    (flow : Flow) (insn : Insn) (row : List ℕ) →
    ((n : ℕ) → Has row n ↔ ((u : Unit) × (role insn ≡ Some u) × Holds flow u n)) →
    OfNext (HasBy role) flow insn row
role-of-next role is-source flow insn row says steps x of is n = (
  λ has. (
      let h = (says n).0 has in
      (by-role steps x role is-source n).0 (h.0, ap role is ∙ h.1, (of.units h.0 n).0 h.2)),
  λ by. (
      let h = (by-role steps x role is-source n).1 by in
      (says n).1 (h.0, ap role (sym is) ∙ h.1, (of.units h.0 n).1 h.2)),
)
