-- The chapter's relation, and what units hold step by step.
use Rattle.std.proofs.Common.{◌≡◌, ℕ, zero, suc, ◌<◌, ◌≤◌, List, length, get_or, ◌⊎◌, inl, inr}
use Rattle.std.proofs.Common.{sym, subst, ◌∙◌, arith}
use Rattle.std.proofs.lemmas.Bool.{cases_eq}
use Rattle.std.proofs.lemmas.Option.{same_Some, slice_get-get_or, slice_get_within}
use Rattle.rv_insn.specs.Roles.{Carries}
use Rattle.rv_insn.specs.declared.unit.Unit.{Unit}
use Rattle.rv_flow.specs.Dependencies.{DependsVia, IsAt, IsDestination, IsSource, direct, through}
use Rattle.rv_flow.specs.Leading.{Leads, here, on, past}
use Rattle.rv_flow.specs.Laws.{DependenciesLead}
use Rattle.rv_flow.specs.declared.step.Step.{Step}
use Rattle.rv_flow.proofs.Roles.{carries-source}

module _ (steps : List Step) where
  -- one instruction stands at a place
  same-step : (j : ℕ) (x y : Step) → IsAt steps j x → IsAt steps j y → x ≡ y
  same-step j x y a b = same_Some x y (sym a ∙ b)

  -- and one at each place below
  below : (j m : ℕ) (x : Step) → IsAt steps j x → m < j → (z : Step) × IsAt steps m z
  below j m x a low =
      let within : j < length steps = slice_get_within steps j x a in
      (get_or steps m x, slice_get-get_or steps m x (omega arith))

  -- a value that goes on through an instruction
  compose : (k m i : ℕ) (u q p s : Unit) (y : Step) → IsAt steps m y → Leads steps k u m q → Carries y.insn p q →
      Leads steps m p i s → Leads steps k u i s
  compose k m i u q p s y a (here {x = x} b d) c l =
      on b d (subst (λ (z : Step). Carries z.insn p u) (same-step _ y x a b) c) l
  compose k m i u q p s y a (on b d e first) c l = on b d e (compose _ m i _ q p s y a first c l)
  compose k m i u q p s y a (past b d first) c l = past b d (compose _ m i u q p s y a first c l)

  -- a destination that no later instruction has is held
  module _ (j i : ℕ) (x y : Step) (r : Unit) (ax : IsAt steps j x) (ay : IsAt steps i y) (d : IsDestination y.insn r)
      (none : (m : ℕ) (z : Step) → i < m → m < j → IsAt steps m z → IsDestination z.insn r → ⊥) where
    held : (k : ℕ) → i < k → k ≤ j → Leads steps k r i r
    held zero low high = absurd (omega (arith, low))
    held (suc k) low high = go (cases_eq i k) (λ apart. held k (omega (arith, apart)) (omega arith))
      where
        go : (i ≡ k) ⊎ (i ≡ k → ⊥) → ((i ≡ k → ⊥) → Leads steps k r i r) → Leads steps (suc k) r i r
        go (inl same) _ = subst (λ (n : ℕ). Leads steps (suc n) r i r) same (here ay d)
        go (inr apart) before =
            let z = below j k x ax (omega arith) in
            past z.1 (none k z.0 (omega (arith, apart)) (omega arith) z.1) (before apart)

  -- what the relation says is held
  pub leads-from : (j i : ℕ) (r s : Unit) → DependsVia steps j r i s → Leads steps j r i s
  leads-from j i r s (direct {x = x} {y = y} low ax ay source d none) =
      held j i x y r ax ay d none j low (omega arith)
  leads-from j i r s (through {m = m} {y = y} {q = q} {p = p} ay first second c) =
      compose j m i r q p s y ay (leads-from j m r q first) c (leads-from m i p s second)

  -- and it says so of a source
  pub source-from : (j i : ℕ) (x : Step) (r s : Unit) → IsAt steps j x → DependsVia steps j r i s → IsSource x.insn r
  source-from j i x r s a (direct {x = x'} low ax ay source d none) =
      subst (λ (z : Step). IsSource z.insn r) (same-step j x' x ax a) source
  source-from j i x r s a (through {m = m} {q = q} ay first second c) = source-from j m x r q a first

  -- what a unit holds, and no instruction up to j has as a destination, is a dependency of j
  pub depends-from : (k i : ℕ) (r s : Unit) → Leads steps k r i s → (j : ℕ) (x : Step) → k ≤ j → IsAt steps j x →
      IsSource x.insn r →
      ((m : ℕ) (z : Step) → k ≤ m → m < j → IsAt steps m z → IsDestination z.insn r → ⊥) → DependsVia steps j r i s
  depends-from k i r s (here {x = y} ay d) j x low ax source none =
      direct (omega arith) ax ay source d (λ m z after before az. none m z (omega arith) before az)
  depends-from k i r s (on {k = m} {x = y} {p = p} ay d c rest) j x low ax source none =
      through ay (direct (omega arith) ax ay source d (λ n z after before az. none n z (omega arith) before az))
      (depends-from m i p s rest m y (omega arith) ay (carries-source y.insn p r c)
      (λ n z after before az. absurd (omega arith))) c
  depends-from k i r s (past {k = m} {x = y} ay apart rest) j x low ax source none =
      depends-from m i r s rest j x (omega arith) ax source
      (λ n z after before az. go n z after before az (cases_eq n m))
    where
      go : (n : ℕ) (z : Step) → m ≤ n → n < j → IsAt steps n z → (n ≡ m) ⊎ (n ≡ m → ⊥) → IsDestination z.insn r → ⊥
      go n z after before az (inl same) d =
          apart (subst (λ (w : Step). IsDestination w.insn r)
          (same-step m z y (subst (λ (o : ℕ). IsAt steps o z) same az) ay) d)
      go n z after before az (inr other) d = none n z (omega (arith, other)) before az d

-- so the two are the same
pub dependencies-lead : DependenciesLead
dependencies-lead steps j i x r s a = (
  λ d. (source-from steps j i x r s a d, leads-from steps j i r s d),
  λ h. depends-from steps j i r s h.1 j x (omega arith) a h.0 (λ n z after before az. absurd (omega arith)),
)
