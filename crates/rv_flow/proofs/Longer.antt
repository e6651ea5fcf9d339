-- What units hold after one instruction more.
use Rattle.std.proofs.Common.{◌≡◌, ℕ, suc, ◌<◌, ◌≤◌, List, [], ◌∷◌, ◌++◌, length, Some, slice_get}
use Rattle.std.proofs.Common.{◌⊎◌, ◌↔◌, inl, inr, sym, ap, refl, subst, ◌∙◌, arith}
use Rattle.std.proofs.lemmas.List.{get_or_append_left, get_or_at, length_push}
use Rattle.std.proofs.lemmas.Option.{get_or_from_slice_get, same_Some, slice_get-get_or, slice_get_within}
use Rattle.rv_insn.specs.Roles.{Carries}
use Rattle.rv_insn.specs.declared.unit.Unit.{Unit}
use Rattle.rv_flow.specs.Dependencies.{EventAt, IsAt, IsDestination}
use Rattle.rv_flow.specs.Flows.{ComesFrom}
use Rattle.rv_flow.specs.Leading.{Leads, here, on, past}
use Rattle.rv_flow.specs.declared.step.Step.{Step}

module _ (steps : List Step) (x : Step) where
  -- the instructions with the new one
  abbrev pub all : List Step
  all = steps ++ x ∷ []

  pub long : length all ≡ suc (length steps)
  long = let more = length_push steps x in omega (more, arith)

  pub at-end : IsAt all (length steps) x
  at-end = slice_get-get_or all (length steps) x (let more = length_push steps x in omega (more, arith)) ∙
      ap Some (get_or_at steps x [] x (length steps) refl)

  pub at-low : (i : ℕ) (z : Step) → IsAt steps i z → IsAt all i z
  at-low i z a =
      let low : i < length steps = slice_get_within steps i z a in
      slice_get-get_or all i z (let more = length_push steps x in omega (more, low, arith)) ∙
      ap Some (get_or_append_left steps (x ∷ []) z i low ∙ get_or_from_slice_get steps i z z a)

  pub at-lower : (i : ℕ) (z : Step) → IsAt all i z → i < length steps → IsAt steps i z
  at-lower i z a low = slice_get-get_or steps i z low ∙
      ap Some (sym (get_or_append_left steps (x ∷ []) z i low) ∙ get_or_from_slice_get all i z z a)

  -- what was held is held still
  pub lift : (k i : ℕ) (u s : Unit) → Leads steps k u i s → Leads all k u i s
  lift k i u s (here {k = j} {x = z} a d) = here (at-low j z a) d
  lift k i u s (on {k = j} {x = z} {p = p} a d c l) = on (at-low j z a) d c (lift j i p s l)
  lift k i u s (past {k = j} {x = z} a none l) = past (at-low j z a) none (lift j i u s l)

  -- and nothing else before
  pub lower : (k i : ℕ) (u s : Unit) → k ≤ length steps → Leads all k u i s → Leads steps k u i s
  lower k i u s low (here {k = j} {x = z} a d) = here (at-lower j z a (omega (low, arith))) d
  lower k i u s low (on {k = j} {x = z} {p = p} a d c l) =
      on (at-lower j z a (omega (low, arith))) d c (lower j i p s (omega (low, arith)) l)
  lower k i u s low (past {k = j} {x = z} a none l) =
      past (at-lower j z a (omega (low, arith))) none (lower j i u s (omega (low, arith)) l)

  -- it is from an earlier instruction
  pub earlier : (k i : ℕ) (u s : Unit) → Leads steps k u i s → i < k
  earlier k i u s (here a d) = omega arith
  earlier k i u s (on {k = j} {p = p} a d c l) = let low = earlier j i p s l in omega (low, arith)
  earlier k i u s (past {k = j} a none l) = let low = earlier j i u s l in omega (low, arith)

  -- the last instruction is the new one
  last : (j : ℕ) (z : Step) → suc j ≡ length all → IsAt all j z → z ≡ x
  last j z is a = same_Some z x (sym a ∙ ap (slice_get all) (let more = long in omega (is, more, arith)) ∙ at-end)

  module _ (Held : Unit → ℕ → Type 0) (so : (u : Unit) (n : ℕ) → Held u n ↔ ComesFrom steps u n) where
    -- what the unit holds by the new instruction: events of a destination, or what it held
    abbrev pub After : Unit → ℕ → Type 0
    After u n =
        (IsDestination x.insn u × ((x.event ≡ Some n) ⊎ ((p : Unit) × Carries x.insn p u × Held p n))) ⊎
        ((IsDestination x.insn u → ⊥) × Held u n)

    held : (k i : ℕ) (u s : Unit) (n : ℕ) → k ≡ length steps → Leads all k u i s → EventAt all i n → Held u n
    held k i u s n is l (z, a, event) =
        let l' : Leads steps k u i s = lower k i u s (omega (is, arith)) l in
        let low : i < length steps = (let low = earlier k i u s l' in omega (low, is, arith)) in
        (so u n).1 (i, s, subst (λ (j : ℕ). Leads steps j u i s) is l', (z, at-lower i z a low, event))

    to : (k i : ℕ) (u s : Unit) (n : ℕ) → k ≡ length all → Leads all k u i s → EventAt all i n → After u n
    to k i u s n is (here {k = j} {x = y} a d) (z, a', event) = inl (
      subst (λ (v : Step). IsDestination v.insn u) (last j y is a) d,
      inl (ap (λ (v : Step). v.event) (sym (last j z is a')) ∙ event),
    )
    to k i u s n is (on {k = j} {x = y} {p = p} a d c l) e = inl (
      subst (λ (v : Step). IsDestination v.insn u) (last j y is a) d,
      inr (
        p,
        subst (λ (v : Step). Carries v.insn p u) (last j y is a) c,
        held j i p s n (let more = long in omega (is, more, arith)) l e,
      ),
    )
    to k i u s n is (past {k = j} {x = y} a none l) e = inr (
      λ d. none (subst (λ (v : Step). IsDestination v.insn u) (sym (last j y is a)) d),
      held j i u s n (let more = long in omega (is, more, arith)) l e,
    )

    carried : (u p : Unit) (n : ℕ) → IsDestination x.insn u → Carries x.insn p u → ComesFrom steps p n →
        ComesFrom all u n
    carried u p n d c (i, s, l, (z, a, event)) = (
      i,
      s,
      subst (λ (m : ℕ). Leads all m u i s) (sym long) (on at-end d c (lift (length steps) i p s l)),
      (z, at-low i z a, event),
    )

    kept : (u : Unit) (n : ℕ) → (IsDestination x.insn u → ⊥) → ComesFrom steps u n → ComesFrom all u n
    kept u n none (i, s, l, (z, a, event)) = (
      i,
      s,
      subst (λ (m : ℕ). Leads all m u i s) (sym long) (past at-end none (lift (length steps) i u s l)),
      (z, at-low i z a, event),
    )

    from : (u : Unit) (n : ℕ) → After u n → ComesFrom all u n
    from u n (inl (d, inl event)) = (
      length steps,
      u,
      subst (λ (m : ℕ). Leads all m u (length steps) u) (sym long) (here at-end d),
      (x, at-end, event),
    )
    from u n (inl (d, inr (p, c, has))) = carried u p n d c ((so p n).0 has)
    from u n (inr (none, has)) = kept u n none ((so u n).0 has)

    -- by the new instruction a unit holds what the longer list says
    pub flow-longer : (u : Unit) (n : ℕ) → After u n ↔ ComesFrom all u n
    flow-longer u n = (from u n, λ came. back came)
      where
        back : ComesFrom all u n → After u n
        back (i, s, l, e) = to (length all) i u s n refl l e
