-- The next source, and the whole list.
use Rattle.std.proofs.Common.{arith, ◌≡◌, ◌<◌, ◌∙◌, ◌⊎◌, ◌↔◌, inl, inr, sym, subst, ℕ, List, Option, Some, None}
use Rattle.std.proofs.Common.{Contains, length, get_or}
use Rattle.std.proofs.lemmas.List.{get_or_default}
use Rattle.rv_insn.specs.declared.unit.Unit.{Unit}
use Rattle.rv_rows.specs.Bits.{Has}
use Rattle.rv_flow.specs.Dependencies.{IsSource}
use Rattle.rv_flow.specs.Flows.{Holds}
use Rattle.rv_flow.proofs.Gathering.{gather-more, gather-none, gathered, none_some, nothing-so-far}
use Rattle.rv_flow.proofs.flow.Flow.held_by_sources.Goals as goal
use Rattle.rv_flow.proofs.flow.Flow.held_by_sources.Goals.{in-Some, in_default}

pub loop-source-init : goal.loop-source-init
loop-source-init c = nothing-so-far (IsSource c.args.insn) (Holds c.args.self.now) c.new-row.result c.new-row.ensures

pub loop-source-preserved : goal.loop-source-preserved
loop-source-preserved c = elim c.match-source.branch [
  | in-Some w ↦ rw w.row-is
      (gather-more None (IsSource c.args.insn) (Holds c.args.self.now) items k low w.in-Some.from c.loop-source.row
      w.gather.new.row w.in-Some.is (source w.in-Some.from w.in-Some.is) c.loop-source.invariant w.gather.ensures)
  | in_default w ↦ rw w.row-is
      (gather-none None (IsSource c.args.insn) (Holds c.args.self.now) items k low c.loop-source.row
      (λ p is _. w.in_default.not-Some p is) c.loop-source.invariant)
]
  where
    items : List (Option Unit)
    items = c.sources-source-items.result

    k : ℕ
    k = c.loop-source.source-index

    low : k < length items
    low = let inside = c.loop-source-test.true in omega (inside, arith)

    source : (p : Unit) → get_or items k None ≡ Some p → IsSource c.args.insn p
    source p is = subst (λ (xs : List (Option Unit)). Contains xs (Some p)) c.sources-source-items.ensures
        (k, low, get_or_default items k (Some p) None low ∙ is)

pub returns : goal.returns
returns c n = (λ has. known (all.0 has), λ held. all.1 (inr held))
  where
    items : List (Option Unit)
    items = c.sources-source-items.result

    all : Has c.loop-source.row n ↔
        ((None ≡ Some n) ⊎ ((p : Unit) × IsSource c.args.insn p × Holds c.args.self.now p n))
    all = gathered None (IsSource c.args.insn) (Holds c.args.self.now) items c.loop-source.source-index
        (let outside = c.loop-source-test.false in omega (outside, arith))
        (λ p is. subst (λ (xs : List (Option Unit)). Contains xs (Some p)) (sym c.sources-source-items.ensures) is)
        c.loop-source.row c.loop-source.invariant n

    known : (None ≡ Some n) ⊎ ((p : Unit) × IsSource c.args.insn p × Holds c.args.self.now p n) →
        (p : Unit) × IsSource c.args.insn p × Holds c.args.self.now p n
    known (inl none) = absurd (none_some n none)
    known (inr held) = held
