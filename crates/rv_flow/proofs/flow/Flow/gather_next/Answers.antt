-- The next source, and the whole list.
use Rattle.std.proofs.Common.{arith, ◌≡◌, ◌<◌, ◌∙◌, ℕ, List, Option, Some, None, length, get_or}
use Rattle.std.proofs.lemmas.List.{get_or_default}
use Rattle.rv_insn.specs.Roles.{Carries}
use Rattle.rv_insn.specs.declared.unit.Unit.{Unit}
use Rattle.rv_flow.specs.Flows.{Holds}
use Rattle.rv_flow.proofs.Gathering.{gather-more, gather-none, gathered}
use Rattle.rv_flow.proofs.flow.Flow.gather_next.Goals as goal
use Rattle.rv_flow.proofs.flow.Flow.gather_next.Goals.{in-Some-source, in_default-source}

pub loop-source-preserved : goal.loop-source-preserved
loop-source-preserved c = elim c.match-source.branch [
  | in-Some-source w ↦ rw w.row-is
      (gather-more event Carried Held items k low w.in-Some-source.from c.loop-source.row w.gather.new.row
      w.in-Some-source.is (source w.in-Some-source.from w.in-Some-source.is) c.loop-source.invariant
      w.gather.ensures)
  | in_default-source w ↦ rw w.row-is
      (gather-none event Carried Held items k low c.loop-source.row
      (λ p is carried. w.in_default-source.not-Some p is) c.loop-source.invariant)
]
  where
    event : Option ℕ
    event = c.args.step.event

    Carried : Unit → Type 0
    Carried p = Carries c.args.step.insn p c.args.to

    Held : Unit → ℕ → Type 0
    Held p n = Holds c.args.self.now p n

    items : List (Option Unit)
    items = c.carried_to-source-items.result

    k : ℕ
    k = c.loop-source.source-index

    low : k < length items
    low = let inside = c.loop-source-test.true in omega (inside, arith)

    source : (p : Unit) → get_or items k None ≡ Some p → Carried p
    source p is = (c.carried_to-source-items.ensures p).0 (k, low, get_or_default items k (Some p) None low ∙ is)

pub returns : goal.returns
returns c = gathered c.args.step.event (λ p. Carries c.args.step.insn p c.args.to)
    (λ p n. Holds c.args.self.now p n) c.carried_to-source-items.result c.loop-source.source-index
    (let outside = c.loop-source-test.false in omega (outside, arith))
    (λ p carried. (c.carried_to-source-items.ensures p).1 carried) c.loop-source.row c.loop-source.invariant
