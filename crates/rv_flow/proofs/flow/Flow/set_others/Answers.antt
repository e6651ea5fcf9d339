-- One destination more, and all of them.
use Rattle.std.proofs.Common.{arith, ◌≡◌, ◌<◌, ◌≤◌, ◌+◌, ◌-◌, ◌∙◌, ◌↔◌, refl, sym, subst, ap, ℕ}
use Rattle.std.proofs.Common.{List, Option, Some, None, get_or, take}
use Rattle.std.proofs.lemmas.List.{take_all}
use Rattle.rv_insn.specs.Roles.{Carries}
use Rattle.rv_insn.specs.declared.unit.Unit.{Unit}
use Rattle.rv_flow.specs.Destinations.{others}
use Rattle.rv_flow.specs.Flows.{HasRoom, Holds, Next}
use Rattle.rv_flow.specs.declared.flow.Flow.{Flow}
use Rattle.rv_flow.specs.declared.step.Step.{Step}
use Rattle.rv_flow.proofs.Others.{before-apart, next-same, others-at}
use Rattle.rv_flow.proofs.Setting.{After, after-none, after-set, after-skip}
use Rattle.rv_flow.proofs.flow.Flow.set_others.Goals as goal
use Rattle.rv_flow.proofs.flow.Flow.set_others.Goals.{in-Some, in_default}

-- room for more is room for fewer
less-room : {flow : Flow} (more fewer : ℕ) → fewer ≤ more → HasRoom flow more → HasRoom flow fewer
less-room more fewer low room = record {
  units = let wide = room.units in omega (wide, low, arith);
  rows = let wide = room.rows in omega (wide, low, arith);
}

pub loop-place-init : goal.loop-place-init
loop-place-init c = record {
  room = λ more room. room;
  tested = refl;
  after = after-none (Next c.args.self.now c.args.step) (Holds c.args.self.now);
}

pub set_next-requires-clause-room : goal.set_next-requires-clause-room
set_next-requires-clause-room c = less-room (0 + (7 - c.loop-place.place)) 1
    (let low = c.loop-place-test.true in omega (low, arith)) (c.loop-place.invariant.room 0 c.requires.room)

pub loop-place-preserved : goal.loop-place-preserved
loop-place-preserved c = elim c.match-to-place.branch [
  | in-Some w ↦ rw w.self-is record {
    room = λ more room. w.set_next.ensures.room (more + (7 - (k + 1)))
        (less-room (more + (7 - k)) (more + (7 - (k + 1)) + 1) (omega (low, arith))
        (c.loop-place.invariant.room more room));
    tested = w.set_next.ensures.tested ∙ c.loop-place.invariant.tested;
    after = after-set items k low (Next old step) (Holds old) (Holds c.loop-place.self) c.loop-place.invariant.after
        (Holds w.set_next.new.self) w.in-Some.unit (is ∙ w.in-Some.is) (Next c.loop-place.self step w.in-Some.unit)
        (same w.in-Some.unit (is ∙ w.in-Some.is)) w.set_next.ensures.set;
  }
  | in_default w ↦ rw w.self-is record {
    room = λ more room. less-room (more + (7 - k)) (more + (7 - (k + 1))) (omega (low, arith))
        (c.loop-place.invariant.room more room);
    tested = c.loop-place.invariant.tested;
    after = after-skip items k low (Next old step) (Holds old) (Holds c.loop-place.self) c.loop-place.invariant.after
        (λ u some. w.in_default.not-Some u (sym is ∙ some));
  }
]
  where
    old : Flow
    old = c.args.self.now

    step : Step
    step = c.args.step

    items : List (Option Unit)
    items = others step.insn

    k : ℕ
    k = c.loop-place.place

    low : k < 7
    low = let inside = c.loop-place-test.true in omega (inside, arith)

    is : get_or items k None ≡ get_or c.args.to.now (k + 1) None
    is = sym (others-at step.insn k) ∙ ap (λ (xs : List (Option Unit)). get_or xs (k + 1) None) (sym c.requires.to)

    same : (unit : Unit) → get_or items k None ≡ Some unit → (n : ℕ) →
        Next c.loop-place.self step unit n ↔ Next old step unit n
    same unit at = next-same step.event (λ p. Carries step.insn p unit) (take k items) (Next old step) (Holds old)
        (Holds c.loop-place.self) c.loop-place.invariant.after (before-apart step.insn k low unit at)

pub returns-clause-after : goal.returns-clause-after
returns-clause-after c = subst
    (λ (xs : List (Option Unit)). After xs (Next c.args.self.now c.args.step) (Holds c.args.self.now)
    (Holds c.loop-place.self))
    (take_all c.loop-place.place (others c.args.step.insn)
    (let outside = c.loop-place-test.false in omega (outside, arith)))
    c.loop-place.invariant.after

pub returns-clause-room : goal.returns-clause-room
returns-clause-room c more room = less-room (more + (7 - c.loop-place.place)) more (omega arith)
    (c.loop-place.invariant.room more room)
