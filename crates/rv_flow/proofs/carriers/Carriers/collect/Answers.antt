use Rattle.std.proofs.Common.{ℕ, ◌↔◌, List, get_or, Contains, sym, subst, arith}
use Rattle.rv_rows.specs.Bits.{Has}
use Rattle.rv_flow.proofs.Collecting.{all-events, in-set, one-event}
use Rattle.rv_flow.proofs.Growing.{event-still, grown-on}
use Rattle.rv_flow.proofs.Numbering.{numbered-on}
use Rattle.rv_flow.proofs.Sets.{has-copied}
use Rattle.rv_flow.proofs.carriers.Carriers.collect.Goals as goal

-- the event is one of the set
next-in-set : (c : goal.After-row_known-1) →
    Has c.args.set.now (get_or c.deref-event-items.result.now c.events.event-index 0)
next-in-set c =
    in-set c.args.set.now c.join.new.self c.new-2.result c.cover.new.list.events c.cover.new.rest
    c.deref-event-items.result.now c.new-2.ensures
    (has-copied c.new-rest.result c.args.set.now c.join.new.self c.new-rest.ensures c.join.ensures)
    c.in_ok-cover.ensures.moved
    (subst (λ (l : List ℕ). (n : ℕ) → Has c.cover.new.rest n ↔ Contains l n) (sym c.deref-event-items.ensures.value)
    c.in_ok-events.ensures)
    c.events.event-index c.events-test.true

-- src/carriers.rt:154:20
pub add-requires-clause-event : goal.add-requires-clause-event
add-requires-clause-event c =
    let known = c.requires.events _ (next-in-set c) in
    event-still c.args.self.now.all.items c.events.self.all.items c.args.self.now.next c.events.self.next
    c.requires.carriers c.events.invariant.grown _ known.1 known.0

-- src/carriers.rt:154:20
pub add-requires-clause-before : goal.add-requires-clause-before
add-requires-clause-before c =
    let known = c.requires.events _ (next-in-set c) in
    let low = known.1 in
    let more = c.events.invariant.grown.next in
    omega (low, more, arith)

-- src/carriers.rt:154:20
pub returns-in_err-list-clause-grown : goal.returns-in_err-list-clause-grown
returns-in_err-list-clause-grown c =
    grown-on c.events.invariant.grown (c.in_err-list.ensures).grown

-- src/carriers.rt:168:20
pub returns-in_err-list-clause-numbered : goal.returns-in_err-list-clause-numbered
returns-in_err-list-clause-numbered c =
    numbered-on c.events.invariant.numbered (c.in_err-list.ensures).numbered (c.in_err-list.ensures).grown

-- src/carriers.rt:153:9
pub events-preserved : goal.events-preserved
events-preserved c = record {
  grown = grown-on c.events.invariant.grown (c.in_ok-list.ensures).grown;
  numbered = numbered-on c.events.invariant.numbered (c.in_ok-list.ensures).numbered (c.in_ok-list.ensures).grown;
  list = (c.in_ok-list.ensures).list;
  events = one-event c.args.set.now c.join.new.self c.new-2.result c.cover.new.list.events c.cover.new.rest
      c.deref-event-items.result.now c.new-2.ensures
      (has-copied c.new-rest.result c.args.set.now c.join.new.self c.new-rest.ensures c.join.ensures)
      c.in_ok-cover.ensures.moved
      (subst (λ (l : List ℕ). (n : ℕ) → Has c.cover.new.rest n ↔ Contains l n) (sym c.deref-event-items.ensures.value)
      c.in_ok-events.ensures)
      c.events.event-index c.events-test.true c.events.list.events c.in_ok-list.list.events c.events.invariant.events
      (c.in_ok-list.ensures).events;
}

-- src/carriers.rt:138:5
pub returns-clause-events : goal.returns-clause-events
returns-clause-events c =
    all-events c.args.set.now c.join.new.self c.new-2.result c.cover.new.list.events c.cover.new.rest
    c.deref-event-items.result.now c.new-2.ensures
    (has-copied c.new-rest.result c.args.set.now c.join.new.self c.new-rest.ensures c.join.ensures)
    c.in_ok-cover.ensures.moved
    (subst (λ (l : List ℕ). (n : ℕ) → Has c.cover.new.rest n ↔ Contains l n) (sym c.deref-event-items.ensures.value)
    c.in_ok-events.ensures)
    c.events.event-index (let end = c.events-test.false in omega (end, arith)) c.events.list.events
    c.events.invariant.events
