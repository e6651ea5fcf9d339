use Rattle.std.proofs.Common.{◌≡◌, ℕ, ◌<◌, ◌⊎◌, ◌↔◌, inl, inr, length, arith}
use Rattle.std.proofs.lemmas.Grind.{common_steps}
use Rattle.rv_rows.specs.Bits.{Has}
use Rattle.rv_flow.proofs.Growing.{behind-event, event-still, one-part}
use Rattle.rv_flow.proofs.Sets.{has-inserted}
use Rattle.rv_flow.proofs.carriers.Carriers.add.Goals as goal

-- src/carriers.rt:197:5
pub returns-clause-list : goal.returns-clause-list
returns-clause-list c =
    one-part c.fold_if.new.self.all.items c.fold_if.new.self.next c.in_ok-list.list
    (record { parts = c.push.new.self; events = c.insert.new.self }) c.args.event (λ n. c.args.event ≡ n)
    c.in_ok-list.ensures.list room low
    (behind-event c.fold_if.new.self.all.items c.args.event
    (event-still c.args.self.now.all.items c.fold_if.new.self.all.items c.args.self.now.next c.fold_if.new.self.next
    c.requires.carriers c.in_ok-list.ensures.grown c.args.event c.requires.before c.requires.event))
    c.in_ok-push.ensures.items
    (has-inserted c.in_ok-list.list.events c.insert.new.self c.args.event c.insert.ensures)
  where
    room : length c.in_ok-list.list.parts.items < 8
    room = (
        let short = c.in_ok-list.ensures.one in
        let few = c.requires.list.parts.few in
        let long = c.len.ensures in
        grind (arith, common_steps, short, few, long))

    low : c.args.event < c.fold_if.new.self.next
    low = let before = c.requires.before in let more = c.in_ok-list.ensures.grown.next in omega (before, more, arith)

-- src/carriers.rt:197:5
pub returns-clause-events : goal.returns-clause-events
returns-clause-events c n = (
  λ h. elim ((added n).0 h) [
    | inl old ↦ inl ((c.in_ok-list.ensures.events n).0 old)
    | inr new ↦ inr new
  ],
  λ h. elim h [
    | inl old ↦ (added n).1 (inl ((c.in_ok-list.ensures.events n).1 old))
    | inr new ↦ (added n).1 (inr new)
  ],
)
  where
    added : (m : ℕ) → Has c.insert.new.self m ↔ (Has c.in_ok-list.list.events m ⊎ (c.args.event ≡ m))
    added = has-inserted c.in_ok-list.list.events c.insert.new.self c.args.event c.insert.ensures
