-- Each entry's load is added where it is one of the hart's that wait.
use Rattle.std.proofs.Common.{◌≡◌, ◌==◌, ◌&&◌, ◌++◌, ◌∷◌, [], ◌∙◌, Bool, arith, filter, map, sym, List}
use Rattle.std.proofs.lemmas.Grind.{common_steps}
use Rattle.rv_event.specs.Log.{events}
use Rattle.rv_event.specs.declared.event.Entry.{Entry}
use Rattle.rv_book.specs.Counts.{is_waiting}
use Rattle.rv_coverage.specs.Waits.{wait_of}
use Rattle.rv_coverage.specs.declared.waiting.Wait.{Wait}
use Rattle.rv_coverage.proofs.Firsts.{grows-no, grows-yes}
use Rattle.rv_coverage.proofs.waiting.push_waits.Goals.{then-is_wait_of+in_ok-push, else-is_wait_of}
use Rattle.rv_coverage.proofs.waiting.push_waits.Goals as goal

module _ (c : goal.Joined-is_wait_of) where
  abbrev is_one : Entry → Bool
  is_one x = (x.event.id.hart == c.args.hart) && is_waiting (events c.args.book.now.log) x.event

  abbrev found : List Entry → List Wait
  found log = map (λ x. wait_of x.event) (filter is_one log)

pub entries-preserved : goal.entries-preserved
entries-preserved c = elim c.if-is_wait_of.branch [
  | then-is_wait_of+in_ok-push w ↦ (
      let more : c.if-is_wait_of.waits.items ≡ c.entries.waits.items ++ wait_of c.entry-item.result.event ∷ [] =
      grind (arith, common_steps) in
      grows-yes (is_one c) c.log-entry-items.result.now c.entries.entry-index c.entry-item.result
      c.args.waits.now.items c.entries.waits.items c.if-is_wait_of.waits.items c.entries-test.true c.entry-item.is
      (sym c.is_wait_of.ensures ∙ w.if-is_wait_of.true) c.entries.invariant more)
  | else-is_wait_of w ↦ (
      let same : c.if-is_wait_of.waits.items ≡ c.entries.waits.items = grind (arith, common_steps) in
      same ∙ grows-no (is_one c) c.log-entry-items.result.now c.entries.entry-index c.entry-item.result
      c.args.waits.now.items c.entries.waits.items c.entries-test.true c.entry-item.is
      (sym c.is_wait_of.ensures ∙ w.if-is_wait_of.false) c.entries.invariant)
]
