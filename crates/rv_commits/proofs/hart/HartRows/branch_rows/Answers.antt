use Rattle.std.proofs.Common.{ℕ, ◌∙◌, ◌+◌, ◌++◌, ◌∷◌, [], List, ap, arith, length, subst, sym, take, drop, ◌-◌}
use Rattle.std.proofs.lemmas.List.{length_push, take_all}
use Rattle.rv_event.specs.declared.event.Event.{Event}
use Rattle.rv_commits.specs.Harts.{AreBranchRows, IsBranchRow}
use Rattle.rv_commits.proofs.Branches.{rows-more, taken-upto}
use Rattle.rv_commits.proofs.Traces.{on_err, still-same}
use Rattle.rv_commits.proofs.hart.HartRows.branch_rows.Goals as goal

pub rows-preserved : goal.rows-preserved
rows-preserved c =
    let hart = c.args.self.now.hart in
    let first = c.args.self.now.trace.rows in
    let events : List ℕ = c.in_ok-events.events.items in
    let rows : List Event = c.rows.rows.items in
    let so = c.rows.invariant in record {
      upto = omega (c.min-end.ensures, c.len-in-rows.ensures, c.in_ok-events.events.ok.0, arith);
      are = subst (AreBranchRows hart first (take c.min-end.result events)) (sym c.in_ok-push.ensures.items)
          (subst (λ (es : List ℕ). AreBranchRows hart first es (rows ++ c.in_ok-row.row ∷ []))
          (ap (λ (es : List ℕ). take c.rows.start events ++ take (c.min-end.result - c.rows.start)
          (drop c.rows.start es)) c.deref.ensures.value ∙ taken-upto c.rows.start c.min-end.result events
          (omega (c.min-end.ensures, c.len-in-rows.ensures, c.in_ok-events.events.ok.0, so.upto, arith)))
          (rows-more hart first (take c.rows.start events) _ rows c.in_ok-row.row so.are
          (subst (λ (h : ℕ). IsBranchRow h (first + length rows) c.in_ok-row.row) so.hart
          (subst (λ (n : ℕ). IsBranchRow c.rows.self.hart n c.in_ok-row.row) so.count c.in_ok-row.ensures.row))
          c.in_ok-row.ensures.lists));
      hart = c.in_ok-row.ensures.hart ∙ so.hart;
      count = (
          let one = c.in_ok-row.ensures.one.rows in
          let before = so.count in
          let long = ap (λ (rs : List Event). length rs) c.in_ok-push.ensures.items in
          let more = length_push rows c.in_ok-row.row in
          omega (one, before, long, more, arith));
      carriers = c.in_ok-row.ensures.one.carriers ∙ so.carriers;
      still = λ steps is. c.in_ok-row.ensures.still steps (so.still steps is);
    }

pub returns-in_err-push-2-clause-kept : goal.returns-in_err-push-2-clause-kept
returns-in_err-push-2-clause-kept c = on_err c.from_residual-in_err-push-2.result (λ steps is.
    still-same c.rows.self.trace c.push-2.new.self c.in_err-push-2.ensures.kept c.in_err-push-2.ensures.rows.0
    c.in_err-push-2.ensures.rows.1 steps (c.rows.invariant.still steps is))

pub returns-clause-made : goal.returns-clause-made
returns-clause-made c =
    let so = c.rows.invariant in
    let events : List ℕ = c.in_ok-events.events.items in record {
      events = events;
      control = c.in_ok-events.ensures.control;
      once = c.in_ok-events.ensures.once;
      are = subst (λ (es : List ℕ). AreBranchRows c.args.self.now.hart c.args.self.now.trace.rows es c.rows.rows.items)
          (take_all c.rows.start events
          (omega (c.rows-test.false, c.len.ensures, c.in_ok-events.events.ok.0, arith))) so.are;
      count = c.in_ok-push-2.ensures.rows.1 ∙ so.count;
      carriers = c.in_ok-push-2.ensures.rows.0 ∙ so.carriers;
      trace = λ steps is. c.in_ok-push-2.ensures.taken steps (so.still steps is);
    }
