-- Where a tie leads to a marked event, edges lead from the other one too.
use Rattle.std.proofs.Common.{IsTrue, subst, ℕ}
use Rattle.std.proofs.lemmas.List.Elements.{Contains-get_or}
use Rattle.rv_cut.proofs.MoreMarks.{leads-before, marked-more}
use Rattle.rv_cut.specs.Marked.{has_place, place_for}
use Rattle.rv_cut.specs.declared.bars.Later.{Later}
use Rattle.rv_cut.proofs.reach.mark_sources.Goals as goal

pub loop-tie-preserved : goal.loop-tie-preserved
loop-tie-preserved c = λ model log edges marked.
    let are = c.loop-tie.invariant model log edges marked in
    let named = λ (hart : ℕ) (later : Later) (has : IsTrue (has_place c.of-mark.result (place_for hart later))).
    subst (λ (n : ℕ). IsTrue (has_place n (place_for hart later))) c.of-mark.ensures has in
    let edge = edges _ (Contains-get_or c.args.ties.now c.loop-tie.tie-index _ c.loop-tie-test.true) in
    marked-more model log c.loop-tie.marks c.add.new.self _ c.of-mark.result c.add.ensures
    (λ hart later has. leads-before model log hart later c.loop-tie.marks _ edge (named hart later has) are) are
