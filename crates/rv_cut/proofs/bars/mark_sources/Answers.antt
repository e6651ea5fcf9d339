-- A source stands before each later store of its hart.
use Rattle.std.proofs.Common.{List, get_or, refl, subst, sym}
use Rattle.std.proofs.lemmas.List.Elements.{Contains-get_or}
use Rattle.std.specs.List.{Contains}
use Rattle.rv_event.specs.declared.event.Dep.{Dep}
use Rattle.rv_event.specs.declared.event.DepKind.TheVariants.{Addr}
use Rattle.rv_cut.proofs.MoreMarks.{leads-one, leads-source, marked-more}
use Rattle.rv_cut.proofs.bars.mark_sources.Goals.{else-is_source, then-is_source}
use Rattle.rv_cut.specs.Marked.{AreMarked}
use Rattle.rv_cut.proofs.bars.mark_sources.Goals as goal

pub loop-dep-preserved : goal.loop-dep-preserved
loop-dep-preserved c = λ model log own marked. elim c.if-is_source.branch [
  | then-is_source w ↦
      let items = c.as_slice-dep-items.result.now in
      let none : Dep = record { kind = Addr; seq = 0 } in
      let dep = get_or items c.loop-dep.dep-index none in
      let listed = subst (λ (ds : List Dep). Contains ds dep) c.as_slice-dep-items.ensures
      (Contains-get_or items c.loop-dep.dep-index none c.loop-dep-test.true) in
      let leads = leads-source model log c.args.event.now c.args.later dep own listed
      (w.if-is_source.ensures.0 refl) in
      subst (AreMarked model log) (sym w.marks-is)
      (marked-more model log c.loop-dep.marks w.add.new.self
      (record { hart = c.args.event.now.id.hart; seq = dep.seq }) w.mark.result w.add.ensures
      (leads-one model log (record { hart = c.args.event.now.id.hart; seq = dep.seq }) c.args.event.now.id.hart
      c.args.later w.mark.result w.mark.ensures leads) (c.loop-dep.invariant model log own marked))
  | else-is_source w ↦
      subst (AreMarked model log) (sym w.marks-is) (c.loop-dep.invariant model log own marked)
]
