-- An operation whose mark lacks a place is kept.
use Rattle.std.proofs.Common.{IsTrue, List, inl, inr, subst, sym}
use Rattle.std.proofs.lemmas.List.{take_all}
use Rattle.std.specs.List.{Contains}
use Rattle.rv_event.specs.Log.{events}
use Rattle.rv_event.specs.Operations.{IsMemory}
use Rattle.rv_event.specs.declared.event.Entry.{Entry}
use Rattle.rv_event.specs.declared.event.Event.{Event}
use Rattle.rv_cut.proofs.Entries.{event-more}
use Rattle.rv_cut.proofs.Lowered.{lower-trans, past-lower}
use Rattle.rv_cut.specs.Cuts.{is_past}
use Rattle.rv_cut.specs.Marked.{HasPlaces, mark_of}
use Rattle.rv_cut.proofs.reach.keep_unmarked.Goals as goal

pub loop-entry-preserved : goal.loop-entry-preserved
loop-entry-preserved c = (
  λ p own memory past.
      elim (event-more c.args.log.now c.loop-entry.entry-index c.entry-item.result p c.loop-entry-test.true
      c.entry-item.is own) [
        | inl before ↦ c.loop-entry.invariant.0 p before memory
            (past-lower c.loop-entry.cut c.keep_if_unmarked.new.cut c.keep_if_unmarked.ensures.lower p.id past)
        | inr is ↦
            subst (λ (e : Event). IsMemory e → IsTrue (is_past c.keep_if_unmarked.new.cut e.id) →
            HasPlaces c.args.wanted (mark_of c.args.marks.now e.id)) is c.keep_if_unmarked.ensures.marked memory past
      ],
  lower-trans c.args.cut.now c.loop-entry.cut c.keep_if_unmarked.new.cut c.loop-entry.invariant.1
      c.keep_if_unmarked.ensures.lower,
)

pub returns-clause-marked : goal.returns-clause-marked
returns-clause-marked c = λ p own memory past.
    c.loop-entry.invariant.0 p (subst (λ (xs : List Entry). Contains (events xs) p)
    (sym (take_all c.loop-entry.entry-index c.args.log.now c.loop-entry-test.false)) own) memory past
