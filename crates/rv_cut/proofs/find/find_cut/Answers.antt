-- What is found is a cut.
use Rattle.std.proofs.Common.{IsTrue, List, arith, length, subst, sym, ℕ, ◌≤◌}
use Rattle.std.proofs.lemmas.List.Elements.{All-contains}
use Rattle.std.specs.List.{All, Contains}
use Rattle.rv_edges.specs.Ties.{AreTiesOf}
use Rattle.rv_edges.specs.declared.ties.Tie.{Tie}
use Rattle.rv_event.proofs.Indexed.{indexed_from_WellFormed}
use Rattle.rv_event.specs.Log.{events, of_hart}
use Rattle.rv_event.specs.Operations.{IsMemory}
use Rattle.rv_event.specs.WellFormed.{WellFormed}
use Rattle.rv_event.specs.declared.event.Entry.{Entry}
use Rattle.rv_event.specs.declared.event.Event.{Event}
use Rattle.rv_event.specs.declared.memory_model.MemoryModel.{MemoryModel}
use Rattle.rv_settle.specs.Settled.{AnyEdge, IsSettled}
use Rattle.rv_cut.proofs.Found.{IsClosed, found, found-none}
use Rattle.rv_cut.proofs.Lowered.{past-lower}
use Rattle.rv_cut.specs.Cuts.{IsCutOf, first_of, is_past}
use Rattle.rv_cut.proofs.find.find_cut.Goals.{else-is_whole, then-is_whole}
use Rattle.rv_cut.proofs.find.find_cut.Goals as goal

pub behind-cut-requires : goal.behind-cut-requires
behind-cut-requires c = indexed_from_WellFormed c.log-log.result.now
    (subst WellFormed (sym c.log-log.ensures.value) c.log-log.ensures.well_formed)

pub close-requires : goal.close-requires
close-requires c = indexed_from_WellFormed c.log-log.result.now
    (subst WellFormed (sym c.log-log.ensures.value) c.log-log.ensures.well_formed)

pub keep_unsettled-requires-clause-edges : goal.keep_unsettled-requires-clause-edges
keep_unsettled-requires-clause-edges c = λ t own.
    let sorted = c.in_ok-late_first.late_first.items in
    let listed = All-contains (Contains c.in_ok-ties.ties.items) sorted t
    (subst (λ (ts : List Tie). All (Contains ts) sorted) c.as_slice.ensures.value c.in_ok-late_first.ensures)
    (subst (λ (ts : List Tie). Contains ts t) c.as_slice-2.ensures.value own) in
    subst (λ (m : MemoryModel). AnyEdge m (events c.log-log.result.now) t.from t.to) (sym c.model-model.ensures.value)
    (subst (λ (l : List Entry). AnyEdge c.args.book.now.model (events l) t.from t.to) (sym c.log-log.ensures.value)
    (c.in_ok-ties.ensures.each t listed))

pub returns : goal.returns
returns c = elim c.if-is_whole.branch [
  | then-is_whole w ↦ rw w.result-is (cut w.if-is_whole.true)
  | else-is_whole w ↦ rw w.result-is (found-none c.args.book.now.model (events c.args.book.now.log)
      c.args.active.now c.args.patience w.new-else-is_whole.result w.new-else-is_whole.ensures)
]
  where
    firsts : List ℕ
    firsts = c.close.new.cut

    log : List Event
    log = events c.log-log.result.now

    are : AreTiesOf c.model-model.result log c.in_ok-ties.ties.items
    are =
        subst (λ (m : MemoryModel). AreTiesOf m log c.in_ok-ties.ties.items) (sym c.model-model.ensures.value)
        (subst (λ (l : List Entry). AreTiesOf c.args.book.now.model (events l) c.in_ok-ties.ties.items)
        (sym c.log-log.ensures.value) c.in_ok-ties.ensures)

    closed : IsTrue c.in_ok-is_whole.is_whole → IsClosed firsts c.in_ok-ties.ties.items
    closed whole t own =
        All-contains (λ (x : Tie). IsTrue (is_past firsts x.to) → IsTrue (is_past firsts x.from))
        c.as_slice-3.result.now t (c.in_ok-is_whole.ensures.closed whole)
        (subst (λ (ts : List Tie). Contains ts t) (sym c.as_slice-3.ensures.value) own)

    settled : (p : Event) → Contains log p → IsMemory p → IsTrue (is_past firsts p.id) →
        IsSettled c.model-model.result log c.args.active.now p
    settled p own memory past =
        c.in_ok-keep_unsettled.ensures.settled p own memory
        (past-lower c.keep_unsettled.new.cut firsts c.close.ensures.lower p.id past)

    within : (hart : ℕ) → first_of firsts hart ≤ length (of_hart hart log)
    within hart =
        omega (arith, c.close.ensures.lower hart, c.keep_unsettled.ensures.lower hart, c.behind-cut.ensures hart)

    cut : IsTrue c.in_ok-is_whole.is_whole →
        IsCutOf c.args.book.now.model (events c.args.book.now.log) c.args.active.now c.args.patience firsts
    cut whole =
        subst (λ (m : MemoryModel). IsCutOf m (events c.args.book.now.log) c.args.active.now c.args.patience firsts)
        c.model-model.ensures.value
        (subst (λ (l : List Entry). IsCutOf c.model-model.result (events l) c.args.active.now c.args.patience firsts)
        c.log-log.ensures.value (found c.model-model.result log c.args.active.now c.args.patience firsts
        c.in_ok-ties.ties.items are (closed whole) settled (c.in_ok-is_whole.ensures.waited whole) within))

pub returns-then-any : goal.returns-then-any
returns-then-any c =
    found-none c.args.book.now.model (events c.args.book.now.log) c.args.active.now c.args.patience c.new.result
    c.new.ensures
