-- The links of the history are its ties.
use Rattle.std.proofs.Common.{Err, IfOk, List, Ok, Result, subst, sym, ◌≡◌}
use Rattle.std.specs.Global.{Vec}
use Rattle.rv_edges.proofs.TiesOfLinks.{are_ties}
use Rattle.rv_edges.specs.Histories.{IsCarried}
use Rattle.rv_edges.specs.Kept.{Kept, happened}
use Rattle.rv_edges.specs.Ties.{AreTiesOf, ties_of}
use Rattle.rv_edges.specs.declared.ties.Tie.{Tie}
use Rattle.rv_event.specs.declared.memory_model.MemoryModel.{MemoryModel}
use Rattle.rv_event.specs.declared.no_memory.NoMemory.{NoMemory}
use Rattle.rv_book.specs.Arranged.{Arranged}
use Rattle.rv_book.proofs.arrangement.Arrangement.ties.Goals as goal

-- the ties of a history, where they could be had
if-ties : (model : MemoryModel) (kept : List Kept) (r : Result (Vec Tie) NoMemory) → IsCarried model kept →
    IfOk r (λ ties. ties.items ≡ ties_of kept) → IfOk r (λ ties. AreTiesOf model (happened kept) ties.items)
if-ties model kept (Ok ties) carried same =
    subst (AreTiesOf model (happened kept)) (sym same) (are_ties model kept carried)
if-ties model kept (Err e) carried same = tt

pub returns : goal.returns
returns c =
    subst (λ (w : Arranged). IfOk c.ties.result (λ ties. AreTiesOf w.model (happened w.history) ties.items))
    c.self.view_is
    (if-ties c.self.inside.history.model c.self.inside.history.kept c.ties.result c.ties.ensures.carried
    c.ties.ensures.value)
