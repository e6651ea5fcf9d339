use Rattle.rv_edges.proofs.Common.{◌≡◌, List, length, Event, AreHarts}
use Rattle.rv_edges.proofs.history.add_harts.Given as goal

abbrev pub invariant-loop-next : goal.invariant-loop-next
invariant-loop-next l = (length l.harts.items ≡ l.next) ×
    ((log : List Event) → AreHarts l.model log l.initial.harts.items → AreHarts l.model log l.harts.items)
