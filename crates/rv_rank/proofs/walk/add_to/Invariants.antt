use Rattle.rv_rank.specs.Rows.{row_of, other}
use Rattle.rv_rank.proofs.RowTables.{IsFilling}
use Rattle.rv_rank.proofs.walk.add_to.Given as goal

-- the nodes at the places so far have one neighbour more on the side
abbrev pub invariant-loop-place : goal.invariant-loop-place
invariant-loop-place l =
    IsFilling (row_of l.side) (row_of (other l.side)) l.initial.nodes l.nodes l.places l.node l.place-index
