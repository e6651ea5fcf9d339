-- The links of each event of a history, in one list.
use Rattle.std.specs.Prelude.{ℕ, ◌+◌, List, [], ◌∷◌, take, drop}
use Rattle.rv_event.specs.declared.reason.Link.{Link}
use Rattle.rv_edges.specs.declared.links.Sides.{Sides}

-- the links of one event, from events before it and to events before it
pub record OwnLinks : Type 0 where
  pub before : List Link
  pub after : List Link

-- how many links events have
abbrev pub total : List Sides → ℕ
total [] = 0
total (s ∷ sides) = s.before + s.after + total sides

-- the links of one event after the other, first those from events before it
abbrev pub own_from : List Link → List Sides → List OwnLinks
own_from links [] = []
own_from links (s ∷ sides) =
    record { before = take s.before links; after = take s.after (drop s.before links) }
    ∷ own_from (drop (s.before + s.after) links) sides
