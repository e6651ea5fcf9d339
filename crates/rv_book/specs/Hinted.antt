-- Where an id's node was noted.
use Rattle.std.specs.Prelude.{ℕ, ◌+◌, ◌*◌}
use Rattle.rv_event.specs.declared.event.Id.{Id}

-- an id's place in a table of all harts, each with 4,096 places
abbrev pub place_of : Id → ℕ
place_of i = 4096 * i.hart + i.seq
