use Rattle.std.proofs.Common.{◌≡◌, ◌≤◌, map, take}
use Rattle.rv_replay.specs.Strengths.{AreRefused, put_back_at}
use Rattle.rv_replay.proofs.strength.strength_of.Given as goal

-- so many of the first logs are refused, and the copy is the log again
abbrev pub invariant-places : goal.invariant-places
invariant-places l =
    (l.changed ≡ l.book.log) × (l.refused ≤ l.place-index)
    × AreRefused l.book.model (map (put_back_at l.book.log l.book.log) (take l.place-index l.place-items)) l.refused
