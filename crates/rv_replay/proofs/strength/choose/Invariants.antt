use Rattle.std.proofs.Common.{◌≡◌, ◌*◌, ◌/◌, length, map, slice_index_or}
use Rattle.std.specs.List.{range_with_len}
use Rattle.rv_replay.proofs.strength.choose.Given as goal

-- the first so many
abbrev pub invariant-loop-i : goal.invariant-loop-i
invariant-loop-i l =
    l.chosen.items
    ≡ map (λ i. slice_index_or l.places.items (i * length l.places.items / l.count) 0) (range_with_len 0 l.i)
