-- The dependencies so far were printed, each behind a space.
use Rattle.std.proofs.Common.{◌∷◌, take}
use Rattle.std.specs.Fmt.{HasWritten, IsPlainFormatter}
use Rattle.std.specs.List.{flat_map}
use Rattle.rv_event.specs.Rows.{dep_text}
use Rattle.rv_event.proofs.text.DepsDisplay.fmt.Given as goal

abbrev pub invariant-loop-dep : goal.invariant-loop-dep
invariant-loop-dep g l =
    IsPlainFormatter l.initial.f →
    HasWritten g.W.Write.write_str_gives l.initial.f (flat_map (λ d. 32 ∷ dep_text d) (take l.dep-index l.rest)) l.f
