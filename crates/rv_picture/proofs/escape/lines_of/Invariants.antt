use Rattle.std.proofs.Common.{◌≡◌, map, string_bytes}
use Rattle.rv_picture.proofs.escape.lines_of.Given as goal

-- the lines so far
abbrev pub invariant-lines : goal.invariant-lines
invariant-lines l = map string_bytes l.found.items ≡ map (λ x. x.now) l.yielded
