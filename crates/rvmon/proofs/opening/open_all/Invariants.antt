-- The files so far were opened.
use Rattle.std.proofs.Common.{◌≡◌, None, length, map, string_bytes, take}
use Rattle.either.specs.Either.{either}
use Rattle.rvmon.proofs.opening.open_all.Given as goal

abbrev pub invariant-loop-name : goal.invariant-loop-name
invariant-loop-name g l = record {
  count : length l.opened.inputs.items ≡ l.name-index;
  bytes : map (either g.O.File.Read.remaining (λ piped. None)) l.opened.inputs.items
      ≡ map (λ n. g.O.Opener.known l.opener (string_bytes n)) (take l.name-index l.names);
}
