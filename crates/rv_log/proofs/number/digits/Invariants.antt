use Rattle.std.specs.Prelude.{◌<◌}
use Rattle.rv_log.proofs.Digits.{SaysSo}
use Rattle.rv_log.proofs.number.digits.Given as goal

abbrev pub invariant-bytes : goal.invariant-bytes
invariant-bytes l = SaysSo l.radix l.text l.byte-index l.value × (l.value < 18446744073709551616)
