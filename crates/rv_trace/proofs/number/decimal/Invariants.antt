use Rattle.std.proofs.Common.{◌≡◌, ◌^◌, ◌<◌, drop}
use Rattle.rv_trace.proofs.Digits.{decimal_from}
use Rattle.rv_trace.proofs.number.decimal.Given as goal

abbrev pub invariant-loop-b : goal.invariant-loop-b
invariant-loop-b l = (decimal_from l.value (drop l.b-index l.text) ≡ decimal_from 0 l.text) ×
    (l.value < 10 ^ l.b-index)
