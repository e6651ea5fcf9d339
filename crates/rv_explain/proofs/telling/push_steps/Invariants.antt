use Rattle.std.proofs.Common.{◌≡◌, ◌++◌, ◌+◌, drop, string_bytes}
use Rattle.rv_explain.specs.Telling.{numbered}
use Rattle.rv_explain.proofs.telling.push_steps.Given as goal

-- the steps that are left are numbered on
abbrev pub invariant-steps : goal.invariant-steps
invariant-steps l =
    string_bytes l.text ++ numbered (l.place + 1) (drop l.place l.steps) ≡
    string_bytes l.fn.text ++ numbered 1 l.steps
