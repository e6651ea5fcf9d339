use Rattle.rv_run.proofs.Common.{inl, inr, sym, ◌∙◌}
use Rattle.std.proofs.lemmas.Result.{IfOk-weaker}
use Rattle.rv_run.specs.InTurn.{reads_from}
use Rattle.rv_run.proofs.EndsLacking.{ends-counted}
use Rattle.rv_run.proofs.in_turn.first_lacking.Goals as goal

-- An end record lacks something.
pub returns-then-is_some : goal.returns-then-is_some
returns-then-is_some g c = inl (sym c.is_some.ensures ∙ c.if-is_some.true, c.ends_lacking-lacking.ensures)

-- Or the log does.
pub returns : goal.returns
returns g c =
    let counted = ends-counted (reads_from 0 c.args.book.now.log c.args.sources.now) c.ends_lacking-lacking.result
    c.ends_lacking-lacking.ensures (sym c.is_some.ensures ∙ c.if-is_some.false) in
    IfOk-weaker c.log_lacking.result _ _ (λ m lacks. inr (counted, lacks)) c.log_lacking.ensures
