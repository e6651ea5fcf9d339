use Rattle.std.proofs.Common.{◌++◌, Some, subst}
use Rattle.rv_values.specs.Index.{IsFoundWith}
use Rattle.rv_commits.proofs.Valued.{ended-index, none-found, one-found}
use Rattle.rv_commits.proofs.pending.Waiting.version_by_value.Goals as goal

pub returns-in-None-clause-found : goal.returns-in-None-clause-found
returns-in-None-clause-found c = λ issued more performed later at.
    none-found (issued ++ more) (performed ++ later) c.args.self.now c.args.initial c.in-Some.value c.in-Some.is
    c.in-None.is
    (c.in_default-find.ensures (issued ++ more) (performed ++ later)
    (ended-index issued more performed later c.args.stage.now c.in-Ended.index c.in-Ended.is at))

pub returns-in-One-clause-found : goal.returns-in-One-clause-found
returns-in-One-clause-found c = λ issued more performed later at.
    one-found (issued ++ more) (performed ++ later) c.args.self.now c.args.initial c.in-Some.value c.in-Some.is
    c.in-One.version
    (subst (λ found. IsFoundWith (issued ++ more) (performed ++ later) c.args.self.now.address c.args.initial
    c.in-Some.value (Some found)) c.in-One.is
    (c.in-Some-find.ensures (issued ++ more) (performed ++ later)
    (ended-index issued more performed later c.args.stage.now c.in-Ended.index c.in-Ended.is at)))
