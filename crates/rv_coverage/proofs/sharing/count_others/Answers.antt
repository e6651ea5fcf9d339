use Rattle.std.proofs.Common.{arith}
use Rattle.rv_coverage.proofs.Pairs.{count-split}
use Rattle.rv_coverage.proofs.sharing.count_others.Goals as goal

pub returns : goal.returns
returns c = λ log words harts. omega (
  arith,
  words c.args.event.now.word,
  harts c.args.event.now.word c.args.event.now.id.hart,
  count-split c.args.event.now log c.requires,
  c.times.ensures,
  c.times-2.ensures,
  c.saturating_sub.ensures,
)
