use Rattle.std.proofs.Common.{arith, refl}
use Rattle.rv_endless.proofs.run.Endless.judge.Goals as goal

pub judge_next-requires : goal.judge_next-requires
judge_next-requires c = record {
  hart = let low = c.if-event-gt15.false in omega (arith, low);
  within = c.in_default.ensures c.args.entry.now.source;
  seq = c.if-event-count.false;
}

pub returns-in-Some-clause-answered : goal.returns-in-Some-clause-answered
returns-in-Some-clause-answered c = λ log stands. (
  (let low = c.if-event-gt15.false in omega (arith, low)),
  c.in-Some.ensures c.args.entry.now.source,
  refl,
)
