use Rattle.std.proofs.Common.{rules}
use Rattle.std.proofs.Common.{None, arith}
use Rattle.std.proofs.lemmas.Grind.{common_steps}
use Rattle.either.specs.Either.{either}
use Rattle.rvmon.proofs.Ends.{opened_more, unopened_among}
use Rattle.rvmon.proofs.opening.open_all.Goals as goal

pub returns-in-Err-open-clause-refused : goal.returns-in-Err-open-clause-refused
returns-in-Err-open-clause-refused g c = search (unopened_among, rules)

pub loop-name-preserved : goal.loop-name-preserved
loop-name-preserved g c =
    record {
      count = grind (arith, common_steps);
      bytes = opened_more (either g.O.File.Read.remaining (λ piped. None)) (g.O.Opener.known c.args.opener.now)
          c.args.names.now _ _ c.in-Ok-open.source.input c.loop-name.name-index c.name-item.result
          c.loop-name-test.true (search rules) (search rules) c.in-Ok-open.ensures.opened c.loop-name.invariant.bytes;
    }
