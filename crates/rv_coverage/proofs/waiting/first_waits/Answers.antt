-- A hart's loads stand behind those of the harts before it.
use Rattle.std.proofs.Common.{refl, rules}
use Rattle.rv_coverage.specs.Waits.{waits_of}
use Rattle.rv_coverage.proofs.Firsts.{harts-more}
use Rattle.rv_coverage.proofs.NoWaits.{no-waits}
use Rattle.rv_coverage.proofs.waiting.first_waits.Goals as goal

pub harts-preserved : goal.harts-preserved
harts-preserved c = harts-more (waits_of c.args.book.now.log) _ c.harts.hart-index _ _ c.harts.waits.items
    c.push_waits.new.waits.items c.harts-test.true refl c.harts.invariant c.in_ok-push_waits.ensures

-- There is none only where none waits.
pub returns-clause-none : goal.returns-clause-none
returns-clause-none c = search (no-waits, rules)
