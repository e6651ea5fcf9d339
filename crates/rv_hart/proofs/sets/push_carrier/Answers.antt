use Rattle.rv_hart.proofs.Common.{◌++◌, ◌∷◌, [], arith}
use Rattle.std.proofs.lemmas.Result.{on_ok_weaker}
use Rattle.rv_hart.proofs.CarriedRows.{carried-low, carried-means, kept-own, next-few, next-fits}
use Rattle.rv_hart.proofs.HartFacts.{own-deps-few}
use Rattle.rv_hart.proofs.sets.push_carrier.Goals as goal

pub carried_by-requires-clause-carrier : goal.carried_by-requires-clause-carrier
carried_by-requires-clause-carrier c = c.requires.carrier

pub carried_by-requires-clause-numbers : goal.carried_by-requires-clause-numbers
carried_by-requires-clause-numbers c = own-deps-few (next-fits c.requires.next)

pub carried_by-requires-clause-carried : goal.carried_by-requires-clause-carried
carried_by-requires-clause-carried c = kept-own (next-fits c.requires.next) c.args.carried.now c.requires.next.are.long

pub push-requires-clause-few : goal.push-requires-clause-few
push-requires-clause-few c = next-few c.requires.next

pub push-requires-clause-below : goal.push-requires-clause-below
push-requires-clause-below c = λ j has.
    let n = c.requires.next in
    let low = carried-low (next-fits n) c.carried_by.result
    (c.carried_by.ensures n.h n.is_hart n.follows n.are n.are_sets) j has in
    let count = n.one_each in
    omega (low, count, arith)

pub returns-clause-pushed : goal.returns-clause-pushed
returns-clause-pushed c = on_ok_weaker c.push.result
    (λ pushed. record {
      last = pushed.last;
      is_last = pushed.is_last;
      says = λ h ok follows are are-sets. carried-means (h.events ++ c.args.event.now ∷ []) c.args.event.now.id.seq
          c.carried_by.result pushed.last pushed.same (c.carried_by.ensures h ok follows are are-sets);
    })
    c.push.ensures.pushed
