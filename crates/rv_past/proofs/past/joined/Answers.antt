use Rattle.std.proofs.Common.{◌++◌, ◌∷◌, ◌≡◌, ◌≢◌, ◌<◌, ◌≤◌, [], arith, subst, sym}
use Rattle.std.proofs.lemmas.Grind.{common_steps}
use Rattle.rv_past.proofs.Stored.{kept-other, kept-own, new-other, new-own}
use Rattle.rv_past.specs.Gone.{IsNewestOf}
use Rattle.rv_past.proofs.past.joined.Goals as goal

pub returns-in-true-true : goal.returns-in-true-true
returns-in-true-true c = λ gone of.
    let less : c.args.newest.version < c.args.event.now.wrote = grind (arith, common_steps, c.in-true-true.is-0) in
    let same : c.args.newest.store.hart ≡ c.args.event.now.id.hart =
    grind (arith, common_steps, c.in-true-true.is-1) in
    new-own gone c.args.event.now c.requires c.args.newest of less same

pub returns-in-true-false : goal.returns-in-true-false
returns-in-true-false c = λ gone of.
    let less : c.args.newest.version < c.args.event.now.wrote = grind (arith, common_steps, c.in-true-false.is-0) in
    let apart : c.args.newest.store.hart ≢ c.args.event.now.id.hart =
    grind (arith, common_steps, c.in-true-false.is-1) in
    new-other gone c.args.event.now c.requires c.args.newest of less apart

pub returns-in-false-true : goal.returns-in-false-true
returns-in-false-true c = λ gone of.
    let most : c.args.event.now.wrote ≤ c.args.newest.version = grind (arith, common_steps, c.in-false-true.is-0) in
    let same : c.args.newest.store.hart ≡ c.args.event.now.id.hart =
    grind (arith, common_steps, c.in-false-true.is-1) in
    kept-own gone c.args.event.now c.requires c.args.newest of most same

pub returns-in-false-false : goal.returns-in-false-false
returns-in-false-false c = λ gone of.
    let most : c.args.event.now.wrote ≤ c.args.newest.version = grind (arith, common_steps, c.in-false-false.is-0) in
    let apart : c.args.newest.store.hart ≢ c.args.event.now.id.hart =
    grind (arith, common_steps, c.in-false-false.is-1) in
    subst (λ others. IsNewestOf (gone ++ c.args.event.now ∷ []) c.args.event.now.word
    (record c.args.newest { others = others })) (sym c.max.ensures)
    (kept-other gone c.args.event.now c.requires c.args.newest of most apart)
