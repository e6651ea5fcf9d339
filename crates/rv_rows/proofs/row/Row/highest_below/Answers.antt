use Rattle.std.proofs.Common.{rules, sym, refl, arith, ◌-◌, ◌≤◌, ◌*◌}
use Rattle.std.proofs.lemmas.Grind.{common_steps}
use Rattle.rv_rows.proofs.Words.{has-top, none_from}
use Rattle.rv_rows.proofs.row.Row.highest_below.Goals as goal

pub returns-then-word-ne0 : goal.returns-then-word-ne0
returns-then-word-ne0 c =
    let enough : c.args.limit ≤ c.div_ceil.result * 64 = grind (arith, common_steps) in
    let top = has-top c.self.inside.words (c.words.k - 1) _ (omega (arith, c.if-word-ne0.true)) (search rules)
    (λ j high. none_from c.self.inside.words c.self.inside.low c.self.inside.high c.args.limit c.div_ceil.result
    c.min-top.result c.words.k c.self.invariant enough c.min-top.ensures (rw (sym c.self.view_is) at c.requires.below)
    c.words.invariant j
    (omega arith)) refl in
    (omega arith, rw (sym c.self.view_is) top.0, rw (sym c.self.view_is) top.1)

pub returns : goal.returns
returns c j = grind (arith, common_steps)
