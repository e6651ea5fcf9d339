use Rattle.std.proofs.Common.{◌||◌, List, ℕ, ap, ◌∙◌, arith, rules}
use Rattle.std.proofs.lemmas.Grind.{common_steps}
use Rattle.rv_rows.specs.Bits.{has_bit}
use Rattle.rv_rows.specs.Flat.{beginning_at, part_at, shifted}
use Rattle.rv_rows.proofs.Laying.{low_place, place_at, row_there, part_short, beginning_short}
use Rattle.std.proofs.Math.Bool.{or_assoc}
use Rattle.rv_rows.proofs.rows.Rows.join_into.Goals as goal

pub index-place-requires : goal.index-place-requires
index-place-requires c = search (low_place, rules)

pub words_at-requires : goal.words_at-requires
words_at-requires c = grind (arith, common_steps, low_place, place_at)

pub beginning_at-requires : goal.beginning_at-requires
beginning_at-requires c = grind (arith, common_steps, low_place, place_at)

pub join_words-requires : goal.join_words-requires
join_words-requires c = grind (arith, common_steps, low_place, place_at, beginning_short)

pub join_words-requires-2 : goal.join_words-requires-2
join_words-requires-2 c = grind (arith, common_steps, low_place, place_at, part_short)

pub returns : goal.returns
returns c j = c.join_words-2.ensures j
    ∙ ap (λ b. b || has_bit (shifted c.index-place.result.now.first c.words_at.result.now) j) (c.join_words.ensures j)
    ∙ or_assoc (has_bit c.args.row.now j) (has_bit c.beginning_at.result.now j)
    (has_bit (shifted c.index-place.result.now.first c.words_at.result.now) j)
    ∙ ap (λ b. has_bit c.args.row.now j || b) (
    row_there c.self.inside.stem.items c.self.inside.words.items c.beginning_at.result.now c.words_at.result.now
    c.self.inside.places.items c.args.self.now c.args.number c.index-place.result.now c.self.invariant c.self.view_is
    c.requires c.index-place.ensures
    (c.beginning_at.ensures ∙ ap (λ (xs : List ℕ). beginning_at xs c.index-place.result.now) c.as_slice.ensures.value)
    (c.words_at.ensures ∙ ap (λ (xs : List ℕ). part_at xs c.index-place.result.now) c.as_slice-2.ensures.value) j)
