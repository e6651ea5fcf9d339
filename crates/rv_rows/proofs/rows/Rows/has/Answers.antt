use Rattle.std.proofs.Common.{◌||◌, List, ℕ, ap, ◌∙◌, sym, arith, rules}
use Rattle.std.proofs.lemmas.Grind.{common_steps}
use Rattle.rv_rows.specs.Bits.{has_bit}
use Rattle.rv_rows.specs.Flat.{part_at, beginning_at, shifted}
use Rattle.rv_rows.proofs.Laying.{low_place, place_at, row_there}
use Rattle.rv_rows.proofs.rows.Rows.has.Goals as goal

pub index-place-requires : goal.index-place-requires
index-place-requires c = search (low_place, rules)

pub words_at-words-requires : goal.words_at-words-requires
words_at-words-requires c = grind (arith, common_steps, low_place, place_at)

pub beginning_at-requires : goal.beginning_at-requires
beginning_at-requires c = grind (arith, common_steps, low_place, place_at)

pub has_bit-requires-else-has_bit : goal.has_bit-requires-else-has_bit
has_bit-requires-else-has_bit c =
    let here = low_place c.self.inside.stem.items c.self.inside.words.items c.self.inside.places.items c.args.self.now
    c.args.number c.self.view_is c.requires in
    let few = (place_at c.self.inside.stem.items c.self.inside.words.items c.self.inside.places.items c.args.number
    c.index-place.result.now c.self.invariant here c.index-place.ensures).few in
    omega arith

pub returns-then-has_bit : goal.returns-then-has_bit
returns-then-has_bit c = c.if-has_bit.true
    ∙ ap (λ b. b || has_bit (shifted c.index-place.result.now.first c.words_at-words.result.now) c.args.i)
    (sym (sym c.has_bit.ensures ∙ c.if-has_bit.true))
    ∙
    (row_there c.self.inside.stem.items c.self.inside.words.items c.beginning_at.result.now
    c.words_at-words.result.now c.self.inside.places.items c.args.self.now c.args.number c.index-place.result.now
    c.self.invariant c.self.view_is c.requires c.index-place.ensures
    (c.beginning_at.ensures ∙ ap (λ (xs : List ℕ). beginning_at xs c.index-place.result.now) c.as_slice-2.ensures.value)
    (c.words_at-words.ensures ∙ ap (λ (xs : List ℕ). part_at xs c.index-place.result.now) c.as_slice.ensures.value)
    c.args.i)

pub returns-else-has_bit : goal.returns-else-has_bit
returns-else-has_bit c = c.has_bit-else-has_bit.ensures
    ∙ ap (λ b. b || has_bit (shifted c.index-place.result.now.first c.words_at-words.result.now) c.args.i)
    (sym (sym c.has_bit.ensures ∙ c.if-has_bit.false))
    ∙
    (row_there c.self.inside.stem.items c.self.inside.words.items c.beginning_at.result.now
    c.words_at-words.result.now c.self.inside.places.items c.args.self.now c.args.number c.index-place.result.now
    c.self.invariant c.self.view_is c.requires c.index-place.ensures
    (c.beginning_at.ensures ∙ ap (λ (xs : List ℕ). beginning_at xs c.index-place.result.now) c.as_slice-2.ensures.value)
    (c.words_at-words.ensures ∙ ap (λ (xs : List ℕ). part_at xs c.index-place.result.now) c.as_slice.ensures.value)
    c.args.i)
