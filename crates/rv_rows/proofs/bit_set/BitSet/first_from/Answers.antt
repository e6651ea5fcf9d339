use Rattle.std.proofs.Common.{rules, arith, ◌≡◌, ◌*◌, ◌/◌, ◌%◌, ◌^◌, ◌<◌, get_or}
use Rattle.std.proofs.lemmas.Grind.{common_steps}
use Rattle.rv_rows.proofs.Scan.{first_within, first_here, first_later, first_in_word, none_up_to}
use Rattle.std.proofs.Common.{inl, inr}
use Rattle.std.proofs.lemmas.Bool.{cases_lt}
use Rattle.rv_rows.proofs.Words.{zero_bit}
use Rattle.rv_rows.proofs.bit_set.BitSet.first_from.Goals as goal

pub overflow_add-result : goal.overflow_add-result
overflow_add-result c =
    let words = c.self.inside.words.items in
    let k = c.args.from / 64 in
    let s = c.args.from % 64 in
    let is : c.index.result.now ≡ get_or words k 0 = grind (arith, common_steps) in
    let fits : get_or words k 0 < 2 ^ 64 = search rules in
    let some = rw is at c.if-rest-ne0.true in
    let w = first_within words k s c.args.from (omega arith) fits (omega (arith, some)) in
    rw is (omega (arith, w.0, c.self.invariant.few, c.self.invariant.within, c.if-first-self.false))

pub returns-then-rest-ne0 : goal.returns-then-rest-ne0
returns-then-rest-ne0 c =
    let words = c.self.inside.words.items in
    let k = c.args.from / 64 in
    let s = c.args.from % 64 in
    let is : c.index.result.now ≡ get_or words k 0 = grind (arith, common_steps) in
    let fits : get_or words k 0 < 2 ^ 64 = search rules in
    let some = rw is at c.if-rest-ne0.true in
    rw (is, ← c.self.view_is) (first_here words k s c.args.from (omega arith) fits (omega (arith, some)))

pub returns-then-word-ne0 : goal.returns-then-word-ne0
returns-then-word-ne0 c =
    let words = c.self.inside.words.items in
    let first = c.args.from / 64 in
    let s = c.args.from % 64 in
    let k = c.words.k in
    let begun : c.index.result.now ≡ get_or words first 0 = grind (arith, common_steps) in
    let is : c.index-word.result.now ≡ get_or words k 0 = grind (arith, common_steps) in
    let fits : get_or words k 0 < 2 ^ 64 = search rules in
    let some = rw is at c.if-word-ne0.true in
    let none = rw begun at c.if-rest-ne0.false in
    rw (is, ← c.self.view_is) (first_later words c.args.from k _
    (none_up_to words first s c.args.from (omega arith) (omega arith) none k c.words.invariant)
    (omega (arith, c.words.auto.k)) (first_in_word words k fits (omega (arith, some))))

pub returns : goal.returns
returns c j over =
    let words = c.self.inside.words.items in
    let first = c.args.from / 64 in
    let begun : c.index.result.now ≡ get_or words first 0 = grind (arith, common_steps) in
    let none = rw begun at c.if-rest-ne0.false in
    rw (← c.self.view_is) (elim (cases_lt j (c.words.k * 64)) [
      | inl under ↦ none_up_to words first (c.args.from % 64) c.args.from (omega arith) (omega arith) none c.words.k
          c.words.invariant j over under
      | inr past ↦ zero_bit words j (c.self.invariant.after (j / 64) (omega (arith, past, c.words-test.false)))
    ])
