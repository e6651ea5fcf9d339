use Rattle.std.proofs.Common.{ap, ◌/◌, ◌%◌, ◌==◌, ◌∙◌}
use Rattle.std.proofs.lemmas.Nat.Bits.{bit_at-zero}
use Rattle.std.specs.Int.{bit_at}
use Rattle.std.proofs.Common.{rules}
use Rattle.rv_rows.proofs.Words.{zero_words}
use Rattle.rv_rows.proofs.row.Row.new.Goals as goal

pub invariant_of-result : goal.invariant_of-result
invariant_of-result c = search (zero_words, rules)

pub returns : goal.returns
returns c i = ap (λ x. bit_at x (i % 64) == 1) (zero_words (i / 64)) ∙ ap (λ x. x == 1) (bit_at-zero (i % 64))
