use Rattle.std.proofs.Common.{ℕ, ◌≡◌, ◌+◌, ◌==◌, ◌∙◌, ap, arith, length, nat_lt, sym, leb, inl, inr}
use Rattle.std.proofs.lemmas.Bool.{cases_lt, le-leb, le-ltb, lt-leb, lt-ltb}
use Rattle.std.proofs.lemmas.List.Splits.{length-slice_split}
use Rattle.std.proofs.lemmas.List.Sums.{count_by-le-length}
use Rattle.rv_trace.specs.Dependencies.{parts}
use Rattle.rv_trace.proofs.dependency.has_many_parts.Goals as goal

-- eight or more spaces are more than eight parts
many : (n m : ℕ) → m ≡ n + 1 → leb 8 n ≡ nat_lt 8 m
many n m is = elim (cases_lt n 8) [
  | inl under ↦ lt-leb 8 n under ∙ sym (le-ltb 8 m (omega (arith, is, under)))
  | inr over ↦ le-leb 8 n over ∙ sym (lt-ltb 8 m (omega (arith, is, over)))
]

pub returns-then-text-ge-MAX_DEPS : goal.returns-then-text-ge-MAX_DEPS
returns-then-text-ge-MAX_DEPS c =
    many c.count_of_spaces.result (length (parts c.args.text.now))
    (length-slice_split (λ b. b == 32) c.args.text.now ∙ ap (λ n. n + 1) (sym c.count_of_spaces.ensures))

pub returns-else-text-ge-MAX_DEPS : goal.returns-else-text-ge-MAX_DEPS
returns-else-text-ge-MAX_DEPS c =
    let text = c.args.text.now in
    let short = c.if-text-ge-MAX_DEPS.false in
    let few = count_by-le-length (λ b. b == 32) text in
    let is = length-slice_split (λ b. b == 32) text in
    lt-leb 8 (length text) (omega (arith, short)) ∙ sym (le-ltb 8 (length (parts text)) (omega (arith, short, few, is)))
