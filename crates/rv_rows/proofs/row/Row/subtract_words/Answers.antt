use Rattle.std.proofs.Common.{◌≡◌, ℕ, ◌<◌, ◌≤◌, ◌⊎◌, inl, inr, get_or, arith, sym}
use Rattle.std.proofs.lemmas.Nat.{le_or_l, le_or_r}
use Rattle.std.proofs.lemmas.Grind.{common_steps}
use Rattle.std.proofs.lemmas.Bool.{cases_lt}
use Rattle.rv_rows.proofs.Words.{cut_part, shifted_before, shifted_after}
use Rattle.rv_rows.specs.Flat.{shifted}
use Rattle.rv_rows.proofs.row.Row.subtract_words.Goals as goal

pub words-preserved : goal.words-preserved
words-preserved c = grind (arith, common_steps, le_or_l, le_or_r)

pub returns : goal.returns
returns c j =
    rw (sym c.self.view_is) (cut_part c.words.self-inside.words c.self.inside.words c.args.words.now c.args.first
    c.max-from.result c.words.k (omega arith) c.words.invariant.1 rest empty j)
  where
    rest : (k : ℕ) → (k < c.max-from.result) ⊎ (c.words.k ≤ k) →
        get_or c.words.self-inside.words k 0 ≡ get_or c.self.inside.words k 0
    rest k (inl before) = c.words.invariant.2 k before
    rest k (inr after) = c.words.invariant.3 k after

    first : (k : ℕ) → (k < c.args.first) ⊎ (c.args.first ≤ k) → k < c.max-from.result →
        (get_or c.self.inside.words k 0 ≡ 0) ⊎ (get_or (shifted c.args.first c.args.words.now) k 0 ≡ 0)
    first k (inl before) _ = inr (shifted_before c.args.first c.args.words.now k before)
    first k (inr here) low = inl (c.self.invariant.before k (omega arith))

    last : (k : ℕ) → (k < c.self.inside.high) ⊎ (c.self.inside.high ≤ k) → c.words.k ≤ k →
        (get_or c.self.inside.words k 0 ≡ 0) ⊎ (get_or (shifted c.args.first c.args.words.now) k 0 ≡ 0)
    last k (inl before) high = inr (shifted_after c.args.first c.args.words.now k (omega arith))
    last k (inr after) _ = inl (c.self.invariant.after k after)

    empty : (k : ℕ) → (k < c.max-from.result) ⊎ (c.words.k ≤ k) → (get_or c.self.inside.words k 0 ≡ 0) ⊎
        (get_or (shifted c.args.first c.args.words.now) k 0 ≡ 0)
    empty k (inl before) = first k (cases_lt k c.args.first) before
    empty k (inr after) = last k (cases_lt k c.self.inside.high) after
