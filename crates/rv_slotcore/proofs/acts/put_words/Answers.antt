use Rattle.rv_slotcore.proofs.Common.{◌≡◌, ◌≤◌, ℕ, List, map, take, length, sym, ap, ◌∙◌, arith, Option, unwrap_or}
use Rattle.rv_slotcore.proofs.Common.{take_all, common_steps}
use Rattle.rv_slotcore.proofs.acts.put_words.Goals as goal

abbrev or_none : Option ℕ → ℕ
or_none o = unwrap_or o 0

whole : (ws : List (Option ℕ)) (xs : List ℕ) (j : ℕ) → length xs ≤ j → length ws ≤ j → take j xs
    ≡ map or_none (take j ws) → xs ≡ map or_none ws
whole ws xs j h k same = sym (take_all j xs h) ∙ (same ∙ ap (map or_none) (take_all j ws k))

pub loop-place-preserved : goal.loop-place-preserved
loop-place-preserved c = grind (arith, common_steps)

pub returns : goal.returns
returns c = grind (arith, common_steps)
