-- Texts that are added one behind another.
use Rattle.std.proofs.Common.{◌≡◌, ◌∙◌, ◌++◌, ℕ, List, ap, append_assoc}
use Rattle.rv_event.specs.Texts.{◌⋯◌}

-- two pieces
pub two : (start one all a b : List ℕ) → one ≡ start ++ a → all ≡ one ++ b → all ≡ start ++ (a ⋯ b)
two start one all a b x y = y ∙ ap (λ (t : List ℕ). t ++ b) x ∙ append_assoc start a b

-- three pieces
pub three : (start one both all a b c : List ℕ) → one ≡ start ++ a → both ≡ one ++ b → all ≡ both ++ c →
    all ≡ start ++ (a ⋯ b ⋯ c)
three start one both all a b c x y z =
    two start one all a (b ++ c) x (z ∙ ap (λ (t : List ℕ). t ++ c) y ∙ append_assoc one b c)

-- one piece less is left to add
pub piece : (whole now next part rest : List ℕ) → now ++ (part ⋯ rest) ≡ whole → next ≡ now ++ part →
    next ++ rest ≡ whole
piece whole now next part rest h e = ap (λ (t : List ℕ). t ++ rest) e ∙ append_assoc now part rest ∙ h
