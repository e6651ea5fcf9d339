-- Numbered steps, one more at a time.
use Rattle.std.proofs.Common.{◌≡◌, ◌∙◌, ◌∷◌, ◌++◌, ◌+◌, ◌<◌, ℕ, List, suc, length, drop, drop-cons, get_or, ap, sym}
use Rattle.std.proofs.Common.{append-nil, append_assoc, arith}
use Rattle.std.proofs.lemmas.List.{drop_all}
use Rattle.rv_explain.specs.Telling.{numbered, numbered_line}
use Rattle.rv_explain.specs.declared.step.Step.{Step}

-- one step more
pub numbered-next : (start now next : List ℕ) (steps : List Step) (place : ℕ) (s : Step) → place < length steps →
    s ≡ get_or steps place s → now ++ numbered (place + 1) (drop place steps) ≡ start →
    next ≡ now ++ numbered_line (place + 1) s → next ++ numbered (place + 1 + 1) (drop (place + 1) steps) ≡ start
unfolding numbered
numbered-next start now next steps place s low is h n =
    let rest = drop (place + 1) steps in
    let line = numbered_line (place + 1) s in
    let same : suc place ≡ place + 1 = omega arith in
    ap (λ (t : List ℕ). t ++ numbered (place + 1 + 1) rest) n
    ∙ append_assoc now line (numbered (place + 1 + 1) rest)
    ∙ ap (λ (xs : List Step). now ++ numbered (place + 1) xs)
    (sym (drop-cons steps place s low ∙ ap (λ (n : ℕ). get_or steps place s ∷ drop n steps) same
    ∙ ap (λ (x : Step). x ∷ rest) (sym is)))
    ∙ h

-- at the end all are there
pub numbered-all : (start now : List ℕ) (steps : List Step) (place : ℕ) → (place < length steps → ⊥) →
    now ++ numbered (place + 1) (drop place steps) ≡ start → now ≡ start
unfolding numbered
numbered-all start now steps place end h =
    sym (append-nil now)
    ∙ ap (λ (xs : List Step). now ++ numbered (place + 1) xs) (sym (drop_all place steps (omega (end, arith))))
    ∙ h
