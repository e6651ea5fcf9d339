-- Numbered texts, one more at a time.
use Rattle.std.proofs.Common.{◌≡◌, ◌∙◌, ◌∷◌, ◌++◌, ◌+◌, ◌<◌, ℕ, List, [], suc, length, map, drop, drop-cons}
use Rattle.std.proofs.Common.{ap, get_or, refl, sym}
use Rattle.std.proofs.Common.{append-nil, append_assoc, arith}
use Rattle.std.proofs.lemmas.List.{drop_all}
use Rattle.rv_picture.specs.Numbering.{numbered}

-- the text of the element at a place
pub numbered-at : {A : Type 0} (f : ℕ → A → List ℕ) (start now next : List ℕ) (xs : List A) (n place : ℕ) (x : A) →
    place < length xs → now ++ numbered f n (drop place xs) ≡ start →
    next ≡ now ++ f n (get_or xs place x) → next ++ numbered f (n + 1) (drop (place + 1) xs) ≡ start
unfolding numbered
numbered-at {A} f start now next xs n place x low h e =
    let rest = drop (place + 1) xs in
    let same : suc place ≡ place + 1 = omega arith in
    ap (λ (t : List ℕ). t ++ numbered f (n + 1) rest) e
    ∙ append_assoc now (f n (get_or xs place x)) (numbered f (n + 1) rest)
    ∙ ap (λ (ys : List A). now ++ numbered f n ys)
    (sym (drop-cons xs place x low ∙ ap (λ (k : ℕ). get_or xs place x ∷ drop k xs) same))
    ∙ h

-- that of an element that stands there
pub numbered-next : {A : Type 0} (f : ℕ → A → List ℕ) (start now next : List ℕ) (xs : List A) (n place : ℕ) (x : A) →
    place < length xs → x ≡ get_or xs place x → now ++ numbered f n (drop place xs) ≡ start →
    next ≡ now ++ f n x → next ++ numbered f (n + 1) (drop (place + 1) xs) ≡ start
numbered-next {A} f start now next xs n place x low is h e =
    numbered-at f start now next xs n place x low h (e ∙ ap (λ (y : A). now ++ f n y) is)

-- at the end all are there
pub numbered-all : {A : Type 0} (f : ℕ → A → List ℕ) (start now : List ℕ) (xs : List A) (n place : ℕ) →
    (place < length xs → ⊥) → now ++ numbered f n (drop place xs) ≡ start → now ≡ start
unfolding numbered
numbered-all {A} f start now xs n place end h =
    sym (append-nil now)
    ∙ ap (λ (ys : List A). now ++ numbered f n ys) (sym (drop_all place xs (omega (end, arith))))
    ∙ h

-- those of what g says of each
pub numbered-map : {A B : Type 0} (f : ℕ → B → List ℕ) (g : A → B) (n : ℕ) (xs : List A) →
    numbered f n (map g xs) ≡ numbered (λ k x. f k (g x)) n xs
unfolding numbered
numbered-map f g n [] = refl
numbered-map f g n (x ∷ xs) = ap (λ (t : List ℕ). f n (g x) ++ t) (numbered-map f g (n + 1) xs)
