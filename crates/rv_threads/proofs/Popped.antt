-- What is left of a list when its last element is taken.
use Rattle.std.proofs.Common.{◌≡◌, ◌++◌, List, subst}

-- what `pop` took, and what it left
pub popped : {X : Type 0} (P : X → Type 0) (xs ys : List X)
    (r : Rattle.std.proofs.Common.Option X) (x : X) → xs ≡ ys
    ++ Rattle.std.proofs.Common.option_to_list r → r ≡ Rattle.std.proofs.Common.Some x
    → Rattle.std.proofs.Common.All P xs → P x × Rattle.std.proofs.Common.All P ys
popped P xs ys r x e is all = let o = Rattle.std.proofs.lemmas.List.Elements.All-pop P xs ys r e
    all in (subst (λ z. Rattle.std.proofs.Common.IfSome z P) is o.1, o.0)
