-- Orders of a part of the operations: what a filter keeps of an order, and two lists one behind the
-- other.
use Rattle.std.proofs.Common.{◌++◌, ◌∷◌, ◌≡◌, ◌≢◌, ◌⊎◌, ◌∙◌, ◌<◌, [], AllPairs, Bool, Contains}
use Rattle.std.proofs.Common.{List, ap, arith}
use Rattle.std.proofs.Common.{cond, false, filter, inl, inr, refl, suc, suc-le-suc, sym, true}
use Rattle.std.proofs.Common.{zero-lt-suc}
use Rattle.std.proofs.Common.{zero}
use Rattle.std.proofs.lemmas.Bool.{false≢true}
use Rattle.std.proofs.lemmas.List.Elements.{All-contains, All-contains_itself, All-filter}
use Rattle.std.proofs.lemmas.List.Elements.{Contains-append_cases}
use Rattle.std.proofs.lemmas.List.Elements.{filter_passes}
use Rattle.std.proofs.lemmas.List.Kept.{AllPairs-cons}
use Rattle.rv_event.proofs.Growing.{All-from_contains}
use Rattle.rv_event.proofs.Names.{Contains-here, Contains-there, same_id-true}
use Rattle.rv_event.specs.Log.{same_id}
use Rattle.rv_event.specs.Orders.{place}
use Rattle.rv_event.specs.declared.event.Id.{Id}

-- what a filter keeps was there, and passes
pub filter-kept : {X : Type 0} (p : X → Bool) (xs : List X) (x : X) → Contains (filter p xs) x →
    Contains xs x × (p x ≡ true)
filter-kept p xs x c = (
  All-contains (λ y. Contains xs y) (filter p xs) x (All-filter p (λ y. Contains xs y) xs (All-contains_itself xs)) c,
  All-contains (λ y. p y ≡ true) (filter p xs) x (filter_passes p xs) c,
)

-- what stands before another in an order stands before it in what is kept of the order
pub place-filter : (p : Id → Bool) (xs : List Id) (i j : Id) → p i ≡ true → p j ≡ true →
    place xs i < place xs j → place (filter p xs) i < place (filter p xs) j
place-filter p [] i j pi pj low = absurd (omega (arith, low))
place-filter p (x ∷ xs) i j pi pj low =
    go (same_id i x) (same_id j x) (p x) refl refl refl low (λ less. place-filter p xs i j pi pj less)
  where
    go : (b d q : Bool) → same_id i x ≡ b → same_id j x ≡ d → p x ≡ q →
        cond b 0 (suc (place xs i)) < cond d 0 (suc (place xs j)) →
        (place xs i < place xs j → place (filter p xs) i < place (filter p xs) j) →
        place (cond q (x ∷ filter p xs) (filter p xs)) i < place (cond q (x ∷ filter p xs) (filter p xs)) j
    go true true q ei ej eq less again = absurd (omega (arith, less))
    go true false true ei ej eq less again = rw (ei, ej) (omega arith)
    go true false false ei ej eq less again = absurd (false≢true (sym eq ∙ ap p (sym (same_id-true i x ei)) ∙ pi))
    go false true q ei ej eq less again = absurd (omega (arith, less))
    go false false true ei ej eq less again =
        let still = again (omega (arith, less)) in rw (ei, ej) (omega (arith, still))
    go false false false ei ej eq less again = again (omega (arith, less))

-- two lists whose elements differ, each from each, have no element twice together
pub once-append : (xs ys : List Id) → AllPairs (λ i j. i ≢ j) xs → AllPairs (λ i j. i ≢ j) ys →
    ((i : Id) → Contains xs i → Contains ys i → ⊥) → AllPairs (λ i j. i ≢ j) (xs ++ ys)
once-append [] ys first second apart = second
once-append (x ∷ xs) ys first second apart =
    AllPairs-cons (λ i j. i ≢ j) x (xs ++ ys) (All-from_contains (λ y. x ≢ y) (xs ++ ys) differs)
    (once-append xs ys (λ k l d less low. first (suc k) (suc l) d (suc-le-suc less) (suc-le-suc low)) second
    (λ i c e. apart i (Contains-there x xs i c) e))
  where
    differs : (y : Id) → Contains (xs ++ ys) y → x ≢ y
    differs y c = go (Contains-append_cases xs ys y c)
      where
        go : Contains xs y ⊎ Contains ys y → x ≢ y
        go (inl (k, low, is)) same = first zero (suc k) y (zero-lt-suc k) (suc-le-suc low) (same ∙ sym is)
        go (inr there) same = apart y (Contains-here x xs y same) there
