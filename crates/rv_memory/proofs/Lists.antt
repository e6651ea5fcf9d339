-- The stores of each word in its place.
use Rattle.std.proofs.Common.{ℕ, ◌≡◌, ◌≢◌, ◌<◌, ◌++◌, ◌∷◌, [], List, length, refl, sym, ap, ◌∙◌, subst, set, get_or}
use Rattle.std.proofs.Common.{Some, None, Option, Bool, true, false, nat_eq, ◌&&◌, inl, inr}
use Rattle.std.proofs.lemmas.Bool.{cases_eq, ne_eqb}
use Rattle.std.proofs.lemmas.List.{get_or-map, get_or-set_other, get_or-set_same, length-set, map-set}
use Rattle.std.proofs.lemmas.List.{set-get_or}
use Rattle.std.specs.Global.{Global}
use Rattle.std.specs.Prelude.{Vec, slice_set, unwrap_or}
use Rattle.rv_log.specs.declared.record.Performed.{Performed}
use Rattle.rv_memory.specs.Stores.{AreNumbers, HasIssuer, at_place, lists, same_issuer}

-- values of options
pub some-same : (a b : ℕ) → Some a ≡ Some b → a ≡ b
some-same a b same = ap (λ o. unwrap_or o 0) same

module _ (words : List (Vec Performed Global)) (k : ℕ) (w : Vec Performed Global) (low : k < length words)
    (at : w ≡ get_or words k w) where
  -- the stores at a place
  pub place-is : get_or (lists words) k [] ≡ w.items
  place-is = get_or-map (λ (x : Vec Performed Global). x.items) words k w [] low ∙
      sym (ap (λ (x : Vec Performed Global). x.items) at)

  -- they stay where room is made for more
  pub lists-same : (v : Vec Performed Global) → v.items ≡ w.items → lists (slice_set words k v) ≡ lists words
  lists-same v same = map-set (λ (x : Vec Performed Global). x.items) words k v ∙
      ap (set (lists words) k) (same ∙ sym place-is) ∙ set-get_or (lists words) k []

  -- and are followed by one that is added
  pub lists-more : (v : Vec Performed Global) (p : Performed) → v.items ≡ w.items ++ p ∷ [] →
      lists (slice_set words k v) ≡ set (lists words) k (get_or (lists words) k [] ++ p ∷ [])
  lists-more v p more = map-set (λ (x : Vec Performed Global). x.items) words k v ∙
      ap (set (lists words) k) (more ∙ ap (λ (xs : List Performed). xs ++ p ∷ []) (sym place-is))

module _ {place_of : ℕ → Option ℕ} {words : List (List Performed)} (numbers : AreNumbers place_of words) (address k : ℕ)
    (placed : place_of address ≡ Some k) (p : Performed) where
  abbrev new : List (List Performed)
  new = set words k (get_or words k [] ++ p ∷ [])

  pub numbers-more : AreNumbers place_of new
  numbers-more = record {
    known = λ a n some. subst (λ (l : ℕ). n < l) (sym (length-set words k (get_or words k [] ++ p ∷ [])))
        (numbers.known a n some);
    apart = numbers.apart;
  }

  -- the word has one store more
  pub here-more : at_place new (place_of address) ≡ at_place words (place_of address) ++ p ∷ []
  here-more = ap (at_place new) placed ∙
      get_or-set_same words k (get_or words k [] ++ p ∷ []) [] (numbers.known address k placed) ∙
      ap (λ (o : Option ℕ). at_place words o ++ p ∷ []) (sym placed)

  -- and the others have theirs
  pub others-same : (other : ℕ) → address ≢ other → at_place new (place_of other) ≡ at_place words (place_of other)
  others-same other apart = from (place_of other) refl
    where
      from : (o : Option ℕ) → place_of other ≡ o → at_place new o ≡ at_place words o
      from None is = refl
      from (Some n) is = get_or-set_other words k n (get_or words k [] ++ p ∷ []) []
          (λ same. apart (numbers.apart address other k placed (is ∙ ap Some same)))

-- instructions that differ have keys that do
pub issuer-apart : (p : Performed) (hart order : ℕ) → (HasIssuer hart order p → ⊥) →
    same_issuer (p.hart, p.order) (hart, order) ≡ false
issuer-apart p hart order apart = elim (cases_eq p.hart hart) [
  | inl hart-same ↦ elim (cases_eq p.order order) [
    | inl order-same ↦ absurd (apart (hart-same, order-same))
    | inr order-apart ↦
        ap (λ (b : Bool). nat_eq p.hart hart && b) (ne_eqb p.order order order-apart) ∙ and-false (nat_eq p.hart hart)
  ]
  | inr hart-apart ↦ ap (λ (b : Bool). b && nat_eq p.order order) (ne_eqb p.hart hart hart-apart)
]
  where
    and-false : (b : Bool) → (b && false) ≡ false
    and-false true = refl
    and-false false = refl
