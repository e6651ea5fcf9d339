-- The accesses of each word in its place.
use Rattle.rv_versions.proofs.Common.{◌≡◌, ◌≢◌, ℕ, ◌<◌, List, [], ◌∷◌, ◌++◌, length, get_or, set, flat_map}
use Rattle.rv_versions.proofs.Common.{Contains, Option, Some, None, ◌⊎◌, inl, inr, refl, sym, ap, ◌∙◌, arith, subst}
use Rattle.rv_versions.proofs.Common.{cases_eq, length-set, get_or-set_same, get_or-set_other, at_read, same_Some}
use Rattle.rv_versions.proofs.Common.{none-some, rules, common_steps, IsOf, AreAllOf, ArePostingsTo, IsInserted}
use Rattle.rv_versions.proofs.Common.{IsRemoved, ByEach, AreInserted, AreRemoved, AreSame, AreAbsent, no_accesses}
use Rattle.rv_versions.proofs.Common.{together, AreNumbers, StandInPlace, AreInPlace, AreThoseTo, Access, Accesses}
use Rattle.rv_versions.proofs.Common.{Postings}
use Rattle.rv_versions.proofs.Members.{Contains-none, Contains-flat, Contains-in_flat}
use Rattle.rv_versions.proofs.Posted.{put_none, none_put}

-- what stands at a place, by the answer of an index
pub here_is : {X : Type 0} (xs : List X) (k : ℕ) (x d : X) → k < length xs → x ≡ get_or xs k x → get_or xs k d ≡ x
here_is xs k x d l e = at_read xs (λ y. y ≡ x) k x l e refl d

-- ---- a new word, with no accesses

still : (words : List Accesses) (k : ℕ) →
    get_or (words ++ no_accesses ∷ []) k no_accesses ≡ get_or words k no_accesses
still words k = grind (arith, common_steps)

module _ (place_of place_of' : ℕ → Option ℕ) (words words' : List Accesses) (in_place : AreInPlace place_of words)
    (more : words' ≡ words ++ no_accesses ∷ []) where
  abbrev longer_by_one : List Accesses
  longer_by_one = words ++ no_accesses ∷ []

  -- no access comes in, and each word that has some keeps its number
  moved : AreNumbers place_of' (length longer_by_one) →
      ((word k : ℕ) → place_of word ≡ Some k → place_of' word ≡ Some k) → AreInPlace place_of' words'
  moved numbers keeps = subst (AreInPlace place_of') (sym more) (record {
    numbers = numbers;
    stores = λ k x c. keeps x.word k (in_place.stores k x (subst (λ
        (w : Accesses). Contains w.stores x) (still words k) c));
    loads = λ k x c. keeps x.word k (in_place.loads k x (subst (λ
        (w : Accesses). Contains w.loads x) (still words k) c));
    pairs = λ k x c. keeps x.word k (in_place.pairs k x (subst (λ
        (w : Accesses). Contains w.pairs x) (still words k) c));
  })

  -- and more of them
  pub padded : ((word : ℕ) → place_of' word ≡ place_of word) → AreInPlace place_of' words'
  padded same = moved
      (record {
        known = grind (arith, common_steps);
        apart = λ word other k p q. in_place.numbers.apart word other k (sym (same word) ∙ p) (sym (same other) ∙ q);
      })
      (λ word k e. same word ∙ e)

  -- a word that has a number now
  pub numbered : (new : ℕ) → place_of new ≡ None → place_of' new ≡ Some (length words) →
      ((word : ℕ) → new ≢ word → place_of' word ≡ place_of word) → AreInPlace place_of' words'
  numbered new none here others = moved (record { known = known; apart = apart })
      (λ word k old. others word (λ e. none-some k (sym none ∙ ap place_of e ∙ old)) ∙ old)
    where
      -- the number of the new word, and that of another one
      is_last : (word k : ℕ) → new ≡ word → place_of' word ≡ Some k → k ≡ length words
      is_last word k e p = sym (same_Some (length words) k (sym here ∙ ap place_of' e ∙ p))

      is_old : (word k : ℕ) → new ≢ word → place_of' word ≡ Some k → place_of word ≡ Some k
      is_old word k ne p = sym (others word ne) ∙ p

      known : (word k : ℕ) → place_of' word ≡ Some k → k < length (words ++ no_accesses ∷ [])
      known word k p = grind (arith, common_steps)

      apart : (word other k : ℕ) → place_of' word ≡ Some k → place_of' other ≡ Some k → word ≡ other
      apart word other k p q = grind (arith, common_steps)

-- ---- of these accesses those to a word

module _ (place_of : ℕ → Option ℕ) (words : List Accesses) (numbers : AreNumbers place_of (length words))
    (these : Accesses → List Access) (placed : StandInPlace place_of these words) where
  all_of : (word k : ℕ) → place_of word ≡ Some k →
      AreAllOf (flat_map these words) word (these (get_or words k no_accesses))
  all_of word k p x = (to, from)
    where
      to : Contains (these (get_or words k no_accesses)) x → IsOf (flat_map these words) word x
      to c = record {
        known = Contains-in_flat these no_accesses words x k (numbers.known word k p) c;
        same = numbers.apart x.word word k (placed k x c) p;
      }

      from : IsOf (flat_map these words) word x → Contains (these (get_or words k no_accesses)) x
      from of =
          let f = Contains-flat these no_accesses words x of.known in
          let same : f.0 ≡ k = same_Some f.0 k (sym (placed f.0 x f.2) ∙ ap place_of of.same ∙ p) in
          subst (λ (j : ℕ). Contains (these (get_or words j no_accesses)) x) same f.2

  none_of : (word : ℕ) → place_of word ≡ None → (x : Access) → IsOf (flat_map these words) word x → ⊥
  none_of word p x of =
      let f = Contains-flat these no_accesses words x of.known in
      none-some f.0 (sym p ∙ ap place_of (sym of.same) ∙ placed f.0 x f.2)

  -- a word with no number has none of them
  none_to : (word : ℕ) → place_of word ≡ None → AreAllOf (flat_map these words) word []
  none_to word p x = (λ c. absurd (Contains-none x c), λ of. absurd (none_of word p x of))

  -- nor has it any to take out
  none_out : (word : ℕ) (o : Option Access) → ((x : Access) → o ≡ Some x → x.word ≡ word) → place_of word ≡ None →
      IsRemoved (flat_map these words) o (flat_map these words)
  none_out word o to p x = (
    λ c. (c, λ e. none_of word p x (record { known = c; same = to x e })),
    λ h. h.0,
  )

  -- ---- where those to one word change
  module _ (k : ℕ) (o : Option Access) (w : Accesses) (fits : k < length words)
      (place : (x : Access) → o ≡ Some x → place_of x.word ≡ Some k) where
    at : (x : Access) → Contains (these (get_or (set words k w) k no_accesses)) x → Contains (these w) x
    at x c = subst (λ (v : Accesses). Contains (these v) x) (get_or-set_same words k w no_accesses fits) c

    into : (x : Access) → Contains (these w) x → Contains (flat_map these (set words k w)) x
    into x c = Contains-in_flat these no_accesses (set words k w) x k (omega (arith, length-set words k w))
        (subst (λ (v : Accesses). Contains (these v) x) (sym (get_or-set_same words k w no_accesses fits)) c)

    stays : (j : ℕ) (x : Access) → j ≢ k → j < length words → Contains (these (get_or words j no_accesses)) x →
        Contains (flat_map these (set words k w)) x
    stays j x ne l c = Contains-in_flat these no_accesses (set words k w) x j (omega (arith, length-set words k w))
        (subst (λ (v : Accesses). Contains (these v) x) (sym (get_or-set_other words k j w no_accesses ne)) c)

    -- at another place nothing changed
    was : (j : ℕ) (x : Access) → j ≢ k → Contains (these (get_or (set words k w) j no_accesses)) x →
        Contains (these (get_or words j no_accesses)) x
    was j x ne c = subst (λ (v : Accesses). Contains (these v) x) (get_or-set_other words k j w no_accesses ne) c

    now_at : (j : ℕ) (x : Access) → j ≡ k → Contains (these (get_or (set words k w) j no_accesses)) x →
        Contains (these w) x
    now_at j x same c = at x (subst (λ (n : ℕ). Contains (these (get_or (set words k w) n no_accesses)) x) same c)

    then_at : (j : ℕ) (x : Access) → j ≡ k → Contains (these (get_or words j no_accesses)) x →
        Contains (these (get_or words k no_accesses)) x
    then_at j x same c = subst (λ (n : ℕ). Contains (these (get_or words n no_accesses)) x) same c

    still_placed :
        ((x : Access) → Contains (these w) x → Contains (these (get_or words k no_accesses)) x ⊎ (o ≡ Some x)) →
        StandInPlace place_of these (set words k w)
    still_placed were j x c = elim (cases_eq j k) [
      | inl same ↦ elim (were x (now_at j x same c)) [
        | inl old ↦ placed k x old ∙ ap Some (sym same)
        | inr new ↦ place x new ∙ ap Some (sym same)
      ]
      | inr ne ↦ placed j x (was j x ne c)
    ]

    inserted_at : IsInserted (these (get_or words k no_accesses)) o (these w) →
        IsInserted (flat_map these words) o (flat_map these (set words k w))
    inserted_at put x = (to, from)
      where
        to : Contains (flat_map these (set words k w)) x → Contains (flat_map these words) x ⊎ (o ≡ Some x)
        to c =
            let f = Contains-flat these no_accesses (set words k w) x c in
            let size = length-set words k w in
            let long = f.1 in
            elim (cases_eq f.0 k) [
              | inl same ↦ elim ((put x).0 (now_at f.0 x same f.2)) [
                | inl old ↦ inl (Contains-in_flat these no_accesses words x k fits old)
                | inr new ↦ inr new
              ]
              | inr ne ↦ inl (Contains-in_flat these no_accesses words x f.0 (omega arith) (was f.0 x ne f.2))
            ]

        from : Contains (flat_map these words) x ⊎ (o ≡ Some x) → Contains (flat_map these (set words k w)) x
        from (inr new) = into x ((put x).1 (inr new))
        from (inl c) =
            let f = Contains-flat these no_accesses words x c in
            elim (cases_eq f.0 k) [
              | inl same ↦ into x ((put x).1 (inl (then_at f.0 x same f.2)))
              | inr ne ↦ stays f.0 x ne f.1 f.2
            ]

    removed_at : IsRemoved (these (get_or words k no_accesses)) o (these w) →
        IsRemoved (flat_map these words) o (flat_map these (set words k w))
    removed_at taken x = (to, from)
      where
        to : Contains (flat_map these (set words k w)) x → Contains (flat_map these words) x × (o ≢ Some x)
        to c =
            let f = Contains-flat these no_accesses (set words k w) x c in
            let size = length-set words k w in
            let long = f.1 in
            elim (cases_eq f.0 k) [
              | inl same ↦ (let h = (taken x).0 (now_at f.0 x same f.2) in
                  (Contains-in_flat these no_accesses words x k fits h.0, h.1))
              | inr ne ↦
                  (let old : Contains (these (get_or words f.0 no_accesses)) x = was f.0 x ne f.2 in (
                    Contains-in_flat these no_accesses words x f.0 (omega arith) old,
                    λ e. ne (same_Some f.0 k (sym (placed f.0 x old) ∙ place x e)),
                  ))
            ]

        from : Contains (flat_map these words) x × (o ≢ Some x) → Contains (flat_map these (set words k w)) x
        from h =
            let f = Contains-flat these no_accesses words x h.0 in
            elim (cases_eq f.0 k) [
              | inl same ↦ into x ((taken x).1 (then_at f.0 x same f.2, h.1))
              | inr ne ↦ stays f.0 x ne f.1 f.2
            ]

-- ---- stores, loads and pairs

-- nothing but the postings came in
abbrev pub AreFrom : Accesses → Postings → Accesses → Type 0
AreFrom old p new = ByEach (λ xs o ys. (x : Access) → Contains ys x → Contains xs x ⊎ (o ≡ Some x)) old p new

-- accesses that were put in
pub from_inserted : (old new : Accesses) (p : Postings) → AreInserted old p new → AreFrom old p new
from_inserted old new p put = record {
  stores = λ x. (put.stores x).0;
  loads = λ x. (put.loads x).0;
  pairs = λ x. (put.pairs x).0;
}

-- that were taken out
pub from_removed : (old new : Accesses) (p : Postings) → AreRemoved old p new → AreFrom old p new
from_removed old new p taken = record {
  stores = λ x c. inl ((taken.stores x).0 c).0;
  loads = λ x c. inl ((taken.loads x).0 c).0;
  pairs = λ x c. inl ((taken.pairs x).0 c).0;
}

-- that are the same
pub from_same : (old new : Accesses) (p : Postings) → AreSame old p new → AreFrom old p new
from_same old new p same = record {
  stores = λ x c. inl ((same.stores x).0 c);
  loads = λ x c. inl ((same.loads x).0 c);
  pairs = λ x c. inl ((same.pairs x).0 c);
}

module _ (place_of : ℕ → Option ℕ) (words : List Accesses) (in_place : AreInPlace place_of words) (word : ℕ) where
  -- those at the word's place are its own
  pub are_to_word : (k : ℕ) → place_of word ≡ Some k → AreThoseTo (together words) word (get_or words k no_accesses)
  are_to_word k p = record {
    stores = all_of place_of words in_place.numbers (λ w. w.stores) in_place.stores word k p;
    loads = all_of place_of words in_place.numbers (λ w. w.loads) in_place.loads word k p;
    pairs = all_of place_of words in_place.numbers (λ w. w.pairs) in_place.pairs word k p;
  }

  -- a word without a place has none
  pub none_to_word : place_of word ≡ None → AreThoseTo (together words) word no_accesses
  none_to_word p = search (none_to, rules)

  -- nothing is taken out of it
  pub none_removed : (p : Postings) → ArePostingsTo word p → place_of word ≡ None →
      AreRemoved (together words) p (together words)
  none_removed p to none = search (none_out, rules)

  -- what is absent from all is absent from those to the word
  pub absent_here : (k : ℕ) → place_of word ≡ Some k → (p : Postings) → AreAbsent (together words) p →
      AreAbsent (get_or words k no_accesses) p
  absent_here k number p absent =
      let fits : k < length words = in_place.numbers.known word k number in
      record {
        stores = λ x e c. absent.stores x e (Contains-in_flat (λ v. v.stores) no_accesses words x k fits c);
        loads = λ x e c. absent.loads x e (Contains-in_flat (λ v. v.loads) no_accesses words x k fits c);
        pairs = λ x e c. absent.pairs x e (Contains-in_flat (λ v. v.pairs) no_accesses words x k fits c);
      }

  module _ (k : ℕ) (p : Postings) (w : Accesses) (number : place_of word ≡ Some k) (to : ArePostingsTo word p) where
    fits : k < length words
    fits = in_place.numbers.known word k number

    abbrev old : Accesses
    old = get_or words k no_accesses

    place : (o : Option Access) → ((x : Access) → o ≡ Some x → x.word ≡ word) → (x : Access) → o ≡ Some x →
        place_of x.word ≡ Some k
    place o same x e = ap place_of (same x e) ∙ number

    -- each access stays at its word's place
    pub still_in_place : AreFrom old p w → AreInPlace place_of (set words k w)
    still_in_place from = record {
      numbers = grind (arith, common_steps);
      stores = still_placed place_of words in_place.numbers (λ v. v.stores) in_place.stores k p.store w fits
          (place p.store to.store) from.stores;
      loads = still_placed place_of words in_place.numbers (λ v. v.loads) in_place.loads k p.load w fits
          (place p.load to.load) from.loads;
      pairs = still_placed place_of words in_place.numbers (λ v. v.pairs) in_place.pairs k p.pair w fits
          (place p.pair to.pair) from.pairs;
    }

    -- what was put in at a place was put in
    pub are_inserted : AreInserted old p w → AreInserted (together words) p (together (set words k w))
    are_inserted put = record {
      stores = inserted_at place_of words in_place.numbers (λ v. v.stores) in_place.stores k p.store w fits
          (place p.store to.store) put.stores;
      loads = inserted_at place_of words in_place.numbers (λ v. v.loads) in_place.loads k p.load w fits
          (place p.load to.load) put.loads;
      pairs = inserted_at place_of words in_place.numbers (λ v. v.pairs) in_place.pairs k p.pair w fits
          (place p.pair to.pair) put.pairs;
    }

    -- what was taken out there was taken out
    pub are_removed : AreRemoved old p w → AreRemoved (together words) p (together (set words k w))
    are_removed taken = record {
      stores = removed_at place_of words in_place.numbers (λ v. v.stores) in_place.stores k p.store w fits
          (place p.store to.store) taken.stores;
      loads = removed_at place_of words in_place.numbers (λ v. v.loads) in_place.loads k p.load w fits
          (place p.load to.load) taken.loads;
      pairs = removed_at place_of words in_place.numbers (λ v. v.pairs) in_place.pairs k p.pair w fits
          (place p.pair to.pair) taken.pairs;
    }

    -- and what is the same is
    pub are_same : AreSame old p w → AreSame (together words) p (together (set words k w))
    are_same same = record {
      stores = put_none _ _ (inserted_at place_of words in_place.numbers (λ v. v.stores) in_place.stores k None w fits
          (λ x e. absurd (none-some x e)) (none_put _ _ same.stores));
      loads = put_none _ _ (inserted_at place_of words in_place.numbers (λ v. v.loads) in_place.loads k None w fits
          (λ x e. absurd (none-some x e)) (none_put _ _ same.loads));
      pairs = put_none _ _ (inserted_at place_of words in_place.numbers (λ v. v.pairs) in_place.pairs k None w fits
          (λ x e. absurd (none-some x e)) (none_put _ _ same.pairs));
    }
