-- The last store to a word, with one instruction more.
use Rattle.std.proofs.Common.{ℕ, ◌≡◌, ◌≢◌, ◌∙◌, ◌++◌, ◌∷◌, [], List, Option, Some, None, IsTrue, ap, arith, refl}
use Rattle.std.proofs.Common.{sym, subst, inl, inr}
use Rattle.std.proofs.lemmas.Bool.{cases_eq}
use Rattle.std.proofs.lemmas.List.{append_assoc}
use Rattle.std.proofs.lemmas.List.Elements.{Contains-push_cases}
use Rattle.rv_log.specs.declared.record.Retired.{Retired}
use Rattle.rv_commits.specs.Owns.{IsLastStore, StoresTo, does_store}

-- another instruction leaves it
pub still-last : (done : List Retired) (r : Retired) (address : ℕ) → (StoresTo address r → ⊥) → (o : Option ℕ) →
    IsLastStore done address o → IsLastStore (done ++ r ∷ []) address o
still-last done r address apart (Some order) is = record {
  before = is.before;
  store = is.store;
  after = is.after ++ r ∷ [];
  is = ap (λ (l : List Retired). l ++ r ∷ []) is.is ∙ append_assoc is.before (is.store ∷ is.after) (r ∷ []);
  stores = is.stores;
  at = is.at;
  none_later = λ x cx stores. elim (Contains-push_cases is.after r x cx) [
    | inl old ↦ is.none_later x old stores
    | inr new ↦ apart (subst (StoresTo address) (sym new) stores)
  ];
}
still-last done r address apart None none = λ x cx stores. elim (Contains-push_cases done r x cx) [
  | inl old ↦ none x old stores
  | inr new ↦ apart (subst (StoresTo address) (sym new) stores)
]

-- and a store to the word is the last
pub own-last : (done : List Retired) (r : Retired) → IsTrue (does_store r) →
    IsLastStore (done ++ r ∷ []) r.address (Some r.order)
own-last done r stores = record {
  before = done;
  store = r;
  after = [];
  is = refl;
  stores = (stores, refl);
  at = refl;
  none_later = λ x cx also. (let low = cx.1 in absurd (omega (low, arith)));
}

-- so for each word, where the store's is put in
pub stored-last : (done : List Retired) (r : Retired) (old new : ℕ → Option ℕ) → IsTrue (does_store r) →
    ((address : ℕ) → IsLastStore done address (old address)) → new r.address ≡ Some r.order →
    ((address : ℕ) → r.address ≢ address → new address ≡ old address) → (address : ℕ) →
    IsLastStore (done ++ r ∷ []) address (new address)
stored-last done r old new stores are here others address = elim (cases_eq r.address address) [
  | inl same ↦ subst (λ (a : ℕ). IsLastStore (done ++ r ∷ []) a (new a)) same
      (subst (IsLastStore (done ++ r ∷ []) r.address) (sym here) (own-last done r stores))
  | inr apart ↦ subst (IsLastStore (done ++ r ∷ []) address) (sym (others address apart))
      (still-last done r address (λ to. apart to.1) (old address) (are address))
]
