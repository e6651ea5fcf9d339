-- The order in which stores took effect, as it grows.
use Rattle.std.proofs.Common.{ℕ, ◌≡◌, ◌≢◌, ◌+◌, ◌<◌, ◌≤◌, ◌++◌, ◌∷◌, ◌==◌, [], List, length, refl, sym, ap, ◌∙◌}
use Rattle.std.proofs.Common.{subst, cond, append-nil, nat_eq, leb, ◌-◌}
use Rattle.std.proofs.Common.{Contains, Some, None, Option, arith, get_or, inl, inr, Bool, true, false, All, eq-eqb}
use Rattle.std.proofs.lemmas.Bool.{cases_eq, eqb-true, false≢true, ne_eqb}
use Rattle.std.proofs.lemmas.Option.{slice_get_cases}
use Rattle.std.proofs.lemmas.List.{length_push, append_assoc, get_or_default}
use Rattle.std.proofs.lemmas.List.Elements.{All-contains, All-cons, All-filter, All-head, All-nil, All-tail}
use Rattle.std.proofs.lemmas.List.Elements.{Contains-get_or}
use Rattle.std.proofs.lemmas.List.Elements.{Contains-append_right, Contains-push, Contains-push_cases}
use Rattle.std.proofs.lemmas.List.Elements.{filter-append, filter_passes}
use Rattle.std.proofs.lemmas.List.Quantifiers.{all_pairs_push}
use Rattle.std.specs.List.{filter, slice_get}
use Rattle.rv_log.specs.declared.record.Performed.{Performed}
use Rattle.rv_memory.specs.declared.stores.Effect.{Effect}
use Rattle.rv_memory.specs.Stores.{AreStores, HasIssuer, IsLast, IsLastOf, IsNext, IsOrder, IsVersionAt}
use Rattle.rv_memory.specs.Stores.{IsEffectOf, IsWrittenAt, Kept, kept_of}
use Rattle.rv_memory.specs.Stores.{at_place, of_word, same_issuer, effect_kept}
use Rattle.std.specs.Map.{lookup}
use Rattle.std.specs.Option.{is_some}
use Rattle.std.specs.List.Sorted.{IsNonDecreasingBy, IsPartitionPoint}
use Rattle.std.proofs.lemmas.Grind.{common_steps}
use Rattle.std.proofs.lemmas.List.Kept.{AllPairs-filter}

leb-le : (m n : ℕ) → leb m n ≡ true → m ≤ n
leb-le m n is = grind (arith, common_steps)

leb-lt : (m n : ℕ) → leb m n ≡ false → n < m
leb-lt m n is = grind (arith, common_steps)

-- what holds of each element that passes a test
pub filtered-all : {X : Type 0} (P : X → Type 0) (test : X → Bool) (xs : List X) → All P (filter test xs) →
    All (λ x. test x ≡ true → P x) xs
filtered-all P test [] all = All-nil _
filtered-all {X} P test (x ∷ xs) all =
    let parts = split (test x) refl all in
    All-cons (λ y. test y ≡ true → P y) x xs parts.0 (filtered-all P test xs parts.1)
  where
    split : (b : Bool) → test x ≡ b → All P (cond b (x ∷ filter test xs) (filter test xs)) →
        (test x ≡ true → P x) × All P (filter test xs)
    split true is each = (λ t. All-head P x (filter test xs) each, All-tail P x (filter test xs) each)
    split false is each = (λ t. absurd (false≢true (sym is ∙ t)), each)

-- the stores of a word, with one of it more
pub word-more : (log : List Performed) (p : Performed) → of_word p.address (log ++ p ∷ []) ≡
    of_word p.address log ++ p ∷ []
word-more log p = filter-append (λ q. q.address == p.address) log (p ∷ []) ∙
    ap (λ (b : Bool). of_word p.address log ++ cond b (p ∷ []) []) (eq-eqb p.address p.address refl)

-- and with one of another
pub word-same : (address : ℕ) (log : List Performed) (p : Performed) → p.address ≢ address →
    of_word address (log ++ p ∷ []) ≡ of_word address log
word-same address log p apart = filter-append (λ q. q.address == address) log (p ∷ []) ∙
    ap (λ (b : Bool). of_word address log ++ cond b (p ∷ []) []) (ne_eqb p.address address apart)
    ∙ append-nil (of_word address log)

-- nothing is kept of no stores
pub no-stores : (kept : Kept) → kept.places ≡ [] → kept.effects ≡ [] → kept.latest ≡ 0 → AreStores [] kept
no-stores kept places effects latest = record {
  order = record {
    ascending = λ i j d before low. absurd (omega (low, arith));
    once = λ i j d before low. absurd (omega (low, arith));
    apart = λ i j d before low. absurd (omega (low, arith));
  };
  words = λ address. ap (λ (es : List (ℕ × ℕ)). at_place kept.words (lookup (nat_eq address) es)) places;
  effects = λ hart order. subst (IsEffectOf [] hart order)
      (sym (ap (λ (es : List ((ℕ × ℕ) × Effect)). lookup (same_issuer (hart, order)) es) effects))
      (λ p cp issuer. (let low = cp.1 in absurd (omega (low, arith))));
  last = record { highest = λ p cp. (let low = cp.1 in absurd (omega (low, arith))); some = inl latest };
  few = λ address. omega arith;
}

module _ {log : List Performed} {kept : Kept} (are : AreStores log kept) where
  -- a word has not too many
  pub kept-few : (address : ℕ) → length (kept_of kept address) ≤ 4294967294
  kept-few address = subst (λ (w : List Performed). length w ≤ 4294967294) (sym (are.words address)) (are.few address)

  -- their times don't go back
  pub kept-rising : (address : ℕ) → IsNonDecreasingBy (λ (p : Performed). p.time) (kept_of kept address)
  kept-rising address = subst (IsNonDecreasingBy (λ (p : Performed). p.time)) (sym (are.words address))
      (λ i j d upto low. elim (cases_eq i j) [
        | inl same ↦ (let is = ap (λ (k : ℕ). (get_or (of_word address log) k d).time) same in omega (is, arith))
        | inr apart ↦ AllPairs-filter (λ q p. q.time ≤ p.time) (λ p. p.address == address) log are.order.ascending
            i j d (omega (upto, apart, arith)) low
      ])

  -- the version at a time
  pub version-point : (address time n : ℕ) →
      IsPartitionPoint (λ p. leb p.time time ≡ true) (λ p. leb p.time time ≡ false) (kept_of kept address) n →
      IsVersionAt log address time n
  version-point address time n point = subst
      (λ (w : List Performed). IsPartitionPoint (λ p. p.time ≤ time) (λ p. time < p.time) w n) (are.words address) (
        λ k d low high. leb-le (get_or (kept_of kept address) k d).time time (point.0 k d low high),
        λ k d low high. leb-lt (get_or (kept_of kept address) k d).time time (point.1 k d low high),
      )

  -- the same is kept
  pub same-stores : (new : Kept) → ((address : ℕ) → kept_of new address ≡ kept_of kept address) →
      ((hart order : ℕ) → effect_kept new hart order ≡ effect_kept kept hart order) → new.latest ≡ kept.latest →
      AreStores log new
  same-stores new words effects latest = record {
    order = are.order;
    words = λ address. words address ∙ are.words address;
    effects = λ hart order. subst (IsEffectOf log hart order) (sym (effects hart order)) (are.effects hart order);
    last = subst (IsLast log) (sym latest) are.last;
    few = are.few;
  }

  -- one store more
  module _ (p : Performed) (next : IsNext log p) (new : Kept) (few : length (kept_of kept p.address) < 4294967294)
      (here : kept_of new p.address ≡ kept_of kept p.address ++ p ∷ [])
      (others : (address : ℕ) → p.address ≢ address → kept_of new address ≡ kept_of kept address)
      (effect : effect_kept new p.hart p.order ≡ Some (record {
        address = p.address;
        version = length (kept_of kept p.address) + 1;
        time = p.time;
      }))
      (effects : (hart order : ℕ) → (HasIssuer hart order p → ⊥) →
      effect_kept new hart order ≡ effect_kept kept hart order)
      (latest : new.latest ≡ p.time) where
    is-order : IsOrder (log ++ p ∷ [])
    is-order = record {
      ascending = all_pairs_push (λ q x. q.time ≤ x.time) log p are.order.ascending
          (λ k d low. next.later (get_or log k d) (Contains-get_or log k d low));
      once = all_pairs_push (λ q x. HasIssuer q.hart q.order x → ⊥) log p are.order.once
          (λ k d low same. next.once (get_or log k d) (Contains-get_or log k d low) (sym same.0, sym same.1));
      apart = all_pairs_push (λ q x. q.address ≡ x.address → q.time ≢ x.time) log p are.order.apart
          (λ k d low. next.apart (get_or log k d) (Contains-get_or log k d low));
    }

    words : (address : ℕ) → kept_of new address ≡ of_word address (log ++ p ∷ [])
    words address = elim (cases_eq p.address address) [
      | inl same ↦ subst (λ (a : ℕ). kept_of new a ≡ of_word a (log ++ p ∷ [])) same
          (here ∙ ap (λ (w : List Performed). w ++ p ∷ []) (are.words p.address) ∙ sym (word-more log p))
      | inr apart ↦ others address apart ∙ are.words address ∙ sym (word-same address log p apart)
    ]

    -- the version of an instruction whose store isn't the new one
    still : (hart order : ℕ) → (HasIssuer hart order p → ⊥) → (v : Option Effect) → IsEffectOf log hart order v →
        IsEffectOf (log ++ p ∷ []) hart order v
    still hart number apart (Some k) is = record {
      before = is.before;
      store = is.store;
      after = is.after ++ p ∷ [];
      is = ap (λ (l : List Performed). l ++ p ∷ []) is.is ∙ append_assoc is.before (is.store ∷ is.after) (p ∷ []);
      issuer = is.issuer;
      address = is.address;
      version = is.version;
      time = is.time;
    }
    still hart number apart None none = λ q cq issuer. elim (Contains-push_cases log p q cq) [
      | inl old ↦ none q old issuer
      | inr new ↦ apart (subst (HasIssuer hart number) (sym new) issuer)
    ]

    own : (hart order : ℕ) → HasIssuer hart order p → IsEffectOf (log ++ p ∷ []) hart order
        (effect_kept new hart order)
    own hart order issuer = subst (IsEffectOf (log ++ p ∷ []) hart order)
        (sym (ap (λ (h : ℕ). effect_kept new h order) (sym issuer.0) ∙
        ap (effect_kept new p.hart) (sym issuer.1) ∙ effect)) (record {
          before = log;
          store = p;
          after = [];
          is = refl;
          issuer = issuer;
          address = refl;
          version = ap (λ (w : List Performed). length w + 1) (are.words p.address);
          time = refl;
        })

    effect-of : (hart order : ℕ) → IsEffectOf (log ++ p ∷ []) hart order (effect_kept new hart order)
    effect-of hart order = elim (cases_eq p.hart hart) [
      | inl hart-same ↦ elim (cases_eq p.order order) [
        | inl order-same ↦ own hart order (hart-same, order-same)
        | inr order-apart ↦ other (λ issuer. order-apart issuer.1)
      ]
      | inr hart-apart ↦ other (λ issuer. hart-apart issuer.0)
    ]
      where
        other : (HasIssuer hart order p → ⊥) → IsEffectOf (log ++ p ∷ []) hart order (effect_kept new hart order)
        other apart = subst (IsEffectOf (log ++ p ∷ []) hart order) (sym (effects hart order apart))
            (still hart order apart (effect_kept kept hart order) (are.effects hart order))

    pub pushed-stores : AreStores (log ++ p ∷ []) new
    pushed-stores = record {
      order = is-order;
      words = words;
      effects = effect-of;
      last = subst (IsLast (log ++ p ∷ [])) (sym latest) (record {
        highest = λ q cq. elim (Contains-push_cases log p q cq) [
          | inl old ↦ next.later q old
          | inr new' ↦ (let same = ap (λ (x : Performed). x.time) new' in omega (same, arith))
        ];
        some = inr (p, Contains-push log p, refl);
      });
      few = λ address. elim (cases_eq p.address address) [
        | inl same ↦ (
            let long = ap (λ (w : List Performed). length w) (sym (words address) ∙
            ap (kept_of new) (sym same) ∙ here) in
            let more = length_push (kept_of kept p.address) p in
            omega (long, more, few, arith))
        | inr apart ↦ (
            let long = ap (λ (w : List Performed). length w) (word-same address log p apart) in
            let old = are.few address in
            omega (long, old, arith))
      ];
    }

-- words and effects are the same, wherever they are kept
pub placed : {log : List Performed} (places places' : List (ℕ × ℕ)) (words words' : List (List Performed))
    (effects effects' : List ((ℕ × ℕ) × Effect)) (latest : ℕ) →
    AreStores log (record { places = places; words = words; effects = effects; latest = latest }) →
    ((address : ℕ) → at_place words' (lookup (nat_eq address) places') ≡
    at_place words (lookup (nat_eq address) places)) → effects' ≡ effects →
    AreStores log (record { places = places'; words = words'; effects = effects'; latest = latest })
placed places places' words words' effects effects' latest are same effects-same =
    same-stores are (record { places = places'; words = words'; effects = effects'; latest = latest }) same
    (λ hart order. ap (λ (es : List ((ℕ × ℕ) × Effect)). lookup (same_issuer (hart, order)) es) effects-same) refl

module _ {log : List Performed} {kept : Kept} (are : AreStores log kept) (address : ℕ) where
  abbrev is-of : Performed → Bool
  is-of p = p.address == address

  -- the last of the word's stores
  found : (x : Performed) → length (of_word address log) - 1 < length (of_word address log) →
      get_or (of_word address log) (length (of_word address log) - 1) x ≡ x → IsLastOf log address (Some x)
  found x low at =
      let inside = All-filter is-of (Contains log) log (λ k d below. Contains-get_or log k d below) in
      let rising = subst (IsNonDecreasingBy (λ (p : Performed). p.time)) (are.words address)
      (kept-rising are address) in
      let last = length (of_word address log) - 1 in (
        subst (Contains log) at (inside last x low),
        eqb-true x.address address (subst (λ (y : Performed). is-of y ≡ true) at (filter_passes is-of log last x low)),
        λ q cq same. All-contains (λ y. is-of y ≡ true → y.time ≤ x.time) log q
            (filtered-all (λ y. y.time ≤ x.time) is-of log (λ k d below.
            subst (λ (y : Performed). (get_or (of_word address log) k d).time ≤ y.time)
            (get_or_default (of_word address log) last d x low ∙ at)
            (rising k last d (omega (below, arith)) low)))
            cq (eq-eqb q.address address same),
      )

  absent : length (of_word address log) ≤ length (of_word address log) - 1 → IsLastOf log address None
  absent past = λ q cq same. All-contains (λ y. is-of y ≡ true → ⊥) log q
      (filtered-all (λ y. ⊥) is-of log (λ k d below. omega (below, past, arith))) cq (eq-eqb q.address address same)

  pub last-is : (w : List Performed) (o : Option Performed) → w ≡ kept_of kept address →
      o ≡ slice_get w (length w - 1) → IsLastOf log address o
  last-is w o same is =
      let own : w ≡ of_word address log = same ∙ are.words address in
      let here : o ≡ slice_get (of_word address log) (length (of_word address log) - 1) =
      is ∙ ap (λ (v : List Performed). slice_get v (length v - 1)) own in
      elim (slice_get_cases (of_word address log) (length (of_word address log) - 1)).1 [
        | inl there ↦ subst (IsLastOf log address) (sym (here ∙ there.2)) (found there.0 there.1 there.3)
        | inr past ↦ subst (IsLastOf log address) (sym (here ∙ past.1)) (absent past.0)
      ]

-- what the last store to a word says of one at a time that is not before
pub written-by : (log : List Performed) (address time : ℕ) (last : Performed) → IsLastOf log address (Some last) →
    last.time ≡ time → IsWrittenAt log address time
written-by log address time last is at = record { store = last; of_log = is.0; word = is.1; at = at }

pub free-by : (log : List Performed) (kept : Kept) (address time : ℕ) (last : Performed) → AreStores log kept →
    IsLastOf log address (Some last) → last.time ≢ time → kept.latest ≤ time → IsWrittenAt log address time → ⊥
free-by log kept address time last are is apart later written =
    let high = is.2 written.store written.of_log written.word in
    let all = are.last.highest last is.0 in
    let at = written.at in
    apart (omega (high, all, later, at, arith))

-- a store may come next where it passes the checks
pub next-is : (log : List Performed) (kept : Kept) (p : Performed) → AreStores log kept → kept.latest ≤ p.time →
    IsEffectOf log p.hart p.order None → (IsWrittenAt log p.address p.time → ⊥) → IsNext log p
next-is log kept p are later once free = record {
  later = λ q cq. (let high = are.last.highest q cq in omega (high, later, arith));
  once = once;
  apart = λ q cq same times. free (record { store = q; of_log = cq; word = same; at = times });
}

-- what is known of an instruction's store from whether it has a version
pub issued : (log : List Performed) (hart order : ℕ) (v : Option Effect) → IsEffectOf log hart order v →
    is_some v ≡ true → (q : Performed) × Contains log q × HasIssuer hart order q
issued log hart order (Some k) is some = (
  is.store,
  subst (λ (l : List Performed). Contains l is.store) (sym is.is)
      (Contains-append_right is.before (is.store ∷ is.after) is.store (0, omega arith, refl)),
  is.issuer,
)
issued log hart order None is some = absurd (false≢true some)

pub unissued : (log : List Performed) (hart order : ℕ) (v : Option Effect) → IsEffectOf log hart order v →
    is_some v ≡ false → IsEffectOf log hart order None
unissued log hart order (Some k) is none = absurd (false≢true (sym none))
unissued log hart order None is none = is
