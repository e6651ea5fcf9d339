use Rattle.std.proofs.Common.{ℕ, ◌≡◌, ◌∙◌, ◌+◌, ◌<◌, ◌++◌, ◌∷◌, [], ap, sym, subst, refl, arith, List, length, get_or}
use Rattle.std.proofs.Common.{nat_eq, Some, Result, OnErr, Ok, Err, set}
use Rattle.std.specs.HashMap.{get}
use Rattle.std.specs.Global.{Global}
use Rattle.std.specs.Prelude.{Vec, slice_set}
use Rattle.std.proofs.lemmas.List.{length-map, length-set}
use Rattle.rv_log.specs.declared.record.Performed.{Performed}
use Rattle.rv_memory.specs.Stores.{AreNumbers, AreStores, Kept, at_place, kept_of, lists}
use Rattle.rv_memory.specs.declared.stores.Effect.{Effect}
use Rattle.rv_memory.proofs.Lists.{here-more, issuer-apart, lists-more, lists-same, numbers-more, others-same, place-is}
use Rattle.rv_memory.proofs.Orders.{placed, pushed-stores}
use Rattle.rv_memory.proofs.stores.Stores.add.Goals.{After-index_mut-word, After-len, After-push_reserved}
use Rattle.rv_memory.proofs.stores.Stores.add.Goals as goal

on_err : {T E P : Type 0} (r : Result T E) → P → OnErr r P
on_err (Ok x) p = tt
on_err (Err e) p = p

pub returns-in_err-place-clause-kept : goal.returns-in_err-place-clause-kept
returns-in_err-place-clause-kept c = λ log are. on_err c.from_residual.result
    (placed c.self.inside.places.entries _ (lists c.self.inside.words.items) _ c.self.inside.effects.entries _
    c.self.inside.latest (subst (AreStores log) (sym c.self.view_is) are) c.in_err-place.ensures.same refl)

module _ (c : After-index_mut-word) where
  abbrev words : List (Vec Performed Global)
  words = c.place_of.new.words.items

  abbrev word : Vec Performed Global
  word = c.index_mut-word.result.now

  numbers : AreNumbers (get nat_eq c.place_of.new.places) (lists words)
  numbers = c.in_ok-place.ensures.numbers

  low : c.in_ok-place.place < length words
  low =
      let below = numbers.known c.args.store.address c.in_ok-place.place c.in_ok-place.ensures.placed in
      let long = length-map words (λ (w : Vec Performed Global). w.items) in
      omega (below, long, arith)

  at : word ≡ get_or words c.in_ok-place.place word
  at = c.index_mut-word.ensures.value

  -- with room for one more, all is as before
  roomy : (v : Vec Performed Global) → v.items ≡ word.items →
      lists (slice_set words c.in_ok-place.place v) ≡ lists words
  roomy v same = lists-same words c.in_ok-place.place word low at v same

  -- the stores of before, in the places of now
  moved : {log : List Performed} (new : List (List Performed)) (effects : List ((ℕ × ℕ) × Effect)) →
      AreStores log c.args.self.now → new ≡ lists words → effects ≡ c.self.inside.effects.entries →
      AreStores log (record {
        places = c.place_of.new.places.entries;
        words = new;
        effects = effects;
        latest = c.self.inside.latest;
      })
  moved {log} new effects are same effects-same =
      placed c.self.inside.places.entries c.place_of.new.places.entries (lists c.self.inside.words.items) new
      c.self.inside.effects.entries effects c.self.inside.latest (subst (AreStores log) (sym c.self.view_is) are)
      (λ q. ap (λ (ws : List (List Performed)). at_place ws (get nat_eq c.place_of.new.places q)) same ∙
      c.in_ok-place.ensures.same q) effects-same

  -- the stores that the word has
  kept-is : word.items ≡ kept_of c.args.self.now c.args.store.address
  kept-is = sym (place-is words c.in_ok-place.place word low at) ∙
      sym (ap (at_place (lists words)) c.in_ok-place.ensures.placed) ∙
      c.in_ok-place.ensures.same c.args.store.address ∙
      ap (λ (kept : Kept). kept_of kept c.args.store.address) c.self.view_is

pub invariant_of-self-in_err-reserve : goal.invariant_of-self-in_err-reserve
invariant_of-self-in_err-reserve c =
    let r = (goal.at.invariant_of-self-in_err-reserve c).After-index_mut-word in
    let same = roomy r c.reserve.new.self c.in_err-reserve.ensures.items in (
      subst (AreNumbers (get nat_eq c.place_of.new.places)) (sym same) (numbers r),
      (
        c.self.invariant.1.0,
        moved r _ _ (subst (AreStores c.self.invariant.1.0) c.self.view_is c.self.invariant.1.1) same refl,
      ),
    )

pub returns-in_err-reserve-clause-kept : goal.returns-in_err-reserve-clause-kept
returns-in_err-reserve-clause-kept c = λ log are.
    let r = (goal.at.returns-in_err-reserve-clause-kept c).After-index_mut-word in
    on_err c.from_residual-in_err-reserve.result
    (moved r _ _ are (roomy r c.reserve.new.self c.in_err-reserve.ensures.items) refl)

counted : (c : After-len) → c.len.result ≡ length (kept_of c.args.self.now c.args.store.address)
counted c = c.len.ensures ∙ c.reserve.new.self.ok.0 ∙
    ap (λ (w : List Performed). length w)
    (c.in_ok-reserve.ensures.items ∙ kept-is (goal.at-After-len c).After-index_mut-word)

pub overflow_cast-version : goal.overflow_cast-version
overflow_cast-version c =
    let few = c.requires.few in
    let count = counted (goal.at.overflow_cast-version c).After-len in omega (few, count, arith)

pub overflow_add-version : goal.overflow_add-version
overflow_add-version c =
    let few = c.requires.few in
    let count = counted (goal.at.overflow_add-version c).After-len in omega (few, count, arith)

pub invariant_of-self-in_err-insert : goal.invariant_of-self-in_err-insert
invariant_of-self-in_err-insert c =
    let r = (goal.at.invariant_of-self-in_err-insert c).After-index_mut-word in
    let same = roomy r c.reserve.new.self c.in_ok-reserve.ensures.items in (
      subst (AreNumbers (get nat_eq c.place_of.new.places)) (sym same) (numbers r),
      (
        c.self.invariant.1.0,
        moved r _ _ (subst (AreStores c.self.invariant.1.0) c.self.view_is c.self.invariant.1.1) same
            c.in_err-insert.ensures.err,
      ),
    )

pub returns-in_err-insert-clause-kept : goal.returns-in_err-insert-clause-kept
returns-in_err-insert-clause-kept c = λ log are.
    let r = (goal.at.returns-in_err-insert-clause-kept c).After-index_mut-word in
    on_err c.from_residual-in_err-insert.result
    (moved r _ _ are (roomy r c.reserve.new.self c.in_ok-reserve.ensures.items) c.in_err-insert.ensures.err)

module _ (c : After-push_reserved) where
  abbrev r : After-index_mut-word
  r = (goal.at-After-push_reserved c).After-index_mut-word

  abbrev p : Performed
  p = c.args.store

  abbrev place : ℕ
  place = c.in_ok-place.place

  abbrev roomed : List (Vec Performed Global)
  roomed = slice_set c.place_of.new.words.items place c.reserve.new.self

  abbrev old : List (List Performed)
  old = lists c.place_of.new.words.items

  same : lists roomed ≡ old
  same = roomy r c.reserve.new.self c.in_ok-reserve.ensures.items

  roomed-low : place < length roomed
  roomed-low =
      subst (λ (n : ℕ). place < n) (sym (length-set c.place_of.new.words.items place c.reserve.new.self)) (low r)

  -- the stores of all words, with the new one
  grown : lists (slice_set roomed place c.push_reserved.new.self) ≡ set old place (get_or old place [] ++ p ∷ [])
  grown = lists-more roomed place c.index_mut.result.now roomed-low c.index_mut.ensures.value c.push_reserved.new.self p
      c.push_reserved.ensures.items ∙
      ap (λ (ws : List (List Performed)). set ws place (get_or ws place [] ++ p ∷ [])) same

  abbrev new : Kept
  new = record {
    places = c.place_of.new.places.entries;
    words = lists (slice_set roomed place c.push_reserved.new.self);
    effects = c.insert.new.self.entries;
    latest = p.time;
  }

  -- what was kept, in the places of now
  abbrev before : Kept
  before = record {
    places = c.place_of.new.places.entries;
    words = old;
    effects = c.self.inside.effects.entries;
    latest = c.self.inside.latest;
  }

  abbrev effect : ℕ → Effect
  effect n = record { address = p.address; version = n + 1; time = p.time }

  kept-same : kept_of before p.address ≡ kept_of c.args.self.now p.address
  kept-same = c.in_ok-place.ensures.same p.address ∙ ap (λ (kept : Kept). kept_of kept p.address) c.self.view_is

  pub taken : (log : List Performed) → AreStores log c.args.self.now → AreStores (log ++ p ∷ []) new
  taken log are = pushed-stores (moved r old c.self.inside.effects.entries are refl refl) p
      (c.requires.next log are) new
      (subst (λ (w : List Performed). length w < 4294967294) (sym kept-same) c.requires.few)
      (ap (λ (ws : List (List Performed)). at_place ws (get nat_eq c.place_of.new.places p.address)) grown ∙
      here-more (numbers r) p.address place c.in_ok-place.ensures.placed p)
      (λ address apart.
      ap (λ (ws : List (List Performed)). at_place ws (get nat_eq c.place_of.new.places address)) grown ∙
      others-same (numbers r) p.address place c.in_ok-place.ensures.placed p address apart)
      (c.in_ok-insert.ensures.updates.1 ∙ ap (λ (n : ℕ). Some (effect n))
      (counted (goal.at-After-push_reserved c).After-len ∙ ap (λ (w : List Performed). length w) (sym kept-same)))
      (λ hart order apart. c.in_ok-insert.ensures.updates.2 (hart, order) (issuer-apart p hart order apart))
      refl

  pub numbered : AreNumbers (get nat_eq c.place_of.new.places) new.words
  numbered = subst (AreNumbers (get nat_eq c.place_of.new.places)) (sym grown)
      (numbers-more (numbers r) p.address place c.in_ok-place.ensures.placed p)

pub invariant_of-self-2 : goal.invariant_of-self-2
invariant_of-self-2 c =
    let r = (goal.at.invariant_of-self-2 c).After-push_reserved in
    let log = c.self.invariant.1.0 in
    (numbered r, (log ++ c.args.store ∷ [], taken r log (subst (AreStores log) c.self.view_is c.self.invariant.1.1)))

pub returns-clause-taken : goal.returns-clause-taken
returns-clause-taken c = λ log are.
    let r = (goal.at.returns-clause-taken c).After-push_reserved in (
      taken r log are,
      ap (λ (n : ℕ). n + 1) (counted (goal.at-After-push_reserved r).After-len ∙
          ap (λ (w : List Performed). length w) (are.words c.args.store.address)),
    )
