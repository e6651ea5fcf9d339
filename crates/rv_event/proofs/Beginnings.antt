-- A log is indexed where an indexed log continues it whose harts' events stand at their numbers.
use Rattle.rv_event.proofs.Common.{common_steps, ◌≡◌, ℕ, ◌<◌, Bool, true, false, ◌&&◌, ◌==◌, cond}
use Rattle.rv_event.proofs.Common.{List, [], ◌∷◌, ◌++◌, length, get_or, Contains, filter, find, Some}
use Rattle.rv_event.proofs.Common.{◌⊎◌, inl, inr, refl, sym, ap, ◌∙◌, subst, arith, append_assoc, append-nil}
use Rattle.rv_event.proofs.Common.{none-some, same_Some, is_store, IsStore, same_id, named, of_hart}
use Rattle.rv_event.proofs.Common.{writer, events, WellFormedWithin, Id, Event, Entry}
use Rattle.rv_event.proofs.Names.{Contains-cons, named-is, same_id-refl}
use Rattle.rv_event.proofs.Names.{writer-is}
use Rattle.rv_event.proofs.Growing.{Grows, named-of_hart, All-from_contains}
use Rattle.std.proofs.Common.{length-append, eq-eqb}
use Rattle.std.proofs.lemmas.List.{get_or_append_left}
use Rattle.std.proofs.lemmas.List.Elements.{All-contains, All-filter, Contains-append_left}
use Rattle.rv_event.proofs.Indexed.{IndexedWithin, SoundWithin, AllSoundWithin, all_sound, find-append_some}
use Rattle.rv_event.proofs.Indexed.{writer-above, wrote-own}
use Rattle.rv_event.proofs.Merged.{Contains-filter}

-- each hart's events stand at their numbers
abbrev pub Numbered : List Event → Type 0
Numbered log = (h k : ℕ) (d : Event) → k < length (of_hart h log) → (get_or (of_hart h log) k d).id.seq ≡ k

numbered-push : {limit : ℕ} (log : List Event) (e : Event) → Numbered log → SoundWithin limit log e →
    Numbered (log ++ e ∷ [])
numbered-push log e numbered sound h k d low = grind (arith, common_steps)

numbered-all : (limit : ℕ) (before rest : List Event) → Numbered before → AllSoundWithin limit before rest →
    Numbered (before ++ rest)
numbered-all limit before [] numbered all = rw append-nil numbered
numbered-all limit before (e ∷ rest) numbered all =
    let more : Numbered ((before ++ e ∷ []) ++ rest) =
    numbered-all limit (before ++ e ∷ []) rest (numbered-push before e numbered all.0) all.1 in
    subst Numbered (append_assoc before (e ∷ []) rest) more

-- those of a well formed log do, however many events a hart may have
pub numbered_within : (limit : ℕ) (log : List Entry) → WellFormedWithin limit log → Numbered (events log)
numbered_within limit log ok = numbered-all limit [] (events log) (λ h k d low. absurd (omega (arith, low)))
    (all_sound limit log [] log ok refl)

-- an element that passes the test is found, or one before it
find-some : {X : Type 0} (p : X → Bool) (xs : List X) (x : X) → Contains xs x → p x ≡ true →
    (y : X) × (find p xs ≡ Some y)
find-some p [] x (k, low, is) passes = absurd (omega (arith, low))
find-some {X} p (y ∷ ys) x c passes =
    go (p y) refl (Contains-cons y ys x c) (λ more. find-some p ys x more passes)
  where
    go : (b : Bool) → p y ≡ b → (y ≡ x) ⊎ Contains ys x → (Contains ys x → (z : X) × (find p ys ≡ Some z)) →
        (z : X) × (cond b (Some y) (find p ys) ≡ Some z)
    go true e at again = (y, refl)
    go false e (inl same) again = absurd (cc)
    go false e (inr more) again = again more

-- a hart's events are events of the log
of_log : (h : ℕ) (log : List Event) (a : Event) → Contains (of_hart h log) a → Contains log a
of_log h log a c =
    let p : Event → Bool = λ x. h == x.id.hart in
    All-contains (λ x. Contains log x) (filter p log) a
    (All-filter p (λ x. Contains log x) log (All-from_contains (λ x. Contains log x) log (λ x d. d))) c

-- and an event of the log is one of its hart's
of_own : (log : List Event) (a : Event) → Contains log a → Contains (of_hart a.id.hart log) a
of_own log a c = Contains-filter (λ (x : Event). a.id.hart == x.id.hart) log a c (eq-eqb a.id.hart a.id.hart refl)

module _ {limit : ℕ} (old new : List Event) (grows : Grows old new) (known : IndexedWithin limit new)
    (numbered : Numbered new) where
  in-new : (a : Event) → Contains old a → Contains new a
  in-new a c = let g = grows a.id.hart in
      of_log a.id.hart new a (subst (λ (es : List Event). Contains es a) (sym g.1)
      (Contains-append_left (of_hart a.id.hart old) g.0 a (of_own old a c)))

  below-old : (a : Event) → Contains old a → a.id.seq < length (of_hart a.id.hart old)
  below-old a c =
      let g = grows a.id.hart in
      let own = of_hart a.id.hart old in
      let (k, low, is) = of_own old a c in
      let within : k < length (of_hart a.id.hart new) = omega (
        arith,
        low,
        ap (λ (es : List Event). length es) g.1,
        length-append own g.0,
      ) in
      let at : get_or (of_hart a.id.hart new) k a ≡ a = ap (λ (es : List Event). get_or es k a) g.1 ∙
      get_or_append_left own g.0 a k low ∙ is in
      let seq : a.id.seq ≡ k = ap (λ (x : Event). x.id.seq) (sym at) ∙ numbered a.id.hart k a within in
      omega (arith, seq, low)

  back : (a : Event) → Contains new a → a.id.seq < length (of_hart a.id.hart old) → Contains old a
  back a c low =
      let g = grows a.id.hart in
      let own = of_hart a.id.hart old in
      let (k, within, is) = of_own new a c in
      let seq : a.id.seq ≡ k = ap (λ (x : Event). x.id.seq) (sym is) ∙ numbered a.id.hart k a within in
      let low' : k < length own = omega (arith, seq, low) in
      let at : get_or own k a ≡ a = sym (get_or_append_left own g.0 a k low') ∙
      ap (λ (es : List Event). get_or es k a) (sym g.1) ∙ is in
      of_log a.id.hart old a (k, low', at)

  own-old : (a : Event) → Contains old a → named old a.id ≡ Some a
  own-old a c =
      let g = grows a.id.hart in
      let p : Event → Bool = λ x. same_id a.id x.id in
      let (b, found) = find-some p (of_hart a.id.hart old) a (of_own old a c) (same_id-refl a.id) in
      let later : named new a.id ≡ Some b = named-of_hart new a.id ∙ ap (find p) g.1 ∙
      find-append_some p (of_hart a.id.hart old) g.0 b found in
      named-of_hart old a.id ∙ found ∙ ap Some (same_Some b a (sym later ∙ known.own a (in-new a c)))

  filled-old : (i : Id) → i.seq < length (of_hart i.hart old) → (e : Event) × (named old i ≡ Some e)
  filled-old i low =
      let g = grows i.hart in
      let f = known.filled i (omega (
        arith,
        low,
        ap (λ (es : List Event). length es) g.1,
        length-append (of_hart i.hart old) g.0,
      )) in
      let is = named-is new i f.0 f.1 in
      let here : f.0.id.seq < length (of_hart f.0.id.hart old) =
      subst (λ (j : Id). j.seq < length (of_hart j.hart old)) is.1 low in
      (f.0, ap (named old) is.1 ∙ own-old f.0 (back f.0 is.0 here))

  written-old : (a : Event) → Contains old a → IsStore a → writer old a.word a.wrote ≡ Some a
  written-old a c s =
      let p : Event → Bool = λ x. is_store x.op && ((a.word == x.word) && (a.wrote == x.wrote)) in
      let whole : writer new a.word a.wrote ≡ Some a = known.written a (in-new a c) s in
      let positive : (a.wrote == 0) ≡ false = grind (arith, common_steps, none-some) in
      let (b, found) = find-some p old a c (wrote-own a s) in
      let first : writer old a.word a.wrote ≡ Some b = writer-above old a.word a.wrote positive ∙ found in
      let is = writer-is old a.word a.wrote b first in
      let again : writer new a.word a.wrote ≡ Some b =
      ap (λ (w : ℕ). writer new w a.wrote) is.word ∙ ap (writer new b.word) is.version ∙
      known.written b (in-new b is.of_log) is.store in
      first ∙ sym again ∙ whole

  -- the log is indexed too
  pub indexed-beginning : IndexedWithin limit old
  indexed-beginning = record {
    own = own-old;
    below = below-old;
    filled = filled-old;
    written = written-old;
    harts = λ a c. known.harts a (in-new a c);
    few = λ h. let g = grows h in let most = known.few h in
        omega (arith, most, ap (λ (es : List Event). length es) g.1, length-append (of_hart h old) g.0);
  }
