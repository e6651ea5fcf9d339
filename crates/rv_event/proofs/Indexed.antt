-- In a well formed log each event is the one that its id names, a hart's numbers have no gap, and
-- each store is the writer of its version.
use Rattle.rv_event.proofs.Common.{common_steps, rules, ◌≡◌, ℕ, ◌<◌, ◌≤◌, Bool, true, false, ◌&&◌, ◌==◌, cond}
use Rattle.rv_event.proofs.Common.{List, [], ◌∷◌, ◌++◌, length, Contains, find, Option, Some, None, ◌⊎◌, inl, inr}
use Rattle.rv_event.proofs.Common.{refl, sym, ◌∙◌, arith, eq-eqb, append_assoc, append-nil, subst, and_from}
use Rattle.rv_event.proofs.Common.{cases_eq, none-some, Contains-push_cases, find-append, is_store, IsStore}
use Rattle.rv_event.proofs.Common.{same_id, named, of_hart, writer, events, lowest, expected}
use Rattle.rv_event.proofs.Common.{first_faults_within, source_fault, deps_fault, taken_fault, event_fault}
use Rattle.rv_event.proofs.Common.{WellFormed, WellFormedWithin, Id, Event, Entry, Fault, map-append}
use Rattle.rv_event.proofs.Names.{same_id-refl, named-is}

-- what the laws use of an event without a fault, where a hart may have so many events
pub record SoundWithin (limit : ℕ) (log : List Event) (e : Event) : Type 0 where
  pub seq : e.id.seq ≡ expected log e
  pub positive : IsStore e → (e.wrote == 0) ≡ false
  pub fresh : IsStore e → writer log e.word e.wrote ≡ None
  pub hart : e.id.hart < 16
  pub room : expected log e < limit

-- the same, where it may have 4,096
abbrev pub Sound : List Event → Event → Type 0
Sound log e = SoundWithin 4096 log e

-- the events of a log are told apart by their ids, and its stores by their versions
pub record IndexedWithin (limit : ℕ) (log : List Event) : Type 0 where
  -- an event is the one that its id names
  pub own : (a : Event) → Contains log a → named log a.id ≡ Some a
  -- a hart's numbers are below the count of its events, and each of those is an event's
  pub below : (a : Event) → Contains log a → a.id.seq < length (of_hart a.id.hart log)
  pub filled : (i : Id) → i.seq < length (of_hart i.hart log) → (e : Event) × (named log i ≡ Some e)
  -- a store is the writer of its version
  pub written : (a : Event) → Contains log a → IsStore a → writer log a.word a.wrote ≡ Some a
  -- sixteen harts, each with no more than it has room for
  pub harts : (a : Event) → Contains log a → a.id.hart < 16
  pub few : (hart : ℕ) → length (of_hart hart log) ≤ limit

-- the same, where each has room for 4,096
abbrev pub Indexed : List Event → Type 0
Indexed log = IndexedWithin 4096 log

-- the empty log is indexed
pub indexed-nil : {limit : ℕ} → IndexedWithin limit []
indexed-nil = grind (arith, common_steps)

-- what was found stays found, and what was not is found in the rest
pub find-append_some : {X : Type 0} (p : X → Bool) (xs ys : List X) (x : X) → find p xs ≡ Some x →
    find p (xs ++ ys) ≡ Some x
find-append_some p xs ys x e = rw (find-append p xs ys, e)

-- what is not found in front is looked for behind
pub find-append_none : {X : Type 0} (p : X → Bool) (xs ys : List X) → find p xs ≡ None → find p (xs ++ ys) ≡ find p ys
find-append_none p xs ys e = rw (find-append p xs ys, e)

find-one : {X : Type 0} (p : X → Bool) (x : X) → p x ≡ true → find p (x ∷ []) ≡ Some x
find-one p x e = rw e

count-other : (hart : ℕ) (log : List Event) (e : Event) → (hart ≡ e.id.hart → ⊥) →
    length (of_hart hart (log ++ e ∷ [])) ≡ length (of_hart hart log)
count-other hart log e other = grind (arith, common_steps)

-- a writer is sought only for a version above 0
pub writer-above : (log : List Event) (word version : ℕ) → (version == 0) ≡ false → writer log word version ≡ find
    (λ e. is_store e.op && ((word == e.word) && (version == e.wrote))) log
writer-above log word version e = rw e

writer-append : (log more : List Event) (word version : ℕ) (w : Event) → writer log word version ≡ Some w →
    writer (log ++ more) word version ≡ Some w
writer-append log more word version w e = search (cond, find, none-some, find-append_some, rules)

-- the store passes the test for the writer of its version
pub wrote-own : (e : Event) → IsStore e → (is_store e.op && ((e.word == e.word) && (e.wrote == e.wrote))) ≡ true
wrote-own e s = and_from _ _ s (and_from _ _ (eq-eqb e.word e.word refl) (eq-eqb e.wrote e.wrote refl))

module _ {limit : ℕ} (log : List Event) (e : Event) (known : IndexedWithin limit log) (sound : SoundWithin limit log e)
  where
    own_new : named (log ++ e ∷ []) e.id ≡ Some e
    own_new = grind (arith, common_steps, find-append_none, find-one, same_id-refl, named-is)

    own' : (a : Event) → Contains (log ++ e ∷ []) a → named (log ++ e ∷ []) a.id ≡ Some a
    own' a c = go (Contains-push_cases log e a c)
      where
        go : Contains log a ⊎ (e ≡ a) → named (log ++ e ∷ []) a.id ≡ Some a
        go (inl old) = find-append_some (λ (x : Event). same_id a.id x.id) log (e ∷ []) a (known.own a old)
        go (inr is) = subst (λ (x : Event). named (log ++ e ∷ []) x.id ≡ Some x) is own_new

    below' : (a : Event) → Contains (log ++ e ∷ []) a → a.id.seq < length (of_hart a.id.hart (log ++ e ∷ []))
    below' a c = grind (arith, common_steps)

    filled' : (i : Id) → i.seq < length (of_hart i.hart (log ++ e ∷ [])) → (a : Event) ×
        (named (log ++ e ∷ []) i ≡ Some a)
    filled' i l = go (cases_eq i.hart e.id.hart)
      where
        old : i.seq < length (of_hart i.hart log) → (a : Event) × (named (log ++ e ∷ []) i ≡ Some a)
        old low = let f = known.filled i low in
            (f.0, find-append_some (λ (x : Event). same_id i x.id) log (e ∷ []) f.0 f.1)

        at_own : i.hart ≡ e.id.hart → (i.seq < length (of_hart i.hart log)) ⊎ (i.seq ≡ e.id.seq) → (a : Event) ×
            (named (log ++ e ∷ []) i ≡ Some a)
        at_own h (inl low) = old low
        at_own h (inr same) = let is : e.id ≡ i = grind arith in
            (e, subst (λ (j : Id). named (log ++ e ∷ []) j ≡ Some e) is own_new)

        reached : i.hart ≡ e.id.hart → (i.seq < length (of_hart i.hart log)) ⊎ (i.seq ≡ e.id.seq)
        reached h = grind (arith, common_steps)

        go : (i.hart ≡ e.id.hart) ⊎ (i.hart ≡ e.id.hart → ⊥) → (a : Event) × (named (log ++ e ∷ []) i ≡ Some a)
        go (inl h) = at_own h (reached h)
        go (inr h) = old (rw (count-other i.hart log e h) at l)

    written' : (a : Event) → Contains (log ++ e ∷ []) a → IsStore a → writer (log ++ e ∷ []) a.word a.wrote ≡ Some a
    written' a c s = go (Contains-push_cases log e a c)
      where
        new : IsStore e → writer (log ++ e ∷ []) e.word e.wrote ≡ Some e
        new t =
            let p : Event → Bool = λ x. is_store x.op && ((e.word == x.word) && (e.wrote == x.wrote)) in
            let none : find p log ≡ None = sym (writer-above log e.word e.wrote (sound.positive t)) ∙ sound.fresh t in
            writer-above (log ++ e ∷ []) e.word e.wrote (sound.positive t) ∙ find-append_none p log (e ∷ []) none ∙
            find-one p e (wrote-own e t)

        go : Contains log a ⊎ (e ≡ a) → writer (log ++ e ∷ []) a.word a.wrote ≡ Some a
        go (inl old) = writer-append log (e ∷ []) a.word a.wrote a (known.written a old s)
        go (inr is) = subst (λ (x : Event). IsStore x → writer (log ++ e ∷ []) x.word x.wrote ≡ Some x) is new s

    harts' : (a : Event) → Contains (log ++ e ∷ []) a → a.id.hart < 16
    harts' a c = go (Contains-push_cases log e a c)
      where
        go : Contains log a ⊎ (e ≡ a) → a.id.hart < 16
        go (inl old) = known.harts a old
        go (inr is) = subst (λ (x : Event). x.id.hart < 16) is sound.hart

    few' : (hart : ℕ) → length (of_hart hart (log ++ e ∷ [])) ≤ limit
    few' hart = grind (arith, common_steps)

    -- a log stays indexed with an event that has no fault
    pub indexed-push : IndexedWithin limit (log ++ e ∷ [])
    indexed-push =
        record { own = own'; below = below'; filled = filled'; written = written'; harts = harts'; few = few' }

-- each event is sound over those before it
abbrev pub AllSoundWithin : ℕ → List Event → List Event → Type 0
AllSoundWithin limit before [] = Unit {0}
AllSoundWithin limit before (e ∷ rest) = SoundWithin limit before e × AllSoundWithin limit (before ++ e ∷ []) rest

-- the same, where a hart may have 4,096 events
abbrev pub AllSound : List Event → List Event → Type 0
AllSound before rest = AllSoundWithin 4096 before rest

-- and with one such event after the other
pub indexed-all : {limit : ℕ} (before rest : List Event) → IndexedWithin limit before →
    AllSoundWithin limit before rest → IndexedWithin limit (before ++ rest)
indexed-all {limit} before [] known all = rw append-nil known
indexed-all {limit} before (e ∷ rest) known all =
    let more : IndexedWithin limit ((before ++ e ∷ []) ++ rest) =
    indexed-all (before ++ e ∷ []) rest (indexed-push before e known all.0) all.1 in
    subst (IndexedWithin limit) (append_assoc before (e ∷ []) rest) more

-- none of them is a fault
abbrev pub NoneOf : List (Option Fault) → Type 0
NoneOf [] = Unit {0}
NoneOf (f ∷ rest) = (f ≡ None) × NoneOf rest

-- where there is no lowest fault there is none
pub lowest-none : (faults : List (Option Fault)) → lowest faults ≡ None → NoneOf faults
lowest-none [] e = tt
lowest-none (None ∷ rest) e = (refl, lowest-none rest e)
lowest-none (Some f ∷ rest) e = absurd (none-some f (sym e))

-- and the other way round
pub none-lowest : (faults : List (Option Fault)) → NoneOf faults → lowest faults ≡ None
none-lowest [] e = refl
none-lowest (None ∷ rest) e = none-lowest rest e.1
none-lowest (Some f ∷ rest) e = absurd (none-some f (sym e.0))

-- the first fault of two lists
pub lowest-append_some : (xs ys : List (Option Fault)) (f : Fault) → Some f ≡ lowest xs → Some f ≡ lowest (xs ++ ys)
lowest-append_some [] ys f e = absurd (none-some f (sym e))
lowest-append_some (Some g ∷ xs) ys f e = e
lowest-append_some (None ∷ xs) ys f e = lowest-append_some xs ys f e

-- a version that is not taken has no writer
pub not_taken : (log : List Event) (e : Event) → taken_fault log e ≡ None → IsStore e → writer log e.word e.wrote ≡ None
not_taken log e none s = grind (arith, common_steps)

-- an event without the first faults is sound
pub sound_from_none : {limit : ℕ} (log : List Event) (e : Event) (more : List (Option Fault)) →
    lowest (first_faults_within limit log e ++ more) ≡ None → SoundWithin limit log e
sound_from_none {limit} log e more none = grind (arith, common_steps)

-- an event without a fault over events
pub sound_of : (log : List Event) (e : Event) → event_fault log e ≡ None → Sound log e
sound_of log e none = sound_from_none log e (deps_fault e ∷ []) none

-- each event of a well formed log is sound over those before it
pub all_sound : (limit : ℕ) (log before rest : List Entry) → WellFormedWithin limit log → log ≡ before ++ rest →
    AllSoundWithin limit (events before) (events rest)
all_sound limit log before [] ok e = tt
all_sound limit log before (x ∷ rest) ok e =
    let again : AllSoundWithin limit (events (before ++ x ∷ [])) (events rest) =
    all_sound limit log (before ++ x ∷ []) rest ok (e ∙ sym (append_assoc before (x ∷ []) rest)) in (
      sound_from_none (events before) x.event (source_fault before x ∷ deps_fault x.event ∷ []) (ok before rest x e),
      subst (λ (seen : List Event). AllSoundWithin limit seen (events rest))
          (map-append (λ (y : Entry). y.event) before (x ∷ [])) again,
    )

-- a well formed log is indexed, however many events a hart may have
pub indexed_within : (limit : ℕ) (log : List Entry) → WellFormedWithin limit log → IndexedWithin limit (events log)
indexed_within limit log ok = indexed-all [] (events log) indexed-nil (all_sound limit log [] log ok refl)

-- and so where it may have 4,096
pub indexed_from_WellFormed : (log : List Entry) → WellFormed log → Indexed (events log)
indexed_from_WellFormed log ok = indexed_within 4096 log ok
