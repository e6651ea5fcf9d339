-- What is shown, one entry and one column more.
use Rattle.std.proofs.lemmas.Grind.{common_steps}
use Rattle.std.proofs.Common.{◌≡◌, ◌∷◌, ◌++◌, ◌+◌, ◌<◌, ◌≤◌, [], ℕ, zero, suc, List, inl, inr, length, get_or}
use Rattle.std.proofs.Common.{All, AllPairs, Any, Contains, sym, subst, refl, arith, ◌==◌, eq-eqb}
use Rattle.std.proofs.lemmas.Bool.{cases_lt}
use Rattle.std.proofs.lemmas.List.Elements.{All-contains, All-append, Contains-append_left, Contains-append_right}
use Rattle.rv_event.proofs.Growing.{Any-contains, Any-from_contains}
use Rattle.rv_event.proofs.Merged.{Contains-filter}
use Rattle.rv_event.proofs.Names.{Contains-here}
use Rattle.rv_event.proofs.Scans.{event-at}
use Rattle.rv_event.proofs.Indexed.{indexed_from_WellFormed}
use Rattle.rv_event.specs.WellFormed.{WellFormed}
use Rattle.rv_event.specs.declared.event.Entry.{Entry}
use Rattle.rv_event.specs.declared.event.Id.{Id}
use Rattle.rv_explain.specs.RowTexts.{Said}
use Rattle.rv_explain.specs.Showing.{AreColumns, AreShown, IsColumn, IsShown, of_hart}
use Rattle.rv_explain.specs.declared.shown.Column.{Column}
use Rattle.rv_explain.specs.declared.shown.Shown.{Shown}

-- one more for which something holds
pub All-push : {X : Type 0} (P : X → Type 0) (xs : List X) (x : X) → All P xs → P x → All P (xs ++ x ∷ [])
All-push P xs x all last = All-append P xs (x ∷ []) all one
  where
    one : All P (x ∷ [])
    one zero d low = last
    one (suc k) d low = absurd (omega (low, arith))

-- one more behind all others
pub AllPairs-push : {X : Type 0} (R : X → X → Type 0) (xs : List X) (x : X) → AllPairs R xs → All (λ y. R y x) xs →
    AllPairs R (xs ++ x ∷ [])
AllPairs-push R xs x pairs all i j d less low = grind (arith, common_steps)

-- and one that is among them
pub Any-push : {X : Type 0} (P : X → Type 0) (xs : List X) (x : X) → Any P xs → Any P (xs ++ x ∷ [])
Any-push P xs x any =
    let found = Any-contains P xs any in
    Any-from_contains P (xs ++ x ∷ []) found.0 (Contains-append_left xs (x ∷ []) found.0 found.1) found.2

pub Any-last : {X : Type 0} (P : X → Type 0) (xs : List X) (x : X) → P x → Any P (xs ++ x ∷ [])
Any-last P xs x holds =
    Any-from_contains P (xs ++ x ∷ []) x (Contains-append_right xs (x ∷ []) x (Contains-here x [] x refl)) holds

-- ---- entries
-- just the entries before a place with these ids
pub record AreShownBefore (log : List Entry) (texts : Said) (ids : List Id) (place : ℕ)
    (shown : List Shown) : Type 0 where
  pub each : All (λ s. IsShown log texts s × Contains ids s.entry.now.event.id) shown
  pub all :
      (k : ℕ) (x : Entry) → k < place → k < length log → get_or log k x ≡ x → Contains ids x.event.id →
      Any (λ s. s.place ≡ k) shown
  pub before : All (λ s. s.place < place) shown
  pub ordered : AllPairs (λ s t. s.place < t.place) shown

-- the entry at the place is one of them
pub shown-more : (log : List Entry) (texts : Said) (ids : List Id) (place : ℕ) (shown : List Shown) (s : Shown) →
    AreShownBefore log texts ids place shown → s.place ≡ place → IsShown log texts s →
    Contains ids s.entry.now.event.id →
    AreShownBefore log texts ids (place + 1) (shown ++ s ∷ [])
shown-more log texts ids place shown s are at is among = record {
  each = All-push (λ t. IsShown log texts t × Contains ids t.entry.now.event.id) shown s are.each (is, among);
  all = λ k x low inside same has. elim (cases_lt k place) [
    | inl early ↦ Any-push (λ t. t.place ≡ k) shown s (are.all k x early inside same has)
    | inr late ↦ Any-last (λ t. t.place ≡ k) shown s (omega (low, late, at, arith))
  ];
  before = All-push (λ t. t.place < place + 1) shown s
      (λ k d low. let early = are.before k d low in omega (early, arith)) (omega (at, arith));
  ordered = AllPairs-push (λ t u. t.place < u.place) shown s are.ordered
      (λ k d low. let early = are.before k d low in omega (early, at, arith));
}

-- or it is none
pub shown-kept : (log : List Entry) (texts : Said) (ids : List Id) (place : ℕ) (shown : List Shown) (x : Entry) →
    AreShownBefore log texts ids place shown → get_or log place x ≡ x → (Contains ids x.event.id → ⊥) →
    AreShownBefore log texts ids (place + 1) shown
shown-kept log texts ids place shown x are at not = record {
  each = are.each;
  all = λ k y low inside same has. elim (cases_lt k place) [
    | inl early ↦ are.all k y early inside same has
    | inr late ↦ absurd (not (subst (λ (e : Entry). Contains ids e.event.id) (here k y low late inside same) has))
  ];
  before = λ k d low. let early = are.before k d low in omega (early, arith);
  ordered = are.ordered;
}
  where
    here : (k : ℕ) (y : Entry) → k < place + 1 → place ≤ k → k < length log → get_or log k y ≡ y → y ≡ x
    here k y low late inside same =
        let e : k ≡ place = omega (low, late, arith) in
        grind (arith, common_steps)

-- at the end they are all
pub shown-all : (log : List Entry) (texts : Said) (ids : List Id) (place : ℕ) (shown : List Shown) →
    (place < length log → ⊥) → AreShownBefore log texts ids place shown → AreShown log texts ids shown
shown-all log texts ids place shown end are = record {
  each = are.each;
  all = λ k x low same has. are.all k x (omega (end, low, arith)) low same has;
  ordered = are.ordered;
}

-- ---- columns
-- those of the harts below a number
pub record AreColumnsBelow (shown : List Shown) (hart : ℕ) (columns : List Column) : Type 0 where
  pub each : All (IsColumn shown) columns
  pub all :
      (s : Shown) → Contains shown s → s.entry.now.event.id.hart < hart →
      Any (λ c. c.hart ≡ s.entry.now.event.id.hart) columns
  pub below : All (λ c. c.hart < hart) columns
  pub ordered : AllPairs (λ c d. c.hart < d.hart) columns

-- a column for the next hart
pub column-more : (shown : List Shown) (hart : ℕ) (columns : List Column) (c : Column) →
    AreColumnsBelow shown hart columns → c.hart ≡ hart → IsColumn shown c →
    AreColumnsBelow shown (hart + 1) (columns ++ c ∷ [])
column-more shown hart columns c are at is = record {
  each = All-push (IsColumn shown) columns c are.each is;
  all = λ s cs low. elim (cases_lt s.entry.now.event.id.hart hart) [
    | inl early ↦ Any-push (λ d. d.hart ≡ s.entry.now.event.id.hart) columns c (are.all s cs early)
    | inr late ↦ Any-last (λ d. d.hart ≡ s.entry.now.event.id.hart) columns c (omega (low, late, at, arith))
  ];
  below = All-push (λ d. d.hart < hart + 1) columns c
      (λ k d low. let early = are.below k d low in omega (early, arith)) (omega (at, arith));
  ordered = AllPairs-push (λ d e. d.hart < e.hart) columns c are.ordered
      (λ k d low. let early = are.below k d low in omega (early, at, arith));
}

-- or none, where nothing of it is shown
pub column-none : (shown : List Shown) (hart : ℕ) (columns : List Column) → AreColumnsBelow shown hart columns →
    length (of_hart hart shown) ≡ 0 → AreColumnsBelow shown (hart + 1) columns
column-none shown hart columns are empty = record {
  each = are.each;
  all = λ s cs low. elim (cases_lt s.entry.now.event.id.hart hart) [
    | inl early ↦ are.all s cs early
    | inr late ↦ absurd (not s cs (omega (low, late, arith)))
  ];
  below = λ k d low. let early = are.below k d low in omega (early, arith);
  ordered = are.ordered;
}
  where
    not : (s : Shown) → Contains shown s → s.entry.now.event.id.hart ≡ hart → ⊥
    not s cs is =
        let in-hart : Contains (of_hart hart shown) s =
        Contains-filter (λ t. hart == t.entry.now.event.id.hart) shown s cs (eq-eqb hart s.entry.now.event.id.hart
        (sym is)) in
        let some = in-hart.1 in
        omega (empty, some, arith)

-- at sixteen they are all
pub columns-all : (shown : List Shown) (columns : List Column) (hart : ℕ) → (hart < 16 → ⊥) →
    ((s : Shown) → Contains shown s → s.entry.now.event.id.hart < 16) →
    AreColumnsBelow shown hart columns → AreColumns shown columns
columns-all shown columns hart end few are = record {
  each = are.each;
  all = λ s cs. are.all s cs (let low = few s cs in omega (low, end, arith));
  ordered = are.ordered;
}

-- what is shown of a well formed log is of one of sixteen harts
pub shown-hart : (log evidence : List Entry) (texts : Said) (ids : List Id) (shown all : List Shown) →
    WellFormed evidence → log ≡ evidence → all ≡ shown → AreShown log texts ids shown → (s : Shown) → Contains all s →
    s.entry.now.event.id.hart < 16
shown-hart log evidence texts ids shown all ok same whole are s cs =
    let at = (All-contains (λ t. IsShown log texts t × Contains ids t.entry.now.event.id) shown s are.each
    (subst (λ (l : List Shown). Contains l s) whole cs)).0 in
    (indexed_from_WellFormed log (subst WellFormed (sym same) ok)).harts s.entry.now.event
    (event-at log s.place at.inside s.entry.now (sym at.entry))
