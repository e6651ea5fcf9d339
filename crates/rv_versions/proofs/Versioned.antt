-- Lists of accesses in the order of their versions.
use Rattle.rv_versions.proofs.Common.{◌≡◌, ◌≢◌, ℕ, ◌+◌, ◌-◌, ◌<◌, ◌≤◌, ◌↔◌, List, ◌∷◌, length, get_or, take, drop}
use Rattle.rv_versions.proofs.Common.{insert, remove, Contains, AllPairs, HoldsAt, Option, Some, None, ◌⊎◌, inl}
use Rattle.rv_versions.proofs.Common.{inr, refl, sym, ap, ◌∙◌, arith, subst, ltb, true, false, AllWithin}
use Rattle.rv_versions.proofs.Common.{IsPartitionPoint, IsNonDecreasingBy, cases_lt, cases_eq, take-append-drop}
use Rattle.rv_versions.proofs.Common.{get_or-take, get_or-drop, length-take, length-drop, length-insert}
use Rattle.rv_versions.proofs.Common.{get_or-insert_below, get_or-insert_at, get_or-insert_above, length-remove}
use Rattle.rv_versions.proofs.Common.{get_or-remove_below, get_or-remove_above, at_read, at_from_Contains}
use Rattle.rv_versions.proofs.Common.{Contains-get_or, Contains-append_left, Contains-append_right}
use Rattle.rv_versions.proofs.Common.{Contains-append_cases, same_Some, rules, common_steps, Contains-here}
use Rattle.rv_versions.proofs.Common.{Contains-there, StandsBefore, AreByVersion, IsStart, IsLower, IsFirstFrom}
use Rattle.rv_versions.proofs.Common.{IsInserted, IsRemoved, Access}

-- ---- any list

moved : {X : Type 0} (R : X → X → Type 0) (a a' b b' : X) → a ≡ a' → b ≡ b' → R a' b' → R a b
moved {X} R a a' b b' p q r = subst (λ (x : X). R x b) (sym p) (subst (λ (y : X). R a' y) (sym q) r)

-- what is put in at a place stands before what is behind it
pub all_pairs_insert :
    {X : Type 0} (R : X → X → Type 0) (xs : List X) (n : ℕ) (y : X) → n ≤ length xs → AllPairs R xs →
    ((k : ℕ) (d : X) → k < n → R (get_or xs k d) y) →
    ((k : ℕ) (d : X) → n ≤ k → k < length xs → R y (get_or xs k d)) → AllPairs R (insert xs n y)
all_pairs_insert {X} R xs n y le pairs before behind i j d low high = elim (cases_lt j n) [
  | inl jb ↦
      moved R _ (get_or xs i d) _ (get_or xs j d) (get_or-insert_below xs n y d i (omega arith) le)
      (get_or-insert_below xs n y d j jb le) (pairs i j d low (omega arith))
  | inr ja ↦ elim (cases_eq j n) [
    | inl at ↦ moved R _ (get_or xs i d) _ y (get_or-insert_below xs n y d i (omega arith) le)
        (ap (λ (k : ℕ). get_or (insert xs n y) k d) at ∙ get_or-insert_at xs n y d le) (before i d (omega arith))
    | inr other ↦
        let m : ℕ = j - 1 in
        let is : j ≡ m + 1 = omega arith in
        let size = length-insert xs n y le in
        let below : m < length xs = omega arith in
        let last : get_or (insert xs n y) j d ≡ get_or xs m d =
        grind (arith, common_steps, insert, get_or-insert_above) in
        elim (cases_lt i n) [
          | inl ib ↦
              moved R _ (get_or xs i d) _ (get_or xs m d) (get_or-insert_below xs n y d i ib le) last
              (pairs i m d (omega arith) below)
          | inr ia ↦ elim (cases_eq i n) [
            | inl at ↦
                moved R _ y _ (get_or xs m d) (ap (λ (k : ℕ). get_or (insert xs n y) k d) at ∙
                get_or-insert_at xs n y d le) last (behind m d (omega arith) below)
            | inr above ↦
                let o : ℕ = i - 1 in
                let same : i ≡ o + 1 = omega arith in
                moved R _ (get_or xs o d) _ (get_or xs m d) (ap (λ (k : ℕ). get_or (insert xs n y) k d) same ∙
                get_or-insert_above xs n y d o (omega arith) le) last (pairs o m d (omega arith) below)
          ]
        ]
  ]
]

-- ---- what was put in and taken out

-- the access was put in at a place
pub was_inserted : (xs : List Access) (n : ℕ) (a : Access) → IsInserted xs (Some a) (insert xs n a)
was_inserted xs n a x = (to, from)
  where
    to : Contains (insert xs n a) x → Contains xs x ⊎ (Some a ≡ Some x)
    to c = grind (arith, common_steps)

    from : Contains xs x ⊎ (Some a ≡ Some x) → Contains (insert xs n a) x
    from (inr e) = Contains-append_right (take n xs) (a ∷ drop n xs) x (Contains-here a (drop n xs) x (same_Some a x e))
    from (inl c) = elim (Contains-append_cases (take n xs) (drop n xs) x (subst (λ
        (l : List Access). Contains l x) (sym (take-append-drop n xs)) c)) [
          | inl front ↦ Contains-append_left (take n xs) (a ∷ drop n xs) x front
          | inr back ↦ Contains-append_right (take n xs) (a ∷ drop n xs) x (Contains-there a (drop n xs) x back)
        ]

module _ (xs : List Access) (ordered : AreByVersion xs) where
  -- of two accesses of the list, the earlier is not of a higher version
  pub rising : IsNonDecreasingBy (λ x. x.version) xs
  rising i j d le l = search (cases_lt, rules)

  apart : (i j : ℕ) (d : Access) → i < length xs → j < length xs → i ≢ j → get_or xs i d ≢ get_or xs j d
  apart i j d li lj other same = search (cases_lt, rules)

  -- and the order stays
  pub ordered_inserted : (a : Access) (n : ℕ) → n ≤ length xs → (Contains xs a → ⊥) →
      IsStart xs (a.version + 1) n → AreByVersion (insert xs n a)
  ordered_inserted a n le absent part = all_pairs_insert StandsBefore xs n a le ordered
      (λ k d l. let low : (get_or xs k d).version < a.version + 1 = part.0 k d (omega arith) l in (
        omega arith,
        λ e. absent (subst (Contains xs) e (Contains-get_or xs k d (omega arith))),
      ))
      (λ k d high l. let least : a.version + 1 ≤ (get_or xs k d).version = part.1 k d high l in (
        omega arith,
        λ e. absent (subst (Contains xs) (sym e) (Contains-get_or xs k d l)),
      ))

  -- the access at a place was taken out
  pub was_removed :
      (a : Access) (n : ℕ) → n < length xs → HoldsAt (λ x. x ≡ a) xs n → IsRemoved xs (Some a) (remove xs n)
  was_removed a n l at x = (to, from)
    where
      size : length (remove xs n) + 1 ≡ length xs
      size = length-remove xs n l

      other : (k : ℕ) → k < length xs → k ≢ n → get_or xs k x ≡ x → Some a ≢ Some x
      other k lk ne e same = apart k n x lk l ne (e ∙ sym (same_Some a x same) ∙ sym (at x))

      to : Contains (remove xs n) x → Contains xs x × (Some a ≢ Some x)
      to (k, lk, e) = elim (cases_lt k n) [
        | inl low ↦
            let is : get_or xs k x ≡ x = sym (get_or-remove_below xs n x k low l) ∙ e in
            ((k, omega (arith, size), is), other k (omega (arith, size)) (λ f. omega arith) is)
        | inr high ↦
            let is : get_or xs (k + 1) x ≡ x = sym (get_or-remove_above xs n x k high l) ∙ e in
            ((k + 1, omega (arith, size), is), other (k + 1) (omega (arith, size)) (λ f. omega arith) is)
      ]

      from : Contains xs x × (Some a ≢ Some x) → Contains (remove xs n) x
      from ((k, lk, e), ne) = elim (cases_lt k n) [
        | inl low ↦ (k, omega (arith, size), get_or-remove_below xs n x k low l ∙ e)
        | inr high ↦ elim (cases_eq k n) [
          | inl same ↦ absurd (ne (ap Some (sym (at x) ∙ ap (λ (m : ℕ). get_or xs m x) (sym same) ∙ e)))
          | inr above ↦
              let m : ℕ = k - 1 in
              let is : k ≡ m + 1 = omega arith in (
                m,
                omega (arith, size),
                get_or-remove_above xs n x m (omega arith) l ∙ ap (λ
                    (o : ℕ). get_or xs o x) (sym is) ∙ e,
              )
        ]
      ]

  -- those before an access of a lower version are of a lower version
  pub low_before : (v p : ℕ) (b : Access) → p < length xs → b ≡ get_or xs p b → b.version < v →
      AllWithin (λ x. x.version < v) xs 0 (p + 1)
  low_before v p b l is low k d from upto =
      let least : (get_or xs k d).version ≤ (get_or xs p d).version = rising k p d (omega arith) l in
      let same : (get_or xs p d).version ≡ b.version = grind (arith, common_steps) in
      omega arith

  -- the order stays behind a place
  pub ordered_behind : (n : ℕ) → AreByVersion (drop n xs)
  ordered_behind n i j d lt l =
      let size = length-drop n xs in
      moved StandsBefore _ _ _ _ (get_or-drop n xs i d) (get_or-drop n xs j d)
      (ordered (n + i) (n + j) d (omega arith) (omega arith))

  -- what is not from a place on, and of a higher version than what is before it
  pub absent_of :
      (a : Access) (p end : ℕ) (b : Access) → p < end → end ≤ length xs → IsStart xs (a.version + 1) end →
      AllWithin (λ x. x ≢ a) xs (p + 1) end → b ≡ get_or xs p b → b.version < a.version → Contains xs a → ⊥
  absent_of a p end b lt le part none is low (k, l, e) =
      let same : (get_or xs k a).version ≡ a.version = ap (λ (x : Access). x.version) e in
      elim (cases_lt k end) [
        | inr high ↦ (let least : a.version + 1 ≤ (get_or xs k a).version = part.1 k a high l in omega arith)
        | inl below ↦ elim (cases_lt k (p + 1)) [
          | inl before ↦
              (let lower : (get_or xs k a).version < a.version = low_before a.version p b (omega arith) is low k a
              (omega arith) before in omega arith)
          | inr from ↦ none k a from below e
        ]
      ]

-- ---- the start of a version

-- by a search
pub start_found : (ys xs : List Access) (v n : ℕ) → ys ≡ xs →
    IsPartitionPoint (λ x. ltb x.version v ≡ true) (λ x. ltb x.version v ≡ false) ys n → IsStart xs v n
start_found ys xs v n same part = grind (arith, common_steps)

-- behind a place before which all are of a lower version
pub start_behind : (xs : List Access) (v low n : ℕ) → low ≤ length xs → AllWithin (λ x. x.version < v) xs 0 low →
    IsStart (drop low xs) v n → IsStart xs v (low + n)
start_behind xs v low n within below part = (before, behind)
  where
    here : (k : ℕ) (d : Access) → low ≤ k → get_or (drop low xs) (k - low) d ≡ get_or xs k d
    here k d high = get_or-drop low xs (k - low) d ∙ ap (λ (i : ℕ). get_or xs i d) (omega arith)

    before : AllWithin (λ x. x.version < v) xs 0 (low + n)
    before k d from upto = elim (cases_lt k low) [
      | inl less ↦ below k d from less
      | inr high ↦ subst (λ (x : Access). x.version < v) (here k d high)
          (part.0 (k - low) d (omega arith) (omega arith))
    ]

    behind : AllWithin (λ x. v ≤ x.version) xs (low + n) (length xs)
    behind k d from upto =
        let size = length-drop low xs in
        subst (λ (x : Access). v ≤ x.version) (here k d (omega arith))
        (part.1 (k - low) d (omega arith) (omega arith))

-- ---- questions

module _ (xs : List Access) (v n : ℕ) (part : IsStart xs v n) where
  -- a place of the list, by what stands there
  is_here : (k : ℕ) (a : Access) → k < length xs → a ≡ get_or xs k a → HoldsAt (λ x. x ≡ a) xs k
  is_here k a l e = at_read xs (λ x. x ≡ a) k a l e refl

  -- an access at a place up to another one's
  up_to : AreByVersion xs → (a x : Access) (i j : ℕ) → i ≤ j → j < length xs → HoldsAt (λ y. y ≡ a) xs i →
      HoldsAt (λ y. y ≡ x) xs j → a.version ≤ x.version
  up_to ordered a x i j le l p q = search (rising, rules)

  low_at : (x : Access) (k : ℕ) → HoldsAt (λ y. y ≡ x) xs k → k < n → x.version < v
  low_at x k p l = subst (λ (y : Access). y.version < v) (p x) (part.0 k x (omega arith) l)

  high_at : (x : Access) (k : ℕ) → HoldsAt (λ y. y ≡ x) xs k → n ≤ k → k < length xs → v ≤ x.version
  high_at x k p h l = subst (λ (y : Access). v ≤ y.version) (p x) (part.1 k x h l)

  -- none is lower
  pub lower_none : n ≡ 0 → IsLower xs v None
  lower_none nil x of = grind (arith, common_steps)

  -- the one before the place is the highest below
  pub lower_some : AreByVersion xs → (k : ℕ) (a : Access) → k + 1 ≡ n → n ≤ length xs → a ≡ get_or xs k a →
      IsLower xs v (Some a)
  lower_some ordered k a is le e =
      let here = is_here k a (omega arith) e in (
        (k, omega arith, sym e),
        low_at a k here (omega arith),
        λ x of low.
            let c = at_from_Contains xs x of in
            elim (cases_lt c.0 n) [
              | inl below ↦ up_to ordered x a c.0 k (omega arith) (omega arith) c.2 here
              | inr above ↦ (let high = high_at x c.0 c.2 above c.1 in omega arith)
            ],
      )

  module _ (aside : Option ℕ) where
    own_at : (x : Access) (k end : ℕ) → AllWithin (λ y. aside ≡ Some y.hart) xs n end → HoldsAt (λ y. y ≡ x) xs k →
        n ≤ k → k < end → aside ≡ Some x.hart
    own_at x k end own p h l = subst (λ (y : Access). aside ≡ Some y.hart) (p x) (own k x h l)

    -- all from the version on are left aside
    pub first_none : (end : ℕ) → length xs ≤ end → AllWithin (λ y. aside ≡ Some y.hart) xs n end →
        IsFirstFrom xs v aside None
    first_none end le own x of high = grind (arith, common_steps)

    -- the first that is not
    pub first_some :
        AreByVersion xs → (k : ℕ) (a : Access) → n ≤ k → k < length xs → a ≡ get_or xs k a →
        AllWithin (λ y. aside ≡ Some y.hart) xs n k →
        aside ≢ Some a.hart → IsFirstFrom xs v aside (Some a)
    first_some ordered k a from l e own other =
        let here = is_here k a l e in (
          (k, l, sym e),
          high_at a k here from l,
          other,
          λ x of high foreign.
              let c = at_from_Contains xs x of in
              elim (cases_lt c.0 n) [
                | inl below ↦ (let low = low_at x c.0 c.2 below in absurd (omega arith))
                | inr above ↦ elim (cases_lt c.0 k) [
                  | inl before ↦ absurd (foreign (own_at x c.0 k own c.2 above before))
                  | inr behind ↦ up_to ordered a x k c.0 behind c.1 here c.2
                ]
              ],
        )

-- ---- a part of the list

-- those of the versions between
pub is_between : (xs : List Access) (from to start end : ℕ) → start ≤ end → end ≤ length xs →
    IsStart xs to end →
    AllWithin (λ x. x.version < from) xs 0 start → AllWithin (λ x. from ≤ x.version) xs start end → (x : Access) →
    Contains (take (end - start) (drop start xs)) x ↔ (Contains xs x × (from ≤ x.version) × (x.version < to))
is_between xs from to start end le size part under over x = (there, here)
  where
    long : length (take (end - start) (drop start xs)) ≡ end - start
    long = simp (length-take, length-drop) (omega arith)

    at : (k : ℕ) → k < end - start → get_or (take (end - start) (drop start xs)) k x ≡ get_or xs (start + k) x
    at k l = get_or-take (end - start) (drop start xs) k x l ∙ get_or-drop start xs k x

    there : Contains (take (end - start) (drop start xs)) x → Contains xs x × (from ≤ x.version) × (x.version < to)
    there (k, l, e) =
        let low : k < end - start = omega (arith, long) in
        let is : get_or xs (start + k) x ≡ x = sym (at k low) ∙ e in (
          (start + k, omega arith, is),
          subst (λ (y : Access). from ≤ y.version) is (over (start + k) x (omega arith) (omega arith)),
          subst (λ (y : Access). y.version < to) is (part.0 (start + k) x (omega arith) (omega arith)),
        )

    here : Contains xs x × (from ≤ x.version) × (x.version < to) → Contains (take (end - start) (drop start xs)) x
    here ((k, l, e), high, low) =
        let not_past : k < end = grind (arith, common_steps) in
        let not_before : start ≤ k = grind (arith, common_steps) in
        let m : ℕ = k - start in
        let is : start + m ≡ k = omega arith in
        (m, omega (arith, long), at m (omega arith) ∙ ap (λ (o : ℕ). get_or xs o x) is ∙ e)
