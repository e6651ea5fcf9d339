-- What the look-ups among a word's accesses say of the versions next to one.
use Rattle.rv_versions.proofs.Common.{Contains, ◌≢◌, rules, ◌≡◌, ℕ, ◌+◌, ◌<◌, ◌≤◌, List, Option, Some, None, inl}
use Rattle.rv_versions.proofs.Common.{inr, refl, sym, ◌∙◌, arith, cases_lt, cases_eq, Event, AreOfWord, Accesses}
use Rattle.rv_versions.proofs.Common.{IsLower, IsFirstFrom, IsNearestBelow, IsNearestAbove, IsForeignBelow}
use Rattle.rv_versions.proofs.Common.{IsForeignLower, IsParted, Access}
use Rattle.rv_versions.proofs.Found.{one_store}

module _ (xs : List Access) (v n : ℕ) (same : v ≡ n) where
  -- the next lower access bounds what stands between
  pub below_some : (s : Access) → IsLower xs v (Some s) → IsNearestBelow xs n s.version
  below_some s h = let low : s.version < v = h.1 in record {
    none = λ x c l. h.2 x c (omega arith);
    some = λ l. (s, h.0, refl, omega arith);
  }

  -- without one nothing does
  pub below_none : IsLower xs v None → IsNearestBelow xs n 0
  below_none h = record {
    none = λ x c l. (let high : v ≤ x.version = h x c in absurd (omega arith));
    some = λ l. absurd (omega arith);
  }

  -- the next higher access that is not left aside
  pub above_some : (aside : Option ℕ) (t : Access) → IsFirstFrom xs (v + 1) aside (Some t) →
      IsNearestAbove xs aside n (t.version + 1)
  above_some aside t h = let high : v + 1 ≤ t.version = h.1 in record {
    nearest = λ x y cx cy low above other.
        let least : t.version ≤ y.version = h.3 y cy (omega arith) other in
        omega arith;
    some = λ y c above other. (t, h.0, omega arith, omega arith, h.2);
  }

  -- or there is none
  pub above_none : (aside : Option ℕ) → IsFirstFrom xs (v + 1) aside None → IsNearestAbove xs aside n 0
  above_none aside h = search rules

-- ---- a store of another hart, by the stores below it in turn

module _ (log : List Event) (word : ℕ) (a : Accesses) (of : AreOfWord log word a) (v hart bound : ℕ)
    (own : (x : Access) → Contains a.stores x → bound ≤ x.version → x.version < v → x.hart ≡ hart) where
  -- a store of the hart itself is passed
  pub own_passed : (s : Access) → IsLower a.stores bound (Some s) → s.hart ≡ hart → (x : Access) →
      Contains a.stores x → s.version ≤ x.version → x.version < v → x.hart ≡ hart
  own_passed s h mine x c over l = elim (cases_lt x.version bound) [
    | inl below ↦
        let upto : x.version ≤ s.version = h.2 x c below in
        one_store log word a of x s c h.0 (omega arith) ∙ mine
    | inr above ↦ own x c above l
  ]

  -- without a lower store all are the hart's
  pub none_foreign : IsLower a.stores bound None → IsForeignLower a.stores v hart None
  none_foreign h x c l = own x c (h x c) l

  -- another hart's is the highest
  pub foreign_found : (s : Access) → IsLower a.stores bound (Some s) → s.hart ≢ hart → bound ≤ v →
      IsForeignLower a.stores v hart (Some s)
  foreign_found s h other upto = let low : s.version < bound = h.1 in (
    (h.0, omega arith, other),
    λ x c l foreign. elim (cases_lt x.version bound) [
      | inl below ↦ h.2 x c below
      | inr above ↦ absurd (foreign (own x c above l))
    ],
  )

-- ---- below which version each SC is parted

-- else it, or the next lower store of another hart than its own
pub parted_by_either :
    (xs : List Access) (v n : ℕ) (first second sc : Access) → v ≡ n → IsLower xs v (Some first) →
    IsForeignBelow xs first.version first.hart second → sc.version < second.version → IsParted xs sc n
parted_by_either xs v n first second sc same h g under =
    let low : first.version < v = h.1 in
    let lower : second.version < first.version = g.1 in
    elim (cases_eq sc.hart first.hart) [
      | inl own ↦ (second, g.0, λ e. g.2 (e ∙ own), under, omega arith)
      | inr other ↦ (first, h.0, λ e. other (sym e), omega arith, omega arith)
    ]
