-- The records of a log, as there come more.
use Rattle.std.proofs.Common.{ℕ, ◌≡◌, ◌∙◌, ◌++◌, ◌∷◌, ◌<◌, ◌+◌, ◌-◌, ◌≤◌, [], List, Contains}
use Rattle.std.proofs.Common.{Bool, true, false, Option, Some, None}
use Rattle.std.proofs.Common.{ap, append-nil, arith, cond, get_or, inl, inr, length, refl, set, subst, sym}
use Rattle.std.proofs.lemmas.Bool.{cases_eq, cases_lt, false≢true}
use Rattle.std.proofs.lemmas.List.{get_or_past, get_or-set_other, get_or-set_same, length-set}
use Rattle.std.proofs.lemmas.List.Elements.{Contains-append_left, Contains-append_right, Contains-push_cases}
use Rattle.std.proofs.lemmas.List.Elements.{Contains-push}
use Rattle.std.specs.Option.{is_some}
use Rattle.rv_log.specs.declared.record.Performed.{Performed}
use Rattle.rv_log.specs.declared.record.Retired.{Retired}
use Rattle.rv_memory.specs.Stores.{HasIssuer, IsEffectOf}
use Rattle.rv_memory.specs.declared.stores.Effect.{Effect}
use Rattle.rv_values.specs.Issues.{IsOf}
use Rattle.rv_values.specs.Memory.{IsMemory}
use Rattle.rv_values.specs.declared.issues.Issued.{Issued}
use Rattle.rv_values.specs.declared.memory.Memory.{Memory}
use Rattle.rv_commits.specs.Owns.{does_store}
use Rattle.rv_logrows.specs.Log.{IsInstructionRefused, IsIssueRefused, IsLog, IsPast, IsUnretired}
use Rattle.rv_logrows.specs.Log.{IsUnstored}
use Rattle.rv_logrows.specs.Log.{issue_of, issues, retired_of}
use Rattle.rv_logrows.specs.declared.fault.LogFault.{LogFault}
use Rattle.rv_logrows.specs.declared.fault.LogFault.TheVariants as fault
use Rattle.rv_logrows.specs.declared.log.LogRows.{LogRows}

-- an instruction that makes a store
pub stored : (issued : List Issued) (performed : List Performed) (m : Memory) (r : Retired) → does_store r ≡ true →
    IsMemory (issued ++ issue_of r ∷ []) performed m →
    IsMemory (issued ++ issues r) performed m × IsUnstored performed r
stored issued performed m r stores is = (
  subst (λ (b : Bool). IsMemory (issued ++ cond b (issue_of r ∷ []) []) performed m) (sym stores) is,
  λ none. absurd (false≢true (sym none ∙ stores)),
)

-- and one that makes none
pub unstored : (issued : List Issued) (performed : List Performed) (m : Memory) (r : Retired) → does_store r ≡ false →
    ((p : Performed) → Contains performed p → HasIssuer r.hart r.order p → ⊥) → IsMemory issued performed m →
    IsMemory (issued ++ issues r) performed m × IsUnstored performed r
unstored issued performed m r stores none is = (
  subst (λ (b : Bool). IsMemory (issued ++ cond b (issue_of r ∷ []) []) performed m) (sym stores)
      (subst (λ (l : List Issued). IsMemory l performed m) (sym (append-nil issued)) is),
  λ _. none,
)

-- an instruction whose store took effect, and one whose did not
pub some-effect : (performed : List Performed) (hart order : ℕ) (o : Option Effect) →
    IsEffectOf performed hart order o → is_some o ≡ true →
    (p : Performed) × Contains performed p × HasIssuer hart order p
some-effect performed hart order (Some effect) is some = (
  is.store,
  subst (λ (l : List Performed). Contains l is.store) (sym is.is)
      (Contains-append_right is.before (is.store ∷ is.after) is.store (0, omega arith, refl)),
  is.issuer,
)
some-effect performed hart order None is some = absurd (false≢true some)

pub none-effect : (performed : List Performed) (hart order : ℕ) (o : Option Effect) →
    IsEffectOf performed hart order o → is_some o ≡ false → (p : Performed) → Contains performed p →
    HasIssuer hart order p → ⊥
none-effect performed hart order (Some effect) is none = absurd (false≢true (sym none))
none-effect performed hart order None is none = is

-- no stores took effect
pub none-past : (past : List ℕ) → length past ≡ 16 → ((hart : ℕ) → get_or past hart 0 ≡ 0) → IsPast [] past
none-past past many zero = record {
  many = many;
  harts = λ p cp. (let low = cp.1 in absurd (omega (low, arith)));
  below = λ p cp. (let low = cp.1 in absurd (omega (low, arith)));
  highest = λ hart. inl (zero hart);
}

module _ (performed : List Performed) (past : List ℕ) (is : IsPast performed past) (p : Performed) (hart : p.hart ≤ 15)
  where
    some-hart : (q : Performed) → Contains (performed ++ p ∷ []) q → q.hart ≤ 15
    some-hart q cq = elim (Contains-push_cases performed p q cq) [
      | inl old ↦ is.harts q old
      | inr at ↦ subst (λ (x : Performed). x.hart ≤ 15) at hart
    ]

    -- a store more, of an order that is not the hart's highest
    pub past-still : p.order + 1 ≤ get_or past p.hart 0 → IsPast (performed ++ p ∷ []) past
    past-still upto = record {
      many = is.many;
      harts = some-hart;
      below = λ q cq. elim (Contains-push_cases performed p q cq) [
        | inl old ↦ is.below q old
        | inr at ↦ subst (λ (x : Performed). x.order < get_or past x.hart 0) at (omega (upto, arith))
      ];
      highest = λ h. elim (is.highest h) [
        | inl zero ↦ inl zero
        | inr found ↦ inr (found.0, Contains-append_left performed (p ∷ []) found.0 found.1, found.2, found.3)
      ];
    }

    -- and one of the highest
    pub past-more : get_or past p.hart 0 < p.order + 1 → IsPast (performed ++ p ∷ []) (set past p.hart (p.order + 1))
    past-more low = record {
      many = length-set past p.hart (p.order + 1) ∙ is.many;
      harts = some-hart;
      below = λ q cq. elim (Contains-push_cases performed p q cq) [
        | inl old ↦ (let before = is.below q old in elim (cases_eq q.hart p.hart) [
          | inl same ↦ subst (λ (h : ℕ). q.order < get_or (set past p.hart (p.order + 1)) h 0) (sym same)
              (subst (λ (n : ℕ). q.order < n) (sym here)
              (let below = subst (λ (h : ℕ). q.order < get_or past h 0) same before in omega (below, low, arith)))
          | inr other ↦ subst (λ (n : ℕ). q.order < n)
              (sym (get_or-set_other past p.hart q.hart (p.order + 1) 0 other)) before
        ])
        | inr at ↦ subst (λ (x : Performed). x.order < get_or (set past p.hart (p.order + 1)) x.hart 0) at
            (subst (λ (n : ℕ). p.order < n) (sym here) (omega arith))
      ];
      highest = λ h. elim (cases_eq h p.hart) [
        | inl same ↦ inr (
          p,
          Contains-push performed p,
          sym same,
          sym (ap (λ (k : ℕ). get_or (set past p.hart (p.order + 1)) k 0) same ∙ here),
        )
        | inr other ↦ (
            let still = get_or-set_other past p.hart h (p.order + 1) 0 other in
            elim (is.highest h) [
              | inl zero ↦ inl (still ∙ zero)
              | inr found ↦ inr (
                found.0,
                Contains-append_left performed (p ∷ []) found.0 found.1,
                found.2,
                found.3 ∙ sym still,
              )
            ])
      ];
    }
      where
        here : get_or (set past p.hart (p.order + 1)) p.hart 0 ≡ p.order + 1
        here = get_or-set_same past p.hart (p.order + 1) 0 (let many = is.many in omega (hart, many, arith))

module _ (issued : List Issued) (performed : List Performed) (s : LogRows) (log : IsLog issued performed s) where
  -- a store more took effect
  pub performed-log : (p : Performed) (new : LogRows) → IsMemory issued (performed ++ p ∷ []) new.memory →
      new.before.retired ≡ s.before.retired →
      (p.order < retired_of s p.hart → (i : Issued) × Contains issued i × IsOf p.hart p.order i) →
      IsPast (performed ++ p ∷ []) new.past → IsLog issued (performed ++ p ∷ []) new
  performed-log p new memory same own past = record {
    past = past;
    memory = memory;
    matched = λ q cq low. elim (Contains-push_cases performed p q cq) [
      | inl old ↦ log.matched q old (before q low)
      | inr at ↦ subst (λ (x : Performed). (i : Issued) × Contains issued i × IsOf x.hart x.order i) at
          (own (subst (λ (x : Performed). x.order < retired_of s x.hart) (sym at) (before q low)))
    ];
  }
    where
      before : (q : Performed) → q.order < retired_of new q.hart → q.order < retired_of s q.hart
      before q low = subst (λ (l : List ℕ). q.order < get_or l q.hart 0) same low

  -- an instruction more retired
  module _ (r : Retired) (new : LogRows) (next : r.order ≡ retired_of s r.hart)
      (retired : new.before.retired ≡ set s.before.retired r.hart (r.order + 1))
      (memory : IsMemory (issued ++ issues r) performed new.memory) (unstored : IsUnstored performed r)
      (past : new.past ≡ s.past) where
    -- an order below the hart's new count
    upto : (n : ℕ) → n < get_or (set s.before.retired r.hart (r.order + 1)) r.hart 0 → n < r.order + 1
    upto n low = elim (cases_lt r.hart (length s.before.retired)) [
      | inl inside ↦ subst (λ (k : ℕ). n < k) (get_or-set_same s.before.retired r.hart (r.order + 1) 0 inside) low
      | inr past ↦ (
          let long = length-set s.before.retired r.hart (r.order + 1) in
          let none = get_or_past (set s.before.retired r.hart (r.order + 1)) r.hart 0 (omega (past, long, arith)) in
          absurd (omega (low, none, arith)))
    ]

    -- of another hart, or an earlier one
    earlier : (p : Performed) → p.order < retired_of new p.hart → (HasIssuer r.hart r.order p → ⊥) →
        p.order < retired_of s p.hart
    earlier p low apart = elim (cases_eq p.hart r.hart) [
      | inl same ↦ (
          let here : p.order < r.order + 1 = upto p.order
          (subst (λ (h : ℕ). p.order < get_or (set s.before.retired r.hart (r.order + 1)) h 0) same
          (subst (λ (l : List ℕ). p.order < get_or l p.hart 0) retired low)) in
          subst (λ (h : ℕ). p.order < retired_of s h) (sym same) (elim (cases_eq p.order r.order) [
            | inl at ↦ absurd (apart (same, at))
            | inr other ↦ omega (here, other, next, arith)
          ]))
      | inr other ↦ subst (λ (n : ℕ). p.order < n)
          (get_or-set_other s.before.retired r.hart p.hart (r.order + 1) 0 other)
          (subst (λ (l : List ℕ). p.order < get_or l p.hart 0) retired low)
    ]

    -- the store that took effect before its instruction retired
    own : (b : Bool) → does_store r ≡ b → (p : Performed) → Contains performed p → HasIssuer r.hart r.order p →
        (i : Issued) × Contains (issued ++ issues r) i × IsOf p.hart p.order i
    own false stores p cp by = absurd (unstored stores p cp by)
    own true stores p cp by = (
      issue_of r,
      subst (λ (b : Bool). Contains (issued ++ cond b (issue_of r ∷ []) []) (issue_of r)) (sym stores)
          (Contains-push issued (issue_of r)),
      (sym by.0, sym by.1),
    )

    pub retired-log : IsLog (issued ++ issues r) performed new
    retired-log = record {
      memory = memory;
      past = subst (IsPast performed) (sym past) log.past;
      matched = λ p cp low. elim (cases_eq p.hart r.hart) [
        | inl same ↦ elim (cases_eq p.order r.order) [
          | inl at ↦ own (does_store r) refl p cp (same, at)
          | inr other ↦ old p cp low (λ by. other by.1)
        ]
        | inr other ↦ old p cp low (λ by. other by.0)
      ];
    }
      where
        old : (p : Performed) → Contains performed p → p.order < retired_of new p.hart →
            (HasIssuer r.hart r.order p → ⊥) →
            (i : Issued) × Contains (issued ++ issues r) i × IsOf p.hart p.order i
        old p cp low apart =
            let found = log.matched p cp (earlier p low apart) in
            (found.0, Contains-append_left issued (issues r) found.0 found.1, found.2)

-- why an instruction is refused for its store is why it is refused
pub refused-for : (issued : List Issued) (performed : List Performed) (r : Retired) (s : LogRows) (f : LogFault) →
    IsIssueRefused issued performed r f → IsInstructionRefused issued performed r s f
refused-for issued performed r s (fault.Differs m) is = is
refused-for issued performed r s fault.Stored is = is
refused-for issued performed r s fault.NoSuchStore is = is
refused-for issued performed r s fault.RetiredTwice is = is
refused-for issued performed r s fault.NoMemory is = is
refused-for issued performed r s (fault.Misaligned word) is = absurd is
refused-for issued performed r s (fault.MixedSizes word other) is = absurd is
refused-for issued performed r s (fault.Store f) is = absurd is
refused-for issued performed r s (fault.Order count) is = absurd is
refused-for issued performed r s fault.TooManyRows is = absurd is
refused-for issued performed r s fault.Hart is = absurd is
refused-for issued performed r s fault.Full is = absurd is

-- the highest store of a hart, where its instruction has not retired
pub past-unretired : (issued : List Issued) (performed : List Performed) (s : LogRows) → IsLog issued performed s →
    (hart : ℕ) → retired_of s hart < get_or s.past hart 0 →
    IsUnretired performed s (Some (record { hart = hart; order = get_or s.past hart 0 - 1 }))
past-unretired issued performed s log hart high = elim (log.past.highest hart) [
  | inl zero ↦ absurd (omega (zero, high, arith))
  | inr found ↦ (
      let at = found.3 in (
        found.0,
        found.1,
        (found.2, omega (at, arith)),
        subst (λ (h : ℕ). retired_of s h ≤ found.0.order) (sym found.2) (omega (at, high, arith)),
      ))
]

-- no store is one where none of the harts has one
pub past-retired : (issued : List Issued) (performed : List Performed) (s : LogRows) → IsLog issued performed s →
    ((hart : ℕ) → hart < 16 → get_or s.past hart 0 ≤ retired_of s hart) → IsUnretired performed s None
past-retired issued performed s log all = λ p cp.
    let few = log.past.harts p cp in
    let below = log.past.below p cp in
    let upto = all p.hart (omega (few, arith)) in
    omega (below, upto, arith)
