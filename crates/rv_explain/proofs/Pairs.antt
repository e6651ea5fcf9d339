-- The last LR, SC or failed SC before an SC, and the pair that it makes.
use Rattle.std.proofs.Common.{◌≡◌, ◌∙◌, ◌∷◌, ◌++◌, ◌<◌, ◌≤◌, ◌⊎◌, [], ℕ, Bool, true, false, List, Option, Some, None}
use Rattle.std.proofs.Common.{slice_index_or, zero, suc}
use Rattle.std.proofs.Common.{All, Any, Contains, IsTrue, IsFalse, inl, inr, sym, ap, subst, refl, arith}
use Rattle.std.proofs.lemmas.Bool.{cases_lt, false≢true}
use Rattle.std.proofs.lemmas.List.Elements.{All-contains, All-append, Contains-append_right, Contains-append_left}
use Rattle.rv_event.proofs.Names.{Contains-here}
use Rattle.rv_event.proofs.Growing.{Any-contains, Any-from_contains}
use Rattle.rv_event.specs.Log.{Between, Earlier}
use Rattle.rv_event.specs.Operations.{is_exclusive}
use Rattle.rv_event.specs.Relations.{Paired}
use Rattle.rv_event.specs.declared.event.Event.{Event}
use Rattle.rv_event.specs.declared.event.Op.TheVariants.{Lr, Sc}
use Rattle.rv_explain.specs.Latest.{IsAbove, IsExclusiveBefore, IsLatest}

is-false : (b : Bool) → (IsTrue b → ⊥) → IsFalse b
is-false true not = absurd (not refl)
is-false false not = refl

-- none stands between an LR that is the last and the SC
none-between : (log : List Event) (lr sc : Event) → IsLatest log sc (Some lr.id.seq) →
    All (λ m. Between lr m sc → IsFalse (is_exclusive m.op)) log
none-between log lr sc is k d low between =
    let m = slice_index_or log k d in
    is-false (is_exclusive m.op) (λ yes.
    let bound = is.1 k d low (record { exclusive = yes; earlier = between.before }) in
    let after = between.after.seq in
    omega (bound, after, arith))

-- an LR is paired with the SC where it is the last
pub pair-from : (log : List Event) (lr sc : Event) (latest : Option ℕ) → IsLatest log sc latest →
    lr.op ≡ Lr → sc.op ≡ Sc → Earlier lr sc → latest ≡ Some lr.id.seq → Paired log lr sc
pair-from log lr sc latest is is_lr is_sc earlier last = record {
  is_lr = is_lr;
  is_sc = is_sc;
  earlier = earlier;
  none_between = none-between log lr sc (subst (λ (l : Option ℕ). IsLatest log sc l) last is);
}

lr-exclusive : (lr : Event) → lr.op ≡ Lr → IsTrue (is_exclusive lr.op)
lr-exclusive lr is = rw is refl

-- and only there
pub pair-latest : (log : List Event) (lr sc : Event) (latest : Option ℕ) → IsLatest log sc latest → Contains log lr →
    Paired log lr sc → latest ≡ Some lr.id.seq
pair-latest log lr sc None is cl paired = absurd (All-contains (λ m. IsExclusiveBefore sc m → ⊥) log lr is cl
    (record { exclusive = lr-exclusive lr paired.is_lr; earlier = paired.earlier }))
pair-latest log lr sc (Some n) is cl paired = ap Some (same (cases_lt lr.id.seq n))
  where
    before : IsExclusiveBefore sc lr
    before = record { exclusive = lr-exclusive lr paired.is_lr; earlier = paired.earlier }

    bound : lr.id.seq ≤ n
    bound = All-contains (λ m. IsExclusiveBefore sc m → m.id.seq ≤ n) log lr is.1 cl before

    -- one that is later than the LR would stand between
    clash : lr.id.seq < n → (m : Event) → Contains log m → IsExclusiveBefore sc m → m.id.seq ≡ n → ⊥
    clash high m cm ex number =
        let between : Between lr m sc = record {
          after = record { hart = paired.earlier.hart ∙ sym ex.earlier.hart; seq = omega (high, number, arith) };
          before = ex.earlier;
        } in
        let not = All-contains (λ e. Between lr e sc → IsFalse (is_exclusive e.op)) log m paired.none_between cm
        between in
        false≢true (sym not ∙ ex.exclusive)

    same : (lr.id.seq < n) ⊎ (n ≤ lr.id.seq) → n ≡ lr.id.seq
    same (inr low) = omega (low, bound, arith)
    same (inl high) =
        let found = Any-contains (λ m. IsExclusiveBefore sc m × (m.id.seq ≡ n)) log is.0 in
        absurd (clash high found.0 found.1 found.2.0 found.2.1)

-- ---- one event more
-- one that holds of no event more
All-snoc : (P : Event → Type 0) (log : List Event) (e : Event) → All P log → P e → All P (log ++ e ∷ [])
All-snoc P log e all last = All-append P log (e ∷ []) all (λ k d low. one k d low)
  where
    one : (k : ℕ) (d : Event) → k < 1 → P (slice_index_or (e ∷ []) k d)
    one zero d low = last
    one (suc k) d low = absurd (omega (low, arith))

-- an event that comes earlier than the last, or is none, changes nothing
pub latest-kept : (log : List Event) (sc e : Event) (latest : Option ℕ) → IsLatest log sc latest →
    (IsExclusiveBefore sc e → IsAbove latest e.id.seq → ⊥) → IsLatest (log ++ e ∷ []) sc latest
latest-kept log sc e None is not = All-snoc (λ m. IsExclusiveBefore sc m → ⊥) log e is (λ ex. not ex tt)
latest-kept log sc e (Some n) is not = (
  any-more is.0,
  All-snoc (λ m. IsExclusiveBefore sc m → m.id.seq ≤ n) log e is.1 (λ ex. below (cases_lt n e.id.seq) ex),
)
  where
    P : Event → Type 0
    P = λ m. IsExclusiveBefore sc m × (m.id.seq ≡ n)

    any-more : Any P log → Any P (log ++ e ∷ [])
    any-more any =
        let found = Any-contains P log any in
        Any-from_contains P (log ++ e ∷ []) found.0 (Contains-append_left log (e ∷ []) found.0 found.1) found.2

    below : (n < e.id.seq) ⊎ (e.id.seq ≤ n) → IsExclusiveBefore sc e → e.id.seq ≤ n
    below (inl high) ex = absurd (not ex high)
    below (inr low) ex = low

-- and one that comes later is the last
pub latest-taken : (log : List Event) (sc e : Event) (latest : Option ℕ) → IsLatest log sc latest →
    IsExclusiveBefore sc e → IsAbove latest e.id.seq → IsLatest (log ++ e ∷ []) sc (Some e.id.seq)
latest-taken log sc e latest is ex above = (
  Any-from_contains (λ m. IsExclusiveBefore sc m × (m.id.seq ≡ e.id.seq)) (log ++ e ∷ []) e
      (Contains-append_right log (e ∷ []) e (Contains-here e [] e refl)) (ex, refl),
  All-snoc (λ m. IsExclusiveBefore sc m → m.id.seq ≤ e.id.seq) log e (before latest is above) (λ same. omega arith),
)
  where
    before : (latest : Option ℕ) → IsLatest log sc latest → IsAbove latest e.id.seq →
        All (λ m. IsExclusiveBefore sc m → m.id.seq ≤ e.id.seq) log
    before None is above k d low ex' = absurd (is k d low ex')
    before (Some n) is above k d low ex' = let bound = is.1 k d low ex' in omega (bound, above, arith)
