-- The versions of words by the values that they hold, store by store.
use Rattle.std.proofs.Common.{ℕ, ◌≡◌, ◌∙◌, ◌<◌, ◌++◌, ◌∷◌, ◌⊎◌, [], List, Contains, Option, Some, None, ap, arith}
use Rattle.std.proofs.Common.{Bool, eq-eqb, false, get_or, inl, inr, length, nat_eq, not, refl, subst, sym, take, true}
use Rattle.std.proofs.lemmas.Bool.{cases_eq, eqb-true, false≢true}
use Rattle.std.proofs.lemmas.List.{get_or_append_left, get_or_push, get_or-take, length_push, length-take}
use Rattle.std.proofs.lemmas.List.Elements.{Contains-append_left, Contains-append_right, Contains-push_cases}
use Rattle.rv_log.specs.declared.record.Performed.{Performed}
use Rattle.rv_values.proofs.Known.{told-one}
use Rattle.rv_values.proofs.Writers.{the-one}
use Rattle.std.specs.Option.{option_eq}
use Rattle.rv_memory.specs.Stores.{same_issuer as same_key}
use Rattle.rv_values.proofs.Single.{key-apart}
use Rattle.rv_values.specs.Index.{AreVersions, IsFound, IsJust}
use Rattle.rv_values.specs.Issues.{AreSingle, IsOf}
use Rattle.rv_values.specs.Values.{Holds, IsWritten}
use Rattle.rv_values.specs.declared.index.Found.{Found}
use Rattle.rv_values.specs.declared.index.Found.TheVariants.{One, Several}
use Rattle.rv_values.specs.declared.index.Written.{Written}
use Rattle.rv_values.specs.declared.issues.Issued.{Issued}

-- the same is found where the same versions have it
pub found-same : (Has Other : ℕ → Type 0) → ((v : ℕ) → Has v → Other v) → ((v : ℕ) → Other v → Has v) →
    (o : Option Found) → IsFound Has o → IsFound Other o
found-same Has Other to from (Some (One v)) is = (to v is.0, λ u other. is.1 u (from u other))
found-same Has Other to from (Some Several) is = (is.0, is.1, to is.0 is.2, to is.1 is.3, is.4)
found-same Has Other to from None is = λ u other. is u (from u other)

-- what an instruction's store wrote, it wrote in each list that has it
moved : (from to : List Issued) (performed : List Performed) (address version value : ℕ)
    (w : IsWritten from performed address version value) → Contains to w.made.instruction →
    IsWritten to performed address version value
moved from to performed address version value w retired = record {
  made = record {
    effect = w.made.effect;
    told = w.made.told;
    instruction = w.made.instruction;
    retired = retired;
    one = w.made.one;
  };
  number = w.number;
  shown = w.shown;
  is = w.is;
}

module _ (before : List Issued) (i : Issued) (performed : List Performed) (single : AreSingle (before ++ i ∷ [])) where
  abbrev all : List Issued
  all = before ++ i ∷ []

  -- what is written is written by one of those before, or by the new one
  either : (address version value : ℕ) → IsWritten all performed address version value →
      IsWritten before performed address version value ⊎ IsWritten (i ∷ []) performed address version value
  either address version value w = elim (Contains-push_cases before i w.made.instruction w.made.retired) [
    | inl old ↦ inl (moved all before performed address version value w old)
    | inr new ↦ inr (moved all (i ∷ []) performed address version value w (0, omega arith, new))
  ]

  old-written : (address version value : ℕ) → IsWritten before performed address version value →
      IsWritten all performed address version value
  old-written address version value w = moved before all performed address version value w
      (Contains-append_left before (i ∷ []) w.made.instruction w.made.retired)

  new-written : (address version value : ℕ) → IsWritten (i ∷ []) performed address version value →
      IsWritten all performed address version value
  new-written address version value w = moved (i ∷ []) all performed address version value w
      (Contains-append_right before (i ∷ []) w.made.instruction w.made.retired)

  -- the new one is of another instruction
  is-new : (j : Issued) → Contains before j → IsOf i.hart i.order j → ⊥
  is-new j cj of =
      let long = length_push before i in
      single cj.0 (length before) j cj.1 (omega (long, arith))
      (subst (λ (x : Issued). IsOf x.hart x.order (get_or all cj.0 j))
      (sym (get_or_push before i j (length before) refl))
      (subst (IsOf i.hart i.order) (sym (get_or_append_left before (i ∷ []) j cj.0 cj.1 ∙ cj.2)) of))

  -- so it made another version
  apart : (address version value other : ℕ) → IsWritten before performed address version value →
      IsWritten (i ∷ []) performed address version other → ⊥
  apart address version value other old new =
      let same = told-one performed address version old.made.effect new.made.effect old.made.told new.made.told in
      let is = the-one i new.made.instruction new.made.retired in
      is-new old.made.instruction old.made.retired (
        old.made.one.0 ∙ ap (λ (p : Performed). p.hart) same ∙ sym new.made.one.0 ∙ ap (λ (x : Issued). x.hart) is,
        old.made.one.1 ∙ ap (λ (p : Performed). p.order) same ∙ sym new.made.one.1 ∙ ap (λ (x : Issued). x.order) is,
      )

  -- nothing more is written
  pub found-still : ((address version value : ℕ) → IsWritten (i ∷ []) performed address version value → ⊥) →
      (address value : ℕ) (o : Option Found) → IsFound (λ v. IsWritten before performed address v value) o →
      IsFound (λ v. IsWritten all performed address v value) o
  found-still none address value o is = found-same (λ v. IsWritten before performed address v value)
      (λ v. IsWritten all performed address v value) (λ v. old-written address v value) (λ v w.
      elim (either address v value w) [
        | inl old ↦ old
        | inr new ↦ absurd (none address v value new)
      ]) o is

  module _ (w : Written) (just : IsJust performed i w) where
    -- with another value, or of another word
    pub found-other : (address value : ℕ) → ((w.address ≡ address) × (w.value ≡ value) → ⊥) → (o : Option Found) →
        IsFound (λ v. IsWritten before performed address v value) o →
        IsFound (λ v. IsWritten all performed address v value) o
    found-other address value differ o is = found-same (λ v. IsWritten before performed address v value)
        (λ v. IsWritten all performed address v value) (λ v. old-written address v value) (λ v x.
        elim (either address v value x) [
          | inl old ↦ old
          | inr new ↦ (let at = just.just address v value new in absurd (differ (sym at.0, sym at.2)))
        ]) o is

    -- the first version with the value
    pub found-first : IsFound (λ v. IsWritten before performed w.address v w.value) None →
        IsFound (λ v. IsWritten all performed w.address v w.value) (Some (One w.version))
    found-first none = (
      new-written w.address w.version w.value just.written,
      λ u x. elim (either w.address u w.value x) [
        | inl old ↦ absurd (none u old)
        | inr new ↦ (just.just w.address u w.value new).1
      ],
    )

    -- and one of several
    pub found-more : (f : Found) → IsFound (λ v. IsWritten before performed w.address v w.value) (Some f) →
        IsFound (λ v. IsWritten all performed w.address v w.value) (Some Several)
    found-more (One v) is = (
      v,
      w.version,
      old-written w.address v w.value is.0,
      new-written w.address w.version w.value just.written,
      λ same. apart w.address w.version w.value w.value
          (subst (λ (u : ℕ). IsWritten before performed w.address u w.value) same is.0) just.written,
    )
    found-more Several is = (
      is.0,
      is.1,
      old-written w.address is.0 w.value is.2,
      old-written w.address is.1 w.value is.3,
      is.4,
    )

-- version 0 holds another value, or an unknown one
pub found-written : (issued : List Issued) (performed : List Performed) (address value : ℕ) (initial : Option ℕ) →
    (initial ≡ Some value → ⊥) → (o : Option Found) →
    IsFound (λ v. IsWritten issued performed address v value) o →
    IsFound (λ v. Holds issued performed address v initial value) o
found-written issued performed address value initial differ =
    found-same (λ v. IsWritten issued performed address v value)
    (λ v. Holds issued performed address v initial value) (λ v w. inr w) (λ v h. from v h)
  where
    from : (v : ℕ) → Holds issued performed address v initial value → IsWritten issued performed address v value
    from v (inl zero) = absurd (differ zero.1)
    from v (inr w) = w

module _ (issued : List Issued) (performed : List Performed) (address value : ℕ) (initial : Option ℕ)
    (same : initial ≡ Some value) where
  -- version 0 alone holds it
  pub found-initial : IsFound (λ v. IsWritten issued performed address v value) None →
      IsFound (λ v. Holds issued performed address v initial value) (Some (One 0))
  found-initial none = (inl (refl, same), only)
    where
      only : (u : ℕ) → Holds issued performed address u initial value → u ≡ 0
      only u (inl zero) = zero.0
      only u (inr w) = absurd (none u w)

  -- and another one too
  pub found-both : (f : Found) → IsFound (λ v. IsWritten issued performed address v value) (Some f) →
      IsFound (λ v. Holds issued performed address v initial value) (Some Several)
  found-both (One v) is = (
    0,
    v,
    inl (refl, same),
    inr is.0,
    λ zero. let some = is.0.made.told.0 in
        omega (some, zero, arith),
  )
  found-both Several is = (is.0, is.1, inr is.2, inr is.3, is.4)

-- what the comparison of a value with another says
pub is-some : (o : Option ℕ) (n : ℕ) → not (option_eq nat_eq o (Some n)) ≡ false → o ≡ Some n
is-some None n same = absurd (false≢true (sym same))
is-some (Some m) n same = from (nat_eq m n) refl same
  where
    from : (b : Bool) → nat_eq m n ≡ b → not b ≡ false → Some m ≡ Some n
    from true is same' = ap Some (eqb-true m n is)
    from false is same' = absurd (false≢true (sym same'))

pub differs : (o : Option ℕ) (n : ℕ) → not (option_eq nat_eq o (Some n)) ≡ true → o ≡ Some n → ⊥
differs o n other same = false≢true (
    sym (ap (λ (b : Bool). not b) (ap (λ (x : Option ℕ). option_eq nat_eq x (Some n)) same ∙ eq-eqb n n refl)) ∙ other)

-- with what one store more wrote, each word and value has its versions
module _ (before : List Issued) (i : Issued) (performed : List Performed) (single : AreSingle (before ++ i ∷ []))
    (w : Written) (just : IsJust performed i w) (old new : ℕ × ℕ → Option Found)
    (are : AreVersions before performed old) (found : Found) (here : new (w.address, w.value) ≡ Some found)
    (is : IsFound (λ v. IsWritten (before ++ i ∷ []) performed w.address v w.value) (Some found))
    (others : (key : ℕ × ℕ) → same_key (w.address, w.value) key ≡ false → new key ≡ old key) where
  pub versions-more : AreVersions (before ++ i ∷ []) performed new
  versions-more address value = elim (cases_eq w.address address) [
    | inl first ↦ elim (cases_eq w.value value) [
      | inl second ↦ subst (λ (a : ℕ). IsFound (λ v. IsWritten (before ++ i ∷ []) performed a v value) (new (a, value)))
          first
          (subst (λ (n : ℕ). IsFound (λ v. IsWritten (before ++ i ∷ []) performed w.address v n) (new (w.address, n)))
          second
          (subst (IsFound (λ v. IsWritten (before ++ i ∷ []) performed w.address v w.value)) (sym here) is))
      | inr second ↦ other (λ same. second same.1)
    ]
    | inr first ↦ other (λ same. first same.0)
  ]
    where
      other : ((w.address ≡ address) × (w.value ≡ value) → ⊥) →
          IsFound (λ v. IsWritten (before ++ i ∷ []) performed address v value) (new (address, value))
      other differ = subst (IsFound (λ v. IsWritten (before ++ i ∷ []) performed address v value))
          (sym (others (address, value) (key-apart w.address w.value address value differ)))
          (found-other before i performed single w just address value differ (old (address, value)) (are address value))

-- each instruction of the first ones has one store too
pub single-take : (n : ℕ) (issued : List Issued) → AreSingle issued → AreSingle (take n issued)
single-take n issued single i j d low high =
    let short = length-take n issued in
    let below : (j < n) × (j < length issued) = omega (short, high, arith) in
    subst (λ (x : Issued). IsOf (get_or (take n issued) j d).hart (get_or (take n issued) j d).order x → ⊥)
    (sym (get_or-take n issued i d (let b = below.0 in omega (b, low, arith))))
    (subst (λ (x : Issued). IsOf x.hart x.order (get_or issued i d) → ⊥) (sym (get_or-take n issued j d below.0))
    (single i j d low below.1))
