-- Harts at the places of their numbers.
use Rattle.std.proofs.Common.{ℕ, ◌≡◌, ◌∙◌, ◌+◌, ◌<◌, ◌++◌, ◌∷◌, [], List, arith, get_or, inl, inr, length, refl}
use Rattle.std.proofs.Common.{◌≤◌, IfErr, IfOk, IfSome, Option, Some, None, Result, Ok, Err, set, subst, sym}
use Rattle.std.proofs.lemmas.Bool.{cases_eq, cases_lt}
use Rattle.std.proofs.lemmas.List.{get_or_append_left, get_or_default, get_or_push, get_or-set_other}
use Rattle.std.proofs.lemmas.List.{get_or-set_same, length_push}
use Rattle.std.proofs.lemmas.List.{length-set}
use Rattle.rv_commits.specs.declared.queue.WaitingHart.{WaitingHart}
use Rattle.rv_logrows.specs.Harts.{AreHarts, AreNew, IsChanged, IsHart, IsNew}

-- none
pub no-harts : AreHarts 0 []
no-harts = record { many = refl; each = λ n d low. absurd (omega (low, arith)) }

-- the next new one
pub one-more-new : (count : ℕ) (harts : List WaitingHart) (h : WaitingHart) → length harts ≡ count →
    AreNew count harts → IsNew h → AreNew (count + 1) (harts ++ h ∷ [])
one-more-new count harts h many are is n d low = elim (cases_lt n (length harts)) [
  | inl first ↦ subst IsNew (sym (get_or_append_left harts (h ∷ []) d n first))
      (are n d (omega (first, many, arith)))
  | inr past ↦ subst IsNew (sym (get_or_push harts h d n (omega (low, past, many, arith)))) is
]

module _ (count : ℕ) (harts : List WaitingHart) (are : AreHarts count harts) where
  -- the next one
  pub one-more : (h : WaitingHart) → IsHart count h → AreHarts (count + 1) (harts ++ h ∷ [])
  one-more h is = record {
    many = (let long = length_push harts h in let many = are.many in omega (long, many, arith));
    each = λ n d low. elim (cases_lt n (length harts)) [
      | inl first ↦ (
          let many = are.many in
          subst (IsHart n) (sym (get_or_append_left harts (h ∷ []) d n first))
          (are.each n d (omega (first, many, arith))))
      | inr past ↦ (
          let many = are.many in
          let at : n ≡ length harts = omega (low, past, many, arith) in
          subst (IsHart n) (sym (get_or_push harts h d n (sym at)))
          (subst (λ (k : ℕ). IsHart k h) (sym (at ∙ many)) is))
    ];
  }

  -- one in place of another
  pub one-else : (k : ℕ) (h : WaitingHart) → k < count → IsHart k h → AreHarts count (set harts k h)
  one-else k h inside is = record {
    many = length-set harts k h ∙ are.many;
    each = λ n d low. elim (cases_eq k n) [
      | inl same ↦ (
          let many = are.many in
          subst (λ (m : ℕ). IsHart m (get_or (set harts k h) m d)) same
          (subst (IsHart k) (sym (get_or-set_same harts k h d (omega (inside, many, arith)))) is))
      | inr apart ↦ subst (IsHart n) (sym (get_or-set_other harts k n h d (λ same. apart (sym same))))
          (are.each n d low)
    ];
  }

-- the hart at a place, whatever stands where there is none
pub hart-at : (harts : List WaitingHart) (n : ℕ) (h d : WaitingHart) → AreHarts 16 harts → n ≤ 15 →
    h ≡ get_or harts n h → h ≡ get_or harts n d
hart-at harts n h d are upto at =
    let many = are.many in at ∙ get_or_default harts n h d (omega (upto, many, arith))

-- a change of one hart is one of all
pub one-changed : (Changes : WaitingHart → WaitingHart → Type 0) (harts : List WaitingHart) (n : ℕ)
    (before after : WaitingHart) → AreHarts 16 harts → n ≤ 15 → before ≡ get_or harts n before → Changes before after →
    IsChanged Changes n harts (set harts n after)
one-changed Changes harts n before after are upto at changes = record {
  below = omega (upto, arith);
  hart = after;
  is = refl;
  changes = subst (λ (h : WaitingHart). Changes h after) (hart-at harts n before after are upto at) changes;
}

-- what is so of each row that is given, by what is so of it
pub given-map : {X E : Type 0} (P Q : X → Type 0) → ((x : X) → P x → Q x) → (r : Result (Option X) E) →
    IfOk r (λ found. IfSome found P) → IfOk r (λ found. IfSome found Q)
given-map P Q to (Ok (Some x)) is = to x is
given-map P Q to (Ok None) is = tt
given-map P Q to (Err e) is = tt

pub err-map : {X E : Type 0} (P Q : E → Type 0) → ((e : E) → P e → Q e) → (r : Result X E) → IfErr r P → IfErr r Q
err-map P Q to (Ok x) is = tt
err-map P Q to (Err e) is = to e is
