-- The rows of all harts of a log.
use Rattle.std.proofs.Common.{ℕ, ◌≡◌, ◌<◌, [], List, arith, get_or, inl, inr, length, set, subst, sym}
use Rattle.std.proofs.Common.{Option}
use Rattle.std.proofs.lemmas.Bool.{cases_eq}
use Rattle.std.proofs.lemmas.List.{get_or-set_other, get_or-set_same}
use Rattle.rv_event.specs.declared.event.Event.{Event}
use Rattle.rv_log.specs.declared.record.Performed.{Performed}
use Rattle.rv_log.specs.declared.record.Retired.{Retired}
use Rattle.rv_values.specs.declared.issues.Issued.{Issued}
use Rattle.rv_commits.specs.Owns.{AreOwns}
use Rattle.rv_commits.specs.Whole.{RowsAreWhole}
use Rattle.rv_commits.specs.declared.queue.WaitingHart.{WaitingHart}
use Rattle.rv_logrows.specs.Harts.{AreNew, Gives, IsChanged, IsGivenBy, IsRetiredBy, Retires}
use Rattle.rv_logrows.specs.Whole.{AreWholeHarts, HasOneMore, IsWholeHart}

-- what holds of the hart that changed and of the others holds of all
pub all-hold : (Holds : ℕ → WaitingHart → Type 0) (Changes : WaitingHart → WaitingHart → Type 0) (k : ℕ)
    (old new : List WaitingHart) → length old ≡ 16 → IsChanged Changes k old new →
    ((after : WaitingHart) → Changes (get_or old k after) after → Holds k after) →
    ((n : ℕ) (d : WaitingHart) → n < 16 → (n ≡ k → ⊥) → Holds n (get_or old n d)) →
    (n : ℕ) (d : WaitingHart) → n < 16 → Holds n (get_or new n d)
all-hold Holds Changes k old new many is hart others n d low =
    subst (λ (harts : List WaitingHart). Holds n (get_or harts n d)) (sym is.is) (elim (cases_eq k n) [
      | inl same ↦ (
          let below = is.below in
          subst (λ (m : ℕ). Holds m (get_or (set old k is.hart) m d)) same
          (subst (Holds k) (sym (get_or-set_same old k is.hart d (omega (below, many, arith))))
          (hart is.hart is.changes)))
      | inr apart ↦ subst (Holds n) (sym (get_or-set_other old k n is.hart d (λ same. apart (sym same))))
          (others n d low (λ same. apart (sym same)))
    ])

-- new harts
pub begun : RowsAreWhole → (issued : List Issued) (performed : List Performed) (harts : List WaitingHart) →
    AreNew 16 harts → AreWholeHarts issued performed (λ n. []) (λ n. []) harts
begun law issued performed harts are n d low = let new = are n d low in record {
  owns = new.owns;
  whole = (law issued performed).0 (get_or harts n d) new.trace new.queue;
}

module _ (law : RowsAreWhole) {issued : List Issued} {performed : List Performed} {done : ℕ → List Retired}
    {given : ℕ → List Event} {old new : List WaitingHart} (many : length old ≡ 16)
    (whole : AreWholeHarts issued performed done given old) where
  -- an instruction
  pub retired : (r : Retired) (word_number log_row : ℕ) (more : ℕ → List Retired) →
      IsRetiredBy r word_number log_row old new → HasOneMore r.hart r done more →
      AreWholeHarts issued performed more given new
  retired r word_number log_row more is one = all-hold
      (λ n h. IsWholeHart issued performed (more n) (given n) h) (Retires r word_number log_row) r.hart old new many is
      (λ after changes.
      let before = get_or old r.hart after in
      let old-whole = whole r.hart after is.below in
      let taken = changes.1 (done r.hart) old-whole.owns in
      subst (λ (rs : List Retired). IsWholeHart issued performed rs (given r.hart) after) (sym one.more) (record {
        owns = taken.owns;
        whole = ((law issued performed).1 (done r.hart) (given r.hart) before after old-whole.whole).0 r word_number
            log_row changes.0 taken;
      }))
      (λ n d low apart. subst (λ (rs : List Retired). IsWholeHart issued performed rs (given n) (get_or old n d))
      (sym (one.same n apart)) (whole n d low))

  -- a row
  pub given-one : (initial : Option ℕ) (n : ℕ) (event : Event) (more : ℕ → List Event) →
      IsGivenBy issued performed initial n old new event → HasOneMore n event given more →
      AreWholeHarts issued performed done more new
  given-one initial k event more is one = all-hold
      (λ n h. IsWholeHart issued performed (done n) (more n) h) (Gives issued performed initial event) k old new many is
      (λ after changes.
      let before = get_or old k after in
      let old-whole = whole k after is.below in
      subst (λ (es : List Event). IsWholeHart issued performed (done k) es after) (sym one.more) (record {
        owns = subst (AreOwns (done k)) (sym changes.2) old-whole.owns;
        whole = ((law issued performed).1 (done k) (given k) before after old-whole.whole).1 initial event changes.1
            changes.0;
      }))
      (λ n d low apart. subst (λ (es : List Event). IsWholeHart issued performed (done n) es (get_or old n d))
      (sym (one.same n apart)) (whole n d low))
