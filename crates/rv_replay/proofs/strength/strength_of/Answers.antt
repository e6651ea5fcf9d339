-- Each chosen load is put back in the log, and counted where that is refused.
use Rattle.rv_replay.proofs.Common.{◌≡◌, ◌≤◌, ◌<◌, ◌+◌, ◌++◌, ◌∷◌, ◌∙◌, [], ℕ, List, ap, arith, get_or, length, subst}
use Rattle.rv_replay.proofs.Common.{sym, take, Entry, IsConsistent, MemoryModel}
use Rattle.std.proofs.Common.{map}
use Rattle.std.proofs.lemmas.List.{map_more}
use Rattle.rv_event.proofs.Bounded.{length-WellFormed}
use Rattle.rv_replay.specs.Strengths.{AreRefused, chosen, put_back_at}
use Rattle.rv_replay.proofs.Strengths.{AreRefused-allowed, AreRefused-refused, chosen-low}
use Rattle.rv_replay.proofs.strength.strength_of.Goals.{then-not-branch, else-not-branch}
use Rattle.rv_replay.proofs.strength.strength_of.Goals as goal

-- a well formed log is short
pub choose-requires : goal.choose-requires
choose-requires c =
    subst (λ (l : List Entry). length l ≤ 65536) (sym c.log-log.ensures.value)
    (length-WellFormed c.args.book.now.log c.log-log.ensures.well_formed)

-- the chosen places of the book's log
module _ (c : goal.After-row_known-1) where
  all : c.as_slice-place-items.result.now ≡ chosen c.args.book.now.log
  all = c.as_slice-place-items.ensures.value ∙ c.in_ok-chosen.ensures ∙ ap chosen c.log-log.ensures.value

  low : c.places.place-index < length (chosen c.args.book.now.log)
  low = subst (λ (ns : List ℕ). c.places.place-index < length ns) all c.places-test.true

pub allows_older-requires : goal.allows_older-requires
allows_older-requires c =
    subst (λ (ns : List ℕ). get_or ns c.places.place-index 0 < length c.places.changed) (sym (all c))
    (subst (λ (l : List Entry). get_or (chosen c.args.book.now.log) c.places.place-index 0 < length l)
    (sym c.places.invariant.0) (chosen-low c.args.book.now.log c.places.place-index 0 (low c)))

pub places-preserved : goal.places-preserved
places-preserved c =
    let log = c.args.book.now.log in
    let model = c.args.book.now.model in
    let places = c.as_slice-place-items.result.now in
    let one : List Entry = put_back_at log log (get_or places c.places.place-index 0) in
    let before : List (List Entry) = map (put_back_at log log) (take c.places.place-index places) in
    let more : map (put_back_at log log) (take (c.places.place-index + 1) places) ≡ before ++ one ∷ [] =
    map_more (put_back_at log log) places c.places.place-index 0 c.places-test.true in
    let kept : c.allows_older.new.log ≡ log = c.in_ok-allows_older.ensures.kept ∙ c.places.invariant.0 in
    let told = c.in_ok-allows_older.ensures in
    let same : put_back_at c.places.changed c.places.changed (get_or places c.places.place-index 0) ≡ one =
    ap (λ (l : List Entry). put_back_at l l (get_or places c.places.place-index 0)) c.places.invariant.0 in
    let by : c.model-model.result ≡ model = c.model-model.ensures.value in
    elim c.if-not-branch.branch [
      | then-not-branch w ↦ (
          let bad : IsConsistent model one → ⊥ = λ ok. told.refused w.if-not-branch.true
          (subst (IsConsistent c.model-model.result) (sym same)
          (subst (λ (m : MemoryModel). IsConsistent m one) (sym by) ok)) in
          let count : AreRefused model (before ++ one ∷ []) (c.places.refused + 1) =
          AreRefused-refused model before one c.places.refused c.places.invariant.2 bad in (
            kept,
            omega (arith, w.refused-is, c.places.invariant.1),
            subst (λ (ls : List (List Entry)). AreRefused model ls c.if-not-branch.refused) (sym more)
                (subst (AreRefused model (before ++ one ∷ [])) (sym w.refused-is) count),
          ))
      | else-not-branch w ↦ (
          let ok : IsConsistent model one = subst (λ (m : MemoryModel). IsConsistent m one) by
          (subst (IsConsistent c.model-model.result) same (told.allowed w.if-not-branch.false)) in
          let count : AreRefused model (before ++ one ∷ []) c.places.refused =
          AreRefused-allowed model before one c.places.refused c.places.invariant.2 ok in (
            kept,
            omega (arith, w.refused-is, c.places.invariant.1),
            subst (λ (ls : List (List Entry)). AreRefused model ls c.if-not-branch.refused) (sym more)
                (subst (AreRefused model (before ++ one ∷ [])) (sym w.refused-is) count),
          ))
    ]
