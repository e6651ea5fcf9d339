-- What a run lacks, by what was read, its sources lack.
use Rattle.rv_run.proofs.Common.{◌≡◌, ◌<◌, ◌≤◌, ◌∙◌, ℕ, List, [], ◌∷◌, Option, None, Some}
use Rattle.rv_run.proofs.Common.{ap, arith, get_or, inl, inr, length, length-map, map, subst, sym, waiting_of}
use Rattle.rv_run.proofs.Common.{Entry, Fed, IsFedOf, Stream}
use Rattle.rv_run.specs.Comparisons.{AreCountedFed, AreEndsLacking, IsLogLacking, IsMiscountedFed, IsWhole, LacksBy}
use Rattle.rv_run.specs.Completeness.{AreCounted, HasNoEnd, IsCounted, IsMiscounted}
use Rattle.rv_run.specs.Completeness.{Lacks}
use Rattle.rv_run.specs.declared.feeding.FeedEnd.TheVariants as end
use Rattle.rv_run.specs.declared.missing.Missing.{Missing}
use Rattle.rv_run.specs.declared.missing.Missing.TheVariants.{EndRecord, Rows, Events, Store}
use Rattle.std.proofs.lemmas.List.{nil_from_length}
use Rattle.rv_run.proofs.MergeCounts.{length-merge, waiting-merge}
use Rattle.rv_run.proofs.Outcomes.{each-of, every, merge-true, read-true, said-true}

-- the end record of one source, by what was read of it
counted-one : (s : Option Stream) (fed : Fed) → IsFedOf s fed → fed.end ≡ end.Whole →
    fed.said ≡ Some (length fed.events) → IsCounted s
counted-one None fed is whole counts = tt
counted-one (Some s) fed is whole counts =
    let so = said-true s fed is whole in so.0 ∙ counts ∙ ap Some (sym so.1)

missing-one : (s : Option Stream) (fed : Fed) → IsFedOf s fed → fed.end ≡ end.Whole → fed.said ≡ None → HasNoEnd s
missing-one None fed is whole none = tt
missing-one (Some s) fed is whole none = (said-true s fed is whole).0 ∙ none

other-one : (s : Option Stream) (fed : Fed) (rows said : ℕ) → IsFedOf s fed → fed.end ≡ end.Whole →
    IsMiscountedFed rows said fed → IsMiscounted rows said s
other-one None fed rows said is whole lacks = (lacks.0, tt)
other-one (Some s) fed rows said is whole lacks =
    let so = said-true s fed is whole in (lacks.0, (so.1 ∙ lacks.1, so.0 ∙ lacks.2))

-- of sources that were fed, by what each feeder gave
module _ (streams : List (Option Stream)) (fed : List Fed) (any : Fed) (same : length fed ≡ length streams)
    (each : (i : ℕ) (f : Fed) → i < length streams → IsFedOf (get_or streams i None) (get_or fed i f)) where
  counted-true : (log : List Entry) → IsWhole log fed → (n : ℕ) → n ≤ length streams → AreCountedFed fed n →
      AreCounted streams n
  counted-true log whole n low counts i below =
      counted-one (get_or streams i None) (get_or fed i any) (each i any (omega (arith, below, low)))
      (whole.1 i any (omega (arith, below, low, same))).ended (counts i any below)

  all-counted : (log : List Entry) → IsWhole log fed → AreCountedFed fed (length fed) →
      AreCounted streams (length streams)
  all-counted log whole counts =
      counted-true log whole (length streams) (omega arith) (subst (AreCountedFed fed) same counts)

  -- what an end record lacks
  end-true : (log : List Entry) → IsWhole log fed → (m : Missing) → AreEndsLacking fed (Some m) → Lacks streams (Some m)
  end-true log whole (EndRecord source) (at, counts, low, lacks) =
      let here : at < length streams = omega (arith, low, same) in
      subst (λ n. AreCounted streams n × (n < length streams) × HasNoEnd (get_or streams n None))
      (sym (lacks any).0) (
        counted-true log whole at (omega (arith, here)) counts,
        here,
        missing-one (get_or streams at None) (get_or fed at any) (each at any here) (whole.1 at any low).ended
            (lacks any).1,
      )
  end-true log whole (Rows source rows said) (at, counts, low, lacks) =
      let here : at < length streams = omega (arith, low, same) in
      subst (λ n. AreCounted streams n × (n < length streams) × IsMiscounted rows said (get_or streams n None))
      (sym (lacks any).0) (
        counted-true log whole at (omega (arith, here)) counts,
        here,
        other-one (get_or streams at None) (get_or fed at any) rows said (each at any here)
            (whole.1 at any low).ended ((lacks any).1, (lacks any).2, (lacks any).3),
      )
  end-true log whole Events (at, counts, low, lacks) = absurd (lacks any)
  end-true log whole (Store w) (at, counts, low, lacks) = absurd (lacks any)

  -- what the log lacks
  log-true : (log : List Entry) → IsWhole log fed → (m : Option Missing) → AreCountedFed fed (length fed) →
      IsLogLacking log m → Lacks streams m
  log-true log whole None counts lacks =
      let merge = merge-true streams fed any same each log whole in
      let all = every streams fed any same each in
      let long : length log ≡ length all = length-merge (length fed) log all merge.0 merge.1 merge.2 in
      let waits : waiting_of log ≡ waiting_of all = waiting-merge (length fed) log all merge.0 merge.1 merge.2 in (
        all-counted log whole counts,
        (all, read-true streams fed any same each log whole, (omega (arith, long, lacks.0), sym waits ∙ lacks.1)),
      )
  log-true log whole (Some Events) counts lacks =
      let merge = merge-true streams fed any same each log whole in
      let all = every streams fed any same each in
      let long : length log ≡ length all = length-merge (length fed) log all merge.0 merge.1 merge.2 in (
        all-counted log whole counts,
        (all, read-true streams fed any same each log whole, nil_from_length all (sym long ∙ ap length lacks)),
      )
  log-true log whole (Some (Store w)) counts lacks =
      let merge = merge-true streams fed any same each log whole in (
        all-counted log whole counts,
        (
          every streams fed any same each,
          read-true streams fed any same each log whole,
          (log, (λ source. sym (merge.2 source)), lacks),
        ),
      )
  log-true log whole (Some (EndRecord source)) counts lacks = absurd lacks
  log-true log whole (Some (Rows source rows said)) counts lacks = absurd lacks

  pub lacks-true : (m : Option Missing) → LacksBy fed m → Lacks streams m
  lacks-true m (log, whole, inr told) = log-true log whole m told.0 told.1
  lacks-true None (log, whole, inl told) = cc told.0
  lacks-true (Some m) (log, whole, inl told) = end-true log whole m told.1

-- the same of readers, by what each says
pub readers-lack :
    {R : Type 0} (says : R → Option Stream) (readers : List R) (fed : List Fed) → 0 < length readers →
    length fed ≡ length readers →
    ((i : ℕ) (r : R) (f : Fed) → i < length readers → IsFedOf (says (get_or readers i r)) (get_or fed i f)) →
    (m : Option Missing) → LacksBy fed m → Lacks (map says readers) m
readers-lack says [] fed some same each m told = absurd (omega (arith, some))
readers-lack says (r ∷ rs) [] some same each m told = absurd (omega (arith, same))
readers-lack says (r ∷ rs) (f ∷ fs) some same each m told =
    lacks-true (map says (r ∷ rs)) (f ∷ fs) f (same ∙ sym (length-map (r ∷ rs) says))
    (each-of says (r ∷ rs) (f ∷ fs) same each r) m told
