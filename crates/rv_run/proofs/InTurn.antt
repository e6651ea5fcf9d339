-- What the events that a book took of sources in turn say of them.
use Rattle.rv_run.proofs.Common.{◌≡◌, ℕ, suc, zero, ◌<◌, ◌≤◌, ◌+◌, ◌==◌, ◌∙◌, List, [], ◌∷◌, ◌++◌, length, get_or, map}
use Rattle.rv_run.proofs.Common.{All, IfSome, Option, Some, None, false≢true, sym, ap, refl, subst, arith}
use Rattle.rv_run.proofs.Common.{append-nil, append_assoc, map-append, All-append, All-nil, length-map}
use Rattle.rv_run.proofs.Common.{common_steps, get_or-map, filter-append, inl, inr, true}
use Rattle.rv_run.proofs.Common.{Event, Entry, MemoryModel, Stream, TakesEvents, TraceLeft, IsPrefix}
use Rattle.rv_run.proofs.Common.{events, from_source, given_by, IsPartOf, EndsIn, IsAllowed, IsReplayed, Fed, IsFedOf}
use Rattle.rv_run.proofs.Common.{Outcome, Allowed, Forbidden, Malformed, IsMalformed, IsWholeIn}
use Rattle.rv_run.proofs.Common.{AgreesWith, IsTrueOf, RunFault, IsFaultAmong}
use Rattle.std.proofs.Math.ListN.{set, length-set}
use Rattle.std.proofs.lemmas.List.{get_or-set_other, get_or-set_same}
use Rattle.std.proofs.lemmas.Bool.{cases_eq}
use Rattle.rv_book.proofs.SourcePrefixes.{given-entries}
use Rattle.rv_book.specs.Booked.{Booked}
use Rattle.rv_book.specs.Chunked.{entries_of}
use Rattle.rv_trace.specs.Source.{whole}
use Rattle.rv_trace.specs.Faults.{IsOutside, is_of_text}
use Rattle.rv_trace.specs.Trace.{IsFaultOf, IsWhole as IsSaidWhole, TakesEvent}
use Rattle.rv_trace.specs.declared.fault.FaultKind.{FaultKind}
use Rattle.rv_trace.specs.declared.fault.TraceFault.{TraceFault}
use Rattle.rv_coverage.specs.Coverages.{IsCoverage}
use Rattle.rv_coverage.specs.declared.coverage.Coverage.{Coverage}
use Rattle.rv_replay.specs.Strengths.{IsStrength}
use Rattle.rv_replay.specs.declared.strength.Strength.{Strength}
use Rattle.std.specs.Prelude.{IsSome, IsTrue}
use Rattle.rv_run.specs.Ahead.{IsKept}
use Rattle.rv_run.specs.Comparisons.{IsLacking, IsTestedBy, IsWhole}
use Rattle.rv_run.specs.InTurn.{AreOver, AreRefused, AreTaken, AreTaking, HasTaken, IsFaultOfTurn, IsJudgedOf, IsOver}
use Rattle.rv_run.specs.InTurn.{IsRefusedOver, IsRefusedTurn, entry_of, reads_from, streams_left}
use Rattle.rv_run.specs.Sources.{AreCovered}
use Rattle.rv_run.specs.declared.fault.RunFault.TheVariants as why
use Rattle.rv_run.specs.declared.feeding.FeedEnd.TheVariants as end
use Rattle.rv_run.specs.declared.judging.Judged.{Judged}
use Rattle.rv_run.specs.declared.judging.Question.{Question}
use Rattle.rv_run.proofs.Completeness.{lacks-true}
use Rattle.rv_run.proofs.Merges.{low-entries, other-entries}
use Rattle.rv_run.proofs.Outcomes.{covered-true, ill-formed, outcome-true}
use Rattle.rv_run.proofs.Strengths.{tested-true}

-- ---- events of a known stream
-- none were taken
takes-none : (s : Option Stream) → TakesEvents s s []
takes-none None = tt
takes-none (Some s) = refl

-- those that were taken, and then more
takes-more : (start old new : Option Stream) (es more : List Event) → TakesEvents start old es →
    TakesEvents old new more → TakesEvents start new (es ++ more)
takes-more None old new es more taken takes = tt
takes-more (Some s) None new es more taken takes = absurd taken
takes-more (Some s) (Some t) None es more taken takes = absurd takes
takes-more (Some s) (Some t) (Some u) es more taken takes =
    taken ∙ ap (λ (r : Stream). record { events = es ++ r.events; end = r.end; said = r.said }) takes
    ∙ ap (λ (l : List Event). record { events = l; end = u.end; said = u.said }) (sym (append_assoc es more u.events))

-- the next one is one of them
takes-one : (old new : Option Stream) (e : Event) → TakesEvent old new e → TakesEvents old new (e ∷ [])
takes-one None new e takes = tt
takes-one (Some s) None e takes = absurd takes
takes-one (Some s) (Some t) e takes = takes

-- they are the first of the stream
takes-first : (start now : Option Stream) (es : List Event) → TakesEvents start now es →
    IfSome start (λ s. IsPrefix es s.events)
takes-first None now es takes = tt
takes-first (Some s) None es takes = absurd takes
takes-first (Some s) (Some t) es takes = (t.events, ap (λ (u : Stream). u.events) takes)

-- ---- what a log has of each source
-- of the source whose events are added
given-own : (source : ℕ) (log : List Entry) (es : List Event) →
    given_by source (log ++ entries_of source es) ≡ given_by source log ++ es
given-own source log es =
    ap events (filter-append (λ (x : Entry). source == x.source) log (entries_of source es))
    ∙ map-append (λ (x : Entry). x.event) (from_source source log) (from_source source (entries_of source es))
    ∙ ap (λ (l : List Event). given_by source log ++ l) (given-entries source es)

-- of the others
given-other : (other source : ℕ) (log : List Entry) (es : List Event) → (other ≡ source → ⊥) →
    given_by other (log ++ entries_of source es) ≡ given_by other log
given-other other source log es differ =
    ap events (filter-append (λ (x : Entry). other == x.source) log (entries_of source es)
    ∙ ap (λ (l : List Entry). from_source other log ++ l) (other-entries other source es differ)
    ∙ append-nil (from_source other log))

-- ---- a turn
-- it begins with no event
pub turn-begins : (source : ℕ) (trace : TraceLeft) (book : Booked) → trace.fault ≡ None →
    HasTaken source trace trace book book
turn-begins source trace book good = record {
  events = [];
  taken = takes-none trace.stream;
  good = good;
  log = sym (append-nil book.log);
  model = refl;
  stopped = refl;
}

-- and goes on with one more
pub turn-goes-on : (source : ℕ) (before old new : TraceLeft) (first book grown : Booked) (e : Event) →
    HasTaken source before old first book → TakesEvent old.stream new.stream e → new.fault ≡ None →
    grown.log ≡ book.log ++ entry_of source e ∷ [] → grown.model ≡ book.model → grown.stopped ≡ book.stopped →
    HasTaken source before new first grown
turn-goes-on source before old new first book grown e so takes good log model stopped = record {
  events = so.events ++ e ∷ [];
  taken = takes-more before.stream old.stream new.stream so.events (e ∷ []) so.taken
      (takes-one old.stream new.stream e takes);
  good = good;
  log = log ∙ ap (λ (l : List Entry). l ++ entry_of source e ∷ []) so.log
      ∙ append_assoc first.log (entries_of source so.events) (entry_of source e ∷ [])
      ∙ ap (λ (l : List Entry). first.log ++ l) (sym (map-append (λ (x : Event). entry_of source x) so.events
      (e ∷ [])));
  model = model ∙ so.model;
  stopped = stopped ∙ so.stopped;
}

-- or the next one waits
pub turn-waits : (source : ℕ) (before old new : TraceLeft) (first book : Booked) →
    HasTaken source before old first book → IsKept old.stream new.stream → new.fault ≡ None →
    HasTaken source before new first book
turn-waits source before old new first book so kept good = record {
  events = so.events;
  taken = still before.stream old.stream new.stream so.taken kept;
  good = good;
  log = so.log;
  model = so.model;
  stopped = so.stopped;
}
  where
    still : (start old new : Option Stream) → TakesEvents start old so.events → IsKept old new →
        TakesEvents start new so.events
    still None old new taken is = tt
    still (Some s) None new taken is = absurd taken
    still (Some s) (Some t) new taken is =
        subst (λ (o : Option Stream). TakesEvents (Some s) o so.events) (sym is) taken

-- and ends with the source
pub turn-ends : (source : ℕ) (before old new : TraceLeft) (first book : Booked) →
    HasTaken source before old first book →
    IsSaidWhole old.stream new.said → IsOver new → new.fault ≡ None → HasTaken source before new first book
turn-ends source before old new first book so said over good = record {
  events = so.events;
  taken = ended before.stream old.stream so.taken said;
  good = good;
  log = so.log;
  model = so.model;
  stopped = so.stopped;
}
  where
    ended : (start now : Option Stream) → TakesEvents start now so.events → IsSaidWhole now new.said →
        TakesEvents start new.stream so.events
    ended None now taken is = tt
    ended (Some s) None taken is = absurd taken
    ended (Some s) (Some t) taken is = subst (λ (o : Option Stream). TakesEvents (Some s) o so.events) (sym over.1)
        (subst (λ (r : Stream). TakesEvents (Some s) (Some r) so.events) is taken)

-- or with a fault, in which the source ends
pub turn-faulty : (start now : Option Stream) (es : List Event) (f : TraceFault) → TakesEvents start now es →
    IsFaultOf now f → EndsIn start f
turn-faulty None now es f taken is = tt
turn-faulty (Some s) None es f taken is = absurd taken
turn-faulty (Some s) (Some t) es f taken (inl of_text) = λ text. ap (λ (r : Stream). r.end) (taken) ∙
    ap (λ (r : Stream). r.end) of_text.1
turn-faulty (Some s) (Some t) es f taken (inr outside) = λ text. absurd (outside-text f.kind outside text)
  where
    outside-text : (k : FaultKind) → IsOutside k → is_of_text k ≡ true → ⊥
    outside-text k outside text = grind (arith, common_steps)

-- ---- all sources
-- nothing was taken yet
pub taking-begins : (traces : List TraceLeft) (log : List Entry) → All (λ t. t.fault ≡ None) traces → log ≡ [] →
    AreTaking (streams_left traces) log traces
taking-begins traces log good empty = record {
  as_many = sym (length-map traces (λ (t : TraceLeft). t.stream));
  none_else = subst (λ (l : List Entry). All (λ x. x.source < length (streams_left traces)) l) (sym empty)
      (All-nil (λ (x : Entry). x.source < length (streams_left traces)));
  taken = λ i t low. subst (λ (l : List Entry). TakesEvents (get_or (streams_left traces) i None)
      (get_or traces i t).stream (given_by i l)) (sym empty)
      (subst (λ (s : Option Stream). TakesEvents s (get_or traces i t).stream [])
      (sym (get_or-map (λ (u : TraceLeft). u.stream) traces i t None (below i low)))
      (takes-none (get_or traces i t).stream));
  good = λ i t low. good i t (below i low);
}
  where
    below : (i : ℕ) → i < length (streams_left traces) → i < length traces
    below i low = omega (arith, low, length-map traces (λ (t : TraceLeft). t.stream))

-- a source has its turn
module _ (streams : List (Option Stream)) (log : List Entry) (traces : List TraceLeft)
    (so : AreTaking streams log traces)
    (source : ℕ) (before : TraceLeft) (low : source < length streams) (is : before ≡ get_or traces source before)
  where
    -- what its trace gave before the turn
    own-taken : TakesEvents (get_or streams source None) before.stream (given_by source log)
    own-taken = subst (λ (u : TraceLeft). TakesEvents (get_or streams source None) u.stream (given_by source log))
        (sym is)
        (so.taken source before low)

    own-grown : (behind : Option Stream) (es : List Event) (grown : List Entry) → TakesEvents before.stream behind es →
        grown ≡ log ++ entries_of source es →
        TakesEvents (get_or streams source None) behind (given_by source grown)
    own-grown behind es grown taken log_is =
        subst (λ (l : List Event). TakesEvents (get_or streams source None) behind l)
        (sym (ap (given_by source) log_is ∙ given-own source log es))
        (takes-more (get_or streams source None) before.stream behind (given_by source log) es own-taken taken)

    low-grown : (es : List Event) (grown : List Entry) → grown ≡ log ++ entries_of source es →
        All (λ x. x.source < length streams) grown
    low-grown es grown log_is =
        subst (λ (l : List Entry). All (λ x. x.source < length streams) l) (sym log_is)
        (All-append (λ (x : Entry). x.source < length streams) log (entries_of source es) so.none_else
        (low-entries source (length streams) es low))

    -- all go on
    pub taking-goes-on : (after : TraceLeft) (old new : Booked) → old.log ≡ log → HasTaken source before after old new →
        AreTaking streams new.log (set traces source after)
    taking-goes-on after old new same took = record {
      as_many = length-set traces source after ∙ so.as_many;
      none_else = low-grown took.events new.log grown;
      taken = λ i t under. elim (cases_eq i source) [
        | inl own ↦ subst (λ (k : ℕ). TakesEvents (get_or streams k None) (get_or (set traces source after) k t).stream
            (given_by k new.log)) (sym own)
            (subst (λ (u : TraceLeft). TakesEvents (get_or streams source None) u.stream (given_by source new.log))
            (sym (get_or-set_same traces source after t within))
            (own-grown after.stream took.events new.log took.taken grown))
        | inr other ↦ subst (λ (u : TraceLeft). TakesEvents (get_or streams i None) u.stream (given_by i new.log))
            (sym (get_or-set_other traces source i after t other))
            (subst (λ (l : List Event). TakesEvents (get_or streams i None) (get_or traces i t).stream l)
            (sym (ap (given_by i) grown ∙ given-other i source log took.events other)) (so.taken i t under))
      ];
      good = λ i t under. elim (cases_eq i source) [
        | inl own ↦ subst (λ (k : ℕ). (get_or (set traces source after) k t).fault ≡ None) (sym own)
            (ap (λ (u : TraceLeft). u.fault) (get_or-set_same traces source after t within) ∙ took.good)
        | inr other ↦ ap (λ (u : TraceLeft). u.fault) (get_or-set_other traces source i after t other)
            ∙ so.good i t under
      ];
    }
      where
        grown : new.log ≡ log ++ entries_of source took.events
        grown = took.log ∙ ap (λ (l : List Entry). l ++ entries_of source took.events) same

        within : source < length traces
        within = omega (arith, low, so.as_many)

    -- a log with its next events is a part of the sources
    part-grown : (behind : Option Stream) (es : List Event) (evidence : List Entry) →
        TakesEvents before.stream behind es →
        evidence ≡ log ++ entries_of source es → IsPartOf streams evidence
    part-grown behind es evidence taken log_is = record {
      none_else = low-grown es evidence log_is;
      first = λ i under. elim (cases_eq i source) [
        | inl own ↦ subst (λ (k : ℕ). IfSome (get_or streams k None) (λ s. IsPrefix (given_by k evidence) s.events))
            (sym own)
            (takes-first (get_or streams source None) behind (given_by source evidence)
            (own-grown behind es evidence taken log_is))
        | inr other ↦ subst (λ (l : List Event). IfSome (get_or streams i None) (λ s. IsPrefix l s.events))
            (sym (ap (given_by i) log_is ∙ given-other i source log es other))
            (takes-first (get_or streams i None) (get_or traces i before).stream (given_by i log)
            (so.taken i before under))
      ];
    }

    -- what its next event is refused for, all are
    pub turn-refuses : (old : Booked) (o : Outcome) → old.log ≡ log → IsRefusedTurn source before old o →
        AreRefused old.model streams o
    turn-refuses old o same is = refuses o is.refused
      where
        es : List Event
        es = is.taken.events ++ is.event ∷ []

        front : is.book.log ++ entry_of source is.event ∷ [] ≡ log ++ entries_of source es
        front = ap (λ (l : List Entry). l ++ entry_of source is.event ∷ [])
            (is.taken.log ∙ ap (λ (l : List Entry). l ++ entries_of source is.taken.events) same)
            ∙ append_assoc log (entries_of source is.taken.events) (entry_of source is.event ∷ [])
            ∙ ap (λ (l : List Entry). log ++ l)
            (sym (map-append (λ (x : Event). entry_of source x) is.taken.events (is.event ∷ [])))

        part : (evidence : List Entry) → evidence ≡ is.book.log ++ entry_of source is.event ∷ [] →
            IsPartOf streams evidence
        part evidence by = part-grown is.behind es evidence
            (takes-more before.stream is.trace.stream is.behind is.taken.events (is.event ∷ []) is.taken.taken
            (takes-one is.trace.stream is.behind is.event is.next)) (by ∙ front)

        refuses : (o : Outcome) → IsRefusedOver old.model is.book.log (entry_of source is.event) o →
            AreRefused old.model streams o
        refuses (Malformed m) (told, formed) =
            let bad : IsMalformed m.evidence m.fault = record {
              front = is.book.log;
              last = entry_of source is.event;
              whole = told.evidence;
              well_formed = formed;
              fails = told.fault;
            } in record {
              judged_by = told.judged_by;
              part = part m.evidence told.evidence;
              malformed = bad;
              refuted = ill-formed streams m.evidence m.fault (part m.evidence told.evidence) bad;
            }
        refuses (Forbidden f) told = record {
          judged_by = told.0;
          part = part f.evidence told.1;
          well_formed = told.2;
          final = told.3;
        }
        refuses (Allowed operations waiting events) told = told

    -- a fault that its trace meets is one of the sources'
    pub turn-fails : (met : RunFault) → IsFaultOfTurn source before.stream met → IsFaultAmong streams met
    turn-fails (why.Trace i f) told =
        subst (λ (k : ℕ). (k < length streams) × EndsIn (get_or streams k None) f) (sym told.0)
        (low, ends (get_or streams source None) before.stream (given_by source log) own-taken told.1)
      where
        ends : (start now : Option Stream) (es : List Event) → TakesEvents start now es → EndsIn now f → EndsIn start f
        ends None now es taken so = tt
        ends (Some s) None es taken so = absurd taken
        ends (Some s) (Some t) es taken so = λ text. ap (λ (r : Stream). r.end) taken ∙ so text
    turn-fails why.NoMemory told = tt
    turn-fails why.Lost told = tt
    turn-fails why.Settings told = absurd told

-- one more trace has given all
pub over-more : (traces : List TraceLeft) (n : ℕ) (after : TraceLeft) → AreOver traces n → n < length traces →
    IsOver after → AreOver (set traces n after) (n + 1)
over-more traces n after so low over i t under = elim (cases_eq i n) [
  | inl own ↦ subst (λ (k : ℕ). IsOver (get_or (set traces n after) k t)) (sym own)
      (subst IsOver (sym (get_or-set_same traces n after t low)) over)
  | inr other ↦ subst IsOver (sym (get_or-set_other traces n i after t other)) (so i t (omega (arith, under, other)))
]

-- a number that is below as many as there are
pub below-all : (i n m k : ℕ) → i < n → m ≡ n → m ≤ k → i < k
below-all i n m k low same all = omega arith

-- a reader more is open
pub opened-more :
    {R : Type 0} (says : R → Option Stream) (traces grown : List TraceLeft) (t : TraceLeft) (before rest : List R)
    (r : R)
    (all : List (Option Stream)) → grown ≡ traces ++ t ∷ [] → t.stream ≡ says r → before ≡ r ∷ rest →
    streams_left traces ++ map says before ≡ all → streams_left grown ++ map says rest ≡ all
opened-more {R = R} says traces grown t before rest r all grown_is stream steps so =
    ap (λ (l : List TraceLeft). streams_left l ++ map says rest) grown_is
    ∙ ap (λ (l : List (Option Stream)). l ++ map says rest) (map-append (λ (u : TraceLeft). u.stream) traces (t ∷ []))
    ∙ append_assoc (streams_left traces) (t.stream ∷ []) (map says rest)
    ∙ ap (λ (s : Option Stream). streams_left traces ++ s ∷ map says rest) stream
    ∙ ap (λ (l : List R). streams_left traces ++ map says l) (sym steps) ∙ so

-- ---- sources that were read whole
pub length-reads : (from : ℕ) (log : List Entry) (traces : List TraceLeft) →
    length (reads_from from log traces) ≡ length traces
length-reads from log [] = refl
length-reads from log (t ∷ traces) = ap suc (length-reads (suc from) log traces)

-- what was read of one of them
abbrev pub read_of : ℕ → List Entry → TraceLeft → Fed
read_of source log t = record { events = given_by source log; end = end.Whole; said = t.said }

reads-from : (k from : ℕ) (log : List Entry) (traces : List TraceLeft) (t : TraceLeft) (f : Fed) → k < length traces →
    get_or (reads_from from log traces) k f ≡ read_of (from + k) log (get_or traces k t)
reads-from k from log [] t f low = absurd (omega (arith, low))
reads-from zero from log (u ∷ traces) t f low =
    let same : from ≡ from + 0 = omega arith in ap (λ (n : ℕ). read_of n log u) same
reads-from (suc k) from log (u ∷ traces) t f low =
    let same : suc from + k ≡ from + suc k = omega arith in
    reads-from k (suc from) log traces t f (omega (arith, low))
    ∙ ap (λ (n : ℕ). read_of n log (get_or traces k t)) same

pub reads-at : (k : ℕ) (log : List Entry) (traces : List TraceLeft) (t : TraceLeft) (f : Fed) → k < length traces →
    get_or (reads_from 0 log traces) k f ≡ read_of k log (get_or traces k t)
reads-at k log traces t f low =
    let same : 0 + k ≡ k = omega arith in
    reads-from k 0 log traces t f low ∙ ap (λ (n : ℕ). read_of n log (get_or traces k t)) same

-- what was read of a source at its end is all of it
read-whole : (start : Option Stream) (t : TraceLeft) (source : ℕ) (log : List Entry) →
    TakesEvents start t.stream (given_by source log) → IsOver t → IsFedOf start (read_of source log t)
read-whole None t source log taken over = tt
read-whole (Some s) t source log taken over =
    let takes : TakesEvents (Some s) (Some (whole t.said)) (given_by source log) =
    subst (λ (o : Option Stream). TakesEvents (Some s) o (given_by source log)) over.1 taken in
    let all : s.events ≡ given_by source log = ap (λ (r : Stream). r.events) takes ∙ append-nil
    (given_by source log) in (
      ([], all ∙ sym (append-nil (given_by source log))),
      (all, ap (λ (r : Stream). r.end) takes, ap (λ (r : Stream). r.said) takes),
    )

module _ (streams : List (Option Stream)) (log : List Entry) (traces : List TraceLeft)
    (so : AreTaking streams log traces)
    (over : AreOver traces (length streams)) where
  -- as many as there are sources
  pub reads-long : length (reads_from 0 log traces) ≡ length streams
  reads-long = length-reads 0 log traces ∙ so.as_many

  -- each is what its source has
  pub reads-each : (t : TraceLeft) (i : ℕ) (f : Fed) → i < length streams →
      IsFedOf (get_or streams i None) (get_or (reads_from 0 log traces) i f)
  reads-each t i f low =
      let under : i < length traces = omega (arith, low, so.as_many) in
      subst (IsFedOf (get_or streams i None)) (sym (reads-at i log traces t f under))
      (read-whole (get_or streams i None) (get_or traces i t) i log (so.taken i t low) (over i t low))

  -- the log has all of it
  pub reads-whole : (t : TraceLeft) → IsWhole log (reads_from 0 log traces)
  reads-whole t = (
    subst (λ (n : ℕ). All (λ x. x.source < n) log) (sym reads-long) so.none_else,
    λ i f low. let under : i < length traces = omega (arith, low, length-reads 0 log traces) in
        subst (IsWholeIn log i) (sym (reads-at i log traces t f under)) (record { ended = refl; all = refl }),
  )

  -- where the log is allowed, that agrees with what was read
  pub reads-agree : (t : TraceLeft) (model : MemoryModel) (o : Outcome) → IsReplayed model log o → IsAllowed o →
      AgreesWith model (reads_from 0 log traces) o
  reads-agree t model (Allowed e o w) told allowed = (log, told.0, reads-whole t, told.1, told.2, told.3)
  reads-agree t model (Malformed m) told allowed = absurd allowed
  reads-agree t model (Forbidden f) told allowed = absurd allowed

-- sources that are refused are judged so
pub refused-judged : (question : Question) (streams : List (Option Stream)) (o : Outcome) →
    AreRefused question.model streams o →
    IsJudgedOf question streams (record { outcome = o; coverage = None; missing = None; strength = None })
refused-judged question streams (Malformed m) told = record {
  allowed = tt;
  forbidden = tt;
  malformed = told;
  covered = tt;
  asked = λ asks allowed. absurd allowed;
  only = λ some. absurd (false≢true some);
  lacks = λ asks allowed. absurd allowed;
  complete = λ some. absurd (false≢true some);
  strength = tt;
  tested = (λ asks allowed. absurd allowed, λ some. absurd (false≢true some));
}
refused-judged question streams (Forbidden f) told = record {
  allowed = tt;
  forbidden = told;
  malformed = tt;
  covered = tt;
  asked = λ asks allowed. absurd allowed;
  only = λ some. absurd (false≢true some);
  lacks = λ asks allowed. absurd allowed;
  complete = λ some. absurd (false≢true some);
  strength = tt;
  tested = (λ asks allowed. absurd allowed, λ some. absurd (false≢true some));
}
refused-judged question streams (Allowed events operations waiting) told = absurd told

-- what the book's log comes to is what its sources do, which were read whole
pub whole-judged : (question : Question) (streams : List (Option Stream)) (log : List Entry) (traces : List TraceLeft) →
    AreTaken question.model streams log traces None → (j : Judged) → IsReplayed question.model log j.outcome →
    IsAllowed j.outcome → IfSome j.coverage (IsCoverage question.model log) →
    (IsTrue question.covering → IsSome j.coverage) → (IsSome j.coverage → IsTrue question.covering) →
    (IsTrue question.complete → IsLacking (reads_from 0 log traces) log j.missing) →
    (IsSome j.missing → IsTrue question.complete) → IfSome j.strength (IsStrength question.model log) →
    (IsTrue question.testing → IsSome j.strength) → (IsSome j.strength → IsTrue question.testing) →
    IsJudgedOf question streams j
whole-judged question streams log traces (so, over) j told allowed coverage asked only lacks complete strength tested
    untested = record {
      allowed = true-of.allowed;
      forbidden = true-of.forbidden;
      malformed = true-of.malformed;
      covered = covers j.coverage coverage;
      asked = λ asks is. asked asks;
      only = λ some. (only some, allowed);
      lacks = λ asks is. lacks-true streams reads any long each j.missing (log, whole, lacks asks);
      complete = λ some. (complete some, allowed);
      strength = tested-true streams reads any long each question.model j.strength (tests j.strength strength);
      tested = (λ asks is. tested asks, λ some. (untested some, allowed));
    }
  where
    any : Fed
    any = record { events = []; end = end.Whole; said = None }

    none : TraceLeft
    none = record {
      source = 0;
      unread = true;
      given = 0;
      stream = None;
      ended = true;
      said = None;
      fault = None;
      refused = true;
    }

    reads : List Fed
    reads = reads_from 0 log traces

    long : length reads ≡ length streams
    long = reads-long streams log traces so over

    each : (i : ℕ) (f : Fed) → i < length streams → IsFedOf (get_or streams i None) (get_or reads i f)
    each = reads-each streams log traces so over none

    whole : IsWhole log reads
    whole = reads-whole streams log traces so over none

    true-of : IsTrueOf question.model streams j.outcome
    true-of = outcome-true streams reads any long each question.model j.outcome
        (reads-agree streams log traces so over none question.model j.outcome told allowed)

    covers : (c : Option Coverage) → IfSome c (IsCoverage question.model log) →
        IfSome c (AreCovered question.model streams)
    covers None is = tt
    covers (Some c) is = covered-true streams reads any long each question.model c (log, whole, is)

    tests : (s : Option Strength) → IfSome s (IsStrength question.model log) →
        IfSome s (IsTestedBy question.model reads)
    tests None is = tt
    tests (Some s) is = (log, whole, is)
