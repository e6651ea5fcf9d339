-- What the comparison with what was read says of the sources.
use Rattle.rv_run.proofs.Common.{common_steps, ◌≡◌, ℕ, suc, zero, ◌<◌, List, [], ◌∷◌, ◌++◌, length, map, take, drop}
use Rattle.rv_run.proofs.Common.{get_or, All, Option, Some, None, IfSome, Result, Ok, Err, IfOk, IfErr, refl, sym}
use Rattle.rv_run.proofs.Common.{ap, ◌∙◌, subst, append_assoc, arith, IsSome, false≢true, none-some}
use Rattle.rv_run.proofs.Common.{take-append-drop, get_or-map, length-map, SameSources, Event, Entry, MemoryModel}
use Rattle.rv_run.proofs.Common.{Lawful-merge, WellFormed-front, SameHarts-from_sources, WellFormed-sources}
use Rattle.rv_run.proofs.Common.{Refusal, IsMalformed, given_by, IsPrefix, operations_of, waiting_of, Stream}
use Rattle.rv_run.proofs.Common.{Outcome, Allowed, Forbidden, Malformed, AgreesWith, IsBegun, IsFaultIn, IsFedOf}
use Rattle.rv_run.proofs.Common.{IsEndOf, IsConsistent, IsReplayed, IsAllowed, AreWellFormed, EndsIn, HasRead}
use Rattle.rv_run.proofs.Common.{AreEventsOf, IsFaultAmong, IsRefused, IsPartOf, IsTrueOf, AreAllowed, AreForbidden}
use Rattle.rv_run.proofs.Common.{AreMalformed, EndsWhole, IfAllowed, IfForbidden, IfMalformed, RunFault, Fed}
use Rattle.std.proofs.lemmas.List.Elements.{All-from_get_or}
use Rattle.rv_event.specs.declared.fault.Fault.{Fault as EventFault}
use Rattle.rv_book.specs.Chunked.{entries_of}
use Rattle.rv_coverage.specs.declared.coverage.Coverage.{Coverage}
use Rattle.rv_run.specs.Comparisons.{IsCoveredBy, IsWhole}
use Rattle.rv_run.specs.Sources.{AreCovered}
use Rattle.rv_run.specs.declared.judging.Judged.{Judged}
use Rattle.rv_replay.proofs.InconsistentRefusals.{continued, exactly_allowed}
use Rattle.rv_run.proofs.Merges.{goes-on, low-together, merge-of, together}
use Rattle.rv_run.proofs.MergeCounts.{length-merge, operations-merge, waiting-merge}
use Rattle.rv_run.specs.declared.fault.RunFault.TheVariants as fault
use Rattle.rv_run.specs.declared.feeding.FeedEnd.TheVariants as end

-- sources with these events
pub read-all :
    (from : ℕ) (streams : List (Option Stream)) (ess : List (List Event)) → length ess ≡ length streams →
    ((k : ℕ) → k < length streams → AreEventsOf (get_or streams k None) (get_or ess k [])) →
    HasRead from streams (together from ess)
read-all from [] [] long each = refl
read-all from [] (es ∷ ess) long each = absurd (omega (arith, long))
read-all from (s ∷ streams) [] long each = absurd (omega (arith, long))
read-all from (s ∷ streams) (es ∷ ess) long each = (
  es,
  together (suc from) ess,
  refl,
  each 0 (omega arith),
  read-all (suc from) streams ess (omega (arith, long))
      (λ k low. each (suc k) (omega (arith, low))),
)

-- the entries are those of the sources, whose bytes are known
pub record IsReadOf (from : ℕ) (streams : List (Option Stream)) (entries : List Entry) : Type 0 where
  pub ess : List (List Event)
  pub long : length ess ≡ length streams
  pub whole : entries ≡ together from ess
  pub each : (k : ℕ) → k < length streams → AreEventsOf (get_or streams k None) (get_or ess k [])

all-of-more :
    (s : Option Stream) (streams : List (Option Stream)) (es : List Event) (ess : List (List Event)) →
    AreEventsOf s es → ((k : ℕ) → k < length streams → AreEventsOf (get_or streams k None) (get_or ess k [])) →
    (k : ℕ) → k < length (s ∷ streams) → AreEventsOf (get_or (s ∷ streams) k None) (get_or (es ∷ ess) k [])
all-of-more s streams es ess here more zero low = here
all-of-more s streams es ess here more (suc k) low = more k (omega (arith, low))

-- entries that were read whole are such
pub read-of : (from : ℕ) (streams : List (Option Stream)) (entries : List Entry) → HasRead from streams entries →
    IsReadOf from streams entries
read-of from [] entries read = record {
  ess = [];
  long = refl;
  whole = read;
  each = λ k low. absurd (omega (arith, low));
}
read-of from (s ∷ streams) entries read =
    let rest = read-of (suc from) streams read.1 read.4 in record {
      ess = read.0 ∷ rest.ess;
      long = ap suc rest.long;
      whole = read.2 ∙ ap (λ (l : List Entry). entries_of from read.0 ++ l) rest.whole;
      each = all-of-more s streams read.0 rest.ess read.3 rest.each;
    }

-- sources whose bytes are known have one list of entries
read-once : (from : ℕ) (streams : List (Option Stream)) (one other : List Entry) → All IsSome streams →
    HasRead from streams one → HasRead from streams other → one ≡ other
read-once from [] one other known p q = p ∙ sym q
read-once from (s ∷ streams) one other known p q =
    p.2 ∙ ap (λ (es : List Event). entries_of from es ++ p.1) (same s (known 0 s (omega arith)) p.3 q.3)
    ∙ ap (λ (l : List Entry). entries_of from q.0 ++ l)
    (read-once (suc from) streams p.1 q.1 (λ k d low. known (suc k) d (omega (arith, low))) p.4 q.4) ∙ sym q.2
  where
    same : (o : Option Stream) → IsSome o → AreEventsOf o p.0 → AreEventsOf o q.0 → p.0 ≡ q.0
    same None some a b = absurd (false≢true some)
    same (Some t) some a b = sym a ∙ b

-- what is consistent in one merge is so in each
pub consistent-merge : (model : MemoryModel) (log other : List Entry) → SameSources log other → IsConsistent model log →
    IsConsistent model other
consistent-merge model log other same ok =
    let formed = WellFormed-sources log other ok.well_formed same in record {
      well_formed = formed;
      lawful = (
        ok.lawful.0,
        Lawful-merge model log other ok.lawful.0 ok.well_formed formed
            (SameHarts-from_sources log other ok.well_formed same) ok.lawful.1,
      );
    }

-- a log of all events of the sources says what they come to
allowed-true :
    (model : MemoryModel) (streams : List (Option Stream)) (log : List Entry) (ess : List (List Event)) →
    IsConsistent model log →
    All (λ x. x.source < length ess) log → ((i : ℕ) → i < length ess → given_by i log ≡ get_or ess i []) →
    length ess ≡ length streams →
    ((i : ℕ) → i < length streams → AreEventsOf (get_or streams i None) (get_or ess i [])) → All EndsWhole streams →
    AreAllowed model streams (length log) (operations_of log) (waiting_of log)
allowed-true model streams log ess ok low given long all whole =
    let n = length ess in
    let every = together 0 ess in
    let same = merge-of log ess low given in
    let within : All (λ x. x.source < n) every = low-together 0 n ess (omega arith) in record {
      whole = whole;
      entries = every;
      read = read-all 0 streams ess long all;
      consistent = consistent-merge model log every same ok;
      events_is = length-merge n log every low within same;
      operations_is = operations-merge n log every low within same;
      waiting_is = waiting-merge n log every low within same;
    }

-- the first of what was read are the first of the source
first-true : (s : Option Stream) (fed : Fed) (given : List Event) (n : ℕ) → IsFedOf s fed →
    given ≡ take n fed.events → IfSome s (λ t. IsPrefix given t.events)
first-true None fed given n is first = tt
first-true (Some t) fed given n is first = (
  drop n fed.events ++ is.0.0,
  is.0.1 ∙ ap (λ (l : List Event). l ++ is.0.0) (sym (take-append-drop n fed.events))
      ∙ append_assoc (take n fed.events) (drop n fed.events) is.0.0 ∙
      ap (λ (l : List Event). l ++ (drop n fed.events ++ is.0.0)) (sym first),
)

all-true : (s : Option Stream) (fed : Fed) → IsFedOf s fed → fed.end ≡ end.Whole →
    AreEventsOf s fed.events × EndsWhole s
all-true None fed is whole = (tt, tt)
all-true (Some t) fed is whole = let so = subst (IsEndOf t fed.events fed.said) whole is.1 in (so.0, so.1)

-- and so does its end record
pub said-true : (s : Stream) (fed : Fed) → IsFedOf (Some s) fed → fed.end ≡ end.Whole →
    (s.said ≡ fed.said) × (length s.events ≡ length fed.events)
said-true s fed is whole =
    let so = subst (IsEndOf s fed.events fed.said) whole is.1 in (so.2, ap length so.0)

prefix-known : (o : Option Stream) (given es : List Event) → IsSome o → IfSome o (λ t. IsPrefix given t.events) →
    AreEventsOf o es → IsPrefix given es
prefix-known None given es some first all = absurd (false≢true some)
prefix-known (Some t) given es some first all = subst (λ (l : List Event). IsPrefix given l) all first

-- a part of known sources goes on to a merge of their entries
pub part-goes-on :
    (streams : List (Option Stream)) (log entries : List Entry) → All IsSome streams → IsPartOf streams log →
    HasRead 0 streams entries → (more : List Entry) × SameSources entries (log ++ more)
part-goes-on streams log entries known part read =
    let r = read-of 0 streams entries read in
    let low : All (λ x. x.source < length r.ess) log = grind (arith, common_steps) in
    let on = goes-on log r.ess low (λ i below.
    let here : i < length streams = omega (arith, below, r.long) in
    prefix-known (get_or streams i None) (given_by i log) (get_or r.ess i []) (known i None here) (part.first i here)
    (r.each i here)) in (
      on.more,
      subst (λ (l : List Entry). SameSources l (log ++ on.more)) (sym r.whole)
          (λ source. sym (on.merge source)),
    )

-- where a part of known sources ends in a fault, they are not well formed
pub ill-formed :
    (streams : List (Option Stream)) (log : List Entry) (f : EventFault) → IsPartOf streams log → IsMalformed log f →
    All IsSome streams → AreWellFormed streams → ⊥
ill-formed streams log f part bad known formed =
    let on = part-goes-on streams log formed.0 known part formed.1 in
    let ok = WellFormed-front log on.0 (WellFormed-sources formed.0 (log ++ on.0) formed.2 on.1) in
    none-some f (sym (ok bad.front [] bad.last bad.whole) ∙ bad.fails)

-- where a part of known sources leaves no lawful order, their entries have none
pub final-refutes :
    (model : MemoryModel) (streams : List (Option Stream)) (f : Refusal) (entries : List Entry) → All IsSome streams →
    AreForbidden model streams f → HasRead 0 streams entries → IsConsistent model entries → ⊥
final-refutes model streams f entries known told read ok =
    let on = part-goes-on streams f.evidence entries known told.part read in
    let longer = consistent-merge model entries (f.evidence ++ on.0) on.1 ok in
    told.final (f.evidence ++ on.0) longer.lawful.0 longer.well_formed (continued f.evidence on.0) longer.lawful.1

-- no run is allowed where another is refused
pub runs-agree :
    (model : MemoryModel) (streams : List (Option Stream)) (one other : Outcome) → All IsSome streams →
    IsTrueOf model streams one → IsTrueOf model streams other → IsAllowed one → IsRefused other → ⊥
runs-agree model streams (Allowed e o w) (Forbidden f) known one other allowed refused =
    let told = one.allowed in final-refutes model streams f told.entries known other.forbidden told.read told.consistent
runs-agree model streams (Allowed e o w) (Malformed m) known one other allowed refused =
    let told = one.allowed in other.malformed.refuted known (told.entries, told.read, told.consistent.well_formed)
runs-agree model streams (Allowed e o w) (Allowed e' o' w') known one other allowed refused = refused
runs-agree model streams (Forbidden f) other known one told allowed refused = allowed
runs-agree model streams (Malformed m) other known one told allowed refused = allowed

not-both : (outcome : Outcome) → IsAllowed outcome → IsRefused outcome → ⊥
not-both outcome h l = grind (arith, common_steps)

run-allowed :
    (model : MemoryModel) (streams : List (Option Stream)) (entries : List Entry) (run : Outcome) → All IsSome streams →
    HasRead 0 streams entries →
    IsTrueOf model streams run → IsAllowed run → IsConsistent model entries
run-allowed model streams entries (Allowed e o w) known read told allowed =
    let so = told.allowed in
    subst (IsConsistent model) (read-once 0 streams so.entries entries known so.read read) so.consistent
run-allowed model streams entries (Forbidden f) known read told allowed = absurd allowed
run-allowed model streams entries (Malformed m) known read told allowed = absurd allowed

run-refused :
    (model : MemoryModel) (streams : List (Option Stream)) (entries : List Entry) (run : Outcome) → All IsSome streams →
    HasRead 0 streams entries →
    IsTrueOf model streams run → IsRefused run → IsConsistent model entries → ⊥
run-refused model streams entries (Allowed e o w) known read told refused ok = refused
run-refused model streams entries (Forbidden f) known read told refused ok =
    final-refutes model streams f entries known told.forbidden read ok
run-refused model streams entries (Malformed m) known read told refused ok =
    told.malformed.refuted known (entries, read, ok.well_formed)

-- no run is allowed where a pass is refused, nor the other way round
pub passes-agree :
    (model : MemoryModel) (streams : List (Option Stream)) (entries merge : List Entry) (run pass : Outcome) →
    All IsSome streams → HasRead 0 streams entries → SameSources entries merge → IsTrueOf model streams run →
    IsReplayed model merge pass →
    (IsAllowed run → IsRefused pass → ⊥) × (IsRefused run → IsAllowed pass → ⊥)
passes-agree model streams entries merge run pass known read same told passed = (
  λ allowed refused. not-both pass ((exactly_allowed model merge pass passed).1
      (consistent-merge model entries merge same (run-allowed model streams entries run known read told allowed)))
      refused,
  λ refused allowed. run-refused model streams entries run known read told refused
      (consistent-merge model merge entries (λ source. sym (same source))
      ((exactly_allowed model merge pass passed).0 allowed)),
)

-- of sources that were fed, by what each feeder gave
module _ (streams : List (Option Stream)) (fed : List Fed) (any : Fed) (same : length fed ≡ length streams)
    (each : (i : ℕ) (f : Fed) → i < length streams → IsFedOf (get_or streams i None) (get_or fed i f)) where
  part-true : (log : List Entry) → IsBegun log fed → IsPartOf streams log
  part-true log begun = record {
    none_else = subst (λ (n : ℕ). All (λ x. x.source < n) log) same begun.0;
    first = λ i low. let so = begun.1 i any (omega (arith, low, same)) in
        first-true (get_or streams i None) (get_or fed i any) (given_by i log) so.count (each i any low) so.first;
  }

  read-at : (i : ℕ) → i < length fed → get_or (map (λ (f : Fed). f.events) fed) i [] ≡
      (get_or fed i any).events
  read-at i low = get_or-map (λ (f : Fed). f.events) fed i any [] low

  -- an outcome that agrees with what was read is true of the sources
  pub outcome-true : (model : MemoryModel) (outcome : Outcome) → AgreesWith model fed outcome →
      IsTrueOf model streams outcome
  outcome-true model (Allowed e o w) a =
      let log = a.0 in
      let ess = map (λ (f : Fed). f.events) fed in
      let long : length ess ≡ length fed = length-map fed (λ (f : Fed). f.events) in
      let ended = λ (i : ℕ) (low : i < length streams). all-true (get_or streams i None) (get_or fed i any)
      (each i any low) (a.2.1 i any (omega (arith, low, same))).ended in
      let told = allowed-true model streams log ess a.1
      (subst (λ (n : ℕ). All (λ x. x.source < n) log) (sym long) a.2.0)
      (λ i low. let here : i < length fed = omega (arith, low, long) in (a.2.1 i any here).all ∙ sym (read-at i here))
      (long ∙ same) (λ i low. let here : i < length fed = omega (arith, low, same) in
      subst (λ (l : List Event). AreEventsOf (get_or streams i None) l) (sym (read-at i here)) (ended i low).0)
      (All-from_get_or EndsWhole streams None (λ i low. (ended i low).1)) in
      record {
        allowed = record {
          whole = told.whole;
          entries = told.entries;
          read = told.read;
          consistent = told.consistent;
          events_is = a.3 ∙ told.events_is;
          operations_is = a.4 ∙ told.operations_is;
          waiting_is = a.5 ∙ told.waiting_is;
        };
        forbidden = tt;
        malformed = tt;
      }
  outcome-true model (Forbidden f) a = record {
    allowed = tt;
    forbidden = record { judged_by = a.0; part = part-true f.evidence a.1; well_formed = a.2; final = a.3 };
    malformed = tt;
  }
  outcome-true model (Malformed m) a = let part = part-true m.evidence a.1 in record {
    allowed = tt;
    forbidden = tt;
    malformed = record {
      judged_by = a.0;
      part = part;
      malformed = a.2;
      refuted = ill-formed streams m.evidence m.fault part a.2;
    };
  }

  -- a log of all that was read has the events of the sources
  abbrev pub every : List Entry
  every = together 0 (map (λ (f : Fed). f.events) fed)

  pub read-true : (log : List Entry) → IsWhole log fed → HasRead 0 streams every
  read-true log whole =
      let ess = map (λ (f : Fed). f.events) fed in
      let long : length ess ≡ length fed = length-map fed (λ (f : Fed). f.events) in
      read-all 0 streams ess (long ∙ same) (λ i low. let here : i < length fed = omega (arith, low, same) in
      subst (λ (l : List Event). AreEventsOf (get_or streams i None) l) (sym (read-at i here))
      (all-true (get_or streams i None) (get_or fed i any) (each i any low) (whole.1 i any here).ended).0)

  pub merge-true : (log : List Entry) → IsWhole log fed →
      All (λ x. x.source < length fed) log × All (λ x. x.source < length fed) every × SameSources log every
  merge-true log whole =
      let ess = map (λ (f : Fed). f.events) fed in
      let long : length ess ≡ length fed = length-map fed (λ (f : Fed). f.events) in (
        whole.0,
        subst (λ (n : ℕ). All (λ x. x.source < n) every) long (low-together 0 (length ess) ess (omega arith)),
        merge-of log ess (subst (λ (n : ℕ). All (λ x. x.source < n) log) (sym long) whole.0)
            (λ i low. let here : i < length fed = omega (arith, low, long) in
            (whole.1 i any here).all ∙ sym (read-at i here)),
      )

  -- what such a log has exercised the sources have
  pub covered-true : (model : MemoryModel) (c : Coverage) → IsCoveredBy model fed c → AreCovered model streams c
  covered-true model c a = record {
    entries = every;
    read = read-true a.0 a.1;
    log = a.0;
    merge = λ source. sym ((merge-true a.0 a.1).2 source);
    coverage = a.2;
  }

  -- a fault that a feeder met is one of its source
  pub fault-true : (why : RunFault) → IsFaultIn fed why → IsFaultAmong streams why
  fault-true (fault.Trace source f) told =
      let low : source < length streams = omega (arith, told.low, same) in
      (low, own (get_or streams source None) (get_or fed source any) (each source any low) (told.end_is any))
    where
      own : (s : Option Stream) (one : Fed) → IsFedOf s one → one.end ≡ end.Fault f → EndsIn s f
      own None one is by = tt
      own (Some t) one is by = subst (IsEndOf t one.events one.said) by is.1
  fault-true fault.NoMemory told = tt
  fault-true fault.Lost told = tt
  fault-true fault.Settings told = tt

-- the same of readers, by what each says
pub each-of :
    {R : Type 0} (says : R → Option Stream) (readers : List R) (fed : List Fed) → length fed ≡ length readers →
    ((i : ℕ) (r : R) (f : Fed) → i < length readers → IsFedOf (says (get_or readers i r)) (get_or fed i f)) →
    (r : R) (i : ℕ) (f : Fed) →
    i < length (map says readers) → IsFedOf (get_or (map says readers) i None) (get_or fed i f)
each-of says readers fed same each r i f low =
    let below : i < length readers = omega (arith, low, length-map readers says) in
    subst (λ (s : Option Stream). IsFedOf s (get_or fed i f)) (sym (get_or-map says readers i r None below))
    (each i r f below)

-- what a run answers of sources
pub record IsAnswer (model : MemoryModel) (streams : List (Option Stream)) (a : Result Judged RunFault)
    : Type 0 where
  pub allowed : IfOk a (λ j. IfAllowed j.outcome (AreAllowed model streams))
  pub forbidden : IfOk a (λ j. IfForbidden j.outcome (AreForbidden model streams))
  pub malformed : IfOk a (λ j. IfMalformed j.outcome (AreMalformed model streams))
  pub covered : IfOk a (λ j. IfSome j.coverage (AreCovered model streams))
  pub fault : IfErr a (IsFaultAmong streams)

-- is what its threads come to
pub answer-true :
    {R : Type 0} (says : R → Option Stream) (readers : List R) (fed : List Fed) (model : MemoryModel)
    (a : Result Judged RunFault) → 0 < length readers →
    length fed ≡ length readers → ((i : ℕ) (r : R) (f : Fed) → i < length readers → IsFedOf (says (get_or readers i r))
    (get_or fed i f)) → IfOk a (λ j. AgreesWith model fed j.outcome) →
    IfOk a (λ j. IfSome j.coverage (IsCoveredBy model fed)) → IfErr a (IsFaultIn fed) →
    IsAnswer model (map says readers) a
answer-true says [] fed model a some same each told covers why = absurd (omega (arith, some))
answer-true says (r ∷ rs) [] model a some same each told covers why = absurd (omega (arith, same))
answer-true says (r ∷ rs) (f ∷ fs) model a some same each told covers why = go a told covers why
  where
    long : length (f ∷ fs) ≡ length (map says (r ∷ rs))
    long = same ∙ sym (length-map (r ∷ rs) says)

    covered : (c : Option Coverage) → IfSome c (IsCoveredBy model (f ∷ fs)) →
        IfSome c (AreCovered model (map says (r ∷ rs)))
    covered None told = tt
    covered (Some c) told = covered-true (map says (r ∷ rs)) (f ∷ fs) f long
        (each-of says (r ∷ rs) (f ∷ fs) same each r) model c told

    go : (a : Result Judged RunFault) → IfOk a (λ j. AgreesWith model (f ∷ fs) j.outcome) →
        IfOk a (λ j. IfSome j.coverage (IsCoveredBy model (f ∷ fs))) → IfErr a (IsFaultIn (f ∷ fs)) →
        IsAnswer model (map says (r ∷ rs)) a
    go (Ok j) told covers why = let is = outcome-true (map says (r ∷ rs)) (f ∷ fs) f long
        (each-of says (r ∷ rs) (f ∷ fs) same each r) model j.outcome told in record {
          allowed = is.allowed;
          forbidden = is.forbidden;
          malformed = is.malformed;
          covered = covered j.coverage covers;
          fault = tt;
        }
    go (Err e) told covers why = record {
      allowed = tt;
      forbidden = tt;
      malformed = tt;
      covered = tt;
      fault = fault-true (map says (r ∷ rs)) (f ∷ fs) f long (each-of says (r ∷ rs) (f ∷ fs) same each r) e why;
    }
