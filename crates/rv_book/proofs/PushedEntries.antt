-- A log with one more entry, and its verdicts.
use Rattle.rv_book.proofs.Common.{common_steps, rules, ◌≡◌, ◌<◌, List, [], ◌∷◌, ◌++◌, length, Option, Some, None}
use Rattle.rv_book.proofs.Common.{refl, ap, ◌∙◌, subst, arith, Bool, length-map, length_push, events, Lawful}
use Rattle.rv_book.proofs.Common.{WellFormed, fault_of, event_fault, first_faults, source_fault, deps_fault, lowest}
use Rattle.rv_book.proofs.Common.{lowest-none, none-lowest, lowest-append_some, WellFormed-push, length-WellFormed}
use Rattle.rv_book.proofs.Common.{MemoryModel, Entry, Fault, none-some, Certifies, Refusal, no_certificate, Kept}
use Rattle.rv_book.proofs.Common.{happened, grown, Arranged, IsOwn, order_of, Booked, IsBooked, IsTaken}
use Rattle.rv_book.proofs.Common.{IsForbiddenOn, booked_of}

-- an entry without a fault is an event without one
pub event_sound : (log : List Entry) (x : Entry) → fault_of log x ≡ None → event_fault (events log) x.event ≡ None
event_sound log x none = search (lowest-none, none-lowest, rules)

-- nor has it one of its source, and its hart is one of sixteen
pub source_sound : (log : List Entry) (x : Entry) → fault_of log x ≡ None → source_fault log x ≡ None
source_sound log x none = search (lowest-none, rules)

-- a log that takes one entry more has room for it
pub room_in : (log : List Entry) (x : Entry) → WellFormed log → fault_of log x ≡ None → length log < 65536
room_in log x ok none =
    let long = length-WellFormed (log ++ x ∷ []) (WellFormed-push log x ok none) in
    omega (arith, long, length_push log x)

-- and so has the history of its events
pub room_of : (log : List Entry) (h : List Kept) (x : Entry) → WellFormed log → fault_of log x ≡ None →
    happened h ≡ events log → length h < 65536
room_of log h x ok none same =
    let long = length-WellFormed (log ++ x ∷ []) (WellFormed-push log x ok none) in
    omega (
      arith,
      long,
      length_push log x,
      ap length same,
      length-map h (λ (k : Kept). k.event),
      length-map log (λ (y : Entry). y.event),
    )

-- the events of a log with one entry more are those of its history with one event more
pub events-push : (log : List Entry) (h : List Kept) (x : Entry) → happened h ≡ events log →
    grown h x.event ≡ events (log ++ x ∷ [])
events-push log h x same = grind (arith, common_steps)

-- a book stays one with an entry more
pub booked_push :
    (log new : List Entry) (v w : Arranged) (x : Entry) → IsBooked log v → fault_of log x ≡ None →
    happened w.history ≡ grown v.history x.event → Lawful w.model (happened w.history) (order_of w.ranks w.ids) →
    new ≡ log ++ x ∷ [] → IsBooked new w
booked_push log new v w x ok none e lawful is = search (events-push, WellFormed-push, rules)

-- a certificate of the grown history forbids the entry
pub forbidden_of :
    (model : MemoryModel) (log : List Entry) (h : List Kept) (x : Entry) (f : Refusal) → fault_of log x ≡ None →
    happened h ≡ events log → f.model ≡ model → f.evidence ≡ log ++ x ∷ [] →
    Certifies model (grown h x.event) f.certificate → IsOwn x.event f.certificate →
    IsForbiddenOn model log x f
forbidden_of model log h x f none same by is certifies own =
    let c : Certifies model (events (log ++ x ∷ [])) f.certificate = grind (arith, common_steps) in
    record {
      judged_by = by;
      evidence = is;
      sound = none;
      certified = c;
      own = own;
      none = λ some. no_certificate model (events (log ++ x ∷ [])) some.0 some.1 f.certificate c;
    }

-- a book with one more entry
pub taken_of : (log new : List Entry) (v w : Arranged) (stopped : Bool) (now : Booked) (x : Entry) →
    booked_of log v stopped ≡ now →
    IsBooked log v → fault_of log x ≡ None → w.model ≡ v.model → happened w.history ≡ grown v.history x.event →
    Lawful w.model (happened w.history) (order_of w.ranks w.ids) → new ≡ log ++ x ∷ [] →
    IsTaken now (booked_of new w stopped) x
taken_of log new v w stopped now x is ok none by e lawful grew =
    let same = e ∙ events-push log v.history x ok.same in
    let here : Lawful v.model (events (log ++ x ∷ [])) (order_of w.ranks w.ids) =
    grind (arith, common_steps) in
    record {
      model = by ∙ ap (λ (b : Booked). b.model) is;
      stopped = ap (λ (b : Booked). b.stopped) is;
      sound = subst (λ (b : Booked). fault_of b.log x ≡ None) is none;
      log = grew ∙ ap (λ (b : Booked). b.log ++ x ∷ []) is;
      lawful = (
        order_of w.ranks w.ids,
        subst
            (λ (b : Booked). Lawful b.model (events (b.log ++ x ∷ [])) (order_of w.ranks w.ids)) is here,
      );
    }

-- ---- the faults one after another
none_first : (xs ys : List (Option Fault)) → None ≡ lowest xs → lowest (xs ++ ys) ≡ lowest ys
none_first [] ys e = refl
none_first (None ∷ xs) ys e = none_first xs ys e
none_first (Some f ∷ xs) ys e = absurd (none-some f e)

module _ (log : List Entry) (x : Entry) where
  -- the first fault that holds is the entry's
  pub first_of_faults : (f : Fault) → Some f ≡ lowest (first_faults (events log) x.event) → Some f ≡ fault_of log x
  first_of_faults f e = search (lowest-append_some, rules)

  -- where none of the first faults holds, the fault of its source is the first
  pub source_of_faults : (f : Fault) → None ≡ lowest (first_faults (events log) x.event) → Some f ≡ source_fault log x →
      Some f ≡ fault_of log x
  source_of_faults f none e = search (none_first, rules)

  one : (o : Option Fault) → o ≡ lowest (o ∷ [])
  one None = refl
  one (Some f) = refl

  -- where that does not hold either, too many dependencies are
  pub deps_of_faults : None ≡ lowest (first_faults (events log) x.event) → None ≡ source_fault log x →
      deps_fault x.event ≡ fault_of log x
  deps_of_faults none e = search (none_first, rules)
