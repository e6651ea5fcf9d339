-- What coverage counts in a log. That a load reads from the store that wrote its version, or the
-- initial value, is the manual's load value axiom, section 14.1.
use Rattle.std.specs.Prelude.{ℕ, Bool, true, false, not, ◌&&◌, ◌==◌, ◌+◌, List, [], ◌∷◌, map}
use Rattle.std.specs.Prelude.{Option, Some, None, count_by, if◌then◌else◌}
use Rattle.std.specs.List.{list_any}
use Rattle.rv_event.specs.Log.{events, writer}
use Rattle.rv_event.specs.Operations.{is_load, is_memory}
use Rattle.rv_event.specs.declared.event.Event.{Event}
use Rattle.rv_event.specs.declared.event.Entry.{Entry}
use Rattle.rv_event.specs.declared.reason.Link.{Link}
use Rattle.rv_event.specs.declared.reason.Reason.{Reason}
use Rattle.rv_event.specs.declared.reason.Reason.TheVariants.{Preserved, Coherence, ReadsFrom, FromRead}
use Rattle.rv_event.specs.declared.reason.Reason.TheVariants.{AtomicIn, AtomicOut}
use Rattle.rv_coverage.specs.Kinds.{is_of, kinds}
use Rattle.rv_coverage.specs.declared.feature.Count.{Count}
use Rattle.rv_coverage.specs.declared.feature.Feature.TheVariants as feature
use Rattle.rv_coverage.specs.declared.feature.Origin.{Origin}
use Rattle.rv_coverage.specs.declared.feature.Origin.TheVariants.{Initial, Own, Other, Waiting}
use Rattle.rv_coverage.specs.declared.kind.Kind.{Kind}

-- ---- events
-- the events of a kind
abbrev pub events_of : List Entry → Kind → Count
events_of log k = record { feature = feature.Event k; count = count_by (λ x. is_of k x.event) log }

abbrev pub event_counts : List Entry → List Count
event_counts log = map (events_of log) kinds

-- ---- links
abbrev pub same_reason : Reason → Reason → Bool
same_reason (Preserved j) (Preserved k) = j == k
same_reason Coherence Coherence = true
same_reason ReadsFrom ReadsFrom = true
same_reason FromRead FromRead = true
same_reason AtomicIn AtomicIn = true
same_reason AtomicOut AtomicOut = true
same_reason _ _ = false

-- the thirteen rules of preserved program order and the other five
abbrev pub reasons : List Reason
reasons =
    Preserved 1 ∷ Preserved 2 ∷ Preserved 3 ∷ Preserved 4 ∷ Preserved 5 ∷ Preserved 6 ∷ Preserved 7
    ∷ Preserved 8 ∷ Preserved 9 ∷ Preserved 10 ∷ Preserved 11 ∷ Preserved 12 ∷ Preserved 13
    ∷ Coherence ∷ ReadsFrom ∷ FromRead ∷ AtomicIn ∷ AtomicOut ∷ []

-- the links with a reason
abbrev pub links_by : List Link → Reason → Count
links_by links r = record { feature = feature.Link r; count = count_by (λ l. same_reason r l.reason) links }

abbrev pub link_counts : List Link → List Count
link_counts links = map (links_by links) reasons

-- ---- reads
-- whether an event of the hart wrote what the load returned
abbrev pub written_by : ℕ → Option Event → Origin
written_by hart None = Waiting
written_by hart (Some w) = if hart == w.id.hart then Own else Other

-- where a load got what it returned
abbrev pub origin_of : List Event → Event → Origin
origin_of log e = if e.read == 0 then Initial else written_by e.id.hart (writer log e.word e.read)

abbrev pub same_origin : Origin → Origin → Bool
same_origin Initial Initial = true
same_origin Own Own = true
same_origin Other Other = true
same_origin Waiting Waiting = true
same_origin _ _ = false

abbrev pub origins : List Origin
origins = Initial ∷ Own ∷ Other ∷ Waiting ∷ []

-- the loads that read from there
abbrev pub reads_from : List Entry → Origin → Count
reads_from log o = record {
  feature = feature.Read o;
  count = count_by (λ x. is_load x.event.op && same_origin o (origin_of (events log) x.event)) log;
}

abbrev pub read_counts : List Entry → List Count
read_counts log = map (reads_from log) origins

-- ---- harts
abbrev pub all_harts : List ℕ
all_harts = 0 ∷ 1 ∷ 2 ∷ 3 ∷ 4 ∷ 5 ∷ 6 ∷ 7 ∷ 8 ∷ 9 ∷ 10 ∷ 11 ∷ 12 ∷ 13 ∷ 14 ∷ 15 ∷ []

-- how many harts have an event
abbrev pub harts_of : List Entry → ℕ
harts_of log = count_by (λ h. list_any (λ x. h == x.event.id.hart) log) all_harts

-- ---- pairs
-- memory operations of different harts on one word
abbrev pub share_word : Event → Event → Bool
share_word a b =
    (is_memory a.op && is_memory b.op) && ((a.word == b.word) && not (a.id.hart == b.id.hart))

-- how many pairs of events do
abbrev pub pairs_of : List Event → ℕ
pairs_of [] = 0
pairs_of (e ∷ log) = count_by (share_word e) log + pairs_of log
