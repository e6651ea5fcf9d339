-- Events and reasons in words, byte by byte. The format is this project's own.
use Rattle.std.specs.Prelude.{ℕ, List, [], Bool, true, false, Option, Some, None, codes, decimal, if◌then◌else◌, ◌==◌}
use Rattle.std.specs.Option.{option_copied}
use Rattle.rv_event.specs.Rows.{set_text}
use Rattle.rv_event.specs.Texts.{◌⋯◌, id_text}
use Rattle.rv_event.specs.declared.event.Event.{Event}
use Rattle.rv_event.specs.declared.event.Op.{Op}
use Rattle.rv_event.specs.declared.event.Op.TheVariants.{Load, Store, Lr, Sc, ScFailed, Amo, Branch, Carrier}
use Rattle.rv_event.specs.declared.event.Op.TheVariants.{Fence, FenceTso}
use Rattle.rv_event.specs.declared.reason.Reason.{Reason}
use Rattle.rv_event.specs.declared.reason.Reason.TheVariants.{Preserved, Coherence, ReadsFrom, FromRead}
use Rattle.rv_event.specs.declared.reason.Reason.TheVariants.{AtomicIn, AtomicOut}
use Rattle.rv_explain.specs.declared.step.Step.{Step}

-- ---- events
-- the acquire and release bits, as the assembler has them
abbrev pub bits_text : Bool → Bool → List ℕ
bits_text true true = codes ".aqrl"
bits_text true false = codes ".aq"
bits_text false true = codes ".rl"
bits_text false false = []

abbrev pub version_text : ℕ → ℕ → List ℕ
version_text word version = codes " word " ⋯ decimal word ⋯ codes ", version " ⋯ decimal version

-- what an event does, with its word and versions
abbrev pub deed_text : Op → Event → List ℕ
deed_text Load e = codes "load" ⋯ version_text e.word e.read
deed_text Store e = codes "store" ⋯ version_text e.word e.wrote
deed_text Lr e = codes "LR" ⋯ bits_text e.acquire e.release ⋯ version_text e.word e.read
deed_text Sc e = codes "SC" ⋯ bits_text e.acquire e.release ⋯ version_text e.word e.wrote
deed_text ScFailed e = codes "failed SC word " ⋯ decimal e.word
deed_text Amo e =
    codes "AMO" ⋯ bits_text e.acquire e.release ⋯ version_text e.word e.read ⋯ codes ", then " ⋯ decimal e.wrote
deed_text (Fence pred succ) e = codes "fence " ⋯ set_text pred ⋯ codes "," ⋯ set_text succ
deed_text FenceTso e = codes "fence.tso"
deed_text Branch e = codes "branch"
deed_text Carrier e = codes "instruction"

-- the class of a memory operation
abbrev pub class_text : Op → List ℕ
class_text Load = codes "loads"
class_text Lr = codes "loads"
class_text Store = codes "stores"
class_text Sc = codes "stores"
class_text Amo = codes "AMOs"
class_text ScFailed = codes "operations"
class_text (Fence pred succ) = codes "operations"
class_text FenceTso = codes "operations"
class_text Branch = codes "operations"
class_text Carrier = codes "operations"

-- what a reason stands on, named where it is known
abbrev pub third_text : List ℕ → Option Event → List ℕ
third_text noun (Some m) = codes "the " ⋯ noun ⋯ codes " " ⋯ id_text m.id
third_text noun None = codes "a " ⋯ noun

-- ---- sentences
-- What the rule with this number says of the two events alone. Manual, section 14.1, "Preserved
-- Program Order"; the other rules speak of a third event.
abbrev pub pair_text : ℕ → Event → Event → List ℕ
pair_text k a b =
    if k == 1 then codes "both access word " ⋯ decimal a.word ⋯ codes ", and " ⋯ id_text b.id ⋯ codes " stores to it"
    else if k == 2 then
    codes "they returned versions " ⋯ decimal a.read ⋯ codes " and " ⋯ decimal b.read ⋯ codes " of word "
    ⋯ decimal a.word ⋯ codes ", and no store to it stands between them"
    else if k == 3 then
    id_text b.id ⋯ codes " returned version " ⋯ decimal b.read ⋯ codes " of word " ⋯ decimal b.word
    ⋯ codes ", which the AMO or SC " ⋯ id_text a.id ⋯ codes " wrote"
    else if k == 5 then id_text a.id ⋯ codes " has an acquire annotation"
    else if k == 6 then id_text b.id ⋯ codes " has a release annotation"
    else if k == 7 then codes "both have RCsc annotations"
    else if k == 8 then id_text a.id ⋯ codes " is the LR that is paired with the SC " ⋯ id_text b.id
    else []

-- what the rules say by which b has a dependency on a
abbrev pub dependency_text : ℕ → Event → Event → List ℕ
dependency_text k a b =
    if k == 9 then codes "the address of " ⋯ id_text b.id ⋯ codes " depends on " ⋯ id_text a.id
    else if k == 10 then codes "the data that " ⋯ id_text b.id ⋯ codes " stores depends on " ⋯ id_text a.id
    else []

-- what the rules say that speak of a third event
abbrev pub between_text : ℕ → Event → Event → Option Event → List ℕ
between_text k a b m =
    if k == 4 then
    third_text (codes "fence") m ⋯ codes " between them orders " ⋯ class_text a.op ⋯ codes " before "
    ⋯ class_text b.op
    else if k == 11 then
    third_text (codes "branch") m ⋯ codes " between them depends on " ⋯ id_text a.id ⋯ codes ", and "
    ⋯ id_text b.id ⋯ codes " is a store"
    else if k == 12 then
    id_text b.id ⋯ codes " returned what " ⋯ third_text (codes "store") m
    ⋯ codes " between them wrote, whose address or data depends on " ⋯ id_text a.id
    else if k == 13 then
    codes "the address of " ⋯ third_text (codes "access") m ⋯ codes " between them depends on " ⋯ id_text a.id
    ⋯ codes ", and " ⋯ id_text b.id ⋯ codes " is a store"
    else []

-- a rule of preserved program order
abbrev pub rule_sentence : Reason → Event → Event → Option Event → List ℕ
rule_sentence (Preserved k) a b m =
    pair_text k a b ⋯ dependency_text k a b ⋯ between_text k a b m ⋯ codes " (preserved program order, rule "
    ⋯ decimal k ⋯ codes ")"
rule_sentence Coherence a b m = []
rule_sentence ReadsFrom a b m = []
rule_sentence FromRead a b m = []
rule_sentence AtomicIn a b m = []
rule_sentence AtomicOut a b m = []

-- the order of a word's stores, or the load value axiom
abbrev pub version_sentence : Reason → Event → Event → List ℕ
version_sentence (Preserved k) a b = []
version_sentence Coherence a b =
    id_text a.id ⋯ codes " wrote version " ⋯ decimal a.wrote ⋯ codes " of word " ⋯ decimal a.word ⋯ codes ", and "
    ⋯ id_text b.id ⋯ codes " the later version " ⋯ decimal b.wrote ⋯ codes " (coherence)"
version_sentence ReadsFrom a b =
    id_text b.id ⋯ codes " returned version " ⋯ decimal b.read ⋯ codes " of word " ⋯ decimal b.word
    ⋯ codes ", which " ⋯ id_text a.id ⋯ codes " wrote (load value axiom)"
version_sentence FromRead a b =
    id_text a.id ⋯ codes " returned version " ⋯ decimal a.read ⋯ codes " of word " ⋯ decimal a.word ⋯ codes ", and "
    ⋯ id_text b.id ⋯ codes " wrote version " ⋯ decimal b.wrote ⋯ codes " (load value axiom)"
version_sentence AtomicIn a b = []
version_sentence AtomicOut a b = []

-- the atomicity axiom
abbrev pub atomic_sentence : Reason → Event → Event → Option Event → List ℕ
atomic_sentence (Preserved k) a b m = []
atomic_sentence Coherence a b m = []
atomic_sentence ReadsFrom a b m = []
atomic_sentence FromRead a b m = []
atomic_sentence AtomicIn a b m =
    id_text b.id ⋯ codes " is the SC paired with " ⋯ third_text (codes "LR") m ⋯ codes ", which returned what "
    ⋯ id_text a.id ⋯ codes " wrote (atomicity axiom)"
atomic_sentence AtomicOut a b m =
    id_text a.id ⋯ codes " is the SC paired with " ⋯ third_text (codes "LR") m
    ⋯ codes ", and another hart's version " ⋯ decimal b.wrote ⋯ codes " of word " ⋯ decimal b.word
    ⋯ codes ", which " ⋯ id_text b.id ⋯ codes " wrote, may not come between (atomicity axiom)"

-- why a comes before b, and the rule or axiom of the manual's section 14.1 that says so: one of the
-- three speaks of each reason
abbrev pub reason_sentence : Reason → Event → Event → Option Event → List ℕ
reason_sentence reason a b m = rule_sentence reason a b m ⋯ version_sentence reason a b ⋯ atomic_sentence reason a b m

-- a step: its ends, and why
abbrev pub step_text : Step → List ℕ
step_text s =
    id_text s.from.now.id ⋯ codes " before " ⋯ id_text s.to.now.id ⋯ codes ": "
    ⋯ reason_sentence s.reason s.from.now s.to.now (option_copied s.witness)

-- a stale pair
abbrev pub stale_text : Event → Event → List ℕ
stale_text a b =
    id_text a.id ⋯ codes " returned version " ⋯ decimal a.read ⋯ codes " of word " ⋯ decimal a.word ⋯ codes ", but "
    ⋯ id_text b.id ⋯ codes ", an earlier store of its own hart, wrote version " ⋯ decimal b.wrote
    ⋯ codes " (load value axiom)"
