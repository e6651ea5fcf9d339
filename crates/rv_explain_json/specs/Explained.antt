-- Explanations as the data of JSON values.
use Rattle.std.specs.Prelude.{ℕ, List, Option, Some, None, String, codes, map, string_bytes}
use Rattle.std.specs.Global.{Global}
use Rattle.std.specs.Option.{option_copied}
use Rattle.serde_json.specs.Data.{Data, Items, Members, null, string, array, object, member, no_members}
use Rattle.serde_json.specs.View.{items_of}
use Rattle.rv_event.specs.Texts.{reason_text}
use Rattle.rv_event.specs.declared.event.Event.{Event}
use Rattle.rv_event.specs.declared.fault.Fault.{Fault}
use Rattle.rv_report.specs.JsonData.{id_data, whole_number}
use Rattle.rv_explain.specs.Faults.{expected_text, usual_text, wrong_text}
use Rattle.rv_explain.specs.Wording.{deed_text, stale_text, step_text}
use Rattle.rv_explain.specs.declared.explanation.Cause.{Cause}
use Rattle.rv_explain.specs.declared.explanation.Cause.TheVariants.{Cycle, Stale}
use Rattle.rv_explain.specs.declared.explanation.Explanation.{Explanation}
use Rattle.rv_explain.specs.declared.shown.Column.{Column}
use Rattle.rv_explain.specs.declared.shown.Shown.{Shown}
use Rattle.rv_explain.specs.declared.step.Step.{Step}

-- what is said of a row, if anything is
abbrev pub where_member : Option (List ℕ) → Members
where_member (Some text) = member (codes "where") (string text) no_members
where_member None = no_members

-- an event with its source and its row there
abbrev pub shown_data : Shown → Data
shown_data s =
    object (member (codes "id") (id_data s.entry.now.event.id)
    (member (codes "row") (whole_number s.row)
    (member (codes "source") (whole_number s.entry.now.source)
    (member (codes "text") (string (deed_text s.entry.now.event.op s.entry.now.event))
    (where_member (option_copied s.text))))))

abbrev pub column_data : Column → Data
column_data c =
    object (member (codes "events") (array (items_of (map shown_data c.events.items)))
    (member (codes "hart") (whole_number c.hart) no_members))

abbrev pub witness_data : Option Event → Data
witness_data (Some e) = id_data e.id
witness_data None = null

-- a step, in words too
abbrev pub step_data : Step → Data
step_data s =
    object (member (codes "from") (id_data s.from.now.id)
    (member (codes "reason") (string (reason_text s.reason))
    (member (codes "text") (string (step_text s))
    (member (codes "to") (id_data s.to.now.id)
    (member (codes "witness") (witness_data (option_copied s.witness)) no_members)))))

abbrev pub stale_data : Event → Event → Data
stale_data load store =
    object (member (codes "load") (id_data load.id)
    (member (codes "store") (id_data store.id)
    (member (codes "text") (string (stale_text load store)) no_members)))

abbrev pub name_data : String Global → Data
name_data name = string (string_bytes name)

abbrev pub columns_items : List Column → Items
columns_items columns = items_of (map column_data columns)

abbrev pub names_items : List (String Global) → Items
names_items names = items_of (map name_data names)

-- an explanation with a cycle, and one with a stale pair
abbrev pub with_cycle : Items → Items → Data → Items → Data
with_cycle columns cycle refused sources =
    object (member (codes "columns") (array columns)
    (member (codes "cycle") (array cycle)
    (member (codes "refused") refused
    (member (codes "sources") (array sources) no_members))))

abbrev pub with_pair : Items → Data → Items → Data → Data
with_pair columns refused sources stale =
    object (member (codes "columns") (array columns)
    (member (codes "refused") refused
    (member (codes "sources") (array sources)
    (member (codes "stale") stale no_members))))

abbrev pub cause_data : List (String Global) → List Column → Shown → Cause → Data
cause_data names columns refused (Cycle steps) =
    with_cycle (columns_items columns) (items_of (map step_data steps.items)) (shown_data refused) (names_items names)
cause_data names columns refused (Stale load store) =
    with_pair (columns_items columns) (shown_data refused) (names_items names) (stale_data load.now store.now)

-- the explanation of a forbidden log
abbrev pub explanation_data : List (String Global) → Explanation → Data
explanation_data names e = cause_data names e.columns.items e.refused e.cause

-- what is wrong with the last event of a malformed log
abbrev pub fault_data : List (String Global) → Shown → Fault → Data
fault_data names refused fault =
    object (member (codes "expected") (string (expected_text fault))
    (member (codes "refused") (shown_data refused)
    (member (codes "sources") (array (names_items names))
    (member (codes "usual") (string (usual_text fault))
    (member (codes "wrong") (string (wrong_text fault refused.entry.now.event)) no_members)))))
