-- No number of an explanation is a float.
use Rattle.std.proofs.Common.{rules, ◌≡◌, ℕ, List, false, Option, None, Some, String, map, refl}
use Rattle.std.specs.Borrow.{Bor}
use Rattle.std.specs.Global.{Global}
use Rattle.std.specs.Option.{option_copied}
use Rattle.rv_report.proofs.Floats.{items-none, neither, put-none}
use Rattle.serde_json.specs.Data.{Data, null, boolean, number, string, array, object}
use Rattle.serde_json.specs.View.{items_of}
use Rattle.serde_json.specs.Written.{has_float, items_have_float, members_have_float}
use Rattle.rv_event.specs.declared.event.Event.{Event}
use Rattle.rv_event.specs.declared.fault.Fault.{Fault}
use Rattle.rv_explain.specs.declared.explanation.Cause.{Cause}
use Rattle.rv_explain.specs.declared.explanation.Cause.TheVariants.{Cycle, Stale}
use Rattle.rv_explain.specs.declared.explanation.Explanation.{Explanation}
use Rattle.rv_explain.specs.declared.shown.Column.{Column}
use Rattle.rv_explain.specs.declared.shown.Shown.{Shown}
use Rattle.rv_explain.specs.declared.step.Step.{Step}
use Rattle.rv_explain_json.specs.Explained.{cause_data, column_data, explanation_data, fault_data, name_data}
use Rattle.rv_explain_json.specs.Explained.{shown_data, where_member}
use Rattle.rv_explain_json.specs.Explained.{step_data, witness_data}
use Rattle.rv_explain_json.specs.Reports.{with_explanation}

-- a report that has none, with an explanation that has none
pub with-none : (e d : Data) → has_float e ≡ false → has_float d ≡ false → has_float (with_explanation e d) ≡ false
with-none e null p q = q
with-none e (boolean b) p q = q
with-none e (number n) p q = q
with-none e (string s) p q = q
with-none e (array ds) p q = q
with-none e (object ms) p q = put-none _ e ms p q

where-none : (text : Option (Bor (List ℕ))) → members_have_float (where_member (option_copied text)) ≡ false
where-none (Some text) = refl
where-none None = refl

shown-none : (s : Shown) → has_float (shown_data s) ≡ false
shown-none s = rw (where-none s.text) refl

column-none : (c : Column) → has_float (column_data c) ≡ false
column-none c = neither _ _ (items-none shown_data shown-none c.events.items) refl

witness-none : (o : Option Event) → has_float (witness_data o) ≡ false
witness-none (Some e) = refl
witness-none None = refl

step-none : (s : Step) → has_float (step_data s) ≡ false
step-none s = search (witness-none, neither, rules)

name-none : (n : String Global) → has_float (name_data n) ≡ false
name-none n = refl

-- the explanation of a forbidden log
pub explanation-none : (names : List (String Global)) (e : Explanation) → has_float (explanation_data names e) ≡ false
explanation-none names e = by e.cause
  where
    columns : items_have_float (items_of (map column_data e.columns.items)) ≡ false
    columns = items-none column_data column-none e.columns.items

    sources : items_have_float (items_of (map name_data names)) ≡ false
    sources = items-none name_data name-none names

    by : (c : Cause) → has_float (cause_data names e.columns.items e.refused c) ≡ false
    by (Cycle steps) =
        rw (columns, items-none step_data step-none steps.items, where-none e.refused.text, sources) refl
    by (Stale load store) = rw (columns, where-none e.refused.text, sources) refl

-- what is wrong with a malformed one
pub fault-none : (names : List (String Global)) (s : Shown) (f : Fault) → has_float (fault_data names s f) ≡ false
fault-none names s f = rw (where-none s.text, items-none name_data name-none names) refl
