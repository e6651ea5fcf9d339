-- The field of a source's fault, as one of the ending.
use Rattle.std.proofs.Common.{◌≡◌, ℕ, List, Option, None, Some, String, string_bytes, subst, sym}
use Rattle.std.specs.Global.{Global}
use Rattle.std.specs.Prelude.{IfSome, option_map, slice_get}
use Rattle.clap.specs.Words.{Text}
use Rattle.rv_trace.specs.Columns.{IsFieldInRow}
use Rattle.rv_trace.specs.Source.{text_records}
use Rattle.rv_trace.specs.declared.column.FaultyField.{FaultyField}
use Rattle.rv_trace.specs.declared.dialect.Dialect.{Dialect}
use Rattle.rv_trace.specs.declared.fault.TraceFault.{TraceFault}
use Rattle.rv_run.specs.declared.fault.RunFault.TheVariants as fault
use Rattle.rv_cli.specs.declared.request.Asked.{Asked}
use Rattle.rvmon.specs.Backings.{IsFieldOf, dialect_asked}
use Rattle.rvmon.specs.declared.ending.Ending.{Ending}
use Rattle.rvmon.specs.declared.ending.Ending.TheVariants.{Failed}

-- what was found in the file of the request that has the fault
pub field-found : (known : Text → Option (List ℕ)) (asked : Asked) (e : Ending) (source : ℕ) (f : TraceFault)
    (name : String Global) (d : Dialect) (field : Option FaultyField) → e ≡ Failed (fault.Trace source f) →
    slice_get asked.files.items source ≡ Some name → d ≡ dialect_asked asked →
    IfSome field (λ x. IsFieldInRow d f.row (option_map text_records (known (string_bytes name))) (Some x)) →
    IfSome field (IsFieldOf known asked e)
field-found known asked e source f name d None is at same found = tt
field-found known asked e source f name d (Some x) is at same found =
    let records = option_map text_records (known (string_bytes name)) in
    let says = subst (λ (t : Dialect). IsFieldInRow t f.row records (Some x)) same found in
    subst (λ (ending : Ending). IsFieldOf known asked ending x) (sym is) (name, at, says)
