use Rattle.std.proofs.Common.{◌≡◌, ◌∙◌, Some, ap, rules, sym}
use Rattle.std.specs.Option.{option_copied}
use Rattle.std.specs.Prelude.{slice_get}
use Rattle.rv_run.specs.declared.fault.RunFault.TheVariants as fault
use Rattle.rvmon.specs.declared.ending.Ending.TheVariants.{Failed}
use Rattle.rvmon.proofs.Fields.{field-found}
use Rattle.rvmon.proofs.backing.field_of.Goals as goal

pub returns-in-Some : goal.returns-in-Some
returns-in-Some g c =
    let name = c.in-Some.name.now in
    let is : c.args.ending.now ≡ Failed (fault.Trace c.in-Failed-Trace.source c.in-Failed-Trace.fault) = search rules in
    let at : slice_get c.args.asked.now.files.items c.in-Failed-Trace.source ≡ Some name =
    sym c.file_of.ensures ∙ ap option_copied c.in-Some.is in
    field-found (g.O.Opener.known c.args.opener.now) c.args.asked.now c.args.ending.now c.in-Failed-Trace.source
    c.in-Failed-Trace.fault name c.dialect_of.result c.field_in.result is at c.dialect_of.ensures c.field_in.ensures
