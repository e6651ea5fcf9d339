use Rattle.std.proofs.Common.{◌∙◌, ap}
use Rattle.rv_event.specs.declared.event.DepKind.TheVariants.{DataOf}
use Rattle.rv_commits.specs.Rows.{parts_of}
use Rattle.rv_commits.proofs.Parts.{lists-just}
use Rattle.rv_commits.proofs.hart.carrier_row.Goals as goal

pub returns-clause-row : goal.returns-clause-row
returns-clause-row c = record {
  op = c.row_of.ensures.fields.op;
  lists = lists-just DataOf c.row_of.result c.args.carrier.now.list.parts.items
      (c.row_of.ensures.deps ∙ c.in_ok-deps.ensures ∙ ap (parts_of DataOf) c.deref.ensures.value);
}
