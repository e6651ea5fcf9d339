use Rattle.std.proofs.Common.{◌≡◌, ◌∙◌, ◌≤◌, List, All, ap, length, map, subst, sym}
use Rattle.rv_event.specs.declared.event.Dep.{Dep}
use Rattle.rv_event.specs.declared.event.DepKind.TheVariants.{Ctrl}
use Rattle.rv_event.specs.declared.event.Op.TheVariants.{Branch}
use Rattle.rv_commits.specs.Harts.{IsRow}
use Rattle.rv_commits.specs.Made.{plain}
use Rattle.rv_commits.proofs.Branches.{ctrl-all, ctrl-few, ctrl-listed}
use Rattle.rv_commits.proofs.hart.HartRows.branch_row.Goals as goal

pub returns-clause-row : goal.returns-clause-row
returns-clause-row c =
    let is = c.row_of.ensures.deps ∙ c.in_ok-deps.ensures in record {
      fields = subst (IsRow c.args.self.now.hart (plain Branch) 0 c.row_of.result) c.in_ok-seq.ensures.numbered.0
          c.row_of.ensures.fields;
      few = subst (λ (ds : List Dep). length ds ≤ 8) (sym is) (ctrl-few c.args.events.now c.requires.few);
      control = subst (All (λ d. d.kind ≡ Ctrl)) (sym is) (ctrl-all c.args.events.now);
    }

pub returns-clause-lists : goal.returns-clause-lists
returns-clause-lists c = ap (map (λ (d : Dep). d.seq)) (c.row_of.ensures.deps ∙ c.in_ok-deps.ensures) ∙
    ctrl-listed c.args.events.now
