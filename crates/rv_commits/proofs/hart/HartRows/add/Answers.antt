use Rattle.std.proofs.Common.{◌∙◌, Option, refl, subst, sym}
use Rattle.rv_event.specs.declared.event.Op.{Op}
use Rattle.rv_commits.specs.Harts.{IsAddedAs, IsAddedBy}
use Rattle.rv_commits.specs.declared.hart.NewRows.TheVariants.{Branch}
use Rattle.rv_commits.specs.declared.made.Made.{Made}
use Rattle.rv_commits.proofs.Traces.{on_err, still-same}
use Rattle.rv_commits.proofs.hart.HartRows.add.Goals as goal

pub returns-in_err-push-clause-kept : goal.returns-in_err-push-clause-kept
returns-in_err-push-clause-kept c = on_err c.from_residual.result
    (still-same c.args.self.now.trace c.push.new.self c.in_err-push.ensures.kept c.in_err-push.ensures.rows.0
    c.in_err-push.ensures.rows.1)

pub returns-in_ok-branch_rows-in-Branch-clause-added : goal.returns-in_ok-branch_rows-in-Branch-clause-added
returns-in_ok-branch_rows-in-Branch-clause-added c =
    let hart = c.args.self.now.hart in
    let insn = c.args.instruction.now.insn in
    let old = c.args.self.now.trace in
    let new = c.branch_rows.new.self.trace in
    let rows = c.in_ok-branch_rows-in-Branch.field-0 in
    subst (λ (m : Option Made). IsAddedBy m hart insn c.args.word old new (Branch rows))
    (sym c.in-Some.is ∙ c.made_by.ensures)
    (subst (λ (o : Op). IsAddedAs o hart insn c.in-Some.made c.args.word old new (Branch rows)) (sym c.in-Branch.is)
    (rows, refl, c.in_ok-branch_rows-in-Branch.ensures.made))
