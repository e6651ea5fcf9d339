use Rattle.std.proofs.Common.{◌∙◌, ◌<◌, ap, arith, get_or, length, List, subst, sym, ℕ, Some, None}
use Rattle.rv_values.specs.Issues.{IsIssuedBy, IsOf, IsPlace}
use Rattle.rv_values.specs.declared.issues.Issued.{Issued}
use Rattle.rv_values.proofs.issues.Issues.issued_by.Goals.{In_ok-place}
use Rattle.rv_values.proofs.issues.Issues.issued_by.Goals as goal

pub returns-in_err-place : goal.returns-in_err-place
returns-in_err-place c = subst (IsIssuedBy c.args.self.now c.args.hart c.args.order) (sym c.from_residual.ensures)
    (subst (λ (issued : List Issued). IsIssuedBy issued c.args.hart c.args.order None) c.self.view_is
    (subst (IsPlace c.self.inside.all.items c.args.hart c.args.order) (sym c.in_err-place.ensures.value)
    (c.self.invariant.placed c.args.hart c.args.order)))

is-place : (c : In_ok-place) → IsPlace c.self.inside.all.items c.args.hart c.args.order (Some c.in_ok-place.field-0.now)
is-place c = subst (IsPlace c.self.inside.all.items c.args.hart c.args.order) (sym c.in_ok-place.ensures.value)
    (c.self.invariant.placed c.args.hart c.args.order)

pub index-requires : goal.index-requires
index-requires c =
    let there = (is-place (goal.at.index-requires c).In_ok-place).0 in
    let long = c.self.inside.all.ok.0 in
    omega (there, long, arith)

pub returns : goal.returns
returns c =
    let place = is-place (goal.at.returns c).In_ok-place in
    let k : ℕ = c.in_ok-place.field-0.now in
    let i : Issued = c.index.result.now in (
      (
        k,
        subst (λ (issued : List Issued). k < length issued) c.self.view_is place.0,
        ap (λ (issued : List Issued). get_or issued k i) (sym c.self.view_is) ∙ sym c.index.ensures,
      ),
      subst (IsOf c.args.hart c.args.order) (sym c.index.ensures) (place.1 i),
    )
