use Rattle.rv_versions.proofs.Common.{◌≡◌, ◌≢◌, ◌∷◌, ◌++◌, [], List, Some, take, get_or, sym, subst, arith}
use Rattle.rv_versions.proofs.Common.{take_more, take_all, common_steps, Link, id_of, link, IsExtended, Access}
use Rattle.rv_versions.proofs.Linking.{Passed, linked_none, linked_more, linked_past, extended_same}
use Rattle.rv_versions.proofs.versions.links.append.Goals.{then-ne+in_ok-push, else-ne}
use Rattle.rv_versions.proofs.versions.links.append.Goals as goal

pub loop-access-init : goal.loop-access-init
loop-access-init c = linked_none (λ x. c.args.aside ≢ Some x.hart) c.args.reason c.args.before.items

pub loop-access-preserved : goal.loop-access-preserved
loop-access-preserved c =
    let none : Access = record { word = 0; version = 0; hart = 0; seq = 0 } in
    let Pass = λ (x : Access). c.args.aside ≢ Some x.hart in
    let xs = c.between-found.result.now in
    let k = c.loop-access.access-index in
    let x = get_or xs k none in
    let seen : List Access = take k xs in
    let old = c.args.before.items in
    rw (take_more xs k none (omega arith))
    (elim c.if-ne.branch [
      | then-ne+in_ok-push w ↦
          let is : c.if-ne.links.items ≡ c.loop-access.links.items ++ link (id_of x) c.args.reason ∷ [] =
          grind (arith, common_steps) in
          linked_more Pass c.args.reason old c.loop-access.links.items
          c.if-ne.links.items seen x c.loop-access.invariant (grind (arith, common_steps)) is
      | else-ne w ↦
          let is : c.if-ne.links.items ≡ c.loop-access.links.items = cc in
          subst (λ (ls : List Link). IsExtended old ls c.args.reason (Passed Pass c.args.reason (seen ++ x ∷ [])))
          (sym is)
          (linked_past Pass c.args.reason old c.loop-access.links.items seen x c.loop-access.invariant
          (λ other. grind (arith, common_steps)))
    ])

pub returns : goal.returns
returns c = extended_same _ _ _ _ _ (λ x. (
  λ p. (let b = (c.between-found.ensures x).0 p.0 in (b.0, (b.1, b.2), p.1)),
  λ p. ((c.between-found.ensures x).1 (p.0, p.1.0, p.1.1), p.2),
))
    (rw (take_all c.loop-access.access-index c.between-found.result.now (omega arith)) at c.loop-access.invariant)
