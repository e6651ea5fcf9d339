-- The hart of the list, where it has one of this number.
use Rattle.rv_edges.proofs.Common.{◌≡◌, ltb, Option, Some, None, IfSome, Bor, is_some, get_or, length, List, sym}
use Rattle.rv_edges.proofs.Common.{ap, ◌∙◌, arith, subst, ltb-false, ltb-true, option_copied, HartOrder, happened}
use Rattle.rv_edges.proofs.Common.{AreHarts, IsHartIn}
use Rattle.std.proofs.Common.{rules}
use Rattle.rv_edges.proofs.IndexFacts.{past-harts, past-indexed}
use Rattle.rv_edges.proofs.history.History.hart.Goals as goal

module _ (c : goal.After-get) where
  own : AreHarts c.args.self.now.model (happened c.args.self.now.kept) c.self.inside.harts.items
  own = search (past-harts, rules)

  found :
      (o : Option (Bor HartOrder)) → is_some o ≡ ltb c.args.number (length c.self.inside.harts.items) →
      IfSome o (λ x. x.now ≡ get_or c.self.inside.harts.items c.args.number x.now) →
      IsHartIn c.args.self.now c.args.number (option_copied o)
  found None is gives = own.none c.args.number
      (omega (arith, ltb-false c.args.number (length c.self.inside.harts.items) (sym is)))
  found (Some x) is gives =
      own.each c.args.number x.now (ltb-true c.args.number (length c.self.inside.harts.items) (sym is)) gives

pub returns-clause-hart : goal.returns-clause-hart
returns-clause-hart c = found c c.get.result
    (c.get.ensures.lookup.0 ∙ ap (λ (xs : List HartOrder). ltb c.args.number (length xs)) c.deref.ensures.value)
    (subst (λ (xs : List HartOrder). IfSome c.get.result (λ x. x.now ≡ get_or xs c.args.number x.now))
    c.deref.ensures.value c.get.ensures.lookup.1)

pub returns-clause-indexed : goal.returns-clause-indexed
returns-clause-indexed c = search (past-indexed, rules)
