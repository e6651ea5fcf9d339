-- The links of the event stand behind all others.
use Rattle.rv_edges.proofs.Common.{common_steps, ◌≡◌, List, [], ◌∷◌, ◌++◌, arith, length-append, Link}
use Rattle.std.proofs.Common.{rules}
use Rattle.rv_edges.proofs.OwnLinkLists.{sides_of, total-push, own_from-push}
use Rattle.rv_edges.proofs.links.KeptLinks.append.Goals as goal

module _ (c : goal.After-push_reserved) where
  abbrev old : List Link
  old = c.self.inside.links.items

  abbrev before : List Link
  before = c.args.before.now

  abbrev after : List Link
  after = c.args.after.now

  sides : c.push_reserved.new.self.items ≡ c.self.inside.sides.items ++ sides_of before after ∷ []
  sides = grind (arith, common_steps)

  links : c.push_both-packed.new.list.items ≡ old ++ (before ++ after)
  links = grind (arith, common_steps)

pub invariant_of-self-2 : goal.invariant_of-self-2
invariant_of-self-2 c = search (total-push, sides_of, length-append, rules)

pub returns-clause-pushed : goal.returns-clause-pushed
returns-clause-pushed c = grind (arith, common_steps, own_from-push)
