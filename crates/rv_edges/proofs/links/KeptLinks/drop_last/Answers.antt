-- The links of the last event stand behind all others.
use Rattle.rv_edges.proofs.Common.{common_steps, ◌≡◌, ◌+◌, ◌-◌, List, [], ◌∷◌, ◌++◌, length, take, sym, ap, ◌∙◌}
use Rattle.rv_edges.proofs.Common.{arith, Link, Sides, total}
use Rattle.std.proofs.Common.{rules}
use Rattle.rv_edges.proofs.OwnLinkLists.{total-push, total-front, own_from-pop}
use Rattle.rv_edges.proofs.links.KeptLinks.drop_last.Goals as goal

pub overflow_sub-left : goal.overflow_sub-left
overflow_sub-left c =
    omega (
      arith,
      total-push c.pop.new.self.items c.in-Some.last,
      ap total c.in-Some.ensures.items,
      c.self.invariant,
      c.len.ensures,
      c.self.inside.links.ok,
    )

pub overflow_sub-left-in-Some : goal.overflow_sub-left-in-Some
overflow_sub-left-in-Some c =
    omega (
      arith,
      total-push c.pop.new.self.items c.in-Some.last,
      ap total c.in-Some.ensures.items,
      c.self.invariant,
      c.len.ensures,
      c.self.inside.links.ok,
    )

module _ (c : goal.After-truncate) where
  abbrev links : List Link
  links = c.self.inside.links.items

  abbrev last : Sides
  last = c.in-Some.last

  same : total (c.pop.new.self.items ++ last ∷ []) ≡ length links
  same = sym (ap total c.in-Some.ensures.items) ∙ c.self.invariant

  left : c.truncate.new.self.items ≡ take (length links - (last.before + last.after)) links
  left = grind (arith, common_steps)

pub invariant_of-self : goal.invariant_of-self
invariant_of-self c = total-front c.pop.new.self.items (last c) (links c) (same c) ∙ sym (ap length (left c))

pub returns-in-Some : goal.returns-in-Some
returns-in-Some c = search (own_from-pop, rules)
