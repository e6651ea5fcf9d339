use Rattle.std.proofs.Common.{◌≡◌, ℕ, ◌++◌, ◌∷◌, [], List, ap, refl, ◌∙◌, arith}
use Rattle.rv_flow.specs.declared.carrier.Carrier.{Carrier}
use Rattle.rv_flow.proofs.Growing.{folded, one-more}
use Rattle.rv_flow.proofs.Sets.{has-copied}
use Rattle.rv_flow.proofs.carriers.Carriers.fold.Goals as goal

module _ (c : goal.After-self-1) where
  abbrev carrier : Carrier
  carrier = record { number = c.args.self.now.next; list = c.args.list }

  pushed : c.push_reserved.new.self.items ≡ c.args.self.now.all.items ++ carrier ∷ []
  pushed = c.push_reserved.ensures.items ∙
      ap (λ (l : List Carrier). l ++ carrier ∷ []) (c.in_ok-reserve.ensures).items

-- src/carriers.rt:224:5
pub returns-clause-grown : goal.returns-clause-grown
returns-clause-grown c =
    one-more c.args.self.now.all.items c.args.self.now.next c.requires.carriers
    (let few = c.if-self-ge-MOST_ROWS.false in omega (few, arith)) (carrier c) refl c.requires.list
    c.requires.some _ (pushed c)

-- src/carriers.rt:224:5
pub returns-clause-list : goal.returns-clause-list
returns-clause-list c =
    folded c.args.self.now.all.items c.args.self.now.next c.requires.carriers
    (let few = c.if-self-ge-MOST_ROWS.false in omega (few, arith)) (carrier c) refl c.requires.list
    c.requires.some _ (pushed c)
    (record { parts = c.push.new.self; events = c.join.new.self }) first
    (has-copied c.new-2.result c.args.list.events c.join.new.self c.new-2.ensures c.join.ensures)
  where
    first : c.push.new.self.items ≡ c.args.self.now.next ∷ []
    first = c.in_ok-push.ensures.items ∙ ap (λ (l : List ℕ). l ++ c.args.self.now.next ∷ []) c.new.ensures.items
