use Rattle.rv_endless.proofs.Ended.{left-from, left-to, left_of, stands-fewer}
use Rattle.std.proofs.Common.{◌≡◌, Contains, List, rules, subst, sym, ℕ}
use Rattle.std.proofs.lemmas.Fn.{filter_same}
use Rattle.rv_endless.proofs.run.Endless.end.Goals as goal

pub returns-clause-stands : goal.returns-clause-stands
returns-clause-stands c = λ log stands.
    stands-fewer c.args.self.now log stands (record c.args.self.now { active = c.retain.new.self })
    (λ h there. (left-to c.args.hart c.args.self.now.active.items h
    (subst (λ (xs : List ℕ). Contains xs h) left there)).0)
  where
    left : c.retain.new.self.items ≡ left_of c.args.hart c.args.self.now.active.items
    left = filter_same _ _ _ (λ x b f' k. search rules) _ _ c.retain.ensures.filtered

pub returns-clause-ended : goal.returns-clause-ended
returns-clause-ended c = λ h. (
  (λ there. left-to c.args.hart c.args.self.now.active.items h (subst (λ (xs : List ℕ). Contains xs h) left there)),
  (λ both. subst (λ (xs : List ℕ). Contains xs h) (sym left)
      (left-from c.args.hart c.args.self.now.active.items h both.0 both.1)),
)
  where
    left : c.retain.new.self.items ≡ left_of c.args.hart c.args.self.now.active.items
    left = filter_same _ _ _ (λ x b f' k. search rules) _ _ c.retain.ensures.filtered
