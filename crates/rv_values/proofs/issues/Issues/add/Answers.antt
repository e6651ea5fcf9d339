use Rattle.std.proofs.Common.{◌∙◌, ◌++◌, ◌∷◌, [], ap, sym, subst, List, Some}
use Rattle.std.specs.HashMap.{get}
use Rattle.rv_memory.specs.Stores.{same_issuer}
use Rattle.rv_values.specs.Issues.{AreIssues, IsNew}
use Rattle.rv_values.specs.declared.issues.Issued.{Issued}
use Rattle.rv_values.proofs.Single.{grown-issues}
use Rattle.rv_values.proofs.issues.Issues.add.Goals as goal

pub invariant_of-self-2 : goal.invariant_of-self-2
invariant_of-self-2 c =
    let issued : List Issued = c.self.inside.all.items in
    subst (AreIssues (get same_issuer c.insert.new.self))
    (sym (c.push_reserved.ensures.items ∙
    ap (λ (l : List Issued). l ++ c.args.store ∷ []) c.in_ok-reserve.ensures.items))
    (grown-issues (get same_issuer c.self.inside.places) (get same_issuer c.insert.new.self) issued c.self.invariant
    c.args.store (subst (λ (l : List Issued). IsNew l c.args.store) (sym c.self.view_is) c.requires.new)
    (c.in_ok-insert.ensures.updates.1 ∙ ap Some (c.len-place.ensures ∙ c.self.inside.all.ok.0))
    c.in_ok-insert.ensures.updates.2)
