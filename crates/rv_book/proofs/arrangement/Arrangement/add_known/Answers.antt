use Rattle.rv_book.proofs.Common.{arith, common_steps, ◌++◌, [], ◌∷◌, sym, subst, IsMemory, Past, kept_of}
use Rattle.rv_book.proofs.Common.{IsFit, Arranged, IsArranged}
use Rattle.rv_book.proofs.GrownHistories.{arranged_aside}
use Rattle.rv_book.proofs.arrangement.Arrangement.add_known.Goals as goal

pub invariant_of-self-2 : goal.invariant_of-self-2
invariant_of-self-2 c =
    let k = kept_of c.args.entry.event c.args.around.now in
    let fit = subst (λ (w : Arranged). IsFit w k) (sym c.self.view_is) c.requires.fit in
    let aside : IsMemory c.args.entry.event → ⊥ = grind (arith, common_steps) in
    subst (λ (h : Past). IsArranged (record {
      model = h.model;
      log = h.log;
      history = h.kept;
      edges = c.self.inside.ranks.edges;
      ranks = c.self.inside.ranks.ranks;
      ids = c.self.inside.ids.items;
    })) (sym c.in_ok-push_known.ensures.pushed)
    (arranged_aside _ c.self.invariant k fit (c.self.inside.history.log ++ c.args.entry ∷ []) aside)
