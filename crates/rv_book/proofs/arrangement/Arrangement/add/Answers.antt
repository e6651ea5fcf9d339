use Rattle.rv_book.proofs.Common.{rules, arith, common_steps, ◌≡◌, None, refl, sym, ◌∙◌}
use Rattle.rv_book.proofs.Common.{subst, false≢true, IsStale, event_fault, Id, Kept, happened}
use Rattle.rv_book.proofs.Common.{grown, kept_of, HasOwnEdge, IsLinked, IsStaleOf, IsAdded, IsFit, Arranged}
use Rattle.rv_event.specs.declared.event.Entry.{Entry}
use Rattle.rv_book.specs.declared.arrangement.Added.{Added}
use Rattle.rv_book.proofs.Circles.{own_leads}
use Rattle.rv_book.proofs.Refusals.{arranged_of, added_refused}
use Rattle.rv_book.proofs.arrangement.Arrangement.add.Goals as goal

-- an event without a fault fits with links that are as they should be
fit_of : (v now : Arranged) (k : Kept) → v ≡ now → event_fault (happened now.history) k.event ≡ None →
    IsLinked v.model v.history k → (HasOwnEdge v.model v.history k.event → ⊥) →
    ((s : Id) → IsStale (grown v.history k.event) k.event.id s → ⊥) → IsFit v k
fit_of v now k is sound linked none_own not_stale = grind (arith, common_steps)

added_between : (old was new now : Arranged) (x : Entry) (added : Added) → was ≡ old → new ≡ now →
    IsAdded was now x added → IsAdded old new x added
added_between old was new now x added is same a =
    subst (λ (w : Arranged). IsAdded w new x added) is (subst (λ (w : Arranged). IsAdded was w x added) (sym same) a)

pub add_known-requires-clause-fit : goal.add_known-requires-clause-fit
add_known-requires-clause-fit c =
    let k = kept_of c.args.entry.event c.in_ok-around.around in
    let stale : IsStaleOf c.self.inside.history.kept c.args.entry.event None = search rules in
    fit_of _ c.args.self.now k c.self.view_is c.requires.sound c.in_ok-around.ensures.linked
    (λ own. false≢true (sym c.if-around.false ∙ c.in_ok-around.ensures.itself.1 own)) stale

pub refuse-requires-clause-leads : goal.refuse-requires-clause-leads
refuse-requires-clause-leads c =
    own_leads c.self.inside.history.model (grown c.self.inside.history.kept c.args.entry.event) c.args.entry.event.id
    (c.in_ok-around.ensures.itself.0 c.if-around.true)

pub returns-then-around-clause-added : goal.returns-then-around-clause-added
returns-then-around-clause-added c =
    let inside = arranged_of c.self.inside.history c.self.inside.ranks.edges c.self.inside.ranks.ranks
    c.self.inside.ids.items in
    added_refused c.args.self.now inside c.args.entry c.args.entry c.self.view_is refl c.refuse.result c.refuse.ensures

pub returns-clause-added : goal.returns-clause-added
returns-clause-added c =
    let was = arranged_of c.self.inside.history c.self.inside.ranks.edges c.self.inside.ranks.ranks
    c.self.inside.ids.items in
    let new = arranged_of c.self-2.inside.history c.self-2.inside.ranks.edges c.self-2.inside.ranks.ranks
    c.self-2.inside.ids.items in
    added_between c.args.self.now was new c.add_known.new.self c.args.entry c.in_ok-added.added c.self.view_is
    c.self-2.view_is c.in_ok-added.ensures.added
