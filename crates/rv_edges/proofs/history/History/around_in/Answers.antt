-- The links of the event's hart and those by versions are together as a history wants them.
use Rattle.rv_edges.proofs.Common.{◌≡◌, List, [], ◌∷◌, ◌++◌, None, IsTrue, ◌↔◌, sym, ◌∙◌, subst, IsEdge}
use Rattle.rv_edges.proofs.Common.{event_fault, Indexed, Event, Link, Reason, AreRuleLinks, IsReserved}
use Rattle.rv_edges.proofs.Common.{AreVersionLinks, events, Kept, Past, kept_from, happened, IsLinked, IsCarried}
use Rattle.rv_edges.proofs.Common.{hart_in}
use Rattle.rv_edges.proofs.CarriedEdges.{carried_from_IsHistory, covered_with}
use Rattle.rv_edges.proofs.IndexFacts.{log-is, past-indexed}
use Rattle.rv_edges.proofs.JoinedLinks.{linked_with, unsplit_is, nearest_is}
use Rattle.rv_edges.proofs.history.History.around_in.Goals as goal

pub around-requires-clause-sound : goal.around-requires-clause-sound
around-requires-clause-sound c =
    let log = log-is c.self.inside.model c.self.inside.versions c.self.inside.harts.items c.self.inside.links
    c.self.invariant c.args.self.now c.self.view_is in
    subst (λ (l : List Event). event_fault l c.args.event.now ≡ None) (sym log) c.requires.sound

pub around-requires-clause-reserved : goal.around-requires-clause-reserved
around-requires-clause-reserved c =
    let log = log-is c.self.inside.model c.self.inside.versions c.self.inside.harts.items c.self.inside.links
    c.self.invariant c.args.self.now c.self.view_is in
    subst (λ (l : List Event). IsReserved l c.args.event.now c.args.known.reserved)
    (sym log) c.requires.known.1

pub has_own_edge-requires-clause-sound : goal.has_own_edge-requires-clause-sound
has_own_edge-requires-clause-sound c =
    let log = log-is c.self.inside.model c.self.inside.versions c.self.inside.harts.items c.self.inside.links
    c.self.invariant c.args.self.now c.self.view_is in
    subst (λ (l : List Event). event_fault l c.args.event.now ≡ None) (sym log) c.requires.sound

pub has_own_edge-requires-clause-reserved : goal.has_own_edge-requires-clause-reserved
has_own_edge-requires-clause-reserved c =
    let log = log-is c.self.inside.model c.self.inside.versions c.self.inside.harts.items c.self.inside.links
    c.self.invariant c.args.self.now c.self.view_is in
    subst (λ (l : List Event). IsReserved l c.args.event.now c.args.known.reserved)
    (sym log) c.requires.known.1

module _ (c : goal.After-stale) where
  log : (events c.self.inside.versions) ≡ happened c.args.self.now.kept
  log = log-is c.self.inside.model c.self.inside.versions c.self.inside.harts.items c.self.inside.links c.self.invariant
      c.args.self.now c.self.view_is

  known : Indexed (happened c.args.self.now.kept)
  known = past-indexed c.self.inside.model c.self.inside.versions c.self.inside.harts.items c.self.inside.links
      c.self.invariant c.args.self.now c.self.view_is

  abbrev before : List Link
  before = c.from_vec-before.result

  abbrev after : List Link
  after = c.from_vec-after.result

  abbrev rules : List Link
  rules = c.in_ok-rules.rules.items

  abbrev others : List Link
  others = c.in_ok-links.ensures.0

  joined : before ≡ rules ++ others
  joined = c.from_vec-before.ensures ∙ c.in_ok-links.ensures.1

  by_rules : AreRuleLinks (hart_in c.args.self.now c.args.event.now.id.hart) c.args.event.now rules
  by_rules = c.in_ok-rules.ensures

  by_versions : AreVersionLinks c.args.self.now.model (happened c.args.self.now.kept) c.args.event.now others after
  by_versions =
      subst (λ (ls : List Link). AreVersionLinks c.args.self.now.model (happened c.args.self.now.kept) c.args.event.now
      others ls) (sym c.from_vec-after.ensures)
      (subst (λ (l : List Event). AreVersionLinks c.args.self.now.model l c.args.event.now others
      c.in_ok-links.links.after.items) log (c.in_ok-links.ensures.2 c.args.self.now.model))

  abbrev found : Kept
  found = record { event = c.args.event.now; before = before; after = after }

  linked : IsLinked c.args.self.now.model c.args.self.now.kept found
  linked = linked_with c.args.self.now.model c.args.self.now.kept found rules others known c.requires.sound joined
      by_rules by_versions

pub returns-clause-linked : goal.returns-clause-linked
returns-clause-linked c = linked c

pub returns-clause-covered : goal.returns-clause-covered
returns-clause-covered c =
    let carried : IsCarried c.args.self.now.model c.args.self.now.kept =
    subst (λ (w : Past). IsCarried w.model w.kept) c.self.view_is
    (carried_from_IsHistory c.self.inside.model (kept_from (events c.self.inside.versions) c.self.inside.links)
    c.self.invariant.history) in
    covered_with c.args.self.now.model c.args.self.now.kept (found c) (known c)
    (record { sound = c.requires.sound; linked = linked c }) carried.covered

pub returns-clause-itself : goal.returns-clause-itself
returns-clause-itself c =
    let own : IsTrue c.has_own_edge.result ↔
    ((r : Reason) × IsEdge c.args.self.now.model ((events c.self.inside.versions) ++ c.args.event.now ∷ [])
    c.args.event.now.id r c.args.event.now.id) = c.has_own_edge.ensures c.args.self.now.model in
    subst (λ (l : List Event). IsTrue c.has_own_edge.result ↔
    ((r : Reason) × IsEdge c.args.self.now.model (l ++ c.args.event.now ∷ []) c.args.event.now.id r
    c.args.event.now.id)) (log c) own

pub returns-clause-unsplit : goal.returns-clause-unsplit
returns-clause-unsplit c =
    unsplit_is c.args.self.now.model (happened c.args.self.now.kept) c.args.event.now (known c) c.requires.sound
    (rules c) (others c) (before c) (after c) (joined c) (by_rules c) (by_versions c)

pub returns-clause-nearest : goal.returns-clause-nearest
returns-clause-nearest c =
    nearest_is c.args.self.now.model (happened c.args.self.now.kept) c.args.event.now (known c) c.requires.sound
    (rules c) (others c) (before c) (after c) (joined c) (by_rules c) (by_versions c)
