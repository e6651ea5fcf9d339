-- Log, hart and links lose their last together.
use Rattle.rv_edges.proofs.Common.{◌++◌, ◌∷◌, [], List, sym, ap, ◌∙◌, subst, arith, false≢true, events, Entry}
use Rattle.rv_edges.proofs.Common.{IsHartOf, Hart, Event, Past, kept_from, IsHistory}
use Rattle.std.proofs.Common.{rules}
use Rattle.rv_edges.proofs.CarriedEdges.{IsHistory-front}
use Rattle.rv_edges.proofs.Sides.{Popped, popped_sides, same_front}
use Rattle.rv_edges.proofs.GrownHarts.{events-pop, harts-shrink, last-hart, last-within}
use Rattle.rv_edges.proofs.history.History.pop.Goals as goal

pub unreachable-requires : goal.unreachable-requires
unreachable-requires c =
    let within = last-within c.self.inside.model c.self.inside.versions c.pop-entry.new.self c.pop-entry.result
    c.self.inside.harts.items c.pop-entry.ensures c.self.invariant.own in
    false≢true (c.in_default.ensures.variant.1 (omega (arith, within, c.self.inside.harts.ok)))

pub pop-requires-clause-of_log : goal.pop-requires-clause-of_log
pop-requires-clause-of_log c =
    let at = last-hart c.self.inside.model c.self.inside.versions c.pop-entry.new.self c.pop-entry.result
    c.self.inside.harts.items c.pop-entry.ensures c.self.invariant.own c.in-Some.hart.now c.in-Some.ensures.value in
    subst (λ (l : List Entry). IsHartOf (events l ++ c.pop-entry.result.event ∷ []) c.in-Some.hart.now)
    (sym c.entries.ensures.value) at.of_log

pub pop-requires-clause-own : goal.pop-requires-clause-own
pop-requires-clause-own c =
    let at = last-hart c.self.inside.model c.self.inside.versions c.pop-entry.new.self c.pop-entry.result
    c.self.inside.harts.items c.pop-entry.ensures c.self.invariant.own c.in-Some.hart.now c.in-Some.ensures.value in
    sym (ap (λ (h : Hart). h.number) at.hart)

module _ (c : goal.After-drop_last) where
  abbrev front : List Event
  front = events c.pop-entry.new.self

  less : Popped (events c.self.inside.versions) front c.self.inside.links c.drop_last.new.self
  less = search (popped_sides, events-pop, rules)

pub invariant_of-self : goal.invariant_of-self
invariant_of-self c =
    let of_log : IsHartOf (front c) c.pop.new.self =
    subst (λ (l : List Entry). IsHartOf (events l) c.pop.new.self) c.entries.ensures.value c.pop.ensures.popped in
    record {
      lengths = (less c).lengths;
      history =
          IsHistory-front c.self.inside.model (kept_from (front c) c.drop_last.new.self) (less c).last
          (subst (IsHistory c.self.inside.model) (less c).cut c.self.invariant.history);
      own = harts-shrink c.self.inside.model c.self.inside.versions c.pop-entry.new.self c.pop-entry.result
          c.self.inside.harts.items c.pop-entry.ensures c.self.invariant.own c.in-Some.hart.now
          c.in-Some.ensures.value c.pop.new.self c.pop.ensures.model c.pop.ensures.number of_log;
    }

pub returns-clause-popped : goal.returns-clause-popped
returns-clause-popped c before k is =
    same_front (kept_from (front c) c.drop_last.new.self) before (less c).last k
    (sym (less c).cut ∙ ap (λ (w : Past). w.kept) c.self.view_is ∙ is)
