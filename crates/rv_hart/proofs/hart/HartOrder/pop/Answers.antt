use Rattle.rv_hart.proofs.Common.{◌≡◌, ◌++◌, ◌∷◌, [], List, sym, ◌∙◌, subst, arith, common_steps, events, Event}
use Rattle.rv_hart.proofs.Common.{IsKept, places_of}
use Rattle.rv_hart.proofs.OfHart.{own-push}
use Rattle.rv_hart.proofs.Places.{hart-same, places-grow}
use Rattle.rv_hart.proofs.hart.HartOrder.pop.Goals as goal

pub new-events-requires : goal.new-events-requires
new-events-requires c =
    let h = c.args.self.now in
    let are = c.requires.of_log.places ∙ places-grow h.kept.number (events c.args.log.now) c.args.event.now
    c.requires.own in
    let rest : c.pop.new.self.items ≡ places_of h.kept.number (events c.args.log.now) = grind (arith, common_steps) in
    c.as_slice.ensures.value ∙ rest

pub drop_last-requires : goal.drop_last-requires
drop_last-requires c =
    let log : List Event = events c.args.log.now in
    let e : Event = c.args.event.now in
    let h = c.args.self.now in
    record {
      kept =
          subst (λ (es : List Event). IsKept (es ++ e ∷ []) h.kept) (sym c.new-events.ensures)
          (subst (λ (es : List Event). IsKept es h.kept) (own-push log e h.kept.number c.requires.own)
          c.requires.of_log.kept);
    }

pub returns-clause-popped : goal.returns-clause-popped
returns-clause-popped c =
    let log : List Event = events c.args.log.now in
    let h = c.args.self.now in
    let are = c.requires.of_log.places ∙ places-grow h.kept.number log c.args.event.now c.requires.own in
    let rest : c.pop.new.self.items ≡ places_of h.kept.number log = grind (arith, common_steps) in
    hart-same log log h (record { places = c.pop.new.self; kept = c.drop_last.new.self })
    c.drop_last.ensures.number rest
    (subst (λ (es : List Event). IsKept es c.drop_last.new.self) c.new-events.ensures c.drop_last.ensures.popped)
