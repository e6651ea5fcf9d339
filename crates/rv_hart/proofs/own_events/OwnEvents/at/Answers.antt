-- What stands at the place of the number is the hart's event.
use Rattle.rv_hart.proofs.Common.{◌≡◌, ◌<◌, List, ℕ, length, get_or, sym, ap, ◌∙◌, arith, common_steps}
use Rattle.rv_hart.proofs.Common.{get_or-map, length-map, events, of_hart, Entry, Event}
use Rattle.rv_hart.proofs.Places.{IsPlace, place-of, places-count}
use Rattle.rv_hart.proofs.own_events.OwnEvents.at.Goals as goal

pub unreachable-requires : goal.unreachable-requires
unreachable-requires c =
    let count : length c.self.inside.places.now ≡ length c.args.self.now =
    ap (λ (ps : List ℕ). length ps) c.self.invariant
    ∙ places-count c.self.inside.number 0 (events c.self.inside.log.now)
    ∙ ap (λ (es : List Event). length es) c.self.view_is in
    grind (arith, common_steps)

pub bounds-self-inside-place : goal.bounds-self-inside-place
bounds-self-inside-place c =
    let low : c.args.number < length (of_hart c.self.inside.number (events c.self.inside.log.now)) =
    omega (arith, c.requires, ap (λ (es : List Event). length es) c.self.view_is) in
    let place : IsPlace c.self.inside.number (events c.self.inside.log.now) c.args.number c.in-Some.place.now =
    place-of c.self.inside.number (events c.self.inside.log.now) c.args.number low c.self.inside.places.now
    c.in-Some.place.now c.self.invariant c.in-Some.ensures.lookup.1 in
    omega (arith, place.within, length-map c.self.inside.log.now (λ (x : Entry). x.event))

pub returns : goal.returns
returns c =
    let low : c.args.number < length (of_hart c.self.inside.number (events c.self.inside.log.now)) =
    omega (arith, c.requires, ap (λ (es : List Event). length es) c.self.view_is) in
    let place : IsPlace c.self.inside.number (events c.self.inside.log.now) c.args.number c.in-Some.place.now =
    place-of c.self.inside.number (events c.self.inside.log.now) c.args.number low c.self.inside.places.now
    c.in-Some.place.now c.self.invariant c.in-Some.ensures.lookup.1 in
    let x : Entry = c.index-self-place.result in
    let within : c.in-Some.place.now < length c.self.inside.log.now =
    omega (arith, place.within, length-map c.self.inside.log.now (λ (y : Entry). y.event)) in
    let e : Event = (get_or c.self.inside.log.now c.in-Some.place.now x).event in
    sym (get_or-map (λ (y : Entry). y.event) c.self.inside.log.now c.in-Some.place.now x e within) ∙ place.read e
    ∙ ap (λ (es : List Event). get_or es c.args.number e) c.self.view_is
