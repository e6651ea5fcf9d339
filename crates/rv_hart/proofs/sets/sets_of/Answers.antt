use Rattle.rv_hart.proofs.Common.{◌≡◌, ◌<◌, ◌+◌, ◌∷◌, ◌++◌, [], List, ℕ, length, take, get_or, refl, sym, ap, ◌∙◌}
use Rattle.rv_hart.proofs.Common.{subst, take_all, arith, common_steps, Event, IsHart, Follows, AreSets}
use Rattle.rv_hart.proofs.Common.{AreCarriedRows, drop, take-append-drop}
use Rattle.rv_hart.proofs.CarriedRows.{rows-front}
use Rattle.rv_hart.proofs.GrownHart.{hart-take, hart-first}
use Rattle.rv_hart.proofs.HartFacts.{known_of}
use Rattle.rv_hart.proofs.sets.sets_of.Goals as goal

pub loop-number-init : goal.loop-number-init
loop-number-init c = λ h ok model is. c.new-sets.ensures (record h { events = [] }) refl

pub loop-number-preserved : goal.loop-number-preserved
loop-number-preserved c = λ h ok model is.
    let es : List Event = c.args.events.now in
    let i : ℕ = c.loop-number.number in
    let e : Event = c.at-event.result.now in
    let low : i < length h.events = subst (λ (xs : List Event). i < length xs) (sym is)
    (omega (arith, c.loop-number-test.true, c.len-number-end.ensures)) in
    let read : e ≡ get_or h.events i e = c.at-event.ensures ∙ ap (λ (xs : List Event). get_or xs i e) (sym is) in
    let taken : take i h.events ≡ take i es = ap (take i) is in
    let first : IsHart (record h { events = take i es }) =
    subst (λ (xs : List Event). IsHart (record h { events = xs })) taken (hart-first h ok i) in
    let follows : Follows (record h { events = take i es }) e =
    subst (λ (xs : List Event). Follows (record h { events = xs }) e) taken (hart-take h ok i e low read) in
    let more : take (i + 1) es ≡ take i es ++ e ∷ [] = grind (arith, common_steps) in
    let whole : h.events ≡ take i es ++ drop i es = is ∙ sym (take-append-drop i es) in
    let carried : AreCarriedRows (take i es) c.args.carried.now =
    rows-front (known_of h ok) (take i es) (drop i es) whole c.args.carried.now
    (subst (λ (xs : List Event). AreCarriedRows xs c.args.carried.now) (sym is) c.requires.carried) in
    let sets = c.absorb.ensures (record h { events = take i es }) first follows model carried
    (c.loop-number.invariant h ok model is) in
    subst (λ (xs : List Event). AreSets (record h { events = xs }) c.absorb.new.self) (sym more) sets

pub returns : goal.returns
returns c = λ h ok model is.
    subst (λ (es : List Event). AreSets (record h { events = es }) c.loop-number.sets)
    (take_all c.loop-number.number c.args.events.now
    (omega (arith, c.loop-number-test.false, c.len-number-end.ensures)) ∙ sym is)
    (c.loop-number.invariant h ok model is)
