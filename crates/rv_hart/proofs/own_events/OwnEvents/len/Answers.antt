use Rattle.rv_hart.proofs.Common.{List, ℕ, length, ap, ◌∙◌, events, Event}
use Rattle.rv_hart.proofs.Places.{places-count}
use Rattle.rv_hart.proofs.own_events.OwnEvents.len.Goals as goal

pub returns : goal.returns
returns c =
    ap (λ (ps : List ℕ). length ps) c.self.invariant
    ∙ places-count c.self.inside.number 0 (events c.self.inside.log.now)
    ∙ ap (λ (es : List Event). length es) c.self.view_is
