use Rattle.rv_hart.proofs.Common.{◌≡◌, ◌++◌, ◌∷◌, [], ◌↔◌, List, ℕ, length, sym, ap, ◌∙◌, subst, length-map}
use Rattle.rv_hart.proofs.Common.{events, Entry, Event, Has, Hart, hart_with, IsKept, hart_at, hart_of, IsBefore}
use Rattle.rv_hart.proofs.Common.{places_of}
use Rattle.rv_hart.proofs.OfHart.{own-push}
use Rattle.rv_hart.proofs.Places.{hart-same, places-grow}
use Rattle.rv_hart.proofs.hart.HartOrder.push.Goals as goal

-- the row is that of this event in this hart
abbrev IsRowOf : List ℕ → Hart → Event → Type 0
IsRowOf row h e = (s : ℕ) → Has row s ↔ IsBefore (hart_with h e) s e.id.seq

pub push-requires-clause-row : goal.push-requires-clause-row
push-requires-clause-row c =
    let row : List ℕ = c.fill_row.new.row in
    let same : hart_at c.next.result ≡ hart_of c.new-events.result c.args.self.now.kept =
    c.next.ensures.hart ∙ ap (λ (es : List Event). hart_of es c.args.self.now.kept) (sym c.new-events.ensures) in
    subst (λ (h : Hart). IsRowOf row h c.args.event.now) same
    (subst (IsRowOf row (hart_at c.next.result)) c.next.ensures.event c.fill_row.ensures)

pub returns-clause-pushed : goal.returns-clause-pushed
returns-clause-pushed c =
    let log : List Event = events c.args.log.now in
    let e : Event = c.args.event.now in
    let h = c.args.self.now in
    let own = c.requires.follows.hart in
    let count : c.in-Ok.place ≡ length log =
    c.in-Ok.ensures.1 ∙ sym (length-map c.args.log.now (λ (x : Entry). x.event)) in
    hart-same log (log ++ e ∷ []) h (record { places = c.push_reserved.new.self; kept = c.push.new.self })
    c.in_ok-push.ensures.number (c.push_reserved.ensures.items
    ∙ ap (λ (ps : List ℕ). ps ++ c.in-Ok.place ∷ []) (c.reserve.ensures.items ∙ c.requires.of_log.places)
    ∙ ap (λ (n : ℕ). places_of h.kept.number log ++ n ∷ []) count ∙ sym (places-grow h.kept.number log e own))
    (subst (λ (es : List Event). IsKept es c.push.new.self)
    (ap (λ (es : List Event). es ++ e ∷ []) c.new-events.ensures ∙ sym (own-push log e h.kept.number own))
    c.in_ok-push.ensures.pushed)
