use Rattle.rv_slotcore.proofs.Common.{◌≡◌, ◌<◌, List, [], ◌∷◌, ◌++◌, map, length, ap, ◌∙◌, arith, reverse}
use Rattle.rv_slotcore.proofs.Common.{reverse-append, map-append, Seat, recorded, core_of, state_of, record_of}
use Rattle.rv_slotcore.specs.declared.parts.Record.{Record}
use Rattle.rv_slotcore.proofs.CorePlaces.{seats_written, same_seat}
use Rattle.rv_slotcore.proofs.parts.Parts.set_recorded.Goals as goal

pub returns-in_default-clause-err : goal.returns-in_default-clause-err
returns-in_default-clause-err c =
    let h = c.args.self.now in
    let ok = h.seats.ok.0 in
    let x = c.index_mut-entry.result.now in
    let within : c.args.seat < length h.seats.items = omega arith in
    let same = ap (λ (rs : List Record). reverse (map record_of rs)) c.in_default.ensures.items in
    seats_written h c.args.seat x (record { state = x.state; records = c.push.new.self })
    (λ (q : Seat). q) within c.index_mut-entry.ensures.value
    (λ k. record { state = state_of x.state; records = same k }) ∙ same_seat (core_of h) c.args.seat

one_more : (rs : List Record) (r : Record) → reverse (map record_of (rs ++ r ∷ [])) ≡ record_of r
    ∷ reverse (map record_of rs)
one_more rs r = ap reverse (map-append record_of rs (r ∷ [])) ∙ reverse-append (map record_of rs)
    (record_of r ∷ [])

pub returns-clause-ok : goal.returns-clause-ok
returns-clause-ok c =
    let h = c.args.self.now in
    let ok = h.seats.ok.0 in
    let x = c.index_mut-entry.result.now in
    let within : c.args.seat < length h.seats.items = omega arith in
    let more = ap (λ (rs : List Record). reverse (map record_of rs)) c.in-Ok.ensures.items
    ∙ one_more x.records.items c.args.made in
    seats_written h c.args.seat x (record { state = c.args.state; records = c.push.new.self })
    (λ (q : Seat). recorded q (state_of c.args.state) (record_of c.args.made)) within
    c.index_mut-entry.ensures.value
    (λ k. record { state = state_of c.args.state; records = more k })
