use Rattle.rv_slots.proofs.Common.{last_seat, seats_at_most, rules, ◌≡◌, ◌+◌, ◌-◌, ℕ, [], arith, subst, sym, ap}
use Rattle.rv_slots.proofs.Common.{◌∙◌, refl, List, Kept, opening_view, fresh_seats, AreSeats, opening}
use Rattle.rv_slots.proofs.Places.{opens}
use Rattle.rv_slots.proofs.OpenSteps.{next_cuts, left_is, right_is, idle_fresh, seats_pushed, all_ours}
use Rattle.rv_slots.proofs.slots.Slots.new.Goals as goal

pub of_words-requires : goal.of_words-requires
of_words-requires c = subst (λ (l : List ℕ). Kept c.args.count (opening l [] opening_view))
    (sym (c.as_slice.ensures.value ∙ (search rules))) (opens c.args.count)

pub split_seat-next-requires : goal.split_seat-next-requires
split_seat-next-requires c = search (next_cuts, rules)

pub invariant_of-seat : goal.invariant_of-seat
invariant_of-seat c = search (idle_fresh, left_is)

pub loop-number-preserved : goal.loop-number-preserved
loop-number-preserved c = let i = c.loop-number.invariant in let l = i.3 in let k =
    c.loop-number.number in let e : last_seat - k ≡ seats_at_most - (k + 1) = omega arith in (
      search rules,
      right_is k c.loop-number.rest.me c.split_seat-next.result.me l i.1
          c.split_seat-next.ensures.4 ∙ ap (λ (z : ℕ). (record { seats = fresh_seats z }, [])) e,
      seats_pushed c.in-Ok-of_words.table.shared.table_id c.loop-number.seats.items
          c.push.new.self.items k _ c.in-Ok-push.ensures.items i.2
          (c.split_seat-next.ensures.0 ∙ i.0) refl
          (left_is k c.loop-number.rest.me c.split_seat-next.new.seat.me l i.1
          c.split_seat-next.ensures.2),
      omega arith,
    )

pub returns-clause-ok : goal.returns-clause-ok
returns-clause-ok c = let i = c.loop-number.invariant in let l = i.3 in
    let n : c.loop-number.number ≡ last_seat = omega arith in let t =
    c.in-Ok-of_words.table.shared.table_id in (
      refl,
      seats_pushed t c.loop-number.seats.items c.push-2.new.self.items last_seat _
          c.in-Ok-push-2.ensures.items (subst (AreSeats t c.loop-number.seats.items) n i.2) i.0 refl
          (i.1 ∙ ap (λ (z : ℕ). (record { seats = fresh_seats (seats_at_most - z) }, [])) n),
    )

pub returns-clause-ours : goal.returns-clause-ours
returns-clause-ours c = let i = c.loop-number.invariant in let l = i.3 in
    let n : c.loop-number.number ≡ last_seat = omega arith in let t =
    c.in-Ok-of_words.table.shared.table_id in
    all_ours t c.push-2.new.self.items seats_at_most
    (seats_pushed t c.loop-number.seats.items c.push-2.new.self.items last_seat _
    c.in-Ok-push-2.ensures.items (subst (AreSeats t c.loop-number.seats.items) n i.2) i.0 refl
    (i.1 ∙ ap (λ (z : ℕ). (record { seats = fresh_seats (seats_at_most - z) }, [])) n))
