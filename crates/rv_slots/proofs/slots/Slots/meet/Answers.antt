use Rattle.rv_slots.proofs.Common.{rules, [], ◌∷◌, arith, ap, ◌∙◌, refl, the_view}
use Rattle.rv_slots.proofs.Places.{glues, learns, cuts, met_is, met, first_again, second_again}
use Rattle.rv_slots.proofs.slots.Slots.meet.Goals as goal

pub join_seat-requires : goal.join_seat-requires
join_seat-requires c = let a = c.args.first in let b = c.args.second in let t =
    c.args.self.now.table.shared in let sized = c.args.self.now.sized in let few =
    c.args.self.now.few.0 in (
      c.requires.first,
      c.requires.second,
      ap (λ m. m.1) b.idle.alone.one,
      omega arith,
      glues t.key a.place.id b.place.id a.place.me.0 b.place.me.0 (the_view a.place.me.0)
          (the_view b.place.me.0) (ap (λ m. m.0) a.idle.alone.one)
          (ap (λ m. m.0) b.idle.alone.one),
    )

pub load-requires : goal.load-requires
load-requires c = search (learns, rules)

pub split_seat-other-requires : goal.split_seat-other-requires
split_seat-other-requires c = let a = c.args.first in let b = c.args.second in let t =
    c.args.self.now.table.shared in let sized = c.args.self.now.sized in let few =
    c.args.self.now.few.0 in (
      c.load.ensures.0 ∙ (c.join_seat.ensures.0 ∙ c.requires.first),
      omega arith,
      cuts t.key c.load.new.seat.id c.load.new.seat.me.0 (the_view a.place.me.0)
          (the_view b.place.me.0 ∷ []) (ap (λ m. m.0)
          (met_is a.number b.number a.place.me b.place.me c.join_seat.new.seat.me
          c.load.new.seat.me a.idle.alone b.idle.alone c.join_seat.ensures.2
          c.load.ensures.2.0)),
    )

pub returns : goal.returns
returns c = let a = c.args.first in let b = c.args.second in
    let is = met_is a.number b.number a.place.me b.place.me c.join_seat.new.seat.me
    c.load.new.seat.me a.idle.alone b.idle.alone c.join_seat.ensures.2 c.load.ensures.2.0 in
    let x = first_again a.number b.number a.place.me b.place.me c.load.new.seat.me
    c.split_seat-other.new.seat.me a.idle.alone is c.split_seat-other.ensures.2 in
    let y = second_again a.number b.number a.place.me b.place.me c.load.new.seat.me
    c.split_seat-other.result.me b.idle.alone is c.split_seat-other.ensures.4 in (
      search rules,
      refl,
      ap (λ m. the_view m.0) x,
      search rules,
      refl,
      ap (λ m. the_view m.0) y,
      met a.number b.number a.place.me b.place.me c.join_seat.new.seat.me a.idle.alone
          b.idle.alone c.join_seat.ensures.2 c.load.ensures.2.1,
    )
