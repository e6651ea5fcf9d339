use Rattle.rv_event.proofs.Common.{◌≡◌, ℕ, ◌<◌, take, length, List, Contains}
use Rattle.rv_event.proofs.Common.{inl, inr, sym, subst, arith, events}
use Rattle.rv_event.proofs.Common.{Contains-push_cases, Entry, Event}
use Rattle.std.proofs.lemmas.Bool.{or_parts}
use Rattle.std.proofs.lemmas.List.{take_all}
use Rattle.rv_rows.specs.Bits.{Has}
use Rattle.rv_event.specs.Carried.{Carries, IsCarrying}
use Rattle.rv_event.proofs.Carrying.{carries-sound, carries-still}
use Rattle.rv_event.proofs.Scans.{event-at, events-more}
use Rattle.rv_event.proofs.carriers.mark_carriers.Goals as goal

-- src/carriers.rt
pub entries-preserved : goal.entries-preserved
entries-preserved c = record {
  kept = λ n has. c.mark_carrier-is_changed.ensures.kept n (c.entries.invariant.kept n has);
  sound = λ so n has. elim (c.mark_carrier-is_changed.ensures.only n has) [
    | inl old ↦ c.entries.invariant.sound so n old
    | inr new ↦ subst (λ (m : ℕ). IsCarrying (events c.args.log.now) c.args.on.now m) new.1
        (carries-sound (events c.args.log.now) c.args.on.now e c.entries.marked (c.entries.invariant.sound so)
        (event-at c.args.log.now k low c.entry-item.result c.entry-item.is) new.0)
  ];
  full = λ x cx carries. elim (Contains-push_cases (events (take k c.args.log.now)) e x
      (subst (λ (l : List Event). Contains l x)
      (events-more c.args.log.now k low c.entry-item.result c.entry-item.is) cx)) [
        | inl old ↦ c.mark_carrier-is_changed.ensures.kept x.id.seq (c.entries.invariant.full x old carries)
        | inr new ↦ subst (λ (y : Event). Has c.mark_carrier-is_changed.new.marked y.id.seq) new
            (c.mark_carrier-is_changed.ensures.full (carries-still (events c.args.log.now) c.args.on.now e
            c.args.marked.now c.entries.marked c.entries.invariant.kept
            (subst (λ (y : Event). Carries y c.args.on.now c.args.marked.now) (sym new) carries)))
      ];
  same = λ none n has.
      let both = or_parts c.entries.is_changed c.mark_carrier-is_changed.result none in
      c.entries.invariant.same both.0 n (c.mark_carrier-is_changed.ensures.same both.1 n has);
}
  where
    k : ℕ
    k = c.entries.entry-index

    low : k < length c.args.log.now
    low = let inside = c.entries-test.true in omega (inside, arith)

    e : Event
    e = c.entry-item.result.event

pub returns-clause-full : goal.returns-clause-full
returns-clause-full c x cx =
    c.entries.invariant.full x (subst (λ (l : List Entry). Contains (events l) x) (sym all) cx)
  where
    all : take c.entries.entry-index c.args.log.now ≡ c.args.log.now
    all = take_all c.entries.entry-index c.args.log.now
        (let end = c.entries-test.false in omega (end, arith))
