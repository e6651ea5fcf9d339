use Rattle.rv_hart.proofs.Common.{◌≡◌, ◌++◌, ◌∷◌, List, ℕ, [], arith, refl, common_steps, length_push, Event}
use Rattle.rv_hart.proofs.Common.{sym, subst, Hart, IsHart, IsKept, hart_of, Kept}
use Rattle.rv_hart.proofs.HartFacts.{known_of, hart-front}
use Rattle.rv_hart.proofs.CarriedRows.{kept-events}
use Rattle.rv_hart.proofs.GrownHart.{CarriedOf, carried-front, kept-popped, split_last, small-events}
use Rattle.rv_hart.proofs.kept.Kept.drop_last.Goals as goal

-- the rows of the others, and that of the last event
abbrev rows_of : Kept → Type 0
rows_of k = (before : List (List ℕ)) × (row : List ℕ) × (k.rows ≡ before ++ row ∷ [])

-- so with those of carriers
abbrev carried_of : Kept → Type 0
carried_of k = (before : List (List ℕ)) × (row : List ℕ) × (k.carried ≡ before ++ row ∷ [])

pub drop_last-requires-clause-numbered : goal.drop_last-requires-clause-numbered
drop_last-requires-clause-numbered c =
    (known_of (hart_of (c.args.events.now ++ c.args.event.now ∷ []) c.args.self.now) c.requires.kept.hart).at

pub pop-requires : goal.pop-requires
pop-requires c = grind (arith, common_steps, length_push)

pub pop_carried-requires : goal.pop_carried-requires
pop_carried-requires c =
    let more = length_push c.args.events.now c.args.event.now in
    let count = c.requires.kept.carried_count in
    omega (more, count, arith)

-- the hart without its last event
front-hart : (events : List Event) (e : Event) (k : Kept) → IsKept (events ++ e ∷ []) k → IsHart (hart_of events k)
front-hart events e k kept = hart-front (hart_of (events ++ e ∷ []) k) events e kept.hart refl

-- the rows of the carriers that are left
front-carried : (events : List Event) (e : Event) (k : Kept) (left : List (List ℕ)) → IsKept (events ++ e ∷ []) k
    → ((front : List (List ℕ)) (last : List ℕ) → k.carried ≡ front ++ last ∷ [] → left ≡ front)
    → CarriedOf events left
front-carried events e k left kept popped =
    let more = length_push events e in
    let count = kept.carried_count in
    let rows : carried_of k = split_last k.carried (omega (arith, count, more)) in
    subst (CarriedOf events) (sym (popped rows.0 rows.1 rows.2)) (carried-front events k e rows.0 rows.1 kept rows.2)

pub sets_of-self-requires-clause-carried : goal.sets_of-self-requires-clause-carried
sets_of-self-requires-clause-carried c = (front-carried c.args.events.now c.args.event.now c.args.self.now
    c.pop_carried.new.carried c.requires.kept c.pop_carried.ensures).0

pub sets_of-self-requires-clause-kept : goal.sets_of-self-requires-clause-kept
sets_of-self-requires-clause-kept c =
    let events : List Event = c.args.events.now in
    let hart : IsHart (hart_of events c.args.self.now) =
    front-hart events c.args.event.now c.args.self.now c.requires.kept in
    let carried : CarriedOf events c.pop_carried.new.carried =
    front-carried events c.args.event.now c.args.self.now c.pop_carried.new.carried c.requires.kept
    c.pop_carried.ensures in
    kept-events (known_of (hart_of events c.args.self.now) hart) c.pop_carried.new.carried carried.0.long

pub sets_of-self-requires-clause-numbers : goal.sets_of-self-requires-clause-numbers
sets_of-self-requires-clause-numbers c =
    let hart : IsHart (hart_of c.args.events.now c.args.self.now) =
    front-hart c.args.events.now c.args.event.now c.args.self.now c.requires.kept in
    small-events (known_of (hart_of c.args.events.now c.args.self.now) hart)

pub returns-clause-popped : goal.returns-clause-popped
returns-clause-popped c =
    let k : Kept = c.args.self.now in
    let front : List Event = c.args.events.now in
    let e : Event = c.args.event.now in
    let h : Hart = hart_of front k in
    let more = length_push front e in
    let count = c.requires.kept.carried_count in
    let rows : rows_of k = split_last k.rows (omega (arith, c.requires.kept.count, more)) in
    let carried : carried_of k = split_last k.carried (omega (arith, count, more)) in
    let hart : IsHart h = front-hart front e k c.requires.kept in
    kept-popped front k _ e rows.0 rows.1 carried.0 carried.1 c.requires.kept rows.2 carried.2 refl
    (c.pop.ensures rows.0 rows.1 rows.2) (c.pop_carried.ensures carried.0 carried.1 carried.2)
    (c.sets_of-self.ensures h hart refl refl) c.drop_last.ensures
