use Rattle.rv_book.proofs.Common.{arith, common_steps, rules, ◌≡◌, List, [], ◌∷◌, ◌++◌, None, sym, ap, ◌∙◌, subst}
use Rattle.rv_book.proofs.Common.{fault_of, source_fault, WellFormed-push, Entry, Certifies, Certificate, grown}
use Rattle.rv_book.proofs.Common.{Arranged, IsOwn, Booked, IsForbiddenOn, booked_of, IsTallied, Refusal}
use Rattle.rv_book.proofs.Common.{last_pushed}
use Rattle.rv_book.proofs.PushedEntries.{event_sound, source_sound, room_in, room_of, events-push, booked_push}
use Rattle.rv_book.proofs.PushedEntries.{forbidden_of, taken_of}
use Rattle.rv_book.proofs.Settled.{settled_push}
use Rattle.rv_book.proofs.book.Book.judge.Goals as goal

pub add-requires-clause-sound : goal.add-requires-clause-sound
add-requires-clause-sound c = search (event_sound, rules)

pub add-requires-clause-room : goal.add-requires-clause-room
add-requires-clause-room c = search (room_of, rules)

pub invariant_of-self-in-Taken : goal.invariant_of-self-in-Taken
invariant_of-self-in-Taken c =
    let none = ap (λ (b : Booked). fault_of b.log c.args.entry) c.self.view_is ∙ sym c.fault.ensures ∙
    c.in_default.is in
    let grew = rw c.in-Taken.is at c.in_ok-added.ensures.added in
    let last = last_pushed c.log-in-Taken.result.now c.self.inside.arrangement.log c.args.entry c.in-Some-last.last.now
    (c.log-in-Taken.ensures ∙ grew.2) (sym c.in-Some-last.ensures.value) in
    let tallied = c.add-in-Taken.ensures c.self.inside.arrangement.log c.self.invariant.1
    (room_in c.self.inside.arrangement.log c.args.entry c.self.invariant.0.well_formed none)
    (subst (λ (x : Entry). source_fault c.self.inside.arrangement.log x ≡ None) (sym last)
    (source_sound c.self.inside.arrangement.log c.args.entry none)) in
    let all : c.self.inside.arrangement.log ++ c.in-Some-last.last.now ∷ [] ≡ c.add.new.self.log =
    ap (λ (x : Entry). c.self.inside.arrangement.log ++ x ∷ []) last ∙ sym grew.2 in (
      booked_push c.self.inside.arrangement.log c.add.new.self.log c.self.inside.arrangement c.add.new.self
          c.args.entry c.self.invariant.0 none grew.1 c.model-unchanged.ensures.lawful grew.2,
      subst (λ (l : List Entry). IsTallied l c.add-in-Taken.new.self.sources c.add-in-Taken.new.self.counts)
          all tallied,
      c.settle-settled.ensures.settled,
    )

pub settle-settled-requires-clause-settled : goal.settle-settled-requires-clause-settled
settle-settled-requires-clause-settled c =
    let grew = rw c.in-Taken.is at c.in_ok-added.ensures.added in
    settled_push c.self.inside.arrangement.log c.add.new.self.log c.args.entry c.self.inside.settled grew.2
    c.self.invariant.2

pub add-requires-in-Taken : goal.add-requires-in-Taken
add-requires-in-Taken c = grind (arith, common_steps)

pub returns-in-Some-last-clause-judged : goal.returns-in-Some-last-clause-judged
returns-in-Some-last-clause-judged c =
    let none = ap (λ (b : Booked). fault_of b.log c.args.entry) c.self.view_is ∙ sym c.fault.ensures ∙
    c.in_default.is in
    let grew = rw c.in-Taken.is at c.in_ok-added.ensures.added in
    taken_of c.self.inside.arrangement.log c.add.new.self.log c.self.inside.arrangement c.add.new.self
    c.self.inside.stopped c.args.self.now c.args.entry
    c.self.view_is c.self.invariant.0 none grew.0 grew.1 c.model-unchanged.ensures.lawful grew.2

pub new-requires-in-Refused-clause-well_formed : goal.new-requires-in-Refused-clause-well_formed
new-requires-in-Refused-clause-well_formed c = search (WellFormed-push, rules)

pub new-requires-in-Refused-clause-certifies : goal.new-requires-in-Refused-clause-certifies
new-requires-in-Refused-clause-certifies c = search (events-push, rules)

pub returns-in-Refused-clause-judged : goal.returns-in-Refused-clause-judged
returns-in-Refused-clause-judged c =
    let none = ap (λ (b : Booked). fault_of b.log c.args.entry) c.self.view_is ∙ sym c.fault.ensures ∙
    c.in_default.is in
    let told = rw c.in-Refused.is at c.in_ok-added.ensures.added in
    let made = c.new-in-Refused.ensures in
    let cert = sym (ap (λ (f : Refusal). f.certificate) made) in
    let verdict = forbidden_of c.self.inside.arrangement.model c.self.inside.arrangement.log
    c.self.inside.arrangement.history c.args.entry c.new-in-Refused.result none c.self.invariant.0.same
    (ap (λ (f : Refusal). f.model) made ∙ c.model-model.ensures.value)
    (ap (λ (f : Refusal). f.evidence) made ∙ told.1)
    (subst (λ (x : Certificate). Certifies c.self.inside.arrangement.model
    (grown c.self.inside.arrangement.history c.args.entry.event) x) cert told.2)
    (subst (λ (x : Certificate). IsOwn c.args.entry.event x) cert told.3) in (
      ap (λ (w : Arranged). booked_of w.log w c.self.inside.stopped) told.0 ∙ c.self.view_is,
      subst (λ (w : Booked). IsForbiddenOn w.model w.log c.args.entry c.new-in-Refused.result)
          c.self.view_is verdict,
    )
