-- The faults one after another, each by what is kept of the log.
use Rattle.rv_book.proofs.Common.{arith, common_steps, rules, List, sym, ap, ◌∙◌, events, first_faults, lowest}
use Rattle.rv_book.proofs.Common.{Event, Booked}
use Rattle.rv_book.proofs.PushedEntries.{first_of_faults, source_of_faults}
use Rattle.rv_book.proofs.book.Book.fault.Goals as goal

pub returns-in-Some : goal.returns-in-Some
returns-in-Some c =
    let x = c.args.entry.now in
    let same = c.self.invariant.0.same ∙ ap (λ (b : Booked). events b.log) c.self.view_is in
    first_of_faults c.args.self.now.log x c.in-Some.fault (sym c.in-Some.is ∙ c.first_fault.ensures ∙
    ap (λ (es : List Event). lowest (first_faults es x.event)) same)

pub returns-in-Some-source_fault : goal.returns-in-Some-source_fault
returns-in-Some-source_fault c = search (source_of_faults, rules)

pub returns : goal.returns
returns c = grind (arith, common_steps)
