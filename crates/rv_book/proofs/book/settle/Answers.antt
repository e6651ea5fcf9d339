use Rattle.rv_book.proofs.Common.{List, ◌≡◌, false, sym, ◌∙◌, ap, arith, get_or, events, Entry, Event}
use Rattle.std.proofs.lemmas.List.{get_or_default}
use Rattle.std.proofs.lemmas.List.Elements.{All-more}
use Rattle.rv_book.specs.Counts.{is_waiting}
use Rattle.rv_book.proofs.book.settle.Goals as goal

pub entries-preserved : goal.entries-preserved
entries-preserved c =
    let log = c.args.arrangement.now.log in
    let inv = c.entries.invariant in
    let x = c.index-log-place.result in
    let asked = rw c.log-log.ensures at c.is_waiting.ensures in
    let none : is_waiting (events log) (get_or log c.entries.place x).event ≡ false =
    ap (λ (l : List Event). is_waiting l (get_or log c.entries.place x).event) (sym c.requires.same) ∙ sym asked ∙
    c.if-is_waiting.false in
    let within = rw c.log-log.ensures at c.entries-test.true in
    record {
      within = omega (arith, within);
      none = All-more (λ y. is_waiting (events log) y.event ≡ false) log c.entries.place x within inv.none none;
    }

pub returns-then-is_waiting-clause-waits : goal.returns-then-is_waiting-clause-waits
returns-then-is_waiting-clause-waits c = λ y l.
    let log = c.args.arrangement.now.log in
    let place = c.entries.place in
    let x = c.index-log-place.result in
    let asked = rw c.log-log.ensures at c.is_waiting.ensures in
    ap (λ (e : Entry). is_waiting (events log) e.event) (get_or_default log place y x l)
    ∙ ap (λ (l : List Event). is_waiting l (get_or log place x).event) (sym c.requires.same)
    ∙ sym asked ∙ c.if-is_waiting.true
