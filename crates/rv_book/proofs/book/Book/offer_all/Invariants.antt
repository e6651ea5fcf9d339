use Rattle.std.proofs.Common.{IsFalse}
use Rattle.rv_book.proofs.TakenEvents.{IsWithin}
use Rattle.rv_book.proofs.book.Book.offer_all.Given as goal

abbrev pub invariant-loop-event : goal.invariant-loop-event
invariant-loop-event l = IsFalse l.self.stopped
    × IsWithin l.initial.self l.self l.source l.yielded l.event-iterator.rest.items l.fn.events.items
    l.event-iterator.rest.len
