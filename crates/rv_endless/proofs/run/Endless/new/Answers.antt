use Rattle.rv_endless.proofs.Begun.{begun, none-at}
use Rattle.rv_event.specs.Log.{events}
use Rattle.rv_event.specs.Orders.{Lawful}
use Rattle.rv_event.specs.declared.event.Entry.{Entry}
use Rattle.std.proofs.Common.{List, refl, subst}
use Rattle.rv_endless.proofs.run.Endless.new.Goals as goal

pub returns-clause-stands : goal.returns-clause-stands
returns-clause-stands c =
    begun _ c.new-book.ensures.log c.new-book.result.order
    (subst (λ (log : List Entry). Lawful c.new-book.result.model (events log) c.new-book.result.order)
    c.new-book.ensures.log c.model.ensures.lawful)
    c.new.ensures refl c.new-2.ensures c.new-3.ensures (none-at 16) refl c.new-book.ensures.going
