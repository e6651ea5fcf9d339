use Rattle.rv_endless.specs.Exclusives.{AreLast}
use Rattle.rv_endless.specs.Forgetting.{AreFresh, HaveNumbers, forgotten_of}
use Rattle.rv_event.specs.Log.{events}
use Rattle.rv_event.specs.declared.event.Entry.{Entry}
use Rattle.std.proofs.Common.{List, take, ◌++◌}
use Rattle.rv_endless.proofs.exclusives.forget_exclusives.Given as goal

abbrev pub invariant-entries : goal.invariant-entries
invariant-entries l = (gone : List Entry) → HaveNumbers l.firsts l.window → AreFresh l.firsts gone l.window →
    AreLast (events gone) l.fn.last →
    AreLast (events (gone ++ forgotten_of l.firsts l.cut (take l.entry-index l.window))) l.last
