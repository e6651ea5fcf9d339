-- The last entry leaves the log and the indexes together.
use Rattle.rv_versions.proofs.Stored.{popped}
use Rattle.rv_versions.proofs.versions.Versions.pop.Goals as goal

pub invariant_of-self : goal.invariant_of-self
invariant_of-self c =
    popped c.self.inside.entries.items c.pop-last.new.self.items c.self.inside.reserved.items
    c.pop-last_reserved.new.self.items c.self.inside.indexes c.remove.new.self c.in-Some.entry
    c.in-Some-last_reserved.reserved c.self.invariant c.in-Some.ensures.items
    c.in-Some-last_reserved.ensures.items c.remove.ensures
