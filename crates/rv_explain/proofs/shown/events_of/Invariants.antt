use Rattle.std.proofs.Common.{◌≡◌, take}
use Rattle.rv_explain.specs.Showing.{of_hart}
use Rattle.rv_explain.proofs.shown.events_of.Given as goal

abbrev pub invariant-shown : goal.invariant-shown
invariant-shown l = l.events.items ≡ of_hart l.hart (take l.event-index l.shown)
