use Rattle.std.proofs.Common.{nat_eq, refl}
use Rattle.std.specs.HashMap.{get}
use Rattle.rv_past.proofs.Stored.{gone-same}
use Rattle.rv_past.specs.Gone.{same_version}
use Rattle.rv_past.proofs.past.Past.reserve.Goals as goal

pub returns-in_err-reserve-clause-same : goal.returns-in_err-reserve-clause-same
returns-in_err-reserve-clause-same c = λ gone are.
    gone-same gone (get nat_eq c.args.self.now.newest) (get nat_eq c.reserve.new.self)
    (get same_version c.args.self.now.awaited) (get same_version c.args.self.now.awaited)
    (λ w. c.in_err-reserve.ensures.entries.2 w) (λ w v. refl) are

pub returns-in_err-reserve-2-clause-same : goal.returns-in_err-reserve-2-clause-same
returns-in_err-reserve-2-clause-same c = λ gone are.
    gone-same gone (get nat_eq c.args.self.now.newest) (get nat_eq c.reserve.new.self)
    (get same_version c.args.self.now.awaited) (get same_version c.reserve-2.new.self)
    (λ w. c.in_ok-reserve.ensures.entries.2 w) (λ w v. c.in_err-reserve-2.ensures.entries.2 (w, v)) are

pub returns-clause-same : goal.returns-clause-same
returns-clause-same c = λ gone are.
    gone-same gone (get nat_eq c.args.self.now.newest) (get nat_eq c.reserve.new.self)
    (get same_version c.args.self.now.awaited) (get same_version c.reserve-2.new.self)
    (λ w. c.in_ok-reserve.ensures.entries.2 w) (λ w v. c.in_ok-reserve-2.ensures.entries.2 (w, v)) are
