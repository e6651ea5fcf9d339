use Rattle.std.proofs.Common.{nat_eq, refl}
use Rattle.std.specs.HashMap.{get}
use Rattle.std.specs.HashSet.{contains}
use Rattle.rv_past.proofs.Noted.{facts-same}
use Rattle.rv_past.specs.Gone.{same_version}
use Rattle.rv_past.proofs.facts.Facts.reserve.Goals as goal

pub returns-in_err-reserve-2-clause-same : goal.returns-in_err-reserve-2-clause-same
returns-in_err-reserve-2-clause-same c = λ gone are.
    facts-same gone c.args.self.now.sources (get same_version c.args.self.now.values)
    (get same_version c.reserve.new.self) (get nat_eq c.args.self.now.through) (get nat_eq c.reserve-2.new.self)
    (contains same_version c.args.self.now.above) (contains same_version c.args.self.now.above)
    (λ h k. c.in_ok-reserve.ensures.entries.2 (h, k)) (λ w. c.in_err-reserve-2.ensures.entries.2 w) (λ w v. refl) are

pub returns-in_err-reserve-3-clause-same : goal.returns-in_err-reserve-3-clause-same
returns-in_err-reserve-3-clause-same c = λ gone are.
    facts-same gone c.args.self.now.sources (get same_version c.args.self.now.values)
    (get same_version c.reserve.new.self) (get nat_eq c.args.self.now.through) (get nat_eq c.reserve-2.new.self)
    (contains same_version c.args.self.now.above) (contains same_version c.reserve-3.new.self)
    (λ h k. c.in_ok-reserve.ensures.entries.2 (h, k)) (λ w. c.in_ok-reserve-2.ensures.entries.2 w)
    (λ w v. c.in_err-reserve-3.ensures.keys.2 (w, v)) are

pub returns-clause-same : goal.returns-clause-same
returns-clause-same c = λ gone are.
    facts-same gone c.args.self.now.sources (get same_version c.args.self.now.values)
    (get same_version c.reserve.new.self) (get nat_eq c.args.self.now.through) (get nat_eq c.reserve-2.new.self)
    (contains same_version c.args.self.now.above) (contains same_version c.reserve-3.new.self)
    (λ h k. c.in_ok-reserve.ensures.entries.2 (h, k)) (λ w. c.in_ok-reserve-2.ensures.entries.2 w)
    (λ w v. c.in_ok-reserve-3.ensures.keys.2 (w, v)) are

pub returns-in_err-reserve-clause-same : goal.returns-in_err-reserve-clause-same
returns-in_err-reserve-clause-same c = λ gone are.
    facts-same gone c.args.self.now.sources (get same_version c.args.self.now.values)
    (get same_version c.reserve.new.self) (get nat_eq c.args.self.now.through) (get nat_eq c.args.self.now.through)
    (contains same_version c.args.self.now.above) (contains same_version c.args.self.now.above)
    (λ h k. c.in_err-reserve.ensures.entries.2 (h, k)) (λ w. refl) (λ w v. refl) are
