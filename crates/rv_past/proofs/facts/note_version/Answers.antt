use Rattle.std.proofs.Common.{nat_eq}
use Rattle.std.specs.HashMap.{get}
use Rattle.std.specs.HashSet.{contains}
use Rattle.rv_past.proofs.Noted.{noted-above}
use Rattle.rv_past.proofs.Stored.{other-key}
use Rattle.rv_past.specs.Gone.{same_version}
use Rattle.rv_past.proofs.facts.note_version.Goals as goal

pub returns-in-Ok-insert-clause-noted : goal.returns-in-Ok-insert-clause-noted
returns-in-Ok-insert-clause-noted c = λ w v.
    noted-above c.args.word c.args.version (get nat_eq c.args.through.now) (contains same_version c.args.above.now)
    (contains same_version c.insert-else-version-last.new.self) c.in-Ok-insert.ensures.updates.1
    (λ w' v' apart. c.in-Ok-insert.ensures.updates.2 (w', v')
    (other-key c.args.word w' c.args.version v' apart)) w v
