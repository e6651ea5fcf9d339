use Rattle.std.proofs.Common.{nat_eq}
use Rattle.std.specs.HashMap.{get}
use Rattle.std.specs.HashSet.{contains}
use Rattle.rv_past.proofs.Noted.{facts-more}
use Rattle.rv_past.specs.Facts.{is_written}
use Rattle.rv_past.specs.Gone.{same_version}
use Rattle.rv_past.proofs.facts.Facts.add.Goals as goal

pub returns-clause-added : goal.returns-clause-added
returns-clause-added c = λ gone are follows.
    facts-more gone c.args.entry.now follows c.args.self.now.sources c.note_source.new.sources
    (get same_version c.args.self.now.values) (get same_version c.note_returned.new.values)
    (is_written (get nat_eq c.args.self.now.through) (contains same_version c.args.self.now.above))
    (is_written (get nat_eq c.note_written.new.through) (contains same_version c.note_written.new.above))
    (c.note_source.ensures follows.hart) c.note_returned.ensures.noted
    c.note_written.ensures.noted are
