use Rattle.std.proofs.Common.{◌∙◌, ◌++◌, ◌∷◌, [], sym, subst}
use Rattle.rv_book.specs.Booked.{SomeLawful}
use Rattle.rv_endless.specs.Runs.{IsEdgeIntoPast, IsForbidden, KeepsSettings, StandsFor}
use Rattle.rv_endless.specs.declared.run.Endless.{Endless}
use Rattle.rv_event.specs.declared.event.Entry.{Entry}
use Rattle.rv_event.specs.declared.memory_model.MemoryModel.{MemoryModel}
use Rattle.std.proofs.Common.{List}
use Rattle.rv_past.specs.declared.edge.PastEdge.{PastEdge}
use Rattle.rv_watch.specs.Watches.{most}
use Rattle.rv_watch.proofs.Counted.{events-more, operations-more}
use Rattle.rv_watch.proofs.watch.Watch.take_uncut.Goals as goal

pub returns-in-Accepted-clause-taken : goal.returns-in-Accepted-clause-taken
returns-in-Accepted-clause-taken c = λ log watches.
    let told = c.in-Accepted.ensures.accepted log watches.stands in (
      told.0,
      record {
        stands = subst (λ (r : Endless). StandsFor r (log ++ c.args.entry.now ∷ [])) (sym c.count.ensures.run)
            told.1;
        events = c.count.ensures.events
            ∙ events-more c.args.self.now.events most log c.args.entry.now watches.events;
        operations = c.count.ensures.operations
            ∙ operations-more c.args.self.now.operations most log c.args.entry.now watches.operations;
      },
    )

-- what is forbidden is so under the run's settings, which stay
forbidden-still : (old new : Endless) (log : List Entry) (x : Entry) → KeepsSettings old new →
    IsForbidden old log x → IsForbidden new log x
forbidden-still old new log x settings refused = record {
  sound = refused.sound;
  none = λ lawful. refused.none
      (subst (λ (m : MemoryModel). SomeLawful m (log ++ x ∷ [])) settings.model lawful);
}

pub returns-in-Forbidden-clause-stopped : goal.returns-in-Forbidden-clause-stopped
returns-in-Forbidden-clause-stopped c = λ log watches.
    let told = c.in-Forbidden.ensures.forbidden log watches.stands in
    let stopped = c.in-Forbidden.ensures.refused log watches.stands in
    let settings = c.in-Forbidden.ensures.settings in (
      forbidden-still c.args.self.now.run c.offer.new.self log c.args.entry.now settings told.0,
      rw (settings.model, stopped.1, settings.firsts) told.1,
    )

-- and an edge into the past is one
edge-still : (old new : Endless) (log : List Entry) (x : Entry) (edge : PastEdge) → KeepsSettings old new →
    IsEdgeIntoPast old log x edge → IsEdgeIntoPast new log x edge
edge-still old new log x edge settings leads = record {
  past = leads.past;
  of_log = leads.of_log;
  forgotten = rw settings.firsts leads.forgotten;
  leads = rw settings.model leads.leads;
  word = leads.word;
  version = leads.version;
}

pub returns-in-BeforePast-clause-stopped : goal.returns-in-BeforePast-clause-stopped
returns-in-BeforePast-clause-stopped c = λ log watches.
    let told = c.in-BeforePast.ensures.before_past log watches.stands in
    let settings = c.in-BeforePast.ensures.settings in (
      forbidden-still c.args.self.now.run c.offer.new.self log c.args.entry.now settings told.0,
      edge-still c.args.self.now.run c.offer.new.self log c.args.entry.now _ settings told.1,
    )
