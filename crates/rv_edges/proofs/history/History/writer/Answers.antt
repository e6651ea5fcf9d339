-- The log whose versions are kept has the events of the history.
use Rattle.rv_edges.proofs.Common.{List, option_map, ap, ◌∙◌, writer, Event}
use Rattle.rv_edges.proofs.IndexFacts.{log-is}
use Rattle.rv_edges.proofs.history.History.writer.Goals as goal

pub returns : goal.returns
returns c = c.writer.ensures
    ∙ ap (λ (es : List Event). option_map (λ (w : Event). w.id) (writer es c.args.word c.args.version))
    (log-is c.self.inside.model c.self.inside.versions c.self.inside.harts.items c.self.inside.links c.self.invariant
    c.args.self.now c.self.view_is)
