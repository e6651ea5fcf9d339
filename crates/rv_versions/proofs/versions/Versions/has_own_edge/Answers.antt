-- What is tested is what an edge to itself takes.
use Rattle.rv_versions.proofs.Common.{List, subst, indexed_from_events, sound_of, Entry, WellFormedEvents, events}
use Rattle.rv_versions.proofs.Owning.{own_edge}
use Rattle.rv_versions.proofs.versions.Versions.has_own_edge.Goals as goal

pub returns : goal.returns
returns c model =
    let log = events c.args.self.now in
    let e = c.args.event.now in
    let o = own_edge model log e c.args.reserved (indexed_from_events log
    (subst (λ (xs : List Entry). WellFormedEvents (events xs)) c.self.view_is c.self.invariant.well_formed))
    (sound_of log e c.requires.sound) c.requires.reserved in
    (λ t. o.0 (c.returns_own.ensures.0 t), λ h. c.returns_own.ensures.1 (o.1 h))
