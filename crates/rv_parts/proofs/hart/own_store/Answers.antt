use Rattle.std.proofs.Common.{◌≡◌, List, Some, None, refl, sym, ap, ◌∙◌}
use Rattle.std.proofs.lemmas.Option.{none-some}
use Rattle.rv_event.proofs.Names.{IsWriterOf, writer-is}
use Rattle.rv_event.specs.Operations.{IsLoad}
use Rattle.rv_event.specs.Log.{writer}
use Rattle.rv_event.specs.declared.event.Event.{Event}
use Rattle.rv_hart.proofs.HartFacts.{known_of}
use Rattle.rv_parts.proofs.hart.own_store.Goals as goal

pub returns-in-Some : goal.returns-in-Some
returns-in-Some c = λ h ok is.
    let e : Event = c.args.event.now in
    let w : Event = c.in-Some.store.now in
    let found : writer h.events e.word e.read ≡ Some w = ap (λ (es : List Event). writer es e.word e.read) is ∙
    sym c.in-Some.ensures in
    let x : IsWriterOf h.events e.word e.read w = writer-is h.events e.word e.read w found in
    let load : IsLoad e = c.is_load.ensures.0 c.if-not-is_load.false in (
      w,
      record {
        of_hart = x.of_log;
        store = x.store;
        load = load;
        returns = record { word = x.word; version = x.version };
      },
      refl,
    )

pub returns-in-None : goal.returns-in-None
returns-in-None c = λ h ok is w own.
    let e : Event = c.args.event.now in
    let none : writer h.events e.word e.read ≡ None = ap (λ (es : List Event). writer es e.word e.read) is ∙
    sym c.in-None.ensures in
    let found : writer h.events w.word w.wrote ≡ Some w = (known_of h ok).indexed.written w own.of_hart own.store in
    let here : writer h.events e.word e.read ≡ Some w = rw (own.returns.word, own.returns.version) found in
    none-some w (sym none ∙ here)
