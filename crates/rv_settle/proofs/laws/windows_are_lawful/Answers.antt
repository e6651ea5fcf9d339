-- The operations that are kept stand in their order, renumbered.
use Rattle.std.proofs.Common.{Bool, Contains, IsFalse, List, map, ◌≡◌, ◌≢◌}
use Rattle.std.proofs.lemmas.Bool.{le-ltb, ltb-false}
use Rattle.std.proofs.lemmas.List.Elements.{All-contains}
use Rattle.std.specs.Prelude.{nat_lt}
use Rattle.rv_cert.proofs.Forward.{edge-forward, no_certificate}
use Rattle.rv_cert.proofs.Suffice.{lawful_from_edges}
use Rattle.rv_cert.specs.declared.certificate.Certificate.TheVariants.{Stale}
use Rattle.rv_event.proofs.Common.{events}
use Rattle.rv_event.proofs.Indexed.{IndexedWithin, indexed_from_WellFormed, indexed_within}
use Rattle.rv_event.specs.declared.event.Event.{Event}
use Rattle.rv_event.specs.declared.event.Id.{Id}
use Rattle.rv_event.specs.declared.event.Op.TheVariants.{Carrier}
use Rattle.rv_settle.proofs.Decided.{forward-in, none-in, order-in, to_window}
use Rattle.rv_settle.proofs.Formed.{window-formed}
use Rattle.rv_settle.proofs.Kept.{kept, kept-forward, kept-order}
use Rattle.rv_settle.proofs.Windows.{into-window, onto-window}
use Rattle.rv_settle.specs.Cuts.{GoesForward, IsOrderOfKept, NoneStaleKept}
use Rattle.rv_settle.specs.Windows.{IsKept, renumbered, window}
use Rattle.rv_settle.proofs.laws.windows_are_lawful.Goals as goal

pub returns : goal.returns
returns c limit model log first order ok plain pairs few lawful = (
  map (to_window first) rest,
  lawful_from_edges model w (map (to_window first) rest) known-window
      (none-in model es w first known known-window into onto none-carries pairs past stays fails none)
      (forward-in model es w first known known-window into onto none-carries pairs past stays fails rest whole forward)
      (order-in model es w first known known-window into onto none-carries pairs past stays fails rest whole),
)
  where
    es : List Event
    es = events log

    w : List Event
    w = events (window first log)

    known : IndexedWithin limit es
    known = indexed_within limit log ok

    known-window : IndexedWithin 4096 w
    known-window = indexed_from_WellFormed (window first log) (window-formed limit log first ok pairs few)

    into : (a : Event) → Contains es a → IsKept first a → Contains w (renumbered first a)
    into = into-window first log

    onto : (y : Event) → Contains w y → (a : Event) × Contains es a × IsKept first a × (renumbered first a ≡ y)
    onto = onto-window first log

    none-carries : (a : Event) → Contains es a → a.op ≢ Carrier
    none-carries a there = All-contains (λ (m : Event). m.op ≢ Carrier) es a plain there

    past : Event → Bool
    past a = nat_lt a.id.seq (first a.id.hart)

    stays : (a : Event) → Contains es a → IsFalse (past a) → IsKept first a
    stays a there not_past = ltb-false a.id.seq (first a.id.hart) not_past

    fails : (a : Event) → Contains es a → IsKept first a → IsFalse (past a)
    fails a there high = le-ltb a.id.seq (first a.id.hart) high

    rest : List Id
    rest = kept es past order lawful.is_order

    whole : IsOrderOfKept es past rest
    whole = kept-order es past order lawful.is_order

    forward : GoesForward model es rest
    forward = kept-forward es past order lawful.is_order model (edge-forward model es order lawful)

    none : NoneStaleKept es past
    none load store stale _ _ = no_certificate model es order lawful (Stale load store) stale
