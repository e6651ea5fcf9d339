-- What the indexes of a history say of its events.
use Rattle.rv_edges.proofs.Common.{◌≡◌, ℕ, ◌≤◌, List, length, None, Some, subst, sym, ap, ◌∙◌, arith, length-map}
use Rattle.rv_edges.proofs.Common.{events, event_fault, Indexed, length-Indexed, Event, Entry, MemoryModel}
use Rattle.rv_edges.proofs.Common.{Follows, IsHartOf, hart_of_log, HartOrder, fault_own, OwnLinks, Past}
use Rattle.rv_edges.proofs.Common.{kept_from, happened, AreHarts, AreIndexes, IsHartIn, hart_in}
use Rattle.rv_edges.proofs.CarriedEdges.{indexed_from_IsHistory}
use Rattle.rv_edges.proofs.Sides.{happened-kept_from}

module _ (model : MemoryModel) (entries : List Entry) (harts : List HartOrder) (links : List OwnLinks)
    (known : AreIndexes model (events entries) harts links) where
  abbrev log : List Event
  log = events entries

  -- the events of the history are those of the log
  pub happened-is : happened (kept_from log links) ≡ log
  happened-is = happened-kept_from log links known.lengths

  -- the events of a history are indexed
  pub indexed-is : Indexed (happened (kept_from log links))
  indexed-is = indexed_from_IsHistory model (kept_from log links) known.history

  module _ (past : Past)
      (view : record { model = model; log = entries; kept = kept_from (events entries) links } ≡ past) where
    -- the events of the log are those of the history
    pub log-is : log ≡ happened past.kept
    log-is = sym happened-is ∙ ap (λ (w : Past). happened w.kept) view

    -- and so are those of what is kept
    pub past-indexed : Indexed (happened past.kept)
    past-indexed = subst (λ (w : Past). Indexed (happened w.kept)) view indexed-is

    -- there are at most 65,536
    pub past-few : length entries ≤ 65536
    past-few =
        omega (
          arith,
          length-Indexed (happened past.kept) past-indexed,
          ap (λ (es : List Event). length es) log-is,
          length-map entries (λ (x : Entry). x.event),
        )

    -- the harts are those of the history
    pub past-harts : AreHarts past.model (happened past.kept) harts
    past-harts =
        subst (λ (m : MemoryModel). AreHarts m (happened past.kept) harts) (ap (λ (w : Past). w.model) view)
        (subst (λ (l : List Event). AreHarts model l harts) log-is known.own)

-- a hart of the history, beside entries that have its events
module _ (past : Past) (entries : List Entry) (h : ℕ) (x : HartOrder) (is : events entries ≡ happened past.kept)
    (at : IsHartIn past h (Some x)) where
  -- it keeps what it should of these entries
  pub of_entries : IsHartOf (events entries) x
  of_entries = subst (λ (l : List Event). IsHartOf l x) (sym is) at.of_log

  -- and is the history's
  pub hart-is : hart_of_log (events entries) x ≡ hart_in past h
  hart-is = ap (λ (l : List Event). hart_of_log l x) is ∙ at.hart

-- an event that may join the log may follow its hart's events
pub follows : (past : Past) (e : Event) → event_fault (happened past.kept) e ≡ None → Follows (hart_in past e.id.hart) e
follows past e sound = record { hart = λ i. e.id.hart; sound = fault_own (happened past.kept) e sound }
