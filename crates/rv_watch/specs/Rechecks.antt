-- What a recheck tells: the circle by an event that was forgotten. These are this project's own.
use Rattle.std.specs.Prelude.{◌≡◌, ◌≢◌, ◌==◌, ◌++◌, ◌∷◌, Any, IsFalse, List, None, Some, [], count_by}
use Rattle.rv_book.specs.Booked.{IsForbiddenOn, SomeLawful}
use Rattle.rv_cert.specs.Refusals.{Refusal}
use Rattle.rv_cert.specs.declared.certificate.Certificate.{Certificate}
use Rattle.rv_event.specs.Faults.{fault_of}
use Rattle.rv_event.specs.Operations.{IsLoad, IsStore}
use Rattle.rv_event.specs.declared.event.Entry.{Entry}
use Rattle.rv_event.specs.declared.event.Event.{Event}
use Rattle.rv_event.specs.declared.reason.Reason.{Reason}
use Rattle.rv_event.specs.declared.reason.Reason.TheVariants.{AtomicIn, AtomicOut, Coherence, FromRead}
use Rattle.rv_event.specs.declared.reason.Reason.TheVariants.{Preserved, ReadsFrom}
use Rattle.rv_past.specs.Before.{version_by}
use Rattle.rv_past.specs.declared.edge.PastEdge.{PastEdge}
use Rattle.rv_watch.specs.Names.{certificate_named, in_log}
use Rattle.rv_watch.specs.declared.watch.Watch.{Watch}

-- reads-from leads to a load, each other reason to a store
abbrev pub IsEndBy : Reason → Event → Type 0
IsEndBy ReadsFrom p = IsLoad p
IsEndBy FromRead p = IsStore p
IsEndBy Coherence p = IsStore p
IsEndBy AtomicOut p = IsStore p
IsEndBy AtomicIn p = IsStore p
IsEndBy (Preserved k) p = IsStore p

-- the edge may lead to the operation
abbrev pub IsEndOf : PastEdge → Event → Type 0
IsEndOf edge p = IsEndBy edge.reason p × (p.word ≡ edge.word) × (version_by edge.reason p ≡ edge.version)

-- the window has such an operation
abbrev pub HasEnd : Watch → PastEdge → Type 0
HasEnd w edge = Any (λ x. IsEndOf edge x.event) w.run.book.log

-- the entry as the next one of its hart in the window, without its dependencies
abbrev pub as_next : List Entry → Entry → Entry
as_next window x =
    record x {
      event =
          record x.event {
            id =
                record {
                  hart = x.event.id.hart;
                  seq = count_by (λ y. y.event.id.hart == x.event.id.hart) window;
                };
            deps = [];
          };
    }

-- the window forbids the entry as the next one of its hart, and this certificate shows it, with the names of
-- the log
abbrev pub IsShownBy : Watch → Entry → Certificate → Type 0
IsShownBy w x told =
    (r : Refusal) × IsForbiddenOn w.run.book.model w.run.book.log (as_next w.run.book.log x) r
    × (told ≡ certificate_named w.run.firsts (Some ((as_next w.run.book.log x).event.id, x.event.id)) r.certificate)

-- the window lacks events of the entry's hart that come before it
abbrev pub HasGap : Watch → Entry → Type 0
HasGap w x = in_log w.run.firsts (as_next w.run.book.log x).event.id ≢ x.event.id

-- the window forbids the entry as the next one of its hart
pub record Forbids (w : Watch) (x : Entry) : Type 0 where
  pub going : IsFalse w.run.book.stopped
  pub sound : fault_of w.run.book.log (as_next w.run.book.log x) ≡ None
  pub none : SomeLawful w.run.book.model (w.run.book.log ++ as_next w.run.book.log x ∷ []) → ⊥
