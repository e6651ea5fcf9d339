-- What adding an event to an arranged history asks for, and what it gives.
use Rattle.std.specs.Prelude.{◌≡◌, ◌++◌, [], ◌∷◌}
use Rattle.rv_event.specs.Edges.{IsStale}
use Rattle.rv_event.specs.declared.event.Entry.{Entry}
use Rattle.rv_event.specs.declared.event.Id.{Id}
use Rattle.rv_cert.specs.Certificates.{Certifies}
use Rattle.rv_edges.specs.Kept.{Kept, Past, happened, grown}
use Rattle.rv_edges.specs.Histories.{Joined, HasOwnEdge}
use Rattle.rv_book.specs.Arranged.{Arranged, IsOwn}
use Rattle.rv_book.specs.declared.arrangement.Added.{Added}
use Rattle.rv_book.specs.declared.arrangement.Added.TheVariants.{Taken, Refused}

-- the event may join the history with its links, it has no edge to itself, and it is not stale
pub record IsFit (v : Arranged) (k : Kept) : Type 0 where
  pub joined : Joined v.model v.history k
  pub none_own : HasOwnEdge v.model v.history k.event → ⊥
  pub not_stale : (s : Id) → IsStale (grown v.history k.event) k.event.id s → ⊥

-- taken: the log has this entry more, and the history its event; refused: nothing changed, the
-- evidence is the log with the entry, and the certificate is one for the grown history
abbrev pub IsAdded : Arranged → Arranged → Entry → Added → Type 0
IsAdded old new x Taken =
    (new.model ≡ old.model) × (happened new.history ≡ grown old.history x.event) × (new.log ≡ old.log ++ x ∷ [])
IsAdded old new x (Refused evidence c) =
    (new ≡ old) × (evidence ≡ old.log ++ x ∷ []) × Certifies old.model (grown old.history x.event) c × IsOwn x.event c

-- the log of the history followed by the entry is the evidence, and the certificate is the entry's own
abbrev pub IsRefused : Past → Entry → Added → Type 0
IsRefused past x Taken = ⊥
IsRefused past x (Refused evidence c) =
    (evidence ≡ past.log ++ x ∷ []) × Certifies past.model (grown past.kept x.event) c × IsOwn x.event c
