-- What a cut of a window forgets. These are this project's own.
use Rattle.std.specs.Prelude.{ℕ, ◌≡◌, ◌<◌, ◌+◌, ◌++◌, ◌∷◌, ◌⊎◌, [], Contains, IsFalse, List, None}
use Rattle.std.specs.Prelude.{filter, map}
use Rattle.rv_book.specs.Booked.{Booked}
use Rattle.rv_cert.specs.Certificates.{Certifies}
use Rattle.rv_cert.specs.declared.certificate.Certificate.{Certificate}
use Rattle.rv_cut.specs.Cuts.{IsCutOf, first_of, is_past}
use Rattle.rv_event.specs.Faults.{fault_of}
use Rattle.rv_event.specs.Log.{events}
use Rattle.rv_event.specs.declared.event.Entry.{Entry}
use Rattle.rv_event.specs.declared.memory_model.MemoryModel.{MemoryModel}
use Rattle.rv_past.specs.Facts.{Follows}
use Rattle.rv_settle.specs.Windows.{window}
use Rattle.rv_endless.specs.Runs.{limit}
use Rattle.rv_endless.specs.declared.run.Endless.{Endless}

-- an entry of the window with its number in the log, and without its dependencies
abbrev pub restored : List ℕ → Entry → Entry
restored firsts w =
    record w {
      event = record w.event {
        id = record { hart = w.event.id.hart; seq = w.event.id.seq + first_of firsts w.event.id.hart };
        deps = [];
      };
    }

-- those of the window that the cut forgets
abbrev pub forgotten_of : List ℕ → List ℕ → List Entry → List Entry
forgotten_of firsts cut window = map (restored firsts) (filter (λ w. is_past cut w.event.id) window)

-- each entry of the window may be noted after those before it
abbrev pub AreFresh : List ℕ → List Entry → List Entry → Type 0
AreFresh firsts gone window =
    (before after : List Entry) (w : Entry) → window ≡ before ++ w ∷ after →
    Follows (gone ++ map (restored firsts) before) (restored firsts w)

-- their numbers in the log are of 32 bits
abbrev pub HaveNumbers : List ℕ → List Entry → Type 0
HaveNumbers firsts window =
    (w : Entry) → Contains window w → w.event.id.seq + first_of firsts w.event.id.hart < limit

-- a book of this log that goes on
pub record IsBookOf (book : Booked) (model : MemoryModel) (log : List Entry) : Type 0 where
  pub model_is : book.model ≡ model
  pub log_is : book.log ≡ log
  pub going : IsFalse book.stopped

-- the entry has a fault over the log, or a certificate is for the log with it
abbrev pub IsRefusedBy : MemoryModel → List Entry → Entry → Type 0
IsRefusedBy model log x =
    (fault_of log x ≡ None → ⊥) ⊎ ((c : Certificate) × Certifies model (events (log ++ x ∷ [])) c)

-- the run's window is one of the window that it had, where a cut of that may forget, and waits so long for
-- SCs
pub record IsCutBy (patience : ℕ) (old new : Endless) : Type 0 where
  pub cut : List ℕ
  pub is_cut : IsCutOf old.book.model (events old.book.log) old.active.items patience cut
  pub window_is : new.book.log ≡ window (first_of cut) old.book.log
