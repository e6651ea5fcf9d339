-- A book that has taken the first of some events.
use Rattle.rv_book.proofs.Common.{rules, ◌≡◌, ℕ, ◌<◌, ◌-◌, List, [], ◌∷◌, ◌++◌, length, sym, arith, refl}
use Rattle.rv_book.proofs.Common.{take-append_seam, take-append-add, ◌==◌, count_by, length-filter, length-map}
use Rattle.rv_book.proofs.Common.{append-nil, length-append, length-drop, Event, Entry, Booked, Content}
use Rattle.rv_book.proofs.Common.{count_of_source, entries_of, StopsAt, IsTurn, rest_of, first_of}

-- a book with the events of the first list, where the second is still to come
pub record IsWithin (old new : Booked) (source : ℕ) (done rest events : List Event) (left : ℕ) : Type 0 where
  pub model : new.model ≡ old.model
  pub log : new.log ≡ old.log ++ entries_of source done
  pub split : done ++ rest ≡ events
  pub left_is : left ≡ length rest

-- the next event was not taken
pub within-stops :
    (old mid new : Booked) (source : ℕ) (done rest more events : List Event) (e : Event) (left : ℕ) →
    IsWithin old mid source done rest events left → rest ≡ e ∷ more → new.model ≡ mid.model → new.log ≡ mid.log →
    StopsAt old new source events (length done) e
within-stops old mid new source done rest more events e left w front model log =
    search (take-append_seam, take-append-add, length-append, rules)

-- nothing was taken yet, and something is to come
pub stops-first : (old : Booked) (source : ℕ) (events : List Event) → 0 < length events →
    (count : ℕ) × (next : Event) × StopsAt old old source events count next
stops-first old source [] low = absurd (omega (arith, low))
stops-first old source (e ∷ rest) low = (
  0,
  e,
  record {
    taken = record { model = refl; log = sym (append-nil old.log) };
    within = low;
    follows = refl;
  },
)

-- how long the rest of a chunk is in its turn
pub turn-rest : (count : ℕ) (chunk : Content) → IsTurn count chunk → 0 < length (rest_of count chunk)
turn-rest count chunk turn = omega (arith, turn.0, turn.1, length-drop (count - first_of chunk) chunk.events)

-- how many entries of the log pass the test for a source is how many events the source has given
pub counted :
    (n source : ℕ) (log : List Entry) → n ≡ count_by (λ x. source == x.source) log → n ≡ count_of_source log source
counted n source log is = search (length-map, length-filter, rules)
