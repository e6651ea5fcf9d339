-- Chunks of a list, offered in whatever order, give the log the beginning of that list.
use Rattle.rv_book.proofs.Common.{common_steps, rules, ◌≡◌, ℕ, Bool, ◌≤◌, ◌+◌, ◌-◌, cond, List, [], ◌∷◌, ◌++◌}
use Rattle.rv_book.proofs.Common.{length, take, drop, sym, ap, ◌∙◌, subst, arith, refl, eq-eqb, append_assoc}
use Rattle.rv_book.proofs.Common.{take-append-drop, drop-append_seam, drop-append-add, drop-append-le, events}
use Rattle.rv_book.proofs.Common.{from_source, Content, Event, Entry, Booked, given_by, count_of_source}
use Rattle.rv_book.proofs.Common.{entries_of, HasTaken, IsTurn, first_of, rest_of, IsPrefix, IsChunkOf, IsApplied}
use Rattle.rv_book.proofs.Common.{IsContinued, IsChunkOffered, ChunkOffer, Applied, NotYet, Already, Halted}
use Rattle.rv_book.proofs.Common.{Stopped, NoMemory}

-- what the entries made of a source's events give
pub given-entries : (source : ℕ) (es : List Event) → given_by source (entries_of source es) ≡ es
given-entries source [] = refl
given-entries source (e ∷ es) =
    ap (λ (b : Bool). events (cond b (record { source = source; event = e } ∷ from_source source (entries_of source es))
    (from_source source (entries_of source es)))) (eq-eqb source source refl)
    ∙ ap (λ (l : List Event). e ∷ l) (given-entries source es)

given-append : (source : ℕ) (log more : List Entry) → given_by source (log ++ more) ≡ given_by source log ++
    given_by source more
given-append source log more = grind (arith, common_steps)

-- the log has all that it had of the source, and the first of the rest
taken-given :
    (old new : Booked) (source : ℕ) (es : List Event) (n : ℕ) → HasTaken old new source es n →
    given_by source new.log ≡ given_by source old.log ++ take n es
taken-given old new source es n taken = search (given-append, given-entries, rules)

-- what follows the given events is the rest of the chunk and what comes after it
rest-follows :
    (given before chunk after rest all : List Event) (first : ℕ) → length before ≡ first → all ≡ before ++ chunk ++
    after → all ≡ given ++ rest →
    first ≤ length given → length given ≤ first + length chunk → rest ≡ drop (length given - first) chunk ++ after
rest-follows given before chunk after rest all first long split whole low high =
    sym (drop-append_seam given rest)
    ∙ ap (λ (l : List Event). drop (length given) l) (sym whole ∙ split)
    ∙ ap (λ (l : List Event). drop (length given) l) (append_assoc before chunk after)
    ∙ ap (λ (n : ℕ). drop n (before ++ (chunk ++ after))) (omega (arith, long, low))
    ∙ drop-append-add before (chunk ++ after) (length given - first)
    ∙ drop-append-le (length given - first) chunk after (omega (arith, high))

prefix-grows :
    (given rest chunk_rest after all : List Event) (n : ℕ) → all ≡ given ++ rest → rest ≡ chunk_rest ++ after →
    IsPrefix (given ++ take n chunk_rest) all
prefix-grows given rest chunk_rest after all n whole split = (
  drop n chunk_rest ++ after,
  whole ∙ ap (λ (l : List Event). given ++ l)
      (split ∙ ap (λ (l : List Event). l ++ after) (sym (take-append-drop n chunk_rest)) ∙
      append_assoc (take n chunk_rest) (drop n chunk_rest) after)
      ∙ sym (append_assoc given (take n chunk_rest) (drop n chunk_rest ++ after)),
)

module _ (old new : Booked) (chunk : Content) (all : List Event) (of : IsChunkOf chunk all)
    (begun : IsPrefix (given_by chunk.source old.log) all) where
  abbrev count : ℕ
  count = count_of_source old.log chunk.source

  grows : (answer : ChunkOffer) (n : ℕ) → IsTurn count chunk → n ≤ length (rest_of count chunk) →
      HasTaken old new chunk.source (rest_of count chunk) n → IsApplied answer n →
      IsContinued old new chunk all answer
  grows answer n turn within taken applied =
      let given = given_by chunk.source old.log in
      let now = taken-given old new chunk.source (rest_of count chunk) n taken in
      let rest = rest-follows given of.0 chunk.events of.1 begun.0 all (first_of chunk) of.2 of.3 begun.1 turn.0
      (omega (arith, turn.1)) in
      record {
        prefix = subst (λ (l : List Event). IsPrefix l all) (sym now)
            (prefix-grows given begun.0 (rest_of count chunk) of.1 all n begun.1 rest);
        more = n;
        longer = grind (arith, common_steps);
        applied = applied;
      }

  stays : (answer : ChunkOffer) → new ≡ old → IsApplied answer 0 → IsContinued old new chunk all answer
  stays answer same applied = grind (arith, common_steps)

  -- a chunk of a list leaves the log with a beginning of that list
  pub continues : (answer : ChunkOffer) → IsChunkOffered old new chunk answer → IsContinued old new chunk all answer
  continues (Applied n) told =
      grows (Applied n) n told.turn (omega (arith, told.applied.1)) told.applied.2 refl
  continues (Halted v) told =
      grows (Halted v) told.halted.1.0 told.turn (omega (arith, told.halted.1.2.within)) told.halted.1.2.taken tt
  continues NoMemory told =
      grows NoMemory told.no_memory.1.0 told.turn (omega (arith, told.no_memory.1.2.within))
      told.no_memory.1.2.taken tt
  continues (NotYet c) told = stays (NotYet c) told.passed refl
  continues Already told = stays Already told.passed refl
  continues Stopped told = stays Stopped told.passed refl
