-- What the threads of a run have given.
use Rattle.std.specs.Prelude.{◌≡◌, ◌<◌, ℕ, List, Option, length, slice_index_or, option_map}
use Rattle.rv_trace.specs.Source.{bytes_say}
use Rattle.rv_trace.specs.declared.dialect.Dialect.{Dialect}
use Rattle.rv_run.specs.Feeds.{IsFedOf}
use Rattle.rv_run.specs.declared.feeding.Fed.{Fed}
use Rattle.rv_run.specs.declared.serving.Served.{Served}

-- one answer of a feeder for each reader, true of it in the dialect
abbrev pub AreFedOf : {R : Type 0} → Dialect → (R → Option (List ℕ)) → List R → List Fed → Type 0
AreFedOf {R} d remaining readers fed =
    (length fed ≡ length readers)
    × ((i : ℕ) (r : R) (f : Fed) → i < length readers
    → IsFedOf (option_map (bytes_say d) (remaining (slice_index_or readers i r))) (slice_index_or fed i f))

-- so many answers of workers, whose seats are of one carrier and whose notes are of one cell
abbrev pub AreServed : {S : Type 0} → (S → Type 0) → ℕ → ℕ → List (Served S) → Type 0
AreServed {S} fits cell workers served =
    (length served ≡ workers)
    × ((i : ℕ) (s : Served S) → i < workers
    → fits (slice_index_or served i s).seat × ((slice_index_or served i s).note.cell ≡ cell))
