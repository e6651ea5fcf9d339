-- When nothing is left to be offered.
use Rattle.std.specs.Prelude.{ℕ, ◌≡◌, ◌<◌, ◌≤◌, ◌⊎◌, MatchOption, None, slice_index_or, true}
use Rattle.rv_book.specs.Chunked.{count_of_source}
use Rattle.rv_run.specs.declared.desk.Desk.{Desk}

-- the source has ended, and its events are in the book
abbrev pub IsComplete : Desk → ℕ → Type 0
IsComplete d source =
    MatchOption (slice_index_or d.totals source None) ⊥ (λ total. total ≤ count_of_source d.book.log source)

abbrev pub AreComplete : Desk → Type 0
AreComplete d = (source : ℕ) → source < 8 → IsComplete d source

-- the book has stopped, a source ended without a total or an offer found no memory, or every source
-- is complete
abbrev pub IsOver : Desk → Type 0
IsOver d = (d.failed ≡ true) ⊎ (d.book.stopped ≡ true) ⊎ AreComplete d
