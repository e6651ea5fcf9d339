-- Merges: logs that hold the same entries of each source in their order. These are this project's
-- own.
use Rattle.std.specs.Prelude.{ℕ, ◌==◌, ◌≡◌, List, filter}
use Rattle.rv_event.specs.declared.event.Entry.{Entry}

-- the entries of a source, in order
abbrev pub from_source : ℕ → List Entry → List Entry
from_source source log = filter (λ x. source == x.source) log

-- the two logs are merges of the same sources
abbrev pub SameSources : List Entry → List Entry → Type 0
SameSources one other = (source : ℕ) → from_source source one ≡ from_source source other
