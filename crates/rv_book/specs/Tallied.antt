-- What is counted of a log as it grows.
use Rattle.std.specs.Prelude.{ℕ, ◌<◌, ◌≡◌, ◌==◌, List, Option, Some, None, count_by, slice_index_or, Contains}
use Rattle.rv_event.specs.declared.event.Entry.{Entry}

-- the source of each hart's entries, where the log has one of the hart, and the number of each
-- source's entries
pub record IsTallied (log : List Entry) (sources : List (Option ℕ)) (counts : List ℕ) : Type 0 where
  pub from : (x : Entry) → Contains log x → slice_index_or sources x.event.id.hart None ≡ Some x.source
  pub seen :
      (hart source : ℕ) → slice_index_or sources hart None ≡ Some source →
      (x : Entry) × Contains log x × (x.event.id.hart ≡ hart) × (x.source ≡ source)
  pub counted : (source : ℕ) → source < 256 → slice_index_or counts source 0 ≡ count_by (λ x. source == x.source) log
