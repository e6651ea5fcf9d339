-- How many memory operations words had, and harts on words, as pairs are counted.
use Rattle.std.specs.Prelude.{ℕ, Bool, ◌&&◌, ◌==◌, ◌≡◌, List, count_by, nat_eq}
use Rattle.std.specs.HashMap.{get}
use Rattle.std.specs.Option.{unwrap_or}
use Rattle.rv_event.specs.Operations.{is_memory}
use Rattle.rv_event.specs.declared.event.Event.{Event}
use Rattle.rv_coverage.specs.declared.sharing.HartCounts.{HartCounts}
use Rattle.rv_coverage.specs.declared.sharing.WordCounts.{WordCounts}

-- a memory operation on the word, and one of the hart
abbrev pub is_on : ℕ → Event → Bool
is_on word e = is_memory e.op && (e.word == word)

abbrev pub is_on_by : ℕ → ℕ → Event → Bool
is_on_by word hart e = is_on word e && (e.id.hart == hart)

-- the same word and the same hart
abbrev pub same_place : ℕ × ℕ → ℕ × ℕ → Bool
same_place x y = (x.0 == y.0) && (x.1 == y.1)

abbrev pub times_on : WordCounts → ℕ → ℕ
times_on words word = unwrap_or (get nat_eq words.counts word) 0

abbrev pub times_by : HartCounts → ℕ → ℕ → ℕ
times_by harts word hart = unwrap_or (get same_place harts.counts (word, hart)) 0

-- the counts are those of these events
abbrev pub AreMetOnWord : List Event → WordCounts → Type 0
AreMetOnWord log words = (word : ℕ) → times_on words word ≡ count_by (is_on word) log

abbrev pub AreMetByHart : List Event → HartCounts → Type 0
AreMetByHart log harts = (word hart : ℕ) → times_by harts word hart ≡ count_by (is_on_by word hart) log
