-- What a fault leaves of a text that was to be written.
use Rattle.std.specs.Prelude.{ℕ, ◌<◌, List, length, take, Option}
use Rattle.std.specs.Io.KnownBytes.{Appends}

-- what a writer holds grew by a part of the text, from its first byte on, that is not the whole
pub record IsCutShort (old new : Option (List ℕ)) (text : List ℕ) : Type 0 where
  pub count : ℕ
  pub short : count < length text
  pub part : Appends old new (take count text)
