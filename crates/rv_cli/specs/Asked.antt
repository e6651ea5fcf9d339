-- What a request says of the matches of its words.
use Rattle.std.specs.Prelude.{◌<◌, ◌⊎◌, IsSome, IsTrue}
use Rattle.std.specs.Prelude.{◌≡◌, ◌≤◌, ℕ, Bool, false, List, [], Option, Some, None, codes, map, option_map, unwrap_or}
use Rattle.std.specs.Prelude.{bytes_eq, length, string_bytes}
use Rattle.std.specs.Str.Parse.{digits_value, without_leading_plus}
use Rattle.clap.specs.Words.{Row, Text, all_of, first_of, one_of}
use Rattle.rv_event.specs.declared.memory_model.MemoryModel.{MemoryModel}
use Rattle.rv_event.specs.declared.memory_model.MemoryModel.TheVariants.{Rvwmo, Ztso}
use Rattle.rv_cli.specs.declared.request.Asked.{Asked}

-- the number that a text says in decimal, where there is a text
abbrev pub SaysNumber : Option Text → ℕ → Type 0
SaysNumber None n = ⊥
SaysNumber (Some text) n = n ≡ digits_value 10 (without_leading_plus text)

-- the model that a text names, where there is a text
abbrev pub SaysModel : Option Text → MemoryModel → Type 0
SaysModel None model = ⊥
SaysModel (Some text) Rvwmo = text ≡ codes "rvwmo"
SaysModel (Some text) Ztso = text ≡ codes "tso"

abbrev pub is_true : Option Text → Bool
is_true None = false
is_true (Some text) = bytes_eq text (codes "true")

abbrev pub files_in : List Row → List Text
files_in rows = unwrap_or (all_of (codes "FILE") rows) []

-- each field is the value that the matches have
pub record SaysAsked (rows : List Row) (asked : Asked) : Type 0 where
  pub workers : SaysNumber (one_of (codes "workers") rows) asked.workers
  pub slots : SaysNumber (one_of (codes "slots") rows) asked.slots
  pub model : SaysModel (first_of (codes "model") rows) asked.model
  pub json : asked.json ≡ is_true (first_of (codes "json") rows)
  pub carriers : asked.carriers ≡ is_true (first_of (codes "carriers") rows)
  pub explain : asked.explain ≡ is_true (first_of (codes "explain") rows)
  pub svg : asked.svg ≡ is_true (first_of (codes "svg") rows)
  pub coverage : asked.coverage ≡ is_true (first_of (codes "coverage") rows)
  pub complete : asked.complete ≡ is_true (first_of (codes "complete") rows)
  pub strength : asked.strength ≡ is_true (first_of (codes "strength") rows)
  pub where_file : option_map string_bytes asked.where_file ≡ first_of (codes "where") rows
  pub list_file : option_map string_bytes asked.list_file ≡ first_of (codes "list") rows
  pub files : map string_bytes asked.files.items ≡ files_in rows

-- the numbers are in the ranges of the command, and there are few enough files
pub record AreInRange (asked : Asked) : Type 0 where
  pub workers : (1 ≤ asked.workers) × (asked.workers ≤ 24)
  pub slots : (2 ≤ asked.slots) × (asked.slots ≤ 16)
  pub files : length asked.files.items ≤ 8

-- a file is named, or what is told of one trace alone is asked for
abbrev pub IsForOneTrace : Asked → Type 0
IsForOneTrace asked =
    (0 < length asked.files.items) ⊎ (IsTrue asked.explain ⊎ (IsTrue asked.svg ⊎ IsSome asked.where_file))

-- that, and a list stands alone
pub record IsInRange (asked : Asked) : Type 0 where
  pub numbers : AreInRange asked
  pub alone : IsSome asked.list_file → IsForOneTrace asked → ⊥
