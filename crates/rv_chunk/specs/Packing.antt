-- What packing answers.
use Rattle.std.specs.Prelude.{ℕ, ◌≡◌, ◌⊎◌, ◌<◌, ◌≤◌, List, [], length, All, Result, Ok, Err}
use Rattle.rv_event.specs.declared.event.Event.{Event}
use Rattle.rv_chunk.specs.declared.pack_fault.PackFault.{PackFault}
use Rattle.rv_chunk.specs.declared.pack_fault.PackFault.TheVariants.{Empty, TooMany, Range}
use Rattle.rv_chunk.specs.Chunks.{IsPackable, source_of, number_of, events_of}

-- what a chunk carries
pub record Content : Type 0 where
  pub source : ℕ
  pub number : ℕ
  pub events : List Event

abbrev pub content_of : List ℕ → Content
content_of ws = record { source = source_of ws; number = number_of ws; events = events_of ws }

-- the first refusal that holds, exactly where it holds
abbrev pub IsPacked : List Event → ℕ → ℕ → Result Content PackFault → Type 0
IsPacked events source number (Ok c) =
    (1 ≤ length events) × (length events ≤ 8) × (source < 8) × All IsPackable events
    × (c ≡ record { source = source; number = number; events = events })
IsPacked events source number (Err Empty) = events ≡ []
IsPacked events source number (Err TooMany) = 8 < length events
IsPacked events source number (Err Range) =
    (1 ≤ length events) × (length events ≤ 8) × ((8 ≤ source) ⊎ ¬ (All IsPackable events))
