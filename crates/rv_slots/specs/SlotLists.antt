-- What the slots under a lock hold.
use Rattle.std.specs.Prelude.{ℕ, ◌≡◌, ◌<◌, ◌⊎◌, List, length, false, true, IsNone, IsSome, slice_index_or, slice_set}
use Rattle.rv_chunk.specs.Packing.{Content}
use Rattle.rv_slots.specs.Held.{HasChunk}
use Rattle.rv_slots.specs.declared.slot.Slot.{Slot}

-- the slot with this index has the chunk's words, and is not done
abbrev pub IsChunkOf : List Slot → ℕ → Content → Type 0
IsChunkOf slots index chunk =
    (s : Slot) × (index < length slots) × (s ≡ slice_index_or slots index s) × HasChunk s.chunk chunk × (s.done ≡ false)

-- the slot is free, done, or has as many readers as it can count
abbrev pub IsShut : Slot → Type 0
IsShut s = IsNone s.chunk ⊎ (s.done ≡ true) ⊎ (s.readers ≡ 255)

-- so is the slot with this index, if there is one
abbrev pub IsShutAt : List Slot → ℕ → Type 0
IsShutAt slots index = (s : Slot) → index < length slots → IsShut (slice_index_or slots index s)

-- the first so many slots are full
abbrev pub AreFull : List Slot → ℕ → Type 0
AreFull slots count = (k : ℕ) (s : Slot) → k < count → k < length slots → IsSome (slice_index_or slots k s).chunk

-- the first slot that is free has the chunk's words now, and all others are as they were
pub record IsPutFirst (old : List Slot) (chunk : Content) (new : List Slot) : Type 0 where
  pub index : ℕ
  pub slot : Slot
  pub within : index < length old
  pub full : AreFull old index
  pub free : (s : Slot) → IsNone (slice_index_or old index s).chunk
  pub filled : HasChunk slot.chunk chunk
  pub undone : slot.done ≡ false
  pub only : new ≡ slice_set old index slot
