-- What a slot holds.
use Rattle.std.specs.Prelude.{◌≡◌}
use Rattle.std.specs.declared.option.Option.{Option}
use Rattle.std.specs.declared.option.Option.TheVariants.{Some, None}
use Rattle.rv_chunk.specs.Packing.{Content}
use Rattle.rv_slots.specs.Carried.{text_of}

-- the slot has a chunk, of the same words as this one
abbrev pub HasChunk : Option Content → Content → Type 0
HasChunk None c = ⊥
HasChunk (Some d) c = text_of d ≡ text_of c
