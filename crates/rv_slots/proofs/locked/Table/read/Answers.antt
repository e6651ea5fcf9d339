use Rattle.std.specs.Prelude.{ℕ, ◌≡◌, ◌<◌, List, length, Option, Some, None, IfSome, IsSome, false, slice_index_or}
use Rattle.std.proofs.Common.{refl, arith}
use Rattle.rv_chunk.specs.Packing.{Content}
use Rattle.rv_slots.specs.Held.{HasChunk}
use Rattle.rv_slots.specs.SlotLists.{IsChunkOf}
use Rattle.rv_slots.specs.declared.slot.Slot.{Slot}
use Rattle.rv_slots.proofs.locked.Table.read.Goals as goal

chunk_of : (slots : List Slot) (index : ℕ) (s : Slot) (r : Option Content) → index < length slots →
    s ≡ slice_index_or slots index s → IfSome r (HasChunk s.chunk) → (IsSome r → s.done ≡ false) →
    IfSome r (IsChunkOf slots index)
chunk_of slots index s None low at has open_is = tt
chunk_of slots index s (Some c) low at has open_is = (s, low, at, has, open_is refl)

pub returns-clause-chunk : goal.returns-clause-chunk
returns-clause-chunk c =
    let low : c.args.index < length c.args.self.now.slots.items =
    omega (arith, c.in_ok-get_mut.ensures.variant.0 refl, c.args.self.now.slots.ok.0) in
    chunk_of c.args.self.now.slots.items c.args.index c.in_ok-get_mut.field-0.now c.read.result
    low c.in_ok-get_mut.ensures.value c.read.ensures.chunk c.read.ensures.«open»
