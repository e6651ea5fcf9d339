-- The names that the proofs of this crate share.
pub use Rattle.rv_chunk.specs.Chunks.{is_chunk_text}
pub use Rattle.rv_event.specs.declared.no_memory.NoMemory.{NoMemory}
pub use Rattle.rv_slotcore.specs.CoreIs.{IsWhole, Went, act_of, answer_of, core_of, idle_seat, names_slot_below}
pub use Rattle.rv_slotcore.specs.CoreIs.{record_of, seat_of, slot_of, slot_read, state_of, step_of}
pub use Rattle.rv_slotcore.specs.Machine.{Claim, Core, Done, Filling, Free, Get, Idle, Moved, Pin, Pinned, Pins}
pub use Rattle.rv_slotcore.specs.Machine.{Publish, Published, Put, Seat, SeatState, Slot, Stored, Stray, Strays}
pub use Rattle.rv_slotcore.specs.Machine.{Unfit, Unpin, Unpinned, after, all_put, answer, answers, blank_slot}
pub use Rattle.rv_slotcore.specs.Machine.{claimed_slot, claims, done_slot, finishes, flag, freed_slot, frees}
pub use Rattle.rv_slotcore.specs.Machine.{frees_if, full_slot, gets, if_fits, in_state, is_free_word, lets_go, moves}
pub use Rattle.rv_slotcore.specs.Machine.{no_words, pin_bits, pinned_slot, pins_as, pins_on, publishes, publishes_if}
pub use Rattle.rv_slotcore.specs.Machine.{put_at, put_words, puts, recorded, run, start, unpins, with_both, with_seat}
pub use Rattle.rv_slotcore.specs.Machine.{with_slot, word_of, written_slot}
pub use Rattle.rv_slotcore.specs.Places.{claimed_bit, done_bit, full_bit, generation_bit, last_generation}
pub use Rattle.rv_slotcore.specs.Places.{seats_at_most}
pub use Rattle.rv_slotcore.specs.Safe.{Agreeing, Dated, Protected}
pub use Rattle.rv_slotcore.specs.Word.{Reads}
pub use Rattle.rv_slotcore.specs.declared.parts.Parts.{Parts}
pub use Rattle.rv_slotcore.specs.declared.parts.SeatEntry.{SeatEntry}
pub use Rattle.rv_slotcore.specs.declared.parts.SlotState.{SlotState}
pub use Rattle.rv_slotcore.specs.declared.step.Answer.{Answer}
pub use Rattle.std.proofs.Common.{Bool, Contains, List, None, Option, Some, [], ap, arith, bit_and, bit_or, eq-eqb}
pub use Rattle.std.proofs.Common.{eqb-true, false, get_or, length, length-set, ltb-true, map, nat_lt, ne_eqb, not}
pub use Rattle.std.proofs.Common.{pow-suc, refl, replicate, rules, set, shr-shr, subst, suc, sym, take, true}
pub use Rattle.std.proofs.Common.{true≢false, w64, zero, zero-mul, ℕ, ⊎_elim, ◌%◌, ◌&&◌, ◌*◌, ◌++◌, ◌+◌, ◌-◌, ◌/◌}
pub use Rattle.std.proofs.Common.{◌<◌, ◌==◌, ◌^◌, ◌∙◌, ◌∷◌, ◌≡◌, ◌≢◌, ◌≤◌, ◌⊎◌}
pub use Rattle.std.proofs.Math.Nat.{div-eq_of_lt}
pub use Rattle.std.proofs.lemmas.Bool.{cases_Bool, cases_eq, cases_lt}
pub use Rattle.std.proofs.lemmas.Grind.{common_steps}
pub use Rattle.std.proofs.lemmas.List.{get_or-map, get_or-set_other, get_or-set_same, length-map, length-replicate}
pub use Rattle.std.proofs.lemmas.List.{map-append, reverse-append, take_all, take_more}
pub use Rattle.std.proofs.lemmas.Nat.{and_le_l, or_shr, pow_below, pow_pos, shr_high}
pub use Rattle.std.proofs.lemmas.Nat.Bits.{and_pow, bit_at-lt, bit_at-pow_other, bit_at-pow_same, bit_at-zero}
pub use Rattle.std.proofs.lemmas.Nat.Bits.{bit_at_above, bit_at_cat_high, bit_at_cat_low, bit_at_clear_other}
pub use Rattle.std.proofs.lemmas.Nat.Bits.{bit_at_clear_same, bit_at_or, same_from_bits}
pub use Rattle.std.specs.Int.{bit_at, bit_not}
pub use Rattle.std.specs.Int.Bits.{or_zero_r}
pub use Rattle.std.specs.List.{list_all}
pub use Rattle.std.specs.Prelude.{Err, IfOk, Ok, OnErr, Result, is_some, nat_eq, reverse, slice_set, unwrap_or}
pub use Rattle.std.specs.Vec.{with_item}
pub use mathlib.Core.Logic.{dite}
