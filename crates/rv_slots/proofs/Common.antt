-- The names that the proofs of this crate share.
pub use Rattle.atomic_table.proofs.Lists.{at_last, at_longer, at_set, exchanged, set_again, set_else, set_here}
pub use Rattle.atomic_table.specs.Seated.{TableId}
pub use Rattle.atomic_table.specs.Table.{Allows, Joins, Me, Splits, State, keeps, opening, step, stepped}
pub use Rattle.rv_chunk.specs.Chunks.{is_chunk_text}
pub use Rattle.rv_slotcore.proofs.CoreWords.{cleared, cleared_else, cleared_here, cleared_high, or_else, or_here}
pub use Rattle.rv_slotcore.proofs.CoreWords.{or_high}
pub use Rattle.rv_slotcore.proofs.Invariant.{Safe, none_put, on, whole_is}
pub use Rattle.rv_slotcore.proofs.Run.{run_keeps, safe_means, start_safe}
pub use Rattle.rv_slotcore.proofs.Updates.{put_cases, put_else, put_here, run-append}
pub use Rattle.rv_slotcore.proofs.Words.{flag_none, flag_one, one_word, word_reads}
pub use Rattle.rv_slotcore.specs.Machine.{Claim, Core, Moved, Slot, Step, after, all_put, claimed_slot, claims}
pub use Rattle.rv_slotcore.specs.Machine.{done_slot, flag, freed_slot, full_slot, if_fits, in_state, moves}
pub use Rattle.rv_slotcore.specs.Machine.{no_words, pinned_slot, put_at, put_words, start, with_both, with_slot}
pub use Rattle.rv_slotcore.specs.Machine.{written_slot}
pub use Rattle.rv_slotcore.specs.Places.{claimed_bit, done_bit, full_bit, generation_bit, last_generation, last_seat}
pub use Rattle.rv_slotcore.specs.Places.{seats_at_most, slot_words}
pub use Rattle.rv_slotcore.specs.Word.{Reads}
pub use Rattle.rv_slots.specs.Calls.{IsFree, IsSamePinned, IsUnpin, filling_view, pinned_view, stray_view, view_of}
pub use Rattle.rv_slots.specs.Carried.{AreBusy, IsDone, IsLetGo, IsSameBook}
pub use Rattle.rv_slots.specs.Knows.{IsAlone, IsFilling, IsIdle, IsPinned, IsStray, pin_record, pinned_at}
pub use Rattle.rv_slots.specs.Lines.{IsNewest, IsText, Meet, ToldFor, claim_state, claim_told, claimed, cut_left}
pub use Rattle.rv_slots.specs.Lines.{cut_right, done_told, finished, free_told, freed, fresh, fresh_seats, get_told}
pub use Rattle.rv_slots.specs.Lines.{got, joined, known, meet_told, only, pin_records, pin_state, pin_told}
pub use Rattle.rv_slots.specs.Lines.{pin_words, pinned, publish_told, published, put_in, put_line, put_told, spent}
pub use Rattle.rv_slots.specs.Lines.{the_view, unpin_told, unpinned}
pub use Rattle.rv_slots.specs.Opening.{AreSeats}
pub use Rattle.rv_slots.specs.Rule.{AreWhole, At, Fits, HasMark, IsMarked, IsReached, IsSeated, IsTable, Kept, Marked}
pub use Rattle.rv_slots.specs.Rule.{RecordFits, RecordsFit, Whole, WordsFit, opening_view, shown}
pub use Rattle.rv_slots.specs.Says.{IsOn, RuleSays, Says, Stands}
pub use Rattle.rv_slots.specs.Steps.{ClaimIsStep, DoneIsStep, FreeIsStep, GetIsStep, PinIsStep, PublishIsStep}
pub use Rattle.rv_slots.specs.Steps.{PutIsStep, Refines, UnpinIsStep, UnpinStrayIsStep, of_seat}
pub use Rattle.rv_slots.specs.declared.seats.Free.{Free}
pub use Rattle.rv_slots.specs.declared.views.Mark.{Mark}
pub use Rattle.rv_slots.specs.declared.views.Record.{Record}
pub use Rattle.rv_slots.specs.declared.views.SeatState.TheVariants.{Filling, Idle, Stray}
pub use Rattle.rv_slots.specs.declared.views.SeatView.{SeatView}
pub use Rattle.rv_slots.specs.declared.views.View.{View}
pub use Rattle.std.proofs.Common.{Bool, Contains, List, None, Option, Some, [], ap, arith, bit_and, bit_or, drop}
pub use Rattle.std.proofs.Common.{eq-eqb, eqb, eqb-true, false, get_or, get_or-set_other, if◌then◌else◌, inl, inr}
pub use Rattle.std.proofs.Common.{length, length-append, length-set, lt-ltb, nat_lt, ne_eqb, not, pred, refl}
pub use Rattle.std.proofs.Common.{replicate, rules, set, slice_index_or, subst, suc, sym, true, true≢false, zero, ℕ}
pub use Rattle.std.proofs.Common.{⊎_elim, ◌&&◌, ◌*◌, ◌++◌, ◌+◌, ◌-◌, ◌/◌, ◌<◌, ◌==◌, ◌^◌, ◌∙◌, ◌∷◌, ◌≡◌, ◌≢◌, ◌≤◌}
pub use Rattle.std.proofs.Common.{◌⊎◌}
pub use Rattle.std.proofs.lemmas.Bool.{cases_Bool, cases_eq, cases_lt}
pub use Rattle.std.proofs.lemmas.Grind.{common_steps, get_or-set_at}
pub use Rattle.std.proofs.lemmas.List.{set-get_or}
pub use Rattle.std.proofs.lemmas.Nat.Bits.{and_pow, bit_at-lt, bit_at-zero, bit_at_cat_low}
pub use Rattle.std.specs.Int.{bit_at, bit_not, w64}
pub use Rattle.std.specs.List.{range_with_len}
pub use lib.ListN.{get_elem?}
pub use mathlib.Core.Logic.{dite}
pub use mathlib.Core.Option.{none, some, some-injective, some-ne-none}
pub use native.Mathlib.Decide.{ℕ_discrete}
pub use prog.Atomic.{either}
