-- The names that the proofs of this crate share.
pub use Rattle.rv_rank.specs.Found.{AreSlots, IsFound, IsSameGraph, found_ahead, found_behind, is_ahead_in}
pub use Rattle.rv_rank.specs.Found.{is_behind_in, is_traced, slot_in}
pub use Rattle.rv_rank.specs.Graph.{Edge, IsCircle, IsGrown, IsOrder, IsTrail, Reaches, here, step}
pub use Rattle.rv_rank.specs.Local.{IsLocal}
pub use Rattle.rv_rank.specs.Mended.{IsMended, count_below, members_of}
pub use Rattle.rv_rank.specs.Order.{IsInverse}
pub use Rattle.rv_rank.specs.Ordering.{Ordering}
pub use Rattle.rv_rank.specs.Placing.{IsAffected, IsAhead, IsFreed, IsMover, IsRefusedRound, ListsOnce, OnlyAffected}
pub use Rattle.rv_rank.specs.Placing.{moved_of}
pub use Rattle.rv_rank.specs.Plan.{IsPlan, IsRoster, members_in}
pub use Rattle.rv_rank.specs.Ranking.{Ranking}
pub use Rattle.rv_rank.specs.Rows.{EndsIn, HasRoom, IsAppended, KeepsRoom, Neighbours, degree, incoming_of, other}
pub use Rattle.rv_rank.specs.Rows.{outgoing_of, rooms_of, row_of, rows_of}
pub use Rattle.rv_rank.specs.Sets.{AreAdded, AreBelow, AreRanks, HasRoomFor, IsJoined, IsSearched, IsTraced, OnlyAhead}
pub use Rattle.rv_rank.specs.Sets.{IsLowest, has_slot}
pub use Rattle.rv_rank.specs.Walking.{IsMirror}
pub use Rattle.rv_rank.specs.declared.node.Side.{Side}
pub use Rattle.rv_rank.specs.declared.node.Side.TheVariants.{Incoming, Outgoing}
pub use Rattle.rv_rank.specs.declared.ranks.Refused.{Refused}
pub use Rattle.rv_rank.specs.declared.ranks.Refused.TheVariants.{Circle, NoMemory}
pub use Rattle.rv_rank.specs.declared.search.Found.{Found}
pub use Rattle.rv_rows.specs.Bits.{Has, has_bit}
pub use Rattle.std.proofs.Common.{Bool, List, [], ap, arith, cond, drop, eqb, false, get_or, inl, inr, length}
pub use Rattle.std.proofs.Common.{length-append, length-drop, map, not, refl, reverse, rules, set, subst, suc, sym}
pub use Rattle.std.proofs.Common.{take, true, zero, ℕ, ◌%◌, ◌&&◌, ◌++◌, ◌+◌, ◌-◌, ◌<◌, ◌^◌, ◌||◌, ◌∙◌, ◌∷◌, ◌≡◌, ◌≢◌}
pub use Rattle.std.proofs.Common.{◌≤◌}
pub use Rattle.std.proofs.Common.{◌⊎◌}
pub use Rattle.std.proofs.Math.Seq.{drop-cons}
pub use Rattle.std.proofs.lemmas.Bool.{cases_Bool}
pub use Rattle.std.proofs.lemmas.Bool.{and_from, and_parts, cases_eq, cases_lt, cond-false, cond-true, eq-eqb}
pub use Rattle.std.proofs.lemmas.Bool.{false≢true, le-ltb, lt-ltb}
pub use Rattle.std.proofs.lemmas.Bool.{ne_eqb}
pub use Rattle.std.proofs.lemmas.Grind.{common_steps}
pub use Rattle.std.proofs.lemmas.List.{get_or-append_right, get_or-drop, get_or-map, get_or-reverse, get_or-set_other}
pub use Rattle.std.proofs.lemmas.List.{get_or-set_same, get_or-take, get_or_append_left, get_or_at, get_or_default}
pub use Rattle.std.proofs.lemmas.List.{get_or_past, get_or_push, get_or_read, length-map, length-reverse, length-set}
pub use Rattle.std.proofs.lemmas.List.{length-take, length_push, map-set, map_push, reverse-append, set-get_or}
pub use Rattle.std.proofs.lemmas.List.{take-append-drop, take_all, take_at, take_more}
pub use Rattle.std.proofs.lemmas.List.Edits.{get_or-remove_above, get_or-remove_below, length-remove}
pub use Rattle.std.proofs.lemmas.List.Elements.{All-contains, All-more, All-weaker, Contains-append_cases}
pub use Rattle.std.proofs.lemmas.List.Elements.{Contains-append_left, Contains-append_right, Contains-get_or}
pub use Rattle.std.proofs.lemmas.List.Elements.{Contains-push, Contains-push_cases, filter-append, filter_agree}
pub use Rattle.std.proofs.lemmas.List.Elements.{filter_more, filter_passes}
pub use Rattle.std.proofs.lemmas.List.Sorted.{Contains-permutation, IsPermutation-reverse, IsPermutation-sym}
pub use Rattle.std.proofs.lemmas.List.Sums.{count_by-le-length, count_by_more_no, count_by_more_yes, length-filter}
pub use Rattle.std.proofs.lemmas.Result.{err_from_is_err_and}
pub use Rattle.std.proofs.lemmas.Slice.Zip.{get_or-zip, length-zip}
pub use Rattle.std.specs.List.{All, Contains, count_by, filter, remove, zip}
pub use Rattle.std.specs.Prelude.{nat_lt, ◌*◌, ◌==◌}
pub use Rattle.std.proofs.Math.Bool.{or-false, or-true}
