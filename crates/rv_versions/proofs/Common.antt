-- The names that the proofs of this crate share.
pub use Rattle.rv_cover.proofs.Covering.{edge_of}
pub use Rattle.rv_cover.proofs.Indexing.{indexed_from_events}
pub use Rattle.rv_cover.specs.Carries.{IsSplit}
pub use Rattle.rv_cover.specs.Thinned.{IsNearest, IsNextHigher, IsNextLower, Names}
pub use Rattle.rv_event.proofs.Growing.{All-from_contains, Paired-grows}
pub use Rattle.rv_event.proofs.Indexed.{Indexed, Sound, indexed-push, sound_of}
pub use Rattle.rv_event.proofs.Names.{Contains-cons, Contains-here, Contains-there, writer-is}
pub use Rattle.rv_event.proofs.Pushed.{split_push}
pub use Rattle.rv_event.proofs.Settled.{grows-push}
pub use Rattle.rv_event.specs.Edges.{HasReason, IsAtomicIn, IsAtomicOut, IsCoherence, IsEdge, IsFromRead, IsReadsFrom}
pub use Rattle.rv_event.specs.Faults.{event_fault}
pub use Rattle.rv_event.specs.Log.{Between, Earlier, events, writer}
pub use Rattle.rv_event.specs.Operations.{IsLoad, IsMemory, IsStore, is_exclusive, is_memory}
pub use Rattle.rv_event.specs.Relations.{Paired}
pub use Rattle.rv_event.specs.WellFormed.{WellFormedEvents}
pub use Rattle.rv_event.specs.declared.event.Entry.{Entry}
pub use Rattle.rv_event.specs.declared.event.Event.{Event}
pub use Rattle.rv_event.specs.declared.event.Id.{Id}
pub use Rattle.rv_event.specs.declared.event.Op.TheVariants.{Sc}
pub use Rattle.rv_event.specs.declared.memory_model.MemoryModel.{MemoryModel}
pub use Rattle.rv_event.specs.declared.memory_model.MemoryModel.TheVariants.{Rvwmo}
pub use Rattle.rv_event.specs.declared.reason.Link.{Link}
pub use Rattle.rv_event.specs.declared.reason.Reason.{Reason}
pub use Rattle.rv_event.specs.declared.reason.Reason.TheVariants.{AtomicIn, AtomicOut, Coherence, FromRead, Preserved}
pub use Rattle.rv_event.specs.declared.reason.Reason.TheVariants.{ReadsFrom}
pub use Rattle.rv_versions.specs.Accesses.{AreAllOf, AreByVersion, IsFirstFrom, IsLower, IsNearestAbove}
pub use Rattle.rv_versions.specs.Accesses.{IsNearestBelow, IsOf, IsStart, StandsBefore, access, id_of}
pub use Rattle.rv_versions.specs.Indexes.{AreAbsent, AreIndexes, AreInserted, AreOfWord, ArePostingsTo, AreRemoved}
pub use Rattle.rv_versions.specs.Indexes.{AreSame, ByEach, IsIndex, IsInserted, IsPair, IsRemoved, IsReservation}
pub use Rattle.rv_versions.specs.Indexes.{IsSame, beside, load_of, own_postings, pair_of, pair_postings, postings_of}
pub use Rattle.rv_versions.specs.Indexes.{store_of}
pub use Rattle.rv_versions.specs.Linked.{AreAfter, AreBefore, AreLinked, AreTheirs, ComesAfter, ComesBefore, Covers}
pub use Rattle.rv_versions.specs.Linked.{IsAbove, IsBelow, IsExtended, held, link, returned, stored}
pub use Rattle.rv_versions.specs.Lookups.{IsForeignBelow, IsForeignLower, IsParted, IsUnparted}
pub use Rattle.rv_versions.specs.Own.{ReturnsOwn}
pub use Rattle.rv_versions.specs.Reserved.{IsPartner, IsReserved}
pub use Rattle.rv_versions.specs.VersionLinks.{IsOfVersions}
pub use Rattle.rv_versions.specs.Words.{AreInPlace, AreNumbers, AreThoseTo, StandInPlace, no_accesses, together}
pub use Rattle.rv_versions.specs.declared.accesses.Access.{Access}
pub use Rattle.rv_versions.specs.declared.accesses.Accesses.{Accesses}
pub use Rattle.rv_versions.specs.declared.accesses.Postings.{Postings}
pub use Rattle.rv_versions.specs.declared.reservation.Reservation.{Reservation}
pub use Rattle.rv_versions.specs.declared.versions.links.Interval.{Interval}
pub use Rattle.std.proofs.Common.{AllPairs, Bool, Contains, Err, HoldsAt, IsFalse, List, None, Ok, OnErr, OnOk}
pub use Rattle.std.proofs.Common.{Option, Result, Some, [], ap, arith, cond, drop, false, flat_map, get_or, inl, inr}
pub use Rattle.std.proofs.Common.{insert, le_of_suc-le-suc, length, length-append, ltb, map, nat_eq, ne_eqb}
pub use Rattle.std.proofs.Common.{option_map, refl, remove, rules, set, subst, suc, suc-le-suc, sym, take, true, zero}
pub use Rattle.std.proofs.Common.{zero-lt-suc, ℕ, ◌++◌, ◌+◌, ◌-◌, ◌<◌, ◌↔◌, ◌∙◌, ◌∷◌, ◌≡◌, ◌≢◌, ◌≤◌, ◌⊎◌}
pub use Rattle.std.proofs.lemmas.Bool.{cases_eq, cases_lt, false≢true}
pub use Rattle.std.proofs.lemmas.Grind.{common_steps}
pub use Rattle.std.proofs.lemmas.List.{get_or-drop, get_or-set_other, get_or-set_same, get_or-take, length-drop}
pub use Rattle.std.proofs.lemmas.List.{length-set, length-take, map-append, take-append-drop, take_all, take_more}
pub use Rattle.std.proofs.lemmas.List.Edits.{get_or-insert_above, get_or-insert_at, get_or-insert_below}
pub use Rattle.std.proofs.lemmas.List.Edits.{get_or-remove_above, get_or-remove_below, length-insert, length-remove}
pub use Rattle.std.proofs.lemmas.List.Elements.{All-contains, Contains-append_cases, Contains-append_left}
pub use Rattle.std.proofs.lemmas.List.Elements.{Contains-append_right, Contains-get_or, Contains-push}
pub use Rattle.std.proofs.lemmas.List.Elements.{Contains-push_cases, at_from_Contains, at_read}
pub use Rattle.std.proofs.lemmas.Option.{none-some, same_Some}
pub use Rattle.rv_rows.specs.NumberMaps.{number_of}
pub use Rattle.std.specs.List.{AllWithin}
pub use Rattle.std.specs.List.Sorted.{IsNonDecreasingBy, IsPartitionPoint}
pub use Rattle.std.specs.Map.{lookup}
pub use Rattle.std.specs.Result.{is_err}
