-- The names that the proofs of this crate share.
pub use Rattle.rv_event.specs.Annotations.{IsAcquire, IsRcsc, IsRelease}
pub use Rattle.rv_event.specs.Contexts.{IsContext, faults_in, taken_in}
pub use Rattle.rv_event.specs.Edges.{HasReason, IsEdge, IsStale}
pub use Rattle.rv_event.specs.Faults.{dependency_fault, deps_fault, event_fault, expected, fault_of, first_faults}
pub use Rattle.rv_event.specs.Faults.{fault_within, first_faults_within, is_reserved, lowest, reservation_fault}
pub use Rattle.rv_event.specs.Faults.{source_fault, taken_fault}
pub use Rattle.rv_event.specs.Log.{Between, Earlier, did_write, events, named, of_hart, same_id, writer}
pub use Rattle.rv_event.specs.Merges.{SameSources}
pub use Rattle.rv_event.specs.Operations.{IsStore, is_exclusive, is_store}
pub use Rattle.rv_event.specs.Orders.{Candidate, IsOperation, Lawful, place}
pub use Rattle.rv_event.specs.Preserved.{AfterDependentAddress, Condition, DifferentReads, IsDependentWrite}
pub use Rattle.rv_event.specs.Preserved.{IsPreserved, OverlappingStore, ReadsAtomicWrite, ReadsDependentWrite, Rule}
pub use Rattle.rv_event.specs.Preserved.{address, after_acquire, after_dependent_address, before_release, both_rcsc}
pub use Rattle.rv_event.specs.Preserved.{control, data_of, different_reads, fenced, overlapping_store, paired}
pub use Rattle.rv_event.specs.Preserved.{reads_atomic_write, reads_dependent_write}
pub use Rattle.rv_event.specs.Relations.{Behind, ControlDependsOn, DependsOn, Fenced, IsCarrier, Lists, Paired}
pub use Rattle.rv_event.specs.Relations.{fence_orders}
pub use Rattle.rv_event.specs.WellFormed.{Continues, WellFormed, WellFormedWithin, entries_of}
pub use Rattle.rv_event.specs.declared.context.Context.{Context}
pub use Rattle.rv_event.specs.declared.event.Dep.{Dep}
pub use Rattle.rv_event.specs.declared.event.DepKind.TheVariants.{Addr, Ctrl, DataOf}
pub use Rattle.rv_event.specs.declared.event.Entry.{Entry}
pub use Rattle.rv_event.specs.declared.event.Event.{Event}
pub use Rattle.rv_event.specs.declared.event.Id.{Id}
pub use Rattle.rv_event.specs.declared.event.Op.{Op}
pub use Rattle.rv_event.specs.declared.event.Op.TheVariants.{Branch}
pub use Rattle.rv_event.specs.declared.fault.Fault.{Fault}
pub use Rattle.rv_event.specs.declared.memory_model.MemoryModel.{MemoryModel}
pub use Rattle.rv_event.specs.declared.reason.Reason.{Reason}
pub use Rattle.rv_event.specs.declared.reason.Reason.TheVariants.{AtomicIn, AtomicOut, Coherence, FromRead, Preserved}
pub use Rattle.rv_event.specs.declared.reason.Reason.TheVariants.{ReadsFrom}
pub use Rattle.std.proofs.Common.{All, AllPairs, Any, Bool, Contains, Decides, HoldsAt, IsFalse, IsTrue, List}
pub use Rattle.std.proofs.Common.{MatchBool, None, Option, Some, [], ap, append-nil, append_assoc, arith, cond, drop}
pub use Rattle.std.proofs.Common.{drop-cons, eq-eqb, eqb-true, false, filter, find, get_or, inl, inr, is_some}
pub use Rattle.std.proofs.Common.{le_of_suc-le-suc, leb, length, length-append, ltb, map, not, option_map, refl}
pub use Rattle.std.proofs.Common.{reverse, rules, slice_index_or, subst, suc, suc-le-suc, sym, take, take-append-drop}
pub use Rattle.std.proofs.Common.{tests, true, unwrap_or, zero, zero-le, zero-lt-suc, ℕ, ⊎_elim, ◌&&◌, ◌*◌, ◌++◌, ◌+◌}
pub use Rattle.std.proofs.Common.{◌<◌, ◌==◌, ◌↔◌, ◌∙◌, ◌∷◌, ◌≡◌, ◌≢◌, ◌≤◌, ◌⊎◌}
pub use Rattle.std.proofs.lemmas.Bool.{and_from, and_parts, cases_eq, false≢true, ne_eqb, not-false}
pub use Rattle.std.proofs.lemmas.Bool.Decides.{Decides-and, Decides-eqb, Decides-like}
pub use Rattle.std.proofs.lemmas.Grind.{common_steps}
pub use Rattle.std.proofs.lemmas.Iterator.{YieldsList-from_slice, cases_from_all, cases_from_any}
pub use Rattle.std.proofs.lemmas.List.{get_or-map, length-map, map-append, take_more}
pub use Rattle.std.proofs.lemmas.List.Elements.{All-contains, Contains-append_right, Contains-get_or}
pub use Rattle.std.proofs.lemmas.List.Elements.{Contains-push_cases, filter-append, filter_passes}
pub use Rattle.std.proofs.lemmas.List.Folds.{find-append}
pub use Rattle.std.proofs.lemmas.List.Sums.{length-filter}
pub use Rattle.std.proofs.lemmas.Map.Views.{any-filter_same}
pub use Rattle.std.proofs.lemmas.Option.{none-some, same_Some}
pub use Rattle.std.proofs.lemmas.Slice.Eq.{slice_eq-Decides}
pub use Rattle.std.specs.List.{AllWithin, list_any}
