-- The names that the proofs of this crate share.
pub use Rattle.rv_cover.proofs.Covering.{path-append, path-map, reaches-earlier}
pub use Rattle.rv_cover.specs.Carries.{IsSplit}
pub use Rattle.rv_cover.specs.Paths.{AnyRule, Reaches}
pub use Rattle.rv_cover.specs.Thinned.{Names}
pub use Rattle.rv_event.proofs.Conditions.{Condition-above, Condition-number, address_out, after_acquire_out}
pub use Rattle.rv_event.proofs.Conditions.{after_dependent_address_out, before_release_out, both_rcsc_out}
pub use Rattle.rv_event.proofs.Conditions.{control_out, data_of_out, different_reads_out, fenced_out}
pub use Rattle.rv_event.proofs.Conditions.{overlapping_store_at, overlapping_store_out, paired_out}
pub use Rattle.rv_event.proofs.Conditions.{reads_atomic_write_out, reads_dependent_write_out}
pub use Rattle.rv_event.proofs.Growing.{All-from_contains, Any-contains, Any-from_contains, Rule-grows, named-of_hart}
pub use Rattle.rv_event.proofs.Indexed.{Indexed, Sound, indexed-push, lowest-none, none-lowest, not_taken, sound_of}
pub use Rattle.rv_event.proofs.Names.{Contains-here, Contains-there, find-found, named-is}
pub use Rattle.rv_event.proofs.Pushed.{split_push}
pub use Rattle.rv_event.proofs.Settled.{HasReason-settled, grows-push}
pub use Rattle.rv_event.specs.Annotations.{IsAcquire, IsRcsc, IsRelease, is_annotated}
pub use Rattle.rv_event.specs.Edges.{IsLowest, IsStale}
pub use Rattle.rv_event.specs.Faults.{event_fault, expected, is_lr, is_reserved, taken_fault}
pub use Rattle.rv_event.specs.Log.{Between, Earlier, events, of_hart, same_id}
pub use Rattle.rv_event.specs.Operations.{IsLoad, IsMemory, IsStore, Returns, is_exclusive, is_load, is_memory}
pub use Rattle.rv_event.specs.Operations.{is_store}
pub use Rattle.rv_event.specs.Preserved.{Condition, DifferentReads, IsDependentWrite, IsPreserved, Rule, address}
pub use Rattle.rv_event.specs.Preserved.{after_acquire, after_dependent_address, before_release, both_rcsc, control}
pub use Rattle.rv_event.specs.Preserved.{data_of, different_reads, fenced, overlapping_store, paired}
pub use Rattle.rv_event.specs.Preserved.{reads_atomic_write, reads_dependent_write}
pub use Rattle.rv_event.specs.Relations.{Behind, DependsOn, Fenced, IsCarrier, Lists, Paired, fence_orders}
pub use Rattle.rv_event.specs.declared.event.Dep.{Dep}
pub use Rattle.rv_event.specs.declared.event.DepKind.{DepKind}
pub use Rattle.rv_event.specs.declared.event.DepKind.TheVariants.{Addr, Ctrl, DataOf}
pub use Rattle.rv_event.specs.declared.event.Entry.{Entry}
pub use Rattle.rv_event.specs.declared.event.Event.{Event}
pub use Rattle.rv_event.specs.declared.event.Id.{Id}
pub use Rattle.rv_event.specs.declared.event.Op.{Op}
pub use Rattle.rv_event.specs.declared.event.Op.TheVariants.{Amo, Branch, Fence, FenceTso, Load, Lr, Sc, ScFailed}
pub use Rattle.rv_event.specs.declared.event.Op.TheVariants.{Store}
pub use Rattle.rv_event.specs.declared.memory_model.MemoryModel.{MemoryModel}
pub use Rattle.rv_event.specs.declared.memory_model.MemoryModel.TheVariants.{Rvwmo, Ztso}
pub use Rattle.rv_event.specs.declared.reason.Link.{Link}
pub use Rattle.rv_event.specs.declared.reason.Reason.{Reason}
pub use Rattle.rv_event.specs.declared.reason.Reason.TheVariants.{Preserved}
pub use Rattle.rv_hart.specs.Harts.{Follows, Hart, IsHart, IsOwnStore, IsReturned, followed, hart_with}
pub use Rattle.rv_hart.specs.Kept.{IsAsked, IsHartOf, IsKept, hart_at, hart_of, hart_of_log}
pub use Rattle.rv_hart.specs.Linked.{HasOwn, HaveRows, IsLinked}
pub use Rattle.rv_hart.specs.Parts.{AddsPart, ArePartsFor, IsIn, IsOfPart, IsPartFor, NamesEvents}
pub use Rattle.rv_hart.specs.Places.{places_from, places_of}
pub use Rattle.rv_hart.specs.Rows.{IsBefore, IsCandidate, IsEnough, IsGenerated, IsOrderedBy, RowsMean}
pub use Rattle.rv_hart.specs.RuleLinks.{AreEnoughLinks, AreRuleLinks}
pub use Rattle.rv_hart.specs.RuleRows.{Adds, ConditionOf, IsApart, IsLastOther, IsLeadingRow, IsLowestRule}
pub use Rattle.rv_hart.specs.RuleRows.{IsLowestBelow, IsOperationOf}
pub use Rattle.rv_hart.specs.Sets.{AreSets, HasEvent, IsAddressing, IsControlling, IsFencedFor, IsReservation}
pub use Rattle.rv_hart.specs.Sets.{AreCarriedRows, IsCarried, IsNaming, IsReserving, NamesMemory, RowIs}
pub use Rattle.rv_hart.specs.Words.{AreNumbered, AreWords, IsAbove, IsBeforeRun, IsHighestStore, IsLastBelow}
pub use Rattle.rv_hart.specs.Words.{IsOfWord, IsWordLink, NamesOfWord, link_at}
pub use Rattle.rv_hart.specs.declared.hart.HartOrder.{HartOrder}
pub use Rattle.rv_hart.specs.declared.kept.Kept.{Kept}
pub use Rattle.rv_hart.specs.declared.next.Next.{Next}
pub use Rattle.rv_hart.specs.declared.parts.Part.{Part}
pub use Rattle.rv_hart.specs.declared.parts.Part.TheVariants.{In, Named, NamedBy, Nothing, One}
pub use Rattle.rv_hart.specs.declared.words.WordLink.{WordLink}
pub use Rattle.rv_hart.specs.declared.words.Words.{Words}
pub use Rattle.rv_rows.proofs.Sweep.{Gathers, Swept, gathers-none, gathers-step, swept-done, swept-init, swept-step}
pub use Rattle.rv_rows.specs.Bits.{Has, has_bit}
pub use Rattle.rv_rows.specs.Closure.{IsClosed, IsReached, IsTaken, IsThinned, RowHas}
pub use Rattle.rv_rows.specs.Flat.{IsPushed}
pub use Rattle.std.proofs.Common.{All, Any, Bool, Contains, IsFalse, IsTrue, List, None, Option, Some, [], ap}
pub use Rattle.std.proofs.Common.{append-nil, append_assoc, arith, cond, drop, drop-cons, eq-eqb, eqb-true, false}
pub use Rattle.std.proofs.Common.{filter, find, get_or, if◌then◌else◌, inl, inr, is_some, length, length-append}
pub use Rattle.std.proofs.Common.{nat_eq, refl, rules, slice_get, subst, suc, sym, take, take-append-drop, tests}
pub use Rattle.std.proofs.Common.{true, zero, ℕ, ◌&&◌, ◌++◌, ◌+◌, ◌-◌, ◌<◌, ◌==◌, ◌||◌, ◌↔◌, ◌∙◌, ◌∷◌, ◌≡◌, ◌≢◌, ◌≤◌}
pub use Rattle.std.proofs.Common.{◌⊎◌}
pub use Rattle.std.proofs.lemmas.Bool.{and_from, and_parts, cases_eq, cases_lt, cases_order, false≢true, ne_eqb}
pub use Rattle.std.proofs.lemmas.Bool.{or_cases, or_left, or_right}
pub use Rattle.std.proofs.lemmas.Grind.{common_steps}
pub use Rattle.std.proofs.lemmas.List.{get_or-map, get_or_append_left, get_or_at, get_or_default, get_or_past}
pub use Rattle.std.proofs.lemmas.List.{length-map, length_push, take_all, take_more}
pub use Rattle.std.proofs.lemmas.List.Elements.{All-contains, All-filter, Contains-append_left, Contains-get_or}
pub use Rattle.std.proofs.lemmas.List.Elements.{Contains-push, Contains-push_cases, filter_passes}
pub use Rattle.std.proofs.lemmas.Nat.Bits.{bit_at-zero}
pub use Rattle.std.proofs.lemmas.Option.{get_or_from_slice_get, none-some, same_Some, slice_get_within}
pub use Rattle.rv_rows.specs.NumberMaps.{number_of}
pub use Rattle.std.specs.List.{list_any}
