-- The names that the proofs of this crate share.
pub use Rattle.rv_cover.proofs.Covering.{covered, path-map}
pub use Rattle.rv_cover.specs.Carries.{IsSplit}
pub use Rattle.rv_cover.specs.Laws.{Either}
pub use Rattle.rv_cover.specs.Paths.{AnyRule, Covers, Reaches}
pub use Rattle.rv_cover.specs.Thinned.{IsNearest, IsUnsplit, Lists, Names}
pub use Rattle.rv_edges.specs.Histories.{IsCarried, IsHistory, IsLinked, IsStaleOf, Joined, kept_of}
pub use Rattle.rv_edges.specs.Indexes.{AreHarts, AreIndexes, IsHartAt, IsHartIn, hart_from, hart_in}
pub use Rattle.rv_edges.specs.Kept.{IsKept, IsTied, Joins, Kept, Past, Ties, grown, happened, kept_from}
pub use Rattle.rv_edges.specs.OwnLinks.{OwnLinks, own_from, total}
pub use Rattle.rv_edges.specs.declared.links.Sides.{Sides}
pub use Rattle.rv_event.proofs.Bounded.{length-Indexed}
pub use Rattle.rv_event.proofs.Growing.{Any-from_contains, IsEdge-grows, named-of_hart}
pub use Rattle.rv_event.proofs.Indexed.{AllSound, Indexed, indexed-all, indexed-nil, indexed-push, lowest-append_some}
pub use Rattle.rv_event.proofs.Indexed.{sound_of}
pub use Rattle.rv_event.proofs.Names.{Contains-here, Contains-there, named-is, writer-is}
pub use Rattle.rv_event.proofs.Pushed.{split_push}
pub use Rattle.rv_event.proofs.Settled.{edge-push, grows-push}
pub use Rattle.rv_event.specs.Contexts.{is_bad_on}
pub use Rattle.rv_event.specs.Edges.{HasReason, IsEdge, IsLowest, IsStale}
pub use Rattle.rv_event.specs.Faults.{deps_fault, event_fault, first_faults}
pub use Rattle.rv_event.specs.Log.{events, of_hart, writer}
pub use Rattle.rv_event.specs.Operations.{IsLoad, IsMemory}
pub use Rattle.rv_event.specs.Preserved.{IsPreserved, Rule}
pub use Rattle.rv_event.specs.Relations.{Paired}
pub use Rattle.rv_event.specs.declared.event.Entry.{Entry}
pub use Rattle.rv_event.specs.declared.event.Event.{Event}
pub use Rattle.rv_event.specs.declared.event.Id.{Id}
pub use Rattle.rv_event.specs.declared.memory_model.MemoryModel.{MemoryModel}
pub use Rattle.rv_event.specs.declared.reason.Link.{Link}
pub use Rattle.rv_event.specs.declared.reason.Reason.{Reason}
pub use Rattle.rv_event.specs.declared.reason.Reason.TheVariants.{AtomicIn, AtomicOut, Coherence, FromRead, Preserved}
pub use Rattle.rv_event.specs.declared.reason.Reason.TheVariants.{ReadsFrom}
pub use Rattle.rv_hart.proofs.OfHart.{any_rule_from, any_rule_to, contains_own, fault_own, lowest_from, named-own}
pub use Rattle.rv_hart.proofs.OfHart.{own-push, own_contains, paired_from, paired_to, preserved_from, preserved_to}
pub use Rattle.rv_hart.proofs.OfHart.{reaches_from, rule_from, rule_to, stale_from, stale_to}
pub use Rattle.rv_hart.proofs.Places.{hart-back, hart-other, own-other, places-none}
pub use Rattle.rv_hart.proofs.Reservations.{named-at}
pub use Rattle.rv_hart.specs.Harts.{Follows, Hart, IsHart, IsReturned, followed}
pub use Rattle.rv_hart.specs.Kept.{IsHartOf, IsStaleBy, hart_of_log}
pub use Rattle.rv_hart.specs.RuleLinks.{AreEnoughLinks, AreRuleLinks}
pub use Rattle.rv_hart.specs.declared.hart.HartOrder.{HartOrder}
pub use Rattle.rv_versions.specs.Reserved.{IsReserved}
pub use Rattle.rv_versions.specs.VersionLinks.{AreVersionLinks, IsOfVersions}
pub use Rattle.std.proofs.Common.{Bool, Bor, Contains, IfNone, IfSome, IsTrue, List, None, Option, Some, [], ap}
pub use Rattle.std.proofs.Common.{append-nil, append_assoc, arith, drop, false, find, get_or, inl, inr, is_some}
pub use Rattle.std.proofs.Common.{length, length-append, ltb, option_map, refl, slice_get, slice_index_or, slice_set}
pub use Rattle.std.proofs.Common.{subst, sym, take, true, ℕ, ◌++◌, ◌+◌, ◌-◌, ◌<◌, ◌↔◌, ◌∙◌, ◌∷◌, ◌≡◌, ◌≢◌, ◌≤◌, ◌⊎◌}
pub use Rattle.std.proofs.Math.Seq.{drop-append_seam, get_or-append_seam, take-append_seam, take-length}
pub use Rattle.std.proofs.lemmas.Bool.{cases_eq, cases_lt, false≢true, ltb-false, ltb-true}
pub use Rattle.std.proofs.lemmas.Grind.{common_steps}
pub use Rattle.std.proofs.lemmas.List.{get_or_append_left, length-drop, length-map, length-take-le, length_push}
pub use Rattle.std.proofs.lemmas.List.{map-append}
pub use Rattle.std.proofs.lemmas.List.Elements.{Contains-append_cases, Contains-append_left, Contains-append_right}
pub use Rattle.std.proofs.lemmas.Option.{get_or_from_slice_get, none-some, same_Some}
pub use Rattle.std.specs.Option.{option_copied}
