-- The names that the proofs of this crate share.
pub use Rattle.rv_book.specs.Adding.{IsAdded, IsFit, IsRefused}
pub use Rattle.rv_book.specs.Arranged.{Arranged, EachLeads, IsArranged, IsOwn, at, index_of, nobody, order_of, up_to}
pub use Rattle.rv_book.specs.Arranged.{walked}
pub use Rattle.rv_book.specs.Booked.{Booked, IsBooked, IsForbiddenOn, IsMalformedOn, IsTaken, booked_of}
pub use Rattle.rv_book.specs.Chunked.{HasTaken, IsApplied, IsChunkOf, IsChunkOffered, IsContinued, IsPrefix, IsTurn}
pub use Rattle.rv_book.specs.Chunked.{StopsAt, count_of_source, entries_of, first_of, given_by, rest_of}
pub use Rattle.rv_book.specs.Nodes.{AreNodes, HasNode}
pub use Rattle.rv_book.specs.Tallied.{IsTallied}
pub use Rattle.rv_book.specs.declared.arrangement.Added.{Added}
pub use Rattle.rv_book.specs.declared.arrangement.Added.TheVariants.{Refused, Taken}
pub use Rattle.rv_book.specs.declared.book.ChunkOffer.{ChunkOffer}
pub use Rattle.rv_book.specs.declared.book.ChunkOffer.TheVariants.{Already, Applied, Halted, NoMemory, NotYet}
pub use Rattle.rv_book.specs.declared.book.ChunkOffer.TheVariants.{Stopped}
pub use Rattle.rv_cert.proofs.Forward.{no_certificate}
pub use Rattle.rv_cert.proofs.Suffice.{lawful_from_edges}
pub use Rattle.rv_cert.specs.Certificates.{Certifies, IsClosedWalk, IsWalk, start_of}
pub use Rattle.rv_cert.specs.Refusals.{Refusal}
pub use Rattle.rv_cert.specs.declared.certificate.Certificate.{Certificate}
pub use Rattle.rv_chunk.specs.Packing.{Content}
pub use Rattle.rv_cover.specs.Paths.{Path, more}
pub use Rattle.rv_edges.proofs.CarriedEdges.{IsHistory-push, IsKept-cases, carried_from_IsHistory, happened-push}
pub use Rattle.rv_edges.proofs.CarriedEdges.{indexed_from_IsHistory}
pub use Rattle.rv_edges.proofs.GrownHarts.{last_pushed}
pub use Rattle.rv_edges.proofs.Listed.{Contains-last, Contains-old}
pub use Rattle.rv_edges.specs.Histories.{HasOwnEdge, IsLinked, IsStaleOf, kept_of, with_entry}
pub use Rattle.rv_edges.specs.Kept.{IsKept, IsTied, Joins, Kept, Past, grown, happened}
pub use Rattle.rv_edges.specs.declared.history.Around.{Around}
pub use Rattle.rv_event.proofs.Bounded.{length-WellFormed}
pub use Rattle.rv_event.proofs.Growing.{Any-contains, Any-from_contains, IsEdge-grows}
pub use Rattle.rv_event.proofs.Indexed.{Indexed, Sound, find-append_some, indexed-push, lowest-append_some}
pub use Rattle.rv_event.proofs.Indexed.{lowest-none, none-lowest, sound_of}
pub use Rattle.rv_event.proofs.Names.{named-is, place-at}
pub use Rattle.rv_event.proofs.Pushed.{WellFormed-push}
pub use Rattle.rv_event.proofs.Settled.{grows-push}
pub use Rattle.rv_event.specs.Edges.{IsEdge, IsStale}
pub use Rattle.rv_event.specs.Faults.{deps_fault, event_fault, fault_if, fault_of, first_faults, lowest, source_fault}
pub use Rattle.rv_event.specs.Log.{Earlier, events, named, of_hart}
pub use Rattle.rv_event.specs.Merges.{from_source}
pub use Rattle.rv_event.specs.Operations.{IsMemory}
pub use Rattle.rv_event.specs.Orders.{IsOperation, IsOrderOf, Lawful, place}
pub use Rattle.rv_event.specs.WellFormed.{WellFormed}
pub use Rattle.rv_event.specs.declared.event.Entry.{Entry}
pub use Rattle.rv_event.specs.declared.event.Event.{Event}
pub use Rattle.rv_event.specs.declared.event.Id.{Id}
pub use Rattle.rv_event.specs.declared.fault.Fault.{Fault}
pub use Rattle.rv_event.specs.declared.fault.Fault.TheVariants.{OtherSource}
pub use Rattle.rv_event.specs.declared.memory_model.MemoryModel.{MemoryModel}
pub use Rattle.rv_event.specs.declared.reason.Link.{Link}
pub use Rattle.rv_event.specs.declared.reason.Reason.{Reason}
pub use Rattle.rv_event.specs.declared.reason.Reason.TheVariants.{Preserved}
pub use Rattle.rv_rank.specs.Graph.{Edge, IsCircle, IsGrown, IsOrder}
pub use Rattle.std.proofs.Common.{All, AllPairs, Bool, Contains, Err, IfOk, List, None, Ok, Option, Result, Some, []}
pub use Rattle.std.proofs.Common.{ap, append_assoc, arith, cond, count_by, drop, eq-eqb, eqb-true, false, get_or}
pub use Rattle.std.proofs.Common.{if◌then◌else◌, inl, inr, le_of_suc-le-suc, length, ltb, map, nat_lt, not, refl}
pub use Rattle.std.proofs.Common.{replicate, rules, slice_index_or, slice_set, subst, suc, suc-le-suc, sym, take}
pub use Rattle.std.proofs.Common.{take-append-drop, true, zero, ℕ, ◌%◌, ◌&&◌, ◌++◌, ◌+◌, ◌-◌, ◌<◌, ◌==◌, ◌∙◌, ◌∷◌}
pub use Rattle.std.proofs.Common.{◌≡◌, ◌≢◌, ◌≤◌, ◌⊎◌}
pub use Rattle.std.proofs.Math.Seq.{drop-append-add, drop-append_seam, take-append-add, take-append_seam}
pub use Rattle.std.proofs.lemmas.Bool.{and_from, and_parts, cases_eq, false≢true, ne_eqb}
pub use Rattle.std.proofs.lemmas.Grind.{common_steps}
pub use Rattle.std.proofs.lemmas.List.{append-nil, drop-append-le, ext_get_or, get_or-map, get_or-set_other}
pub use Rattle.std.proofs.lemmas.List.{get_or-set_same, get_or_append_left, get_or_default, get_or_push}
pub use Rattle.std.proofs.lemmas.List.{length-append, length-drop, length-map, length_push, map-append, take_more}
pub use Rattle.std.proofs.lemmas.List.Elements.{Contains-append_left, Contains-get_or, Contains-push}
pub use Rattle.std.proofs.lemmas.List.Elements.{Contains-push_cases}
pub use Rattle.std.proofs.lemmas.List.Folds.{Any-from_list_any, list_any-from_Any}
pub use Rattle.std.proofs.lemmas.List.Sums.{length-filter, sum_by_push}
pub use Rattle.std.proofs.lemmas.Option.{none-some, same_Some}
pub use Rattle.std.specs.List.{list_any}
pub use Rattle.std.specs.Result.{OnErr}
