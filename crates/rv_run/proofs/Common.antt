-- The names that the proofs of this crate share.
pub use Rattle.rv_book.specs.Booked.{Booked, IsForbiddenOn, IsMalformedOn, IsTaken}
pub use Rattle.rv_book.specs.Chunked.{IsPrefix, given_by}
pub use Rattle.rv_book.specs.Counts.{is_waiting, operations_of, waiting_of}
pub use Rattle.rv_cert.proofs.Final.{no_longer_log}
pub use Rattle.rv_cert.specs.Refusals.{FaultyLog, IsFinal, IsMalformed, Refusal}
pub use Rattle.rv_cert.specs.Verdicts.{model_of}
pub use Rattle.rv_cert.specs.declared.verdict.Verdict.{Verdict}
pub use Rattle.rv_event.proofs.LawfulMerge.{Lawful-merge}
pub use Rattle.rv_event.proofs.Pushed.{WellFormed-front, WellFormed-nil, WellFormed-push}
pub use Rattle.rv_event.proofs.Sources.{SameHarts-from_sources, WellFormed-sources}
pub use Rattle.rv_event.specs.Log.{did_write, events, writer}
pub use Rattle.rv_event.specs.Merges.{SameSources, from_source}
pub use Rattle.rv_event.specs.Operations.{is_load, is_memory}
pub use Rattle.rv_event.specs.Orders.{Lawful}
pub use Rattle.rv_event.specs.WellFormed.{Continues, WellFormed}
pub use Rattle.rv_event.specs.declared.event.Entry.{Entry}
pub use Rattle.rv_event.specs.declared.event.Event.{Event}
pub use Rattle.rv_event.specs.declared.memory_model.MemoryModel.{MemoryModel}
pub use Rattle.rv_report.specs.Outcomes.{outcome_of}
pub use Rattle.rv_report.specs.declared.outcome.Outcome.{Outcome}
pub use Rattle.rv_report.specs.declared.outcome.Outcome.TheVariants.{Allowed, Forbidden, Malformed}
pub use Rattle.rv_run.specs.Comparisons.{AgreesWith, IsBegun, IsBegunIn, IsFaultIn, IsWholeIn}
pub use Rattle.rv_run.specs.Desks.{IsComplete}
pub use Rattle.rv_run.specs.Feeds.{IsEndOf, IsFedOf, IsFeeding}
pub use Rattle.rv_run.specs.Outcomes.{IfAllowed, IfForbidden, IfMalformed}
pub use Rattle.rv_replay.specs.Replays.{IsAllowed, IsConsistent, IsReplayed, Reaches}
pub use Rattle.rv_run.specs.Sources.{AreAllowed, AreEventsOf, AreForbidden, AreMalformed, AreWellFormed, EndsIn}
pub use Rattle.rv_run.specs.Sources.{EndsWhole, HasRead, IsFaultAmong, IsPartOf, IsRefused, IsTrueOf}
pub use Rattle.rv_run.specs.declared.fault.RunFault.{RunFault}
pub use Rattle.rv_run.specs.declared.feeding.Fed.{Fed}
pub use Rattle.rv_run.specs.declared.feeding.FeedEnd.{FeedEnd}
pub use Rattle.rv_run.specs.declared.feeding.FeedEnd.TheVariants.{Stopped}
pub use Rattle.rv_trace.specs.Chunks.{TakesEvents}
pub use Rattle.rv_trace.specs.Source.{Stream, bytes_say, source_says}
pub use Rattle.rv_trace.specs.Trace.{TraceLeft}
pub use Rattle.std.proofs.Common.{All, Bool, Err, IfErr, IfOk, IfSome, IsFalse, List, None, Ok, Option, Result, Some}
pub use Rattle.std.proofs.Common.{[], ap, append-nil, append_assoc, arith, below_more, cond, count_by, drop}
pub use Rattle.std.proofs.Common.{drop-cons, false, find, get_or, inl, inr, length, map, not, option_map, refl, rules}
pub use Rattle.std.proofs.Common.{subst, suc, sym, take, take-append-drop, true, zero, ℕ, ◌&&◌, ◌++◌, ◌+◌, ◌<◌, ◌==◌}
pub use Rattle.std.proofs.Common.{◌↔◌, ◌∙◌, ◌∷◌, ◌≡◌, ◌≤◌, ◌⊎◌}
pub use Rattle.std.proofs.Math.Seq.{take-length}
pub use Rattle.std.proofs.lemmas.Bool.{cases_lt, eq-eqb, eqb-true, false≢true}
pub use Rattle.std.proofs.lemmas.Grind.{common_steps}
pub use Rattle.std.proofs.lemmas.List.{drop_at, get_or-map, length-map, length-take-le, map-append, take_all}
pub use Rattle.std.proofs.lemmas.List.Elements.{All-append, All-cons, All-head, All-nil, All-tail, filter-append}
pub use Rattle.std.proofs.lemmas.List.Recursion.{is_count_by}
pub use Rattle.std.proofs.lemmas.Option.{none-some}
pub use Rattle.std.specs.Prelude.{IsSome, is_none, vec_items, vec_len}
