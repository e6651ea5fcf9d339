-- The names that the proofs of this crate share.
pub use Rattle.rv_book.specs.Booked.{Booked, IsForbiddenOn, IsMalformedOn, IsTaken}
pub use Rattle.rv_book.specs.Counts.{operations_of, waiting_of}
pub use Rattle.rv_cert.proofs.Final.{no_longer_log}
pub use Rattle.rv_cert.specs.Refusals.{FaultyLog, Refusal}
pub use Rattle.rv_event.proofs.Pushed.{WellFormed-nil, WellFormed-push}
pub use Rattle.rv_event.specs.Log.{events}
pub use Rattle.rv_event.specs.Orders.{Lawful}
pub use Rattle.rv_event.specs.WellFormed.{Continues, WellFormed}
pub use Rattle.rv_event.specs.declared.event.Entry.{Entry}
pub use Rattle.rv_event.specs.declared.event.Event.{Event}
pub use Rattle.rv_event.specs.declared.memory_model.MemoryModel.{MemoryModel}
pub use Rattle.rv_report.specs.declared.outcome.Outcome.{Outcome}
pub use Rattle.rv_report.specs.declared.outcome.Outcome.TheVariants.{Allowed, Forbidden, Malformed}
pub use Rattle.rv_replay.specs.Replays.{IsAllowed, IsConsistent, IsReplayed, Reaches}
pub use Rattle.std.proofs.Common.{IsFalse, List, [], ap, arith, drop, drop-cons, get_or, inl, inr, length, rules}
pub use Rattle.std.proofs.Common.{subst, suc, sym, take, take-append-drop, ℕ, ◌++◌, ◌+◌, ◌<◌, ◌==◌, ◌↔◌, ◌∙◌, ◌∷◌}
pub use Rattle.std.proofs.Common.{◌≡◌, ◌≤◌}
pub use Rattle.std.proofs.Math.Seq.{take-length}
pub use Rattle.std.proofs.lemmas.Bool.{cases_lt}
pub use Rattle.std.proofs.lemmas.Grind.{common_steps}
pub use Rattle.std.proofs.lemmas.List.{length-take-le, take_all}
pub use Rattle.std.proofs.lemmas.List.Elements.{filter-append}
pub use Rattle.std.proofs.lemmas.Option.{none-some}
