-- The names that the proofs of this crate share.
pub use Rattle.clap.proofs.CallerLemmas.{default_present, entry_by_id, same_rules_by_id}
pub use Rattle.clap.proofs.CallerReads.{signed_reads}
pub use Rattle.clap.proofs.SimpleLemmas.{ready_simple, simple_groups}
pub use Rattle.clap.proofs.WalkLemmas.{first_value-rows, one_text-rows, raw_values-rows}
pub use Rattle.clap.specs.Built.{IsAuto, IsParsedFrom, NamesNoGroup, SameRules}
pub use Rattle.clap.specs.Facts.{Entry, EntryPasses, HasId, HasIn, HasReading, PassesArg, ValuesPass, args_of}
pub use Rattle.clap.specs.Facts.{groups_of, least_values, unwrap_or_range}
pub use Rattle.clap.specs.Faults.{fault_of, is_simple_and_free}
pub use Rattle.clap.specs.Kinds.{FailsBy}
pub use Rattle.clap.specs.Simple.{App, HasMatchesOf, IsSimple, is_simple}
pub use Rattle.clap.specs.Texts.{items_of}
pub use Rattle.clap.specs.Values.{Accepts, kind_of, read_as, reading_of}
pub use Rattle.clap.specs.Walk.{Rule, rule_of, rules_of, texts}
pub use Rattle.clap.specs.Words.{ReadsOne, Row, first_of, one_of, raw_values, rows_of, with_rule, without_minus}
pub use Rattle.clap.specs.declared.builder.action.ArgAction.TheVariants.{Count, Set}
pub use Rattle.clap.specs.declared.builder.arg.Arg.{Arg}
pub use Rattle.clap.specs.declared.builder.command.Command.{Command}
pub use Rattle.clap.specs.declared.builder.range.ValueRange.{ValueRange}
pub use Rattle.clap.specs.declared.builder.value_parser.Reading.{Reading}
pub use Rattle.clap.specs.declared.builder.value_parser.ValueParser.{ValueParser}
pub use Rattle.clap.specs.declared.error.Error.{Error}
pub use Rattle.clap.specs.declared.error.kind.ErrorKind.TheVariants.{OutOfMemory}
pub use Rattle.clap.specs.declared.parser.matches.ArgMatches.{ArgMatches}
pub use Rattle.clap.specs.declared.parser.matches.Found.{Found}
pub use Rattle.clap.specs.declared.parser.matches.MatchedArg.{MatchedArg}
pub use Rattle.rv_cli.specs.Asked.{SaysAsked, SaysModel, SaysNumber, files_in}
pub use Rattle.rv_cli.specs.Command.{IsCommand, ListsModels, Names, app_over, bare_app, model_rule, slots_rule}
pub use Rattle.rv_cli.specs.Command.{workers_rule}
pub use Rattle.rv_cli.specs.Parsed.{HoldsModel, HoldsNumber, HoldsValues, ParsesBy, ParsesTo}
pub use Rattle.rv_cli.specs.declared.request.Asked.{Asked}
pub use Rattle.rv_event.specs.declared.memory_model.MemoryModel.TheVariants.{Rvwmo, Ztso}
pub use Rattle.std.proofs.Common.{Bool, Err, List, None, Ok, Option, Result, Some, [], ap, ap₂, arith, codes, false}
pub use Rattle.std.proofs.Common.{inl, inr, length, map, not, refl, rules, string_bytes, subst, suc, sym, take, true}
pub use Rattle.std.proofs.Common.{zero, ℕ, ◌&&◌, ◌<◌, ◌^◌, ◌||◌, ◌∙◌, ◌∷◌, ◌≡◌, ◌≤◌, ◌⊎◌}
pub use Rattle.std.proofs.lemmas.Grind.{common_steps}
pub use Rattle.std.proofs.lemmas.List.{get_or-map, length-map}
pub use Rattle.std.proofs.lemmas.List.Elements.{All-get_or}
pub use Rattle.std.proofs.lemmas.Result.{IfOk-weaker}
pub use Rattle.std.proofs.lemmas.Slice.Eq.{bytes_eq-Decides}
pub use Rattle.std.specs.Borrow.{Bor}
pub use Rattle.std.specs.List.{All, list_all, list_any, slice_index_or}
pub use Rattle.std.specs.Prelude.{IfOk, IsErrAnd, find, option_map, pos, slice_get, unwrap_or}
pub use Rattle.std.specs.Str.{bytes_eq}
pub use Rattle.std.specs.Str.Parse.{ExplainsUnsignedError, HasUnsignedDigitsIfOk, ParsesUnsigned}
