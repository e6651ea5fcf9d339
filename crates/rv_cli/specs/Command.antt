-- The command of the program, for clap's definitions: one rule an argument.
use Rattle.std.specs.Prelude.{◌≡◌, List, [], ◌∷◌, Some, true, codes, pos}
use Rattle.std.specs.Borrow.{Bor}
use Rattle.clap.specs.Walk.{texts}
use Rattle.clap.specs.Words.{App, Rule, Text, new_app, new_rule, with_rule}
use Rattle.clap.specs.declared.builder.action.ArgAction.TheVariants.{Append, Set, SetTrue}
use Rattle.clap.specs.declared.builder.value_parser.ValueParser.TheVariants as parser

-- a number of 1 to 24, 4 where it is not given
abbrev pub workers_rule : Rule
workers_rule = record (new_rule (codes "workers")) {
  long = Some (codes "workers");
  action = Some Set;
  value_names = 1;
  parser = Some (parser.Signed (pos 1) (pos 24));
  defaults = codes "4" ∷ [];
}

-- a number of 2 to 16, 8 where it is not given
abbrev pub slots_rule : Rule
slots_rule = record (new_rule (codes "slots")) {
  long = Some (codes "slots");
  action = Some Set;
  value_names = 1;
  parser = Some (parser.Signed (pos 2) (pos 16));
  defaults = codes "8" ∷ [];
}

-- the list of texts that a parser refers to; where they lie is of no account
abbrev pub Names : Type 0
Names = Bor (List (Bor Text))

abbrev pub ListsModels : Names → Type 0
ListsModels names = texts names.now ≡ codes "rvwmo" ∷ codes "tso" ∷ []

-- one of the listed names, rvwmo where it is not given
abbrev pub model_rule : Names → Rule
model_rule names = record (new_rule (codes "model")) {
  long = Some (codes "model");
  action = Some Set;
  value_names = 1;
  parser = Some (parser.Names names);
  defaults = codes "rvwmo" ∷ [];
}

-- a flag
abbrev pub flag_rule : Text → Rule
flag_rule name = record (new_rule name) { long = Some name; action = Some SetTrue }

abbrev pub json_rule : Rule
json_rule = flag_rule (codes "json")

abbrev pub carriers_rule : Rule
carriers_rule = flag_rule (codes "carriers")

abbrev pub explain_rule : Rule
explain_rule = flag_rule (codes "explain")

abbrev pub svg_rule : Rule
svg_rule = flag_rule (codes "svg")

abbrev pub coverage_rule : Rule
coverage_rule = flag_rule (codes "coverage")

abbrev pub complete_rule : Rule
complete_rule = flag_rule (codes "complete")

abbrev pub strength_rule : Rule
strength_rule = flag_rule (codes "strength")

-- a text, if one is given
abbrev pub text_rule : Text → Rule
text_rule name = record (new_rule name) { long = Some name; action = Some Set; value_names = 1 }

abbrev pub where_rule : Rule
where_rule = text_rule (codes "where")

abbrev pub list_rule : Rule
list_rule = text_rule (codes "list")

-- any number of texts, by their place
abbrev pub files_rule : Rule
files_rule = record (new_rule (codes "FILE")) { action = Some Append }

-- rvmon, whose words come without the program's name
abbrev pub bare_app : App
bare_app = let app = new_app (codes "rvmon") in record app { top = record app.top { no_binary_name = true } }

-- with the options that have a value in any case, the flags, and the names of files
abbrev pub with_options : Names → App
with_options names = with_rule (with_rule (with_rule bare_app workers_rule) slots_rule) (model_rule names)

abbrev pub with_flags : App → App
with_flags app =
    with_rule (with_rule (with_rule (with_rule (with_rule (with_rule (with_rule app json_rule) carriers_rule)
    explain_rule) svg_rule) coverage_rule) complete_rule) strength_rule

abbrev pub with_names : App → App
with_names app = with_rule (with_rule (with_rule app where_rule) list_rule) files_rule

abbrev pub app_over : Names → App
app_over names = with_names (with_flags (with_options names))

-- it is the command with its first options
abbrev pub HasOptions : App → Type 0
HasOptions app = (names : Names) × ListsModels names × (app ≡ with_options names)

-- it is the command of the program
abbrev pub IsCommand : App → Type 0
IsCommand app = (names : Names) × ListsModels names × (app ≡ app_over names)
