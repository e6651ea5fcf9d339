-- What a parse of the program's command gives.
use Rattle.rv_cli.proofs.Common.{common_steps, rules, ◌≡◌, ◌⊎◌, ◌∙◌, ◌||◌, true, false, List, [], ◌∷◌, Some}
use Rattle.rv_cli.proofs.Common.{Result, Ok, Err, refl, ap, inl, inr, arith, codes, pos, IfOk, IsErrAnd, Bor}
use Rattle.rv_cli.proofs.Common.{list_all, list_any, bytes_eq, bytes_eq-Decides, IsParsedFrom, fault_of}
use Rattle.rv_cli.proofs.Common.{is_simple_and_free, FailsBy, App, HasMatchesOf, IsSimple, is_simple, kind_of}
use Rattle.rv_cli.proofs.Common.{rules_of, texts, Command, Error, OutOfMemory, ArgMatches, ready_simple}
use Rattle.rv_cli.proofs.Common.{simple_groups, IsCommand, ListsModels, Names, app_over, model_rule, slots_rule}
use Rattle.rv_cli.proofs.Common.{workers_rule, HoldsValues, ParsesBy, ParsesTo}
use Rattle.clap.specs.Matches.{found_of}
use Rattle.clap.specs.Simple.{app_of}
use Rattle.clap.specs.Walk.{Text}
use Rattle.rv_cli.proofs.Options.{IsOption, option_holds}
use Rattle.rv_cli.proofs.Places.{has_none, has_one}
use Rattle.clap.specs.declared.builder.value_parser.ValueParser.TheVariants as parser

workers_option : (names : Names) → IsOption (app_over names).top.rules 0 (parser.Signed (pos 1) (pos 24)) workers_rule
unfolding has_none has_one
workers_option names = grind (arith, common_steps)

slots_option : (names : Names) → IsOption (app_over names).top.rules 1 (parser.Signed (pos 2) (pos 16)) slots_rule
unfolding has_none has_one
slots_option names = grind (arith, common_steps)

model_option : (names : Names) → IsOption (app_over names).top.rules 2 (parser.Names names) (model_rule names)
unfolding has_none has_one
model_option names = grind (arith, common_steps)

-- ---- one of two names

any_text : (text : Text) (xs : List (Bor Text))
    → list_any (λ x. bytes_eq x.now text) xs ≡ list_any (λ t. bytes_eq t text) (texts xs)
any_text text [] = refl
any_text text (x ∷ xs) = rw (any_text text xs) refl

one_of_two : (a b text : Text) → (bytes_eq a text || (bytes_eq b text || false)) ≡ true → (text ≡ a) ⊎ (text ≡ b)
one_of_two a b text h = search (bytes_eq-Decides, rules)

model_text : (names : Names) (text : Text) → ListsModels names → list_any (λ x. bytes_eq x.now text) names.now ≡ true
    → (text ≡ codes "rvwmo") ⊎ (text ≡ codes "tso")
model_text names text lists taken = search (any_text, one_of_two, codes, rules)

-- ---- the parse

simple_command : (names : Names) (c : Command) → app_of c ≡ app_over names → IsSimple c
simple_command names c is = search (ready_simple, rules)

values_held : (names : Names) (c : Command) (m : ArgMatches) → ListsModels names → app_of c ≡ app_over names
    → IsParsedFrom c m → HoldsValues (found_of m)
values_held names c m lists is p =
    let simple = simple_command names c is in
    let groups = simple_groups c (ap (λ (app : App). list_all (λ a. a.is_simple) app.top.rules) is) in
    let rules = (app_over names).top.rules in
    let same : rules_of c ≡ rules = ap (λ (app : App). app.top.rules) is in
    let workers = option_holds c m p simple groups rules 0 _ workers_rule same (workers_option names) in
    let slots = option_holds c m p simple groups rules 1 _ slots_rule same (slots_option names) in
    let model = option_holds c m p simple groups rules 2 _ (model_rule names) same (model_option names) in
    record {
      workers = (workers.0, workers.1, workers.3);
      slots = (slots.0, slots.1, slots.3);
      model = elim (model_text names model.0 lists model.3) [
        | inl e ↦ inl (model.2 ∙ ap Some e)
        | inr e ↦ inr (model.2 ∙ ap Some e)
      ];
    }

-- words that clap takes are parsed
pub parses : (c : Command) (words : List Text) (r : Result ArgMatches Error) → IsCommand (app_of c)
    → IfOk r (IsParsedFrom c) → IfOk r (HasMatchesOf (app_of c) words)
    → (is_simple_and_free (app_of c) ≡ true → FailsBy (fault_of (app_of c) words) r) → ParsesBy (app_of c) words r
parses c words (Ok m) is parsed matches kinds = (
  kinds (ap is_simple_and_free is.2),
  (matches (ap is_simple is.2)).0,
  values_held is.0 c m is.1 is.2 parsed,
)
parses c words (Err e) is parsed matches kinds = kinds (ap is_simple_and_free is.2)

-- ---- a command that was not made

abbrev text_ref : Text → Bor Text
text_ref text = record { ref_ptr = (0, 0); now = text }

abbrev any_names : Names
any_names = record { ref_ptr = (0, 0); now = text_ref (codes "rvwmo") ∷ text_ref (codes "tso") ∷ [] }

by_memory : (app : App) (words : List Text) (r : Result ArgMatches Error) → IsErrAnd r (λ e. kind_of e ≡ OutOfMemory)
    → ParsesBy app words r
by_memory app words (Ok m) h = absurd h
by_memory app words (Err e) h = inl h

-- out of memory nothing is parsed
pub unmade : (words : List Text) (r : Result ArgMatches Error) → IsErrAnd r (λ e. kind_of e ≡ OutOfMemory)
    → ParsesTo words r
unmade words r h = (app_over any_names, (any_names, refl, refl), by_memory (app_over any_names) words r h)
