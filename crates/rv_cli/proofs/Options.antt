-- After a parse, an option with a default has a text that its parser takes.
use Rattle.rv_cli.proofs.Common.{common_steps, rules, ◌≡◌, ◌⊎◌, ◌∙◌, ◌<◌, ◌≤◌, ℕ, true, List, [], ◌∷◌, length}
use Rattle.rv_cli.proofs.Common.{map, Option, Some, None, sym, ap, subst, inl, inr, arith, codes, slice_index_or}
use Rattle.rv_cli.proofs.Common.{bytes_eq, get_or-map, length-map, IsAuto, IsParsedFrom, NamesNoGroup, args_of}
use Rattle.rv_cli.proofs.Common.{least_values, unwrap_or_range, IsSimple, items_of, Rule, rule_of, rules_of, Set}
use Rattle.rv_cli.proofs.Common.{Arg, Command, ValueRange, ValueParser, ArgMatches, default_present}
use Rattle.rv_cli.proofs.Common.{same_rules_by_id}
use Rattle.clap.specs.Matches.{found_of}
use Rattle.clap.specs.Walk.{Text}
use Rattle.rv_cli.proofs.Entries.{HoldsText, Kept, found_holds}
use Rattle.rv_cli.proofs.Places.{has_one, rule_at, sole_place}

abbrev ids_of : List Rule → List Text
ids_of = map (λ (x : Rule). x.id)

-- the rule at place k, alone with its id, is that of an option with a default and the parser q
pub record IsOption (rules : List Rule) (k : ℕ) (q : ValueParser) (r : Rule) : Type 0 where
  pub at : slice_index_or rules k r ≡ r
  pub below : k < length rules
  pub sole : has_one r.id k (ids_of rules) ≡ true
  pub named : r.id ≡ [] → ⊥
  pub own : (r.id ≡ codes "help") ⊎ (r.id ≡ codes "version") → ⊥
  pub action : r.action ≡ Some Set
  pub range : r.range ≡ None
  pub defaults : 0 < length r.defaults
  pub parser : r.parser ≡ Some q

some_arg : (xs : List Arg) → 0 < length xs → Arg
some_arg [] lt = absurd (omega arith)
some_arg (x ∷ xs) lt = x

-- no argument but the one at place k has the id
only_place : (c : Command) (rules : List Rule) (k : ℕ) (r : Rule) → rules_of c ≡ rules
    → has_one r.id k (ids_of rules) ≡ true
    → (j : ℕ) (e : Arg) → j < length (args_of c) → bytes_eq (slice_index_or (args_of c) j e).id.now r.id ≡ true → j ≡ k
only_place c rules k r same sole j e low eq =
    let count : length (args_of c) ≡ length rules = sym (length-map (args_of c) rule_of) ∙ ap length same in
    let inside : j < length rules = subst (λ (n : ℕ). j < n) count low in
    let within : j < length (ids_of rules) = grind (arith, common_steps) in
    let there : (slice_index_or (args_of c) j e).id.now ≡ slice_index_or (ids_of rules) j r.id =
    ap (λ (x : Rule). x.id) (rule_at c rules j e r same low)
    ∙ sym (get_or-map (λ (x : Rule). x.id) rules j r r.id inside) in
    sole_place r.id k (ids_of rules) j r.id sole within (rw (← there) eq)

-- what the built command keeps of the argument of an option
option_kept : (old : Command) (m : ArgMatches) (p : IsParsedFrom old m) → IsSimple old → NamesNoGroup old
    → (rules : List Rule) (k : ℕ) (q : ValueParser) (r : Rule) → rules_of old ≡ rules → IsOption rules k q r
    → (d : Arg) → k < length (args_of old) → rule_of (slice_index_or (args_of old) k d) ≡ r
    → Kept p.built (slice_index_or (args_of old) k d) q
option_kept old m p simple no_groups rules k q r same o d lt is =
    let a = slice_index_or (args_of old) k d in
    let id : a.id.now ≡ r.id = ap (λ (x : Rule). x.id) is in
    let range : a.num_vals ≡ None = ap (λ (x : Rule). x.range) is ∙ o.range in
    let least : least_values a ≡ 1 = ap (λ (x : Option ValueRange). (unwrap_or_range x).start_inclusive) range in
    let only : (j : ℕ) (e : Arg) → j < length (args_of old)
    → bytes_eq (slice_index_or (args_of old) j e).id.now a.id.now ≡ true → j ≡ k =
    λ j e low eq. only_place old rules k r same o.sole j e low (rw (← id) eq) in
    let own : IsAuto a → ⊥ = λ auto. o.own (elim auto [ inl h ↦ inl (sym id ∙ h) | inr h ↦ inr (sym id ∙ h) ]) in
    record {
      no_groups = (p.from.same_groups no_groups).1 ∙ simple.groups;
      named = λ empty. o.named (sym id ∙ empty);
      set = ap (λ (x : Rule). x.action) is ∙ o.action;
      one = subst (λ (n : ℕ). 1 ≤ n) (sym least) (omega arith);
      whole = (simple.args k d lt).delimiter;
      parser = ap (λ (x : Rule). x.parser) is ∙ o.parser;
      known = same_rules_by_id old m p k d lt only own;
    }

-- what a rule says of its option in the matches
pub option_holds : (old : Command) (m : ArgMatches) → IsParsedFrom old m → IsSimple old → NamesNoGroup old
    → (rules : List Rule) (k : ℕ) (q : ValueParser) (r : Rule) → rules_of old ≡ rules → IsOption rules k q r
    → HoldsText (found_of m) r.id q r.ignore_case
option_holds old m p simple no_groups rules k q r same o =
    let count : length (args_of old) ≡ length rules = sym (length-map (args_of old) rule_of) ∙ ap length same in
    let below = o.below in
    let lt : k < length (args_of old) = omega arith in
    let d = some_arg (args_of old) (omega arith) in
    let a = slice_index_or (args_of old) k d in
    let is : rule_of a ≡ r = rule_at old rules k d r same lt ∙ o.at in
    let kept = option_kept old m p simple no_groups rules k q r same o d lt is in
    let defaults : length (items_of a.default_vals) ≡ length r.defaults =
    sym (length-map (items_of a.default_vals) (λ s. s.now)) ∙ ap (λ (x : Rule). length x.defaults) is in
    let wants : 0 < length (items_of a.default_vals) = subst (λ (n : ℕ). 0 < n) (sym defaults) o.defaults in
    let has = default_present old m p simple.globals k d lt ((simple.args k d lt).default_ifs, wants) in
    let parsed = p.parsed (p.from.globals ∙ simple.globals) in
    let held = found_holds p.built (found_of m) a q kept parsed.values has in
    subst (λ (x : Rule). HoldsText (found_of m) x.id q x.ignore_case) is held
