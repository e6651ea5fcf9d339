-- What the entry of an option holds, where the arguments with its id keep the rules of one.
use Rattle.rv_cli.proofs.Common.{common_steps, rules, ◌≡◌, ◌∙◌, ◌<◌, ◌≤◌, zero, suc, ℕ, Bool, true, false, List}
use Rattle.rv_cli.proofs.Common.{[], ◌∷◌, length, Some, None, refl, sym, ap, subst, inl, inr, arith, find}
use Rattle.rv_cli.proofs.Common.{option_map, slice_get, Bor, All, slice_index_or, bytes_eq, All-get_or}
use Rattle.rv_cli.proofs.Common.{bytes_eq-Decides, SameRules, Entry, EntryPasses, HasId, HasIn, HasReading}
use Rattle.rv_cli.proofs.Common.{PassesArg, ValuesPass, args_of, groups_of, least_values, Accepts, read_as}
use Rattle.rv_cli.proofs.Common.{reading_of, Count, Set, Arg, Command, Reading, ValueParser, Found, MatchedArg}
use Rattle.rv_cli.proofs.Common.{entry_by_id}
use Rattle.clap.specs.Matches.{first_value, matched_of, one_text}
use Rattle.clap.specs.Walk.{Text}

abbrev has_id : Text → Entry → Bool
has_id id e = bytes_eq e.0.now id

-- an entry with the id is found in the list
abbrev IsFoundIn : List Entry → Text → Type 0
IsFoundIn xs id = (x : MatchedArg) × (option_map (λ e. e.1) (find (has_id id) xs) ≡ Some x)

found_in : (xs : List Entry) (id : Text) → HasIn xs id → IsFoundIn xs id
found_in [] id h = absurd (omega (arith, h.1))
found_in (e ∷ es) id h = go (has_id id e) refl (λ rest. found_in es id rest)
  where
    later : (i : ℕ) → i < length (e ∷ es) → ((d : Entry) → has_id id (slice_index_or (e ∷ es) i d) ≡ true)
        → has_id id e ≡ false → HasIn es id
    later zero lt at other = let bad : false ≡ true = rw other at (at e) in cc
    later (suc j) lt at other = (j, omega arith, at)

    go : (b : Bool) → has_id id e ≡ b → (HasIn es id → IsFoundIn es id) → IsFoundIn (e ∷ es) id
    go true b rec = (e.1, rw b refl)
    go false b rec = let rest = rec (later h.0 h.1 h.2 b) in (rest.0, rw b rest.1)

-- the first of a list of which all pass
first_passes : (P : Bor Text → Type 0) (vs : List (Bor Text)) → 0 < length vs → All P vs
    → (v : Bor Text) × (slice_get vs 0 ≡ Some v) × P v
first_passes P [] lt all = absurd (omega arith)
first_passes P (v ∷ vs) lt all = (v, refl, All-get_or P (v ∷ vs) 0 v (omega arith) all)

-- the id has a text that the parser takes, and the getters read it
abbrev pub HoldsText : Found → Text → ValueParser → Bool → Type 0
HoldsText f id q ignore_case = (text : Text) × (one_text f id ≡ Some (read_as (reading_of q) text))
    × (first_value f id ≡ Some text) × Accepts ignore_case q text

-- the text of an entry, as the getters read it
text_at : (f : Found) (id : Text) (x : MatchedArg) (how : Reading) (v : Bor Text) → matched_of f id ≡ Some x
    → slice_get x.vals.items 0 ≡ Some v → x.reading ≡ how
    → (one_text f id ≡ Some (read_as how v.now)) × (first_value f id ≡ Some v.now)
text_at f id x how v found first is = (rw (found, first, is) refl, rw (found, first) refl)

-- each argument with the id of a keeps its rules, and a takes one value by the parser q
pub record Kept (c : Command) (a : Arg) (q : ValueParser) : Type 0 where
  pub no_groups : groups_of c ≡ []
  pub named : a.id.now ≡ [] → ⊥
  pub set : a.action ≡ Some Set
  pub one : 1 ≤ least_values a
  pub whole : a.val_delim ≡ None
  pub parser : a.value_parser ≡ Some q
  pub known : (j : ℕ) (y : Arg) → j < length (args_of c) → slice_index_or (args_of c) j y ≡ y
      → bytes_eq y.id.now a.id.now ≡ true → SameRules a y

accepted : (c : Command) (a : Arg) (q : ValueParser) (text : Text) → Kept c a q → PassesArg c a.id.now text
    → Accepts a.ignore_case q text
accepted c a q text k pass = search rules

read_so : (c : Command) (a : Arg) (q : ValueParser) (how : Reading) → Kept c a q → HasReading c a.id.now how
    → how ≡ reading_of q
read_so c a q how k any = search rules

entry_holds : (c : Command) (a : Arg) (q : ValueParser) (e : Entry) → Kept c a q → e.0.now ≡ a.id.now → EntryPasses c e
    → (v : Bor Text) × (slice_get e.1.vals.items 0 ≡ Some v) × (e.1.reading ≡ reading_of q)
    × Accepts a.ignore_case q v.now
entry_holds c a q e k key pass =
    let alone : e.1.is_group ≡ true → ⊥ = grind (arith, common_steps) in
    let all : All (λ v. PassesArg c a.id.now v.now) e.1.vals.items = elim pass.0 [
      | inl g ↦ absurd (alone g)
      | inr vals ↦ subst (λ (w : Text). All (λ v. PassesArg c w v.now) e.1.vals.items) key vals
    ] in
    let filled : 0 < length e.1.vals.items = elim pass.1 [
      | inl g ↦ absurd (alone g.0)
      | inr (inl some) ↦ some
      | inr (inr (inl count)) ↦
          let any = count.1 in
          let rules = k.known any.0 any.1 any.2 any.3 (rw key at any.4.0) in
          let bad : Set ≡ Count = rw (rules.action Set k.set) at any.4.1 in
          cc
      | inr (inr (inr any)) ↦
          let rules = k.known any.0 any.1 any.2 any.3 (rw key at any.4.0) in
          elim any.4.1 [
            | inl none ↦ let one = rules.least k.set k.one in absurd (omega arith)
            | inr split ↦ let bad : false ≡ true = rw (rules.val_delim, k.whole) at split in cc
          ]
    ] in
    let how : e.1.reading ≡ reading_of q = elim pass.4 [
      | inl g ↦ absurd (alone g)
      | inr any ↦ read_so c a q e.1.reading k (subst (λ (w : Text). HasReading c w e.1.reading) key any)
    ] in
    let first = first_passes (λ v. PassesArg c a.id.now v.now) e.1.vals.items filled all in
    (first.0, first.1, how, accepted c a q first.0.now k first.2)

-- where there is an entry with the id, it holds such a text
pub found_holds : (c : Command) (f : Found) (a : Arg) (q : ValueParser) → Kept c a q → ValuesPass c f
    → HasId f a.id.now → HoldsText f a.id.now q a.ignore_case
found_holds c f a q k values has = go (found_in f.entries.items a.id.now has)
  where
    at : (x : MatchedArg) → matched_of f a.id.now ≡ Some x
        → ((e : Entry) × (e.1 ≡ x) × (has_id a.id.now e ≡ true) × EntryPasses c e)
        → HoldsText f a.id.now q a.ignore_case
    at x found got =
        let holds = entry_holds c a q got.0 k ((bytes_eq-Decides got.0.0.now a.id.now).0 got.2) got.3 in
        let same : Some x ≡ Some got.0.1 = ap (λ (y : MatchedArg). Some y) (sym got.1) in
        let text = text_at f a.id.now got.0.1 (reading_of q) holds.0 (found ∙ same) holds.1 holds.2 in
        (holds.0.now, text.0, text.1, holds.3)

    go : IsFoundIn f.entries.items a.id.now → HoldsText f a.id.now q a.ignore_case
    go found = at found.0 found.1 (entry_by_id (EntryPasses c) f.entries.items a.id.now found.0 values found.1)
