-- What the getters read, in the words of the matches.
use Rattle.rv_cli.proofs.Common.{rules, ◌≡◌, ◌∙◌, ◌≤◌, ◌<◌, ◌^◌, ap, sym, ℕ, List, [], true, false, Option, Some}
use Rattle.rv_cli.proofs.Common.{Result, Ok, codes, subst, option_map, unwrap_or, bytes_eq, ParsesUnsigned}
use Rattle.rv_cli.proofs.Common.{bytes_eq-Decides, ReadsOne, first_of, one_of, raw_values, rows_of, without_minus}
use Rattle.rv_cli.proofs.Common.{Found, signed_reads, first_value-rows, one_text-rows, raw_values-rows, Rvwmo}
use Rattle.rv_cli.proofs.Common.{Ztso, SaysModel, SaysNumber, files_in, HoldsModel, HoldsNumber}
use Rattle.clap.specs.Words.{Text, first_value, matched_of, one_text}

module _ {E : Type 0} (G : Text → Result ℕ E → Type 0)
    (only : (u : Text) (x : Result ℕ E) → G u x → ParsesUnsigned 8 10 u x) where
  read_says : (text : Text) (n : ℕ) → ReadsOne G text (Some n) → SaysNumber (Some text) n
  read_says text n read = (only text (Ok n) read).1

  -- the number of a text that says one of a range
  pub number_read : (low high : ℕ) (f : Found) (id : Text) (r : Option ℕ) → HoldsNumber low high (one_text f id)
      → ((t : Text) → one_text f id ≡ Some t → ReadsOne G t r) → high < 2 ^ 8
      → (n : ℕ) × (r ≡ Some n) × (low ≤ n) × (n ≤ high) × SaysNumber (one_of id (rows_of f)) n
  number_read low high f id r h value fits =
      let text = without_minus h.0 in
      let read = value text h.1 in
      let got = signed_reads E G 8 low high h.0 r read only fits h.2 in
      let says = read_says text got.0 (subst (λ (o : Option ℕ). ReadsOne G text o) got.1 read) in
      let one = sym h.1 ∙ one_text-rows f id in
      (got.0, got.1, got.2, got.3, subst (λ (o : Option Text). SaysNumber o got.0) one says)

-- the files of an answer of `get_strs`
pub files_read : (f : Found) (o : Option (List Text)) → o ≡ option_map raw_values (matched_of f (codes "FILE"))
    → unwrap_or o [] ≡ files_in (rows_of f)
files_read f o e = ap (λ (x : Option (List Text)). unwrap_or x []) (e ∙ raw_values-rows f (codes "FILE"))

pub model_tso : (f : Found) (name : Text) → first_value f (codes "model") ≡ Some name
    → bytes_eq name (codes "tso") ≡ true → SaysModel (first_of (codes "model") (rows_of f)) Ztso
model_tso f name first same = search (first_value-rows, codes, bytes_eq-Decides, rules)

pub model_other : (f : Found) (name : Text) → first_value f (codes "model") ≡ Some name
    → HoldsModel (first_value f (codes "model")) → bytes_eq name (codes "tso") ≡ false
    → SaysModel (first_of (codes "model") (rows_of f)) Rvwmo
model_other f name first holds other = search (first_value-rows, codes, bytes_eq-Decides, rules)
