use Rattle.rv_cli.proofs.Common.{◌≡◌, ◌≤◌, ◌∙◌, ℕ, Option, ap, sym, subst, arith, codes, unwrap_or}
use Rattle.rv_cli.proofs.Common.{ParsesUnsigned, ExplainsUnsignedError, HasUnsignedDigitsIfOk, one_of, rows_of}
use Rattle.rv_cli.proofs.Common.{SaysNumber}
use Rattle.clap.specs.Words.{found_of}
use Rattle.rv_cli.proofs.Getters.{number_read}
use Rattle.rv_cli.proofs.words.slots_in.Goals as goal

pub returns : goal.returns
returns c =
    let f = found_of c.args.matches.now in
    let got =
    number_read (λ bs r. ParsesUnsigned 8 10 bs r × ExplainsUnsignedError 10 bs r × HasUnsignedDigitsIfOk bs r)
    (λ u x g. g.0) 2 16 f (codes "slots") c.get_one.result c.requires c.get_one.ensures.value (omega arith) in
    let same : got.0 ≡ c.unwrap.result = ap (λ (o : Option ℕ). unwrap_or o 0) (sym got.1 ∙ c.unwrap.ensures) in
    record {
      said = subst (SaysNumber (one_of (codes "slots") (rows_of f))) same got.4;
      range = (subst (λ (n : ℕ). 2 ≤ n) same got.2, subst (λ (n : ℕ). n ≤ 16) same got.3);
    }
