use Rattle.std.proofs.Common.{◌∙◌, sym, subst}
use Rattle.rv_values.proofs.Search.{differs, found-both, found-initial, found-written, is-some}
use Rattle.rv_values.specs.Index.{IsFound}
use Rattle.rv_values.specs.Values.{IsWritten}
use Rattle.rv_values.proofs.index.Index.find.Goals as goal

pub returns-then-ne : goal.returns-then-ne
returns-then-ne c = λ issued performed is.
    found-written issued performed c.args.address c.args.value c.args.initial
    (differs c.args.initial c.args.value (sym c.if-ne.ensures)) c.copied-written.result
    (subst (IsFound (λ v. IsWritten issued performed c.args.address v c.args.value))
    (sym (c.copied-written.ensures ∙ c.get.ensures.value)) (is c.args.address c.args.value))

pub returns-in-Some : goal.returns-in-Some
returns-in-Some c = λ issued performed is.
    found-both issued performed c.args.address c.args.value c.args.initial
    (is-some c.args.initial c.args.value (sym c.if-ne.ensures)) c.in-Some.field-0
    (subst (IsFound (λ v. IsWritten issued performed c.args.address v c.args.value))
    (sym (sym c.in-Some.is ∙ c.copied-written.ensures ∙ c.get.ensures.value)) (is c.args.address c.args.value))

pub returns-in-None : goal.returns-in-None
returns-in-None c = λ issued performed is.
    found-initial issued performed c.args.address c.args.value c.args.initial
    (is-some c.args.initial c.args.value (sym c.if-ne.ensures))
    (subst (IsFound (λ v. IsWritten issued performed c.args.address v c.args.value))
    (sym (sym c.in-None.is ∙ c.copied-written.ensures ∙ c.get.ensures.value)) (is c.args.address c.args.value))
