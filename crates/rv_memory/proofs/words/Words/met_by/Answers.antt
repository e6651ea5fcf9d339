use Rattle.std.proofs.Common.{inl, inr, sym, subst, arith, List, Contains, Some}
use Rattle.rv_memory.specs.Words.{IsMet}
use Rattle.rv_memory.specs.declared.words.Word.{Word}
use Rattle.rv_memory.proofs.Placed.{from-start, from-next, from-end, none-there}
use Rattle.rv_memory.proofs.Placed.{other-of, other-meets, other-lowest, other-apart}
use Rattle.rv_memory.proofs.words.Words.met_by.Goals.{else-offset-within-via-then-offset-within+else-within-offset}
use Rattle.rv_memory.proofs.words.Words.met_by.Goals.{else-offset-within-via-else-offset-within}
use Rattle.rv_memory.proofs.words.Words.met_by.Goals as goal

pub offsets-init : goal.offsets-init
offsets-init c = from-start c.self.invariant c.args.word c.requires.size c.requires.aligned

pub offsets-preserved-in_default : goal.offsets-preserved-in_default
offsets-preserved-in_default c =
    from-next c.self.invariant c.args.word c.requires.size c.requires.aligned c.offsets.offset c.offsets.invariant
    (λ x cx m. none-there c.self.invariant _ c.in_default.ensures.value x cx)

pub index-other-requires : goal.index-other-requires
index-other-requires c =
    let there = (c.self.invariant.there _ _ c.args.word (sym c.in-Some.ensures.value)).0 in
    let long = c.self.inside.all.ok.0 in
    omega (there, long, arith)

pub returns-then-within-offset : goal.returns-then-within-offset
returns-then-within-offset c =
    let other : Word = c.index-other.result.now in
    let k = c.in-Some.number.now in
    subst (λ (words : List Word). IsMet words c.args.word (Some other)) c.self.view_is (
      other-of c.self.invariant c.args.word c.requires.size c.requires.aligned c.offsets.offset k
          c.in-Some.ensures.value other (sym c.index-other.ensures),
      other-meets c.self.invariant c.args.word c.requires.size c.requires.aligned c.offsets.offset k
          c.in-Some.ensures.value other (sym c.index-other.ensures) c.if-offset-within.true c.if-within-offset.true,
      other-lowest c.self.invariant c.args.word c.requires.size c.requires.aligned c.offsets.offset k
          c.in-Some.ensures.value other (sym c.index-other.ensures) c.offsets.invariant,
    )

pub offsets-preserved : goal.offsets-preserved
offsets-preserved c =
    let other : Word = c.index-other.result.now in
    let k = c.in-Some.number.now in
    from-next c.self.invariant c.args.word c.requires.size c.requires.aligned c.offsets.offset c.offsets.invariant
    (other-apart c.self.invariant c.args.word c.requires.size c.requires.aligned c.offsets.offset k
    c.in-Some.ensures.value other (sym c.index-other.ensures)
    (elim c.else-offset-within.branch [
      | else-offset-within-via-then-offset-within+else-within-offset w ↦
          inr (λ low. let not = w.if-within-offset.false in absurd (omega (not, low, arith)))
      | else-offset-within-via-else-offset-within w ↦
          inl (λ low. let not = w.if-offset-within.false in absurd (omega (not, low, arith)))
    ]))

pub returns : goal.returns
returns c = λ x cx m.
    let high = c.offsets-test.false in
    from-end c.self.invariant c.args.word c.requires.size c.requires.aligned c.offsets.offset (omega (high, arith))
    c.offsets.invariant x (subst (λ (words : List Word). Contains words x) (sym c.self.view_is) cx) m
