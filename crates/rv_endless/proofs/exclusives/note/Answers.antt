-- One event more changes what is known of its own hart alone.
use Rattle.rv_endless.proofs.LastForgotten.{stays-of}
use Rattle.rv_endless.specs.Exclusives.{IsLastOf}
use Rattle.rv_endless.specs.declared.exclusives.Exclusive.{Exclusive}
use Rattle.std.proofs.Common.{None, Option, arith, inl, inr, subst, sym, ℕ, [], ◌++◌, ◌∙◌, ◌∷◌}
use Rattle.std.proofs.lemmas.Bool.{cases_eq, false≢true}
use Rattle.std.proofs.lemmas.Grind.{get_or-set_at}
use Rattle.std.proofs.lemmas.List.{get_or-set_other}
use Rattle.rv_endless.proofs.exclusives.note.Goals.{else-hart-lt16-via-else-hart-lt16}
use Rattle.rv_endless.proofs.exclusives.note.Goals.{else-hart-lt16-via-then-hart-lt16+else-is_exclusive}
use Rattle.rv_endless.proofs.exclusives.note.Goals as goal

pub returns-then-is_exclusive : goal.returns-then-is_exclusive
returns-then-is_exclusive c = λ gone low are hart. elim (cases_eq hart c.args.event.now.id.hart) [
  | inl own ↦
      subst (λ (o : Option Exclusive). IsLastOf (gone ++ c.args.event.now ∷ []) hart o)
      (sym (get_or-set_at c.args.last.now c.args.event.now.id.hart hart c.later.result None own
      (let long = c.later.array_long in omega (arith, long, low))))
      (subst (λ (h : ℕ). IsLastOf (gone ++ c.args.event.now ∷ []) h c.later.result) (sym own)
      (c.later.ensures gone (sym c.is_exclusive.ensures ∙ c.if-is_exclusive.true) (are c.args.event.now.id.hart)))
  | inr apart ↦
      subst (λ (o : Option Exclusive). IsLastOf (gone ++ c.args.event.now ∷ []) hart o)
      (sym (get_or-set_other c.args.last.now c.args.event.now.id.hart hart c.later.result None apart))
      (stays-of gone c.args.event.now hart _ (λ is. apart (sym is.own)) (are hart))
]

pub returns-else-hart-lt16 : goal.returns-else-hart-lt16
returns-else-hart-lt16 c = elim c.else-hart-lt16.branch [
  | else-hart-lt16-via-then-hart-lt16+else-is_exclusive w ↦ λ gone low are hart.
      stays-of gone c.args.event.now hart _
      (λ is. false≢true (sym w.if-is_exclusive.false ∙ w.is_exclusive.ensures ∙ is.exclusive)) (are hart)
  | else-hart-lt16-via-else-hart-lt16 w ↦ λ gone low are hart.
      absurd (let high = w.if-hart-lt16.false in omega (arith, high, low))
]
