use Rattle.rv_versions.proofs.Common.{arith, common_steps, ◌∙◌, Option, Some, sym, subst, own_postings}
use Rattle.rv_versions.proofs.Common.{postings_of, AreInserted, AreRemoved, AreSame, AreAbsent, Postings}
use Rattle.rv_versions.proofs.Common.{Reservation}
use Rattle.rv_versions.proofs.Posted.{failed, went, absent_pair, both_inserted, undone}
use Rattle.rv_versions.proofs.indexes.Indexes.insert.Goals.{In-Some}
use Rattle.rv_versions.proofs.indexes.Indexes.insert.Goals as goal

put : (c : In-Some) → AreInserted c.args.self.now (own_postings c.args.event.now) c.insert_to.new.self
put c = grind (arith, common_steps)

absent : (c : In-Some) → AreAbsent c.args.self.now (postings_of c.args.event.now (Some c.in-Some.reservation))
absent c = grind (arith, common_steps)

pub insert_to-paired-requires-clause-absent : goal.insert_to-paired-requires-clause-absent
insert_to-paired-requires-clause-absent c =
    let r = (goal.at.insert_to-paired-requires-clause-absent c).In-Some in
    subst (AreAbsent c.insert_to.new.self) (sym c.pair_postings-pair.ensures)
    (absent_pair c.args.event.now c.in-Some.reservation c.args.self.now c.insert_to.new.self (put r) (absent r))

pub returns-then-is_err-clause-unchanged : goal.returns-then-is_err-clause-unchanged
returns-then-is_err-clause-unchanged c =
    let r = (goal.at.returns-then-is_err-clause-unchanged c).In-Some in
    let old = c.args.self.now in
    let mid = c.insert_to.new.self in
    let back = c.insert_to-paired.new.self in
    let new = c.remove_from.new.self in
    subst (λ (o : Option Reservation). AreSame old (postings_of c.args.event.now o) new) (sym c.in-Some.is)
    (undone c.args.event.now c.in-Some.reservation old mid (put r) (absent r) back new
    (subst (λ (p : Postings). AreSame mid p back) c.pair_postings-pair.ensures
    (failed c.insert_to-paired.result _ (sym c.is_err.ensures.value ∙ c.if-is_err.true)
    c.insert_to-paired.ensures.unchanged))
    (subst (λ (p : Postings). AreRemoved back p new) c.own_postings-own.ensures c.remove_from.ensures))

pub returns-clause-inserted : goal.returns-clause-inserted
returns-clause-inserted c =
    let r = (goal.at.returns-clause-inserted c).In-Some in
    let old = c.args.self.now in
    let mid = c.insert_to.new.self in
    let new = c.insert_to-paired.new.self in
    subst (λ (o : Option Reservation). AreInserted old (postings_of c.args.event.now o) new) (sym c.in-Some.is)
    (both_inserted c.args.event.now c.in-Some.reservation old mid (put r) (absent r) new
    (subst (λ (p : Postings). AreInserted mid p new) c.pair_postings-pair.ensures
    (went c.insert_to-paired.result _ (sym c.is_err.ensures.value ∙ c.if-is_err.false)
    c.insert_to-paired.ensures.inserted)))
