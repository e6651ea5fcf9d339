use Rattle.rv_versions.proofs.Common.{Option, sym, subst, postings_of, AreRemoved, Postings, Reservation}
use Rattle.rv_versions.proofs.Posted.{both_removed}
use Rattle.rv_versions.proofs.indexes.Indexes.remove.Goals as goal

pub returns-in-Some : goal.returns-in-Some
returns-in-Some c =
    let old = c.args.self.now in
    let mid = c.remove_from.new.self in
    let new = c.remove_from-in-Some.new.self in
    subst (λ (o : Option Reservation). AreRemoved old (postings_of c.args.event.now o) new) (sym c.in-Some.is)
    (both_removed c.args.event.now c.in-Some.reservation old mid new
    (subst (λ (p : Postings). AreRemoved old p mid) c.own_postings.ensures c.remove_from.ensures)
    (subst (λ (p : Postings). AreRemoved mid p new) c.pair_postings.ensures c.remove_from-in-Some.ensures))
