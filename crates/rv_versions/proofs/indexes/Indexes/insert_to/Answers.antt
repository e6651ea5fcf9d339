use Rattle.rv_versions.proofs.Common.{◌≡◌, ◌∙◌, get_or, set, sym, subst, number_of, rules, AreInserted, AreSame}
use Rattle.rv_versions.proofs.Common.{AreAbsent, no_accesses, together, Accesses}
use Rattle.rv_versions.proofs.Placed.{here_is, from_inserted, from_same, still_in_place, are_inserted, are_same}
use Rattle.rv_versions.proofs.Placed.{absent_here}
use Rattle.rv_versions.proofs.Posted.{on_err, all_same}
use Rattle.rv_versions.proofs.indexes.Indexes.insert_to.Goals.{After-index_mut-accesses, In_ok-insert}
use Rattle.rv_versions.proofs.indexes.Indexes.insert_to.Goals.{In_err-insert}
use Rattle.rv_versions.proofs.indexes.Indexes.insert_to.Goals as goal

here : (c : After-index_mut-accesses) →
    get_or c.place_of.new.words.items c.in_ok-place.place no_accesses ≡ c.index_mut-accesses.result.now
here c = search (here_is, rules)

-- all accesses, before
all : (c : After-index_mut-accesses) → together c.place_of.new.words.items ≡ c.args.self.now
all c = c.place_of.ensures.same ∙ c.self.view_is

pub returns-in_err-place-clause-unchanged : goal.returns-in_err-place-clause-unchanged
returns-in_err-place-clause-unchanged c =
    on_err c.from_residual.result _ (all_same c.args.self.now (together c.place_of.new.words.items) c.args.postings
    (c.place_of.ensures.same ∙ c.self.view_is))

pub insert-requires : goal.insert-requires
insert-requires c =
    let words = c.place_of.new.words.items in
    let r = (goal.at.insert-requires c).After-index_mut-accesses in
    subst (λ (old : Accesses). AreAbsent old c.args.postings) (here r)
    (absent_here (number_of c.place_of.new.places) words c.place_of.ensures.in_place c.args.word c.in_ok-place.place
    c.in_ok-place.ensures.placed c.args.postings
    (subst (λ (old : Accesses). AreAbsent old c.args.postings) (sym (all r)) c.requires.absent))

-- among those to the word
put : (c : In_ok-insert) →
    AreInserted (get_or c.place_of.new.words.items c.in_ok-place.place no_accesses) c.args.postings c.insert.new.self
put c = subst (λ (old : Accesses). AreInserted old c.args.postings c.insert.new.self)
    (sym (here (goal.at.In_ok-insert c).After-index_mut-accesses)) c.in_ok-insert.ensures.inserted

kept : (c : In_err-insert) →
    AreSame (get_or c.place_of.new.words.items c.in_ok-place.place no_accesses) c.args.postings c.insert.new.self
kept c = subst (λ (old : Accesses). AreSame old c.args.postings c.insert.new.self)
    (sym (here (goal.at.In_err-insert c).After-index_mut-accesses)) c.in_err-insert.ensures.unchanged

pub invariant_of-self-in_err-insert : goal.invariant_of-self-in_err-insert
invariant_of-self-in_err-insert c =
    let words = c.place_of.new.words.items in
    let k = c.in_ok-place.place in
    let w = c.insert.new.self in (
      still_in_place (number_of c.place_of.new.places) words c.place_of.ensures.in_place c.args.word k c.args.postings
          w c.in_ok-place.ensures.placed c.requires.to
          (from_same (get_or words k no_accesses) w c.args.postings
          (kept (goal.at.invariant_of-self-in_err-insert c).In_err-insert)),
      c.self.invariant.1,
    )

pub returns-in_err-insert-clause-unchanged : goal.returns-in_err-insert-clause-unchanged
returns-in_err-insert-clause-unchanged c =
    let words = c.place_of.new.words.items in
    let k = c.in_ok-place.place in
    let w = c.insert.new.self in
    let r = (goal.at.returns-in_err-insert-clause-unchanged c).In_err-insert in
    on_err c.from_residual-in_err-insert.result _
    (subst (λ (old : Accesses). AreSame old c.args.postings (together (set words k w)))
    (all (goal.at.In_err-insert r).After-index_mut-accesses)
    (are_same (number_of c.place_of.new.places) words c.place_of.ensures.in_place c.args.word k c.args.postings w
    c.in_ok-place.ensures.placed c.requires.to (kept r)))

pub invariant_of-self-2 : goal.invariant_of-self-2
invariant_of-self-2 c =
    let words = c.place_of.new.words.items in
    let k = c.in_ok-place.place in
    let w = c.insert.new.self in (
      still_in_place (number_of c.place_of.new.places) words c.place_of.ensures.in_place c.args.word k c.args.postings
          w c.in_ok-place.ensures.placed c.requires.to
          (from_inserted (get_or words k no_accesses) w c.args.postings
          (put (goal.at.invariant_of-self-2 c).In_ok-insert)),
      c.self.invariant.1,
    )

pub returns-clause-inserted : goal.returns-clause-inserted
returns-clause-inserted c =
    let words = c.place_of.new.words.items in
    let k = c.in_ok-place.place in
    let w = c.insert.new.self in
    let r = (goal.at.returns-clause-inserted c).In_ok-insert in
    subst (λ (old : Accesses). AreInserted old c.args.postings (together (set words k w)))
    (all (goal.at.In_ok-insert r).After-index_mut-accesses)
    (are_inserted (number_of c.place_of.new.places) words c.place_of.ensures.in_place c.args.word k c.args.postings w
    c.in_ok-place.ensures.placed c.requires.to (put r))
