use Rattle.rv_versions.proofs.Common.{◌≡◌, Some, get_or, set, sym, subst, number_of, arith, common_steps}
use Rattle.rv_versions.proofs.Common.{AreRemoved, no_accesses, together, Accesses}
use Rattle.rv_versions.proofs.Placed.{here_is, from_removed, still_in_place, are_removed, none_removed}
use Rattle.rv_versions.proofs.indexes.Indexes.remove_from.Goals.{After-remove}
use Rattle.rv_versions.proofs.indexes.Indexes.remove_from.Goals as goal

number : (c : After-remove) → number_of c.self.inside.places c.args.word ≡ Some c.in-Some.place
number c = sym c.in-Some.ensures

-- from those to the word
taken : (c : After-remove) →
    AreRemoved (get_or c.self.inside.words.items c.in-Some.place no_accesses) c.args.postings c.remove.new.self
taken c =
    let words = c.self.inside.words.items in
    let k = c.in-Some.place in
    subst (λ (old : Accesses). AreRemoved old c.args.postings c.remove.new.self)
    (sym (here_is words k c.index_mut-accesses.result.now no_accesses
    (c.self.invariant.0.numbers.known c.args.word k (number c)) c.index_mut-accesses.ensures.value)) c.remove.ensures

pub returns-in_default : goal.returns-in_default
returns-in_default c = grind (arith, common_steps, none_removed)

pub invariant_of-self : goal.invariant_of-self
invariant_of-self c = search (After-remove, still_in_place, number, from_removed, taken)

pub returns : goal.returns
returns c =
    let r = (goal.at.returns c).After-remove in
    let words = c.self.inside.words.items in
    let k = c.in-Some.place in
    let w = c.remove.new.self in
    subst (λ (all : Accesses). AreRemoved all c.args.postings (together (set words k w))) c.self.view_is
    (are_removed (number_of c.self.inside.places) words c.self.invariant.0 c.args.word k c.args.postings w (number r)
    c.requires (taken r))
