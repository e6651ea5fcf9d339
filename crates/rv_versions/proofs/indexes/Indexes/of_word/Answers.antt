use Rattle.rv_versions.proofs.Common.{◌≡◌, Some, get_or, sym, subst, number_of, no_accesses, AreThoseTo}
use Rattle.rv_versions.proofs.Common.{Accesses}
use Rattle.rv_versions.proofs.Placed.{are_to_word, none_to_word, here_is}
use Rattle.rv_versions.proofs.indexes.Indexes.of_word.Goals as goal

pub returns-in-Some : goal.returns-in-Some
returns-in-Some c =
    let words = c.self.inside.words.items in
    let k = c.in-Some.place in
    let word = c.args.word in
    let in_place = c.self.invariant.0 in
    let known : number_of c.self.inside.places word ≡ Some k = sym c.in-Some.ensures in
    subst (AreThoseTo c.args.self.now word)
    (here_is words k c.index.result.now no_accesses (in_place.numbers.known word k known) c.index.ensures)
    (subst (λ (all : Accesses). AreThoseTo all word (get_or words k no_accesses)) c.self.view_is
    (are_to_word (number_of c.self.inside.places) words in_place word k known))

pub returns-in-None : goal.returns-in-None
returns-in-None c = subst (AreThoseTo c.args.self.now c.args.word) (sym c.self.invariant.1)
    (subst (λ (all : Accesses). AreThoseTo all c.args.word no_accesses) c.self.view_is
    (none_to_word (number_of c.self.inside.places) c.self.inside.words.items c.self.invariant.0 c.args.word
    (sym c.in-None.ensures)))
