use Rattle.std.proofs.Common.{◌∙◌, nat_eq, sym}
use Rattle.std.proofs.lemmas.Bool.{false≢true, ne_eqb}
use Rattle.std.specs.HashMap.{get}
use Rattle.rv_commits.proofs.Stored.{still-last, stored-last}
use Rattle.rv_commits.proofs.owns.Owns.add.Goals as goal

pub returns-in_ok-insert-clause-added : goal.returns-in_ok-insert-clause-added
returns-in_ok-insert-clause-added c = λ done are.
    stored-last done c.args.instruction.now (get nat_eq c.args.self.now.lasts) (get nat_eq c.insert.new.self)
    (sym c.does_store.ensures ∙ c.if-does_store.true) are c.in_ok-insert.ensures.updates.1
    (λ address apart. c.in_ok-insert.ensures.updates.2 address
    (ne_eqb c.args.instruction.now.address address apart))

pub returns-else-does_store-clause-added : goal.returns-else-does_store-clause-added
returns-else-does_store-clause-added c = λ done are address.
    still-last done c.args.instruction.now address
    (λ to. false≢true (sym c.if-does_store.false ∙ c.does_store.ensures ∙ to.0))
    (get nat_eq c.args.self.now.lasts address) (are address)
