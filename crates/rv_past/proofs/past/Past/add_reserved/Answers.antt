use Rattle.std.proofs.Common.{◌∙◌, nat_eq, refl, subst, sym}
use Rattle.std.proofs.lemmas.Bool.{false≢true, ne_eqb}
use Rattle.std.specs.HashMap.{get}
use Rattle.rv_past.proofs.Stored.{grown, same_stores, with_store}
use Rattle.rv_past.specs.Gone.{IsNewest, IsNoted, same_version}
use Rattle.rv_past.proofs.past.Past.add_reserved.Goals as goal

pub returns-else-is_store-clause-added : goal.returns-else-is_store-clause-added
returns-else-is_store-clause-added c = λ gone are.
    let noted = subst (λ v. IsNoted c.args.event.now v (get same_version c.args.self.now.awaited)
    (get same_version c.note_load.new.awaited)) c.version-version.ensures c.note_load.ensures.noted in
    grown gone c.args.event.now (get nat_eq c.args.self.now.newest) (get nat_eq c.args.self.now.newest)
    (get same_version c.args.self.now.awaited) (get same_version c.note_load.new.awaited) are noted
    (same_stores (λ store. false≢true (sym c.if-is_store.false ∙ c.is_store.ensures.1 store)) (λ w. refl))

pub returns-in-Ok-clause-added : goal.returns-in-Ok-clause-added
returns-in-Ok-clause-added c = λ gone are.
    let noted = subst (λ v. IsNoted c.args.event.now v (get same_version c.args.self.now.awaited)
    (get same_version c.note_load.new.awaited)) c.version-version.ensures c.note_load.ensures.noted in
    let was = subst (IsNewest gone c.args.event.now.word) (sym c.newest_of.ensures.value)
    (are.newest_is c.args.event.now.word) in
    grown gone c.args.event.now (get nat_eq c.args.self.now.newest) (get nat_eq c.insert.new.self)
    (get same_version c.args.self.now.awaited) (get same_version c.note_load.new.awaited) are noted
    (with_store c.newest_with-newest.result c.in-Ok.ensures.updates.1 (c.newest_with-newest.ensures gone was)
    (λ w apart. c.in-Ok.ensures.updates.2 w (ne_eqb c.args.event.now.word w apart)))
