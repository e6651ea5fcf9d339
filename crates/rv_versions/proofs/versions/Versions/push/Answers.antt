-- The event joins the log and the indexes together.
use Rattle.rv_versions.proofs.Common.{◌≡◌, ◌++◌, ◌∷◌, [], List, None, refl, sym, ap, ◌∙◌, subst, arith}
use Rattle.rv_versions.proofs.Common.{common_steps, event_fault, events, Entry, IsReserved}
use Rattle.rv_versions.proofs.Indexing.{absent, indexes_same}
use Rattle.rv_versions.proofs.Stored.{indexes_are, pushed}
use Rattle.rv_versions.proofs.versions.Versions.push.Goals as goal

pub insert-requires : goal.insert-requires
insert-requires c =
    absent (events c.self.inside.entries.items) c.self.inside.reserved.items c.self.inside.indexes c.args.entry.event
    c.args.reserved c.self.invariant
    (subst (λ (log : List Entry). event_fault (events log) c.args.entry.event ≡ None) (sym c.self.view_is)
    c.requires.sound)

pub invariant_of-self-in-Err : goal.invariant_of-self-in-Err
invariant_of-self-in-Err c =
    let entries = c.self.inside.entries.items in
    let reserved = c.self.inside.reserved.items in
    let sound : event_fault (events entries) c.args.entry.event ≡ None = grind (arith, common_steps) in
    let back : c.pop.new.self.items ≡ reserved = grind (arith, common_steps) in
    indexes_are (events entries) (events c.reserve.new.self.items) reserved c.pop.new.self.items c.insert.new.self
    (ap events (sym c.reserve.ensures.items)) (sym back)
    (indexes_same (events entries) reserved c.self.inside.indexes c.args.entry.event c.args.reserved c.self.invariant
    sound c.insert.new.self c.in-Err.ensures.unchanged)

pub invariant_of-self-2 : goal.invariant_of-self-2
invariant_of-self-2 c =
    let x : Entry = c.args.entry in
    pushed c.self.inside.entries.items c.push_reserved.new.self.items c.self.inside.reserved.items c.push.new.self.items
    c.self.inside.indexes c.insert.new.self x x.event c.args.reserved c.self.invariant
    (subst (λ (log : List Entry). event_fault (events log) x.event ≡ None) (sym c.self.view_is) c.requires.sound)
    (subst (λ (log : List Entry). IsReserved (events log) x.event c.args.reserved) (sym c.self.view_is)
    c.requires.reserved) c.in_default.ensures.inserted (c.push_reserved.ensures.items ∙
    ap (λ (xs : List Entry). xs ++ x ∷ []) c.reserve.ensures.items) refl c.in_ok-push.ensures.items
