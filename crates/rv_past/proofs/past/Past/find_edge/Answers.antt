-- Each edge that is told leads there, and where none is told there is none.
use Rattle.std.proofs.Common.{◌≡◌, ◌∙◌, List, MatchOption, None, Option, Some, nat_eq, refl, subst, sym}
use Rattle.std.proofs.lemmas.Bool.{false≢true}
use Rattle.std.specs.HashMap.{get}
use Rattle.std.specs.Option.{option_copied}
use Rattle.rv_event.specs.declared.event.Event.{Event}
use Rattle.rv_past.proofs.Told.{tells, tells_awaited, tells_late, tells_load, tells_store, told-awaited, told-late}
use Rattle.rv_past.proofs.Told.{told-load, told-store}
use Rattle.rv_past.specs.Before.{ComesBefore, IsEdgeTo, IsFree}
use Rattle.rv_past.specs.Gone.{AreGone, IsLate, IsLateBy, same_version}
use Rattle.rv_past.specs.declared.edge.PastEdge.{PastEdge}
use Rattle.rv_past.proofs.past.Past.find_edge.Goals as goal

pub returns-then-is_loaded_below : goal.returns-then-is_loaded_below
returns-then-is_loaded_below c = λ gone are free.
    let is = c.is_loaded_below.ensures.0 c.if-is_loaded_below.true in
    rw c.version-version.ensures
    (told-load gone (get nat_eq c.args.self.now.newest) (get same_version c.args.self.now.awaited) are
    (option_copied c.args.lr) c.args.event.now is.0 is.1)

pub returns-then-is_stored_below : goal.returns-then-is_stored_below
returns-then-is_stored_below c = λ gone are free.
    let is = c.is_stored_below.ensures.0 c.if-is_stored_below.true in
    rw c.version-version-then-is_stored_below.ensures
    (told-store gone (get nat_eq c.args.self.now.newest) (get same_version c.args.self.now.awaited) are
    (option_copied c.args.lr) c.args.event.now is.0 is.1)

pub returns-then-is_awaited : goal.returns-then-is_awaited
returns-then-is_awaited c = λ gone are free.
    let is = c.is_awaited.ensures.0 c.if-is_awaited.true in
    told-awaited gone (get nat_eq c.args.self.now.newest) (get same_version c.args.self.now.awaited) are
    (option_copied c.args.lr) c.args.event.now is.0 is.1

pub returns : goal.returns
returns c = λ gone are free. told gone are free (option_copied c.args.lr) refl c.find_late.result c.find_late.ensures
  where
    told : (gone : List Event) → AreGone gone c.args.self.now → IsFree gone c.args.event.now → (o : Option Event) →
        option_copied c.args.lr ≡ o → (found : Option PastEdge) →
        MatchOption found (IsLate c.args.self.now c.args.event.now o → ⊥)
        (IsLateBy c.args.self.now c.args.event.now o) →
        MatchOption found (ComesBefore gone (option_copied c.args.lr) c.args.event.now → ⊥)
        (IsEdgeTo gone (option_copied c.args.lr) c.args.event.now)
    told gone are free None is (Some edge) by = absurd by
    told gone are free (Some r) is (Some edge) by =
        subst (IsEdgeTo gone (option_copied c.args.lr) c.args.event.now) (sym by.1)
        (told-late gone (get nat_eq c.args.self.now.newest) (get same_version c.args.self.now.awaited) are
        (option_copied c.args.lr) c.args.event.now r is by.0)
    told gone are free o is None none = λ before.
        elim (tells gone (get nat_eq c.args.self.now.newest) (get same_version c.args.self.now.awaited) are
        (option_copied c.args.lr) c.args.event.now free before) [
          | tells_load load less ↦ absurd (false≢true (sym c.if-is_loaded_below.false ∙
              c.is_loaded_below.ensures.1 (load, less)))
          | tells_store store less ↦ absurd (false≢true (sym c.if-is_stored_below.false ∙
              c.is_stored_below.ensures.1 (store, less)))
          | tells_awaited store some ↦ absurd (false≢true (sym c.if-is_awaited.false ∙
              c.is_awaited.ensures.1 (store, some)))
          | tells_late r late less ↦ none (subst (IsLate c.args.self.now c.args.event.now) (sym late ∙ is) less)
        ]
