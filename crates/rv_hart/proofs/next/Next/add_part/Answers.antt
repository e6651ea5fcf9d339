-- Each part adds its events.
use Rattle.rv_hart.proofs.Common.{◌<◌, ◌≤◌, length, sym, ◌∙◌, subst, arith, common_steps, IsMemory, DependsOn}
use Rattle.rv_hart.proofs.Common.{IsIn, IsOfPart, NamedBy, Event, Hart, hart_at}
use Rattle.rv_hart.proofs.CarriedRows.{kept-of, kept-own}
use Rattle.rv_hart.proofs.GrownSets.{low-new, low-old}
use Rattle.rv_hart.proofs.HartFacts.{fits, deps-few, own-deps-few, same_event}
use Rattle.rv_hart.proofs.RuleConditions.{more-none, more-all, more-named}
use Rattle.rv_hart.proofs.TableParts.{read-event, more-number, more-same}
use Rattle.rv_hart.proofs.next.Next.add_part.Goals as goal

pub returns-in-Nothing : goal.returns-in-Nothing
returns-in-Nothing c = rw c.in-Nothing.is (more-none (hart_at c.args.self.now).events c.args.row.now)

pub returns-in-In : goal.returns-in-In
returns-in-In c =
    let h : Hart = hart_at c.args.self.now in
    rw c.in-In.is (more-all (IsIn h c.in-In.name) h.events c.args.row.now c.set.result.now c.join.new.self
    c.set.ensures c.join.ensures)

pub insert-requires : goal.insert-requires
insert-requires c =
    let h : Hart = hart_at c.args.self.now in
    let f = fits c.requires.asked in
    let low : c.in-One.number < length h.events = rw c.in-One.is at c.requires.names in
    let few : length h.events ≤ 4096 = f.known.few in
    omega arith

pub returns-in-One : goal.returns-in-One
returns-in-One c =
    let h : Hart = hart_at c.args.self.now in
    let e : Event = c.args.self.now.event.now in
    let f = fits c.requires.asked in
    let low : c.in-One.number < length h.events = rw c.in-One.is at c.requires.names in
    rw c.in-One.is (more-number f.known c.in-One.number e low c.args.row.now c.insert.new.self c.insert.ensures)

pub add_dependencies-requires-clause-numbers : goal.add_dependencies-requires-clause-numbers
add_dependencies-requires-clause-numbers c = own-deps-few (fits c.requires.asked)

pub add_dependencies-requires-clause-carried : goal.add_dependencies-requires-clause-carried
add_dependencies-requires-clause-carried c =
    kept-own (fits c.requires.asked) c.args.self.now.kept.now.carried c.requires.asked.next.kept.carried.long

pub returns-in-Named : goal.returns-in-Named
returns-in-Named c =
    let e : Event = c.args.self.now.event.now in
    let f = fits c.requires.asked in
    let are = c.requires.asked.next.kept.sets in
    rw c.in-Named.is (more-named f.known e f.hart (low-new f) f.deps c.in-Named.kind _ _ c.args.row.now
    c.add_dependencies.new.row _ are.loads are.stores c.requires.asked.next.kept.carried c.add_dependencies.ensures)

pub at-store-requires : goal.at-store-requires
at-store-requires c = grind (arith, common_steps)

pub add_dependencies-requires-in-NamedBy-clause-numbers : goal.add_dependencies-requires-in-NamedBy-clause-numbers
add_dependencies-requires-in-NamedBy-clause-numbers c =
    let h : Hart = hart_at c.args.self.now in
    let f = fits c.requires.asked in
    let low : c.in-NamedBy.number < length h.events = rw c.in-NamedBy.is at c.requires.names in
    let w : Event = c.at-store.result.now in
    deps-few f.known w (read-event f.known w c.in-NamedBy.number low c.at-store.ensures).0

pub add_dependencies-requires-in-NamedBy-clause-carried : goal.add_dependencies-requires-in-NamedBy-clause-carried
add_dependencies-requires-in-NamedBy-clause-carried c =
    let h : Hart = hart_at c.args.self.now in
    let f = fits c.requires.asked in
    let low : c.in-NamedBy.number < length h.events = rw c.in-NamedBy.is at c.requires.names in
    let w : Event = c.at-store.result.now in
    kept-of f.known w (read-event f.known w c.in-NamedBy.number low c.at-store.ensures).0
    c.args.self.now.kept.now.carried c.requires.asked.next.kept.carried.long

pub returns-in-NamedBy : goal.returns-in-NamedBy
returns-in-NamedBy c =
    let h : Hart = hart_at c.args.self.now in
    let e : Event = c.args.self.now.event.now in
    let f = fits c.requires.asked in
    let low : c.in-NamedBy.number < length h.events = rw c.in-NamedBy.is at c.requires.names in
    let w : Event = c.at-store.result.now in
    let kind = c.in-NamedBy.kind in
    let read = read-event f.known w c.in-NamedBy.number low c.at-store.ensures in
    let are = c.requires.asked.next.kept.sets in
    let named = more-named f.known w (f.known.own w read.0) (low-old f w read.0) (f.known.deps w read.0) kind _ _
    c.args.row.now c.add_dependencies-in-NamedBy.new.row _ are.loads are.stores c.requires.asked.next.kept.carried
    c.add_dependencies-in-NamedBy.ensures in
    rw c.in-NamedBy.is (more-same (λ a. IsMemory a × DependsOn h.events kind w a)
    (IsOfPart h e (NamedBy c.in-NamedBy.number kind)) h.events c.args.row.now c.add_dependencies-in-NamedBy.new.row
    (λ a ca. (
      λ x. (w, read.0, read.1, x.0, x.1),
      λ y. (
        y.3,
        subst (λ (z : Event). DependsOn h.events kind z a)
            (same_event f.known y.0 w y.1 read.0 (y.2 ∙ sym read.1)) y.4,
      ),
    )) named)
