-- Each part is asked for an operation.
use Rattle.rv_hart.proofs.Common.{◌<◌, length, sym, ◌∙◌, subst, arith, false≢true, common_steps, DependsOn, IsIn}
use Rattle.rv_hart.proofs.Common.{Event, Hart, hart_at}
use Rattle.rv_hart.proofs.CarriedRows.{kept-of, kept-own}
use Rattle.rv_hart.proofs.GrownSets.{depended-on, low-new, low-old}
use Rattle.rv_hart.proofs.HartFacts.{fits, number-few, same_event}
use Rattle.rv_hart.proofs.TableParts.{row-at, read-event}
use Rattle.rv_hart.proofs.next.Next.has_part.Goals as goal

pub returns-in-Nothing : goal.returns-in-Nothing
returns-in-Nothing c = rw c.in-Nothing.is (λ t. absurd (false≢true t), λ n. absurd n)

pub has-requires : goal.has-requires
has-requires c =
    let f = fits c.requires.asked in
    number-few f.known c.args.met.now c.requires.met.of_hart

pub returns-in-In : goal.returns-in-In
returns-in-In c =
    let h : Hart = hart_at c.args.self.now in
    let f = fits c.requires.asked in
    rw c.in-In.is (row-at f (IsIn h c.in-In.name) c.set.result.now c.has.result c.args.met.now
    c.requires.met.of_hart c.set.ensures c.has.ensures)

pub returns-in-One : goal.returns-in-One
returns-in-One c = grind (arith, common_steps)

pub does_depend-requires : goal.does_depend-requires
does_depend-requires c =
    kept-own (fits c.requires.asked) c.args.self.now.kept.now.carried c.requires.asked.next.kept.carried.long

pub returns-in-Named : goal.returns-in-Named
returns-in-Named c =
    let e : Event = c.args.self.now.event.now in
    let met : Event = c.args.met.now in
    let f = fits c.requires.asked in
    let on = depended-on f.known e f.hart (low-new f) f.deps c.in-Named.kind c.args.self.now.kept.now.carried
    c.requires.asked.next.kept.carried met c.requires.met.of_hart c.requires.met.memory in
    rw c.in-Named.is (
      λ t. (c.requires.met.memory, on.0 (c.does_depend.ensures.0 t)),
      λ p. c.does_depend.ensures.1 (on.1 p.1),
    )

pub at-store-requires : goal.at-store-requires
at-store-requires c = grind (arith, common_steps)

pub does_depend-requires-in-NamedBy : goal.does_depend-requires-in-NamedBy
does_depend-requires-in-NamedBy c =
    let h : Hart = hart_at c.args.self.now in
    let f = fits c.requires.asked in
    let low : c.in-NamedBy.number < length h.events = rw c.in-NamedBy.is at c.requires.names in
    let w : Event = c.at-store.result.now in
    kept-of f.known w (read-event f.known w c.in-NamedBy.number low c.at-store.ensures).0
    c.args.self.now.kept.now.carried c.requires.asked.next.kept.carried.long

pub returns-in-NamedBy : goal.returns-in-NamedBy
returns-in-NamedBy c =
    let h : Hart = hart_at c.args.self.now in
    let f = fits c.requires.asked in
    let low : c.in-NamedBy.number < length h.events = rw c.in-NamedBy.is at c.requires.names in
    let w : Event = c.at-store.result.now in
    let met : Event = c.args.met.now in
    let read = read-event f.known w c.in-NamedBy.number low c.at-store.ensures in
    let on = depended-on f.known w (f.known.own w read.0) (low-old f w read.0) (f.known.deps w read.0)
    c.in-NamedBy.kind c.args.self.now.kept.now.carried c.requires.asked.next.kept.carried met
    c.requires.met.of_hart c.requires.met.memory in
    let says = c.does_depend-in-NamedBy.ensures in
    rw c.in-NamedBy.is (
      λ t. (w, read.0, read.1, c.requires.met.memory, on.0 (says.0 t)),
      λ p. says.1 (on.1 (subst (λ (z : Event). DependsOn h.events c.in-NamedBy.kind z met)
          (same_event f.known p.0 w p.1 read.0 (p.2 ∙ sym read.1)) p.4)),
    )
