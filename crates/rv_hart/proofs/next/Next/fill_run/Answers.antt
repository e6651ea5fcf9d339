use Rattle.rv_hart.proofs.Common.{◌≡◌, ◌<◌, length, sym, ap, ◌∙◌, arith, false≢true}
use Rattle.rv_hart.proofs.Common.{IsWordLink, Event, hart_at}
use Rattle.rv_hart.proofs.HartFacts.{fits, read_is}
use Rattle.rv_hart.proofs.ReadRuns.{run-few, run-begin, run-plain-store, run-other, run-store}
use Rattle.rv_hart.proofs.ReadRuns.{run-step, run-link, run-end}
use Rattle.rv_hart.proofs.next.Next.fill_run.Goals as goal
use Rattle.rv_hart.proofs.next.Next.fill_run.Goals.{then-not-is_load-via-then-not-is_load}
use Rattle.rv_hart.proofs.next.Next.fill_run.Goals.{then-not-is_load-via-else-not-is_load+then-met-version}

pub at-requires : goal.at-requires
at-requires c =
    let f = fits c.requires.asked in
    let last = c.requires.last in
    let low : last.a.id.seq < length (hart_at c.args.self.now).events = f.known.below last.a last.of_hart in
    let at : last.a.id.seq ≡ c.args.number = last.at in
    omega arith

pub run-init : goal.run-init
run-init c =
    let f = fits c.requires.asked in
    let last = c.requires.last in (
      last,
      ap (λ (x : Event). x.read)
          (sym (read_is f.known last.a c.at.result.now c.args.number last.of_hart last.at c.at.ensures)),
      run-begin f c.requires.asked.memory c.args.number c.args.row.now last c.requires.empty,
    )

pub at-met-requires : goal.at-met-requires
at-met-requires c =
    let f = fits c.requires.asked in
    (run-few f c.requires.asked.memory c.run.invariant.0 c.run.next c.in-Some.number c.run.row c.run.invariant.2
    c.in-Some.is).0

pub returns-then-not-is_load : goal.returns-then-not-is_load
returns-then-not-is_load c =
    let f = fits c.requires.asked in
    let memory = c.requires.asked.memory in
    let last = c.run.invariant.0 in
    elim c.then-not-is_load.branch [
      | then-not-is_load-via-then-not-is_load w ↦
          run-plain-store f memory last c.run.next c.in-Some.number c.run.row c.at-met.result.now c.run.invariant.2
          c.in-Some.is c.at-met.ensures (λ l. false≢true (sym w.if-not-is_load.true ∙ c.is_load.ensures.1 l))
      | then-not-is_load-via-else-not-is_load+then-met-version w ↦
          run-other f memory last c.run.next c.in-Some.number c.run.row c.at-met.result.now c.run.invariant.2
          c.in-Some.is c.at-met.ensures (c.is_load.ensures.0 w.if-not-is_load.false)
          (λ same. w.if-met-version.true (same ∙ c.run.invariant.1))
    ]

pub insert-requires : goal.insert-requires
insert-requires c =
    let f = fits c.requires.asked in
    (run-few f c.requires.asked.memory c.run.invariant.0 c.run.next c.in-Some.number c.run.row c.run.invariant.2
    c.in-Some.is).1

pub returns-then-is_store : goal.returns-then-is_store
returns-then-is_store c =
    let f = fits c.requires.asked in
    run-store f c.requires.asked.memory c.run.invariant.0 c.run.next c.in-Some.number c.run.row
    c.at-met.result.now c.run.invariant.2 c.in-Some.is c.at-met.ensures c.insert.new.self c.insert.ensures
    (c.is_load.ensures.0 c.if-not-is_load.false) (c.if-met-version.false ∙ sym c.run.invariant.1)
    (c.is_store.ensures.0 c.if-is_store.true)

pub run-preserved : goal.run-preserved
run-preserved c =
    let f = fits c.requires.asked in
    let memory = c.requires.asked.memory in
    let last = c.run.invariant.0 in
    let link : IsWordLink (hart_at c.args.self.now).events c.at-met.result.now c.link_at-behind.result =
    run-link f memory last c.run.next c.in-Some.number c.run.row c.at-met.result.now c.run.invariant.2 c.in-Some.is
    c.at-met.ensures c.args.self.now.kept.now.words c.requires.asked.next.kept.words c.link_at-behind.result
    c.link_at-behind.ensures in (
      last,
      c.run.invariant.1,
      run-step f memory last c.run.next c.in-Some.number c.run.row c.at-met.result.now c.run.invariant.2
          c.in-Some.is c.at-met.ensures c.insert.new.self c.insert.ensures
          (c.is_load.ensures.0 c.if-not-is_load.false) (c.if-met-version.false ∙ sym c.run.invariant.1)
          c.link_at-behind.result.previous
          (λ s. false≢true (sym c.if-is_store.false ∙ c.is_store.ensures.1 s)) link.previous,
    )

pub returns : goal.returns
returns c =
    let f = fits c.requires.asked in
    run-end f c.requires.asked.memory c.run.invariant.0 c.run.next c.run.row c.run.invariant.2 c.in_default.is
