use Rattle.rv_hart.proofs.Common.{length, sym, ◌∙◌, subst, false≢true, IsStore}
use Rattle.rv_hart.proofs.Common.{IsLastBelow, IsWordLink, Event, Hart, hart_at}
use Rattle.rv_hart.proofs.HartFacts.{fits}
use Rattle.rv_hart.proofs.WordWalks.{IsReadsWalk, reads-begin, reads-none, reads-few, reads-store, reads-run}
use Rattle.rv_hart.proofs.WordWalks.{reads-link, reads-other, reads-same, reads-end}
use Rattle.rv_hart.proofs.next.Next.fill_different_reads.Goals as goal

pub returns-then-not-is_load : goal.returns-then-not-is_load
returns-then-not-is_load c =
    let f = fits c.requires.asked in
    reads-none f c.requires.asked.memory c.args.row.now c.requires.empty
    (λ s. false≢true (sym c.if-not-is_load.true ∙ c.is_load.ensures.1 s))

pub met-init : goal.met-init
met-init c =
    let h : Hart = hart_at c.args.self.now in
    let e : Event = c.args.self.now.event.now in
    let f = fits c.requires.asked in
    record {
      empty = c.requires.empty;
      walk = reads-begin f c.requires.asked.memory c.last-next.result
          (subst (IsLastBelow h.events e.word (length h.events)) (sym c.last-next.ensures)
          (c.requires.asked.next.kept.words.lasts e.word));
    }

pub at-met-requires : goal.at-met-requires
at-met-requires c =
    let f = fits c.requires.asked in
    (reads-few f c.requires.asked.memory c.met.next c.in-Some.number c.met.invariant.walk c.in-Some.is).0

pub fill_run-requires-clause-last : goal.fill_run-requires-clause-last
fill_run-requires-clause-last c =
    let f = fits c.requires.asked in
    let other = c.is_other_read.ensures.0 c.if-is_other_read.true in
    reads-other f c.requires.asked.memory c.met.next c.in-Some.number c.at-met.result.now c.met.invariant.walk
    c.in-Some.is c.at-met.ensures (c.is_load.ensures.0 c.if-not-is_load.false) other.0 other.1

pub returns-then-is_store : goal.returns-then-is_store
returns-then-is_store c =
    let f = fits c.requires.asked in
    reads-store f c.requires.asked.memory c.met.next c.in-Some.number c.at-met.result.now c.met.invariant.walk
    c.in-Some.is c.at-met.ensures c.met.row c.met.invariant.empty (c.is_store.ensures.0 c.if-is_store.true)
    (λ l other. false≢true (sym c.if-is_other_read.false ∙ c.is_other_read.ensures.1 (l, other)))

pub met-preserved : goal.met-preserved
met-preserved c =
    let f = fits c.requires.asked in
    let memory = c.requires.asked.memory in
    let plain : IsStore c.at-met.result.now → ⊥ =
    λ s. false≢true (sym c.if-is_store.false ∙ c.is_store.ensures.1 s) in
    let link : IsWordLink (hart_at c.args.self.now).events c.at-met.result.now c.link_at-link.result =
    reads-link f memory c.met.next c.in-Some.number c.at-met.result.now c.met.invariant.walk c.in-Some.is
    c.at-met.ensures c.args.self.now.kept.now.words c.requires.asked.next.kept.words c.link_at-link.result
    c.link_at-link.ensures in
    record {
      empty = c.met.invariant.empty;
      walk = reads-run f memory c.met.next c.in-Some.number c.at-met.result.now c.met.invariant.walk c.in-Some.is
          c.at-met.ensures c.link_at-link.result.before_run plain
          (reads-same f memory c.met.next c.in-Some.number c.at-met.result.now c.met.invariant.walk c.in-Some.is
          c.at-met.ensures plain
          (λ l other. false≢true (sym c.if-is_other_read.false ∙ c.is_other_read.ensures.1 (l, other))))
          link.before_run;
    }

pub returns : goal.returns
returns c =
    let f = fits c.requires.asked in
    reads-end f c.requires.asked.memory c.met.row c.met.invariant.empty
    (subst (IsReadsWalk (hart_at c.args.self.now) c.args.self.now.event.now) c.in_default.is c.met.invariant.walk)
