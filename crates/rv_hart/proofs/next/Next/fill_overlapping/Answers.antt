use Rattle.rv_hart.proofs.Common.{◌≡◌, length, sym, ◌∙◌, subst, ℕ, Option, Some, arith, false≢true, common_steps}
use Rattle.rv_hart.proofs.Common.{IsStore, Event, Hart, hart_at, IsLastBelow, IsWordLink}
use Rattle.rv_hart.proofs.HartFacts.{fits, read_is}
use Rattle.rv_hart.proofs.WordWalks.{IsOverlapWalk, named-low, read_link, overlap-begin, overlap-none}
use Rattle.rv_hart.proofs.WordWalks.{overlap-step, overlap-store, overlap-end}
use Rattle.rv_hart.proofs.next.Next.fill_overlapping.Goals as goal

pub returns-then-not-is_store : goal.returns-then-not-is_store
returns-then-not-is_store c =
    let f = fits c.requires.asked in
    overlap-none f c.requires.asked.memory c.args.row.now c.requires.empty
    (λ s. false≢true (sym c.if-not-is_store.true ∙ c.is_store.ensures.1 s))

pub met-init : goal.met-init
met-init c =
    let h : Hart = hart_at c.args.self.now in
    let e : Event = c.args.self.now.event.now in
    let f = fits c.requires.asked in
    overlap-begin f c.requires.asked.memory c.args.row.now c.last-next.result c.requires.empty
    (subst (IsLastBelow h.events e.word (length h.events)) (sym c.last-next.ensures)
    (c.requires.asked.next.kept.words.lasts e.word))

pub insert-requires : goal.insert-requires
insert-requires c =
    let h : Hart = hart_at c.args.self.now in
    let e : Event = c.args.self.now.event.now in
    let f = fits c.requires.asked in
    let walk : IsOverlapWalk h e (Some c.in-Some.number) c.met.row =
    subst (λ (o : Option ℕ). IsOverlapWalk h e o c.met.row) c.in-Some.is c.met.invariant in
    (named-low f.known e.word (length h.events) c.in-Some.number walk.names).1

pub at-met-requires : goal.at-met-requires
at-met-requires c = grind (arith, common_steps)

pub returns-then-is_store : goal.returns-then-is_store
returns-then-is_store c =
    let h : Hart = hart_at c.args.self.now in
    let e : Event = c.args.self.now.event.now in
    let f = fits c.requires.asked in
    let walk : IsOverlapWalk h e (Some c.in-Some.number) c.met.row =
    subst (λ (o : Option ℕ). IsOverlapWalk h e o c.met.row) c.in-Some.is c.met.invariant in
    let a : Event = walk.names.1.a in
    let ca = walk.names.1.of_list in
    let same : c.at-met.result.now ≡ a =
    read_is f.known a c.at-met.result.now c.in-Some.number ca walk.names.1.at c.at-met.ensures in
    let store : IsStore a = subst IsStore same (c.is_store-in-Some.ensures.0 c.if-is_store.true) in
    overlap-store f c.requires.asked.memory (c.is_store.ensures.0 c.if-not-is_store.false) c.in-Some.number
    c.met.row c.insert.new.self a walk ca walk.names.1.at store c.insert.ensures

pub met-preserved : goal.met-preserved
met-preserved c =
    let h : Hart = hart_at c.args.self.now in
    let e : Event = c.args.self.now.event.now in
    let f = fits c.requires.asked in
    let walk : IsOverlapWalk h e (Some c.in-Some.number) c.met.row =
    subst (λ (o : Option ℕ). IsOverlapWalk h e o c.met.row) c.in-Some.is c.met.invariant in
    let a : Event = walk.names.1.a in
    let ca = walk.names.1.of_list in
    let link : IsWordLink h.events a c.link_at-link.result =
    read_link h.events c.args.self.now.kept.now.words c.requires.asked.next.kept.words a c.link_at-link.result
    c.in-Some.number ca walk.names.1.holds.0 (f.known.below a ca) walk.names.1.at c.link_at-link.ensures in
    overlap-step f c.requires.asked.memory (c.is_store.ensures.0 c.if-not-is_store.false) c.in-Some.number c.met.row
    c.insert.new.self a c.link_at-link.result.previous walk ca walk.names.1.at c.insert.ensures link.previous

pub returns : goal.returns
returns c =
    let h : Hart = hart_at c.args.self.now in
    let e : Event = c.args.self.now.event.now in
    let f = fits c.requires.asked in
    overlap-end f c.requires.asked.memory (c.is_store.ensures.0 c.if-not-is_store.false) c.met.row
    (subst (λ (o : Option ℕ). IsOverlapWalk h e o c.met.row) c.in_default.is c.met.invariant)
