use Rattle.rv_hart.proofs.Common.{◌≡◌, ◌<◌, length, sym, subst, arith, ap, IsApart, IsOperationOf, Event, Hart}
use Rattle.rv_hart.proofs.Common.{hart_at, ◌∙◌, IsLowestBelow, Some, None}
use Rattle.rv_hart.proofs.HartFacts.{fits, read_is}
use Rattle.rv_hart.proofs.Listings.{candidate-operation, lowest-condition, some-condition}
use Rattle.rv_hart.proofs.next.Next.lowest_rule.Goals as goal

pub at-requires : goal.at-requires
at-requires c =
    let h : Hart = hart_at c.args.self.now in
    let f = fits c.requires.asked in
    let o = c.requires.candidate.1 in
    let low : o.a.id.seq < length h.events = f.known.below o.a o.of_hart in
    let at : o.a.id.seq ≡ c.args.number = o.at in
    omega arith

pub lowest_of-requires-clause-met : goal.lowest_of-requires-clause-met
lowest_of-requires-clause-met c =
    let h : Hart = hart_at c.args.self.now in
    let f = fits c.requires.asked in
    let o = c.requires.candidate.1 in
    let same : c.at.result.now ≡ o.a = read_is f.known o.a c.at.result.now c.args.number o.of_hart o.at c.at.ensures in
    subst (IsOperationOf h) (sym same) (candidate-operation f c.requires.asked.memory c.args.number
    c.requires.candidate)

pub lowest_of-requires-clause-apart : goal.lowest_of-requires-clause-apart
lowest_of-requires-clause-apart c =
    let f = fits c.requires.asked in
    let o = c.requires.candidate.1 in
    let same : c.at.result.now ≡ o.a = read_is f.known o.a c.at.result.now c.args.number o.of_hart o.at c.at.ensures in
    subst (IsApart c.args.self.now.kept.now.rows c.args.reads.now) (sym (ap (λ (x : Event). x.id.seq) same ∙ o.at))
    c.requires.apart

pub unreachable-requires : goal.unreachable-requires
unreachable-requires c =
    let h : Hart = hart_at c.args.self.now in
    let e : Event = c.args.self.now.event.now in
    let f = fits c.requires.asked in
    let o = c.requires.candidate.1 in
    let same : c.at.result.now ≡ o.a = read_is f.known o.a c.at.result.now c.args.number o.of_hart o.at c.at.ensures in
    let low = rw c.in-None.is at c.lowest_of.ensures in
    some-condition f c.requires.asked.memory c.args.number c.requires.candidate
    (subst (λ (x : Event). IsLowestBelow h e x 14 None) same low)

pub returns : goal.returns
returns c =
    let h : Hart = hart_at c.args.self.now in
    let e : Event = c.args.self.now.event.now in
    let f = fits c.requires.asked in
    let o = c.requires.candidate.1 in
    let same : c.at.result.now ≡ o.a = read_is f.known o.a c.at.result.now c.args.number o.of_hart o.at c.at.ensures in
    let low = rw c.in-Some.is at c.lowest_of.ensures in
    lowest-condition f c.requires.asked.memory c.args.number c.requires.candidate c.in-Some.rule
    (subst (λ (x : Event). IsLowestBelow h e x 14 (Some c.in-Some.rule)) same low)
