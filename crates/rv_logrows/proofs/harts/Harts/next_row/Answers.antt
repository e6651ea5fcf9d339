use Rattle.std.proofs.Common.{◌++◌, inr, subst}
use Rattle.rv_commits.specs.Queues.{IsAtRest, IsGiven, IsRowRefused}
use Rattle.rv_commits.specs.Settled.{is_ended}
use Rattle.rv_logrows.proofs.Placed.{err-map, given-map, hart-at, one-changed}
use Rattle.rv_logrows.specs.Harts.{Gives, IsGivenBy, IsHartRefused}
use Rattle.rv_commits.specs.declared.queue.WaitingHart.{WaitingHart}
use Rattle.rv_logrows.proofs.harts.Harts.next_row.Goals as goal

pub returns-clause-given : goal.returns-clause-given
returns-clause-given c = λ issued more performed later is grow at.
    given-map (IsGiven (issued ++ more) (performed ++ later) c.args.initial c.index_mut.result.now c.next_row.new.self)
    (IsGivenBy (issued ++ more) (performed ++ later) c.args.initial c.args.hart c.args.self.now.all.items _)
    (λ event given. one-changed (Gives (issued ++ more) (performed ++ later) c.args.initial event)
    c.args.self.now.all.items c.args.hart c.index_mut.result.now c.next_row.new.self c.requires.harts
    c.if-hart-gt15.false c.index_mut.ensures.value (given, c.next_row.ensures.rows, c.next_row.ensures.owns))
    c.next_row.result (c.next_row.ensures.given issued more performed later is grow at)

pub returns-clause-waits : goal.returns-clause-waits
returns-clause-waits c = λ issued performed is at none. inr (λ d.
    subst (λ (h : WaitingHart). IsAtRest issued performed c.args.initial (is_ended c.args.stage.now) h.queue.items)
    (hart-at c.args.self.now.all.items c.args.hart c.index_mut.result.now d c.requires.harts c.if-hart-gt15.false
    c.index_mut.ensures.value)
    (c.next_row.ensures.waits issued performed is at none).0)

pub returns-clause-refused : goal.returns-clause-refused
returns-clause-refused c = λ issued performed is at.
    err-map (IsRowRefused issued performed c.args.initial c.index_mut.result.now.queue.items)
    (IsHartRefused issued performed c.args.initial c.args.hart c.args.self.now.all.items)
    (λ fault refused. (
      c.if-hart-gt15.false,
      λ d. subst (λ (h : WaitingHart). IsRowRefused issued performed c.args.initial h.queue.items fault)
          (hart-at c.args.self.now.all.items c.args.hart c.index_mut.result.now d c.requires.harts
          c.if-hart-gt15.false c.index_mut.ensures.value) refused,
    )) c.next_row.result (c.next_row.ensures.refused issued performed is at)
