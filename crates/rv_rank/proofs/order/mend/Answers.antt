use Rattle.rv_rank.proofs.Common.{arith, length, false, ℕ, ◌≡◌, ◌<◌, sym, ◌∙◌, refl}
use Rattle.rv_rank.proofs.Common.{slot_in, members_of, false≢true, count_below}
use Rattle.std.proofs.lemmas.Bool.{false_from_ne_true}
use Rattle.rv_rank.proofs.Slots.{below_yes, below_strict, below_none, below_few, members_of-long}
use Rattle.rv_rank.proofs.Slots.{IsMended-all, IsMended-more, below_jump}
use Rattle.rv_rank.proofs.order.mend.Goals as goal

pub slots-init : goal.slots-init
slots-init c =
    let found = c.args.found.now in
    let lacks : (k : ℕ) → k < found.low → slot_in found k ≡ false =
    λ k l. false_from_ne_true (slot_in found k) (λ e. omega (arith, (c.requires.roster.slots k e).0, l)) in
    record {
      mended = record {
        long_nodes = refl;
        long_ranks = refl;
        filled = λ k l e. absurd (false≢true (sym (lacks k l) ∙ e));
        spared = λ k l e. refl;
        ahead = λ k l. refl;
        others = λ a n. refl;
      };
      next = sym (below_none (slot_in found) found.low lacks);
      within = c.requires.roster.few;
    }

pub member-node-requires-clause-place : goal.member-node-requires-clause-place
member-node-requires-clause-place c =
    let slot = slot_in c.args.found.now in
    let first = c.in-Some.ensures in
    let s = c.in-Some.slot in
    let jump = below_jump slot c.slots.rank s first.0 first.2 in
    let below = (c.requires.roster.slots s first.1).1 in
    let few = below_strict slot s (length c.args.nodes.now) first.1 below in
    omega (arith, c.slots.invariant.next, jump, few, c.requires.roster.count)

pub bounds-ranks-node : goal.bounds-ranks-node
bounds-ranks-node c =
    let slot = slot_in c.args.found.now in
    let nodes = c.args.nodes.now in
    let first = c.in-Some.ensures in
    let s = c.in-Some.slot in
    let jump = below_jump slot c.slots.rank s first.0 first.2 in
    let below = (c.requires.roster.slots s first.1).1 in
    let few = below_strict slot s (length nodes) first.1 below in
    let long = members_of-long c.args.visits.now c.args.found.now.split (length nodes) c.requires.roster.split in
    let placed = c.requires.roster.placed c.slots.next 0 (omega (
      arith,
      c.slots.invariant.next,
      jump,
      few,
      long,
      c.requires.roster.count,
    )) in
    omega (arith, placed, c.member-node.ensures, c.slots.invariant.mended.long_ranks)

pub overflow_add-next : goal.overflow_add-next
overflow_add-next c =
    let few = below_few (slot_in c.args.found.now) c.slots.rank in
    omega (arith, c.slots.invariant.next, c.slots.invariant.within, few, c.requires.small)

pub slots-preserved : goal.slots-preserved
slots-preserved c =
    let slot = slot_in c.args.found.now in
    let nodes = c.args.nodes.now in
    let members = members_of c.args.visits.now c.args.found.now.split (length nodes) in
    let inv = c.slots.invariant in
    let first = c.in-Some.ensures in
    let s = c.in-Some.slot in
    let jump = below_jump slot c.slots.rank s first.0 first.2 in
    let count : c.slots.next ≡ count_below slot s = inv.next ∙ sym jump in
    let below = (c.requires.roster.slots s first.1).1 in
    let few = below_strict slot s (length nodes) first.1 below in
    let long = members_of-long c.args.visits.now c.args.found.now.split (length nodes) c.requires.roster.split in
    let m : count_below slot s < length members = omega (arith, few, long, c.requires.roster.count) in
    let placed = c.requires.roster.placed (count_below slot s) 0 m in
    let apart = rw (← long) at c.requires.roster.apart in
    let passed = IsMended-all slot members nodes c.args.ranks.now c.slots.nodes c.slots.ranks c.slots.rank s inv.mended
    first.2 first.0 in
    rw (c.member-node.ensures, count) (record {
      mended = IsMended-more slot members nodes c.args.ranks.now c.slots.nodes c.slots.ranks s passed below first.1 m
          placed apart;
      next = sym (below_yes slot s first.1);
      within = omega (arith, below);
    })

-- Behind the last slot nothing moves.
pub returns : goal.returns
returns c = IsMended-all (slot_in c.args.found.now)
    (members_of c.args.visits.now c.args.found.now.split (length c.args.nodes.now)) c.args.nodes.now c.args.ranks.now
    c.slots.nodes c.slots.ranks c.slots.rank (length c.args.nodes.now) c.slots.invariant.mended
    (λ k from l. c.in_default.ensures k from) c.slots.invariant.within
