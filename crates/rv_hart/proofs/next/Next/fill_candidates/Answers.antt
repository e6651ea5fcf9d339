-- The rules are added one after the other.
use Rattle.rv_hart.proofs.Common.{Event, Hart, List, ℕ, hart_at}
use Rattle.rv_hart.proofs.Candidates.{added-more, added-none, enough-added}
use Rattle.rv_hart.proofs.HartFacts.{fits}
use Rattle.rv_hart.proofs.next.Next.fill_candidates.Goals as goal

pub returns : goal.returns
returns c =
    let h : Hart = hart_at c.args.self.now in
    let e : Event = c.args.self.now.event.now in
    let first : List ℕ = c.join.new.self in
    let none = added-none h e first in
    let up_to_three = added-more h e 2 first _ _ none c.add_rule.ensures in
    let up_to_four = added-more h e 3 first _ _ up_to_three c.add_rule-2.ensures in
    let up_to_five = added-more h e 4 first _ _ up_to_four c.add_rule-3.ensures in
    let up_to_six = added-more h e 5 first _ _ up_to_five c.add_rule-4.ensures in
    let up_to_seven = added-more h e 6 first _ _ up_to_six c.add_rule-5.ensures in
    let up_to_eight = added-more h e 7 first _ _ up_to_seven c.add_rule-6.ensures in
    let up_to_nine = added-more h e 8 first _ _ up_to_eight c.add_rule-7.ensures in
    let up_to_ten = added-more h e 9 first _ _ up_to_nine c.add_rule-8.ensures in
    let up_to_eleven = added-more h e 10 first _ _ up_to_ten c.add_rule-9.ensures in
    let up_to_twelve = added-more h e 11 first _ _ up_to_eleven c.add_rule-10.ensures in
    let up_to_thirteen = added-more h e 12 first _ _ up_to_twelve c.add_rule-11.ensures in
    enough-added (fits c.requires.asked) c.fill_overlapping.new.row c.args.reads.now first c.add_rule-11.new.row
    c.fill_overlapping.ensures c.requires.reads c.join.ensures up_to_thirteen
