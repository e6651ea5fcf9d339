use Rattle.rv_rank.proofs.Common.{arith, drop, [], length, ◌≡◌, ◌+◌, ◌++◌, ◌∷◌, take_at, common_steps}
use Rattle.rv_rank.proofs.Members.{roster, final_inverse, final_local}
use Rattle.rv_rank.proofs.order.place_members.Goals as goal

pub mend_all-last-requires-clause-roster : goal.mend_all-last-requires-clause-roster
mend_all-last-requires-clause-roster c =
    let nodes = c.args.nodes.now.items in
    let same : c.deref_mut.result.now ≡ nodes = grind (arith, common_steps) in
    let long : length c.deref_mut-2.result.now ≡ length nodes + 1 =
    grind (arith, common_steps, c.requires.inverse.long) in
    rw same (roster c.args.found.now nodes c.args.ranks.now.items c.args.visits.now c.requires.inverse
    c.requires.plan c.deref_mut-2.result.now long)

pub returns-clause-inverse : goal.returns-clause-inverse
returns-clause-inverse c =
    let nodes = c.args.nodes.now.items in
    let ranks = c.args.ranks.now.items in
    let same : c.deref_mut.result.now ≡ nodes = grind (arith, common_steps) in
    let begun : c.deref_mut-2.result.now ≡ ranks ++ length nodes ∷ [] = grind (arith, common_steps) in
    let new_nodes : c.push-2.new.self.items ≡ c.mend_all-last.new.nodes ++ c.mend_all-last.result ∷ [] =
    grind (arith, common_steps) in
    let new_ranks =
    take_at c.mend_all-last.new.ranks (drop (length c.mend_all-last.new.ranks) c.push.new.self.items)
    c.push.new.self.len (omega (arith, c.push.new.self.ok.0)) in
    let m = rw same at c.mend_all-last.ensures.mended in
    let last = rw same at c.mend_all-last.ensures.last in
    rw (new_nodes, new_ranks, m.1) (final_inverse c.args.found.now nodes ranks c.args.visits.now
    c.requires.inverse c.requires.plan c.deref_mut-2.result.now c.mend_all-last.new.nodes m.0
    c.mend_all-last.result begun last m.2)

pub returns-clause-local : goal.returns-clause-local
returns-clause-local c =
    let nodes = c.args.nodes.now.items in
    let ranks = c.args.ranks.now.items in
    let same : c.deref_mut.result.now ≡ nodes = grind (arith, common_steps) in
    let begun : c.deref_mut-2.result.now ≡ ranks ++ length nodes ∷ [] = grind (arith, common_steps) in
    let new_ranks =
    take_at c.mend_all-last.new.ranks (drop (length c.mend_all-last.new.ranks) c.push.new.self.items)
    c.push.new.self.len (omega (arith, c.push.new.self.ok.0)) in
    let m = rw same at c.mend_all-last.ensures.mended in
    let last = rw same at c.mend_all-last.ensures.last in
    rw (new_ranks, m.1) (final_local c.args.found.now nodes ranks c.args.visits.now c.requires.inverse
    c.requires.plan c.deref_mut-2.result.now c.mend_all-last.new.nodes m.0 c.mend_all-last.result begun last
    m.2)
