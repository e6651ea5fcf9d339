use Rattle.rv_rank.proofs.Common.{arith, map, [], length, ◌<◌, ◌≡◌, ◌++◌, ◌∷◌, get_or, ℕ, List, take_at, map_push}
use Rattle.rv_rank.proofs.Common.{length-map, common_steps, All, rules, Neighbours, IsAppended}
use Rattle.rv_rank.proofs.Growth.{grown}
use Rattle.rv_rank.proofs.Mirror.{rows_within, mirror_flip}
use Rattle.rv_rank.proofs.RowTables.{HasRoom-less}
use Rattle.rv_rank.proofs.walk.add_node.Goals as goal

pub add_to-requires-clause-fresh : goal.add_to-requires-clause-fresh
add_to-requires-clause-fresh c =
    let old = c.args.nodes.now.items in
    let same : c.deref_mut.result.now ≡ old = grind (arith, common_steps) in
    let count : c.len-node.result ≡ length (map (λ n. n.outgoing) old) = grind (arith, common_steps) in
    rw (same, count) (rows_within (map (λ n. n.outgoing) old) (map (λ n. n.incoming) old) c.requires.mirror)

pub add_to-requires-2-clause-room : goal.add_to-requires-2-clause-room
add_to-requires-2-clause-room c =
    let old = c.args.nodes.now.items in
    let mid = c.add_to.new.nodes in
    let first : c.deref_mut.result.now ≡ old = grind (arith, common_steps) in
    let second : c.deref_mut-2.result.now ≡ mid = grind (arith, common_steps) in
    let h = rw first at c.add_to.ensures in
    rw second (λ k d l. HasRoom-less old mid c.args.preds.now c.len-node.result (get_or c.args.succs.now k d)
    h.appended h.other (h.kept (get_or c.args.succs.now k d)) (c.requires.ahead k d l)
    (c.requires.succs k d l))

pub add_to-requires-2-clause-fresh : goal.add_to-requires-2-clause-fresh
add_to-requires-2-clause-fresh c = grind (arith, common_steps, rows_within, mirror_flip)

pub returns : goal.returns
returns c =
    let old = c.args.nodes.now.items in
    let f : Neighbours → List ℕ = λ n. n.outgoing in
    let g : Neighbours → List ℕ = λ n. n.incoming in
    let mid = c.add_to.new.nodes in
    let new = c.add_to-2.new.nodes in
    let own = c.args.own in
    let first : c.deref_mut.result.now ≡ old = grind (arith, common_steps) in
    let second : c.deref_mut-2.result.now ≡ mid = grind (arith, common_steps) in
    let out_long = length-map old f in
    let in_long = length-map old g in
    let out_count : c.len-node.result ≡ length (map f old) = grind (arith, common_steps) in
    let in_count : c.len-node.result ≡ length (map g old) = grind (arith, common_steps) in
    let items : c.append.new.list.items ≡ new ++ own ∷ [] = search (take_at, rules) in
    let h = rw first at c.add_to.ensures in
    let i = rw second at c.add_to-2.ensures in
    let out : IsAppended (map f old) (map f new) c.args.preds.now (length (map f old)) =
    rw (i.other, ← out_count) h.appended in
    let in_ : IsAppended (map g old) (map g new) c.args.succs.now (length (map g old)) =
    rw (← in_count, ← h.other) i.appended in
    let placed : All (λ p. p < length (map f old)) c.args.preds.now = rw out_long c.requires.placed in
    let ahead : All (λ s. s < length (map g old)) c.args.succs.now = rw in_long c.requires.ahead in
    record {
      outgoing = rw (items, map_push f new own)
          (grown (map f old) (map f new) c.args.preds.now own.outgoing placed out);
      incoming = rw (items, map_push g new own)
          (grown (map g old) (map g new) c.args.succs.now own.incoming ahead in_);
    }
