use Rattle.rv_rank.proofs.Common.{arith, get_or, map, [], length, ◌<◌, ◌≡◌, refl, ◌++◌, ◌∷◌, length-map}
use Rattle.rv_rank.proofs.Common.{common_steps}
use Rattle.rv_rank.proofs.walk.Walk.backward.Goals as goal

pub returns : goal.returns
returns c =
    let nodes = c.self.inside.nodes.items in
    let placed = rw (← c.self.view_is) at c.requires.placed in
    let within : c.args.node < length nodes = omega (arith, placed, length-map nodes (λ n. n.outgoing)) in
    let row : c.incoming.result.now ≡ get_or (map (λ n. n.incoming) nodes) c.args.node [] =
    grind (arith, common_steps) in
    let pushed : c.push.new.self.items ≡ c.self.inside.visits.items ++ c.args.node ∷ [] =
    grind (arith, common_steps) in
    rw (← c.self.view_is) (
      (
        refl,
        λ _. tt,
        record {
          edges = refl;
          visits = pushed;
          rounds = refl;
          room =
              omega (arith, c.push.ensures.capacity);
        },
      ),
      record {
        visited = tt;
        value =
            λ a. rw row (λ w. c.self.invariant.forth a c.args.node w, λ e. c.self.invariant.back a c.args.node e);
      },
    )
