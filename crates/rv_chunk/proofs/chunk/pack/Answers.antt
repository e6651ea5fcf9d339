use Rattle.std.proofs.Common.{ℕ, List, arith, sym, subst}
use Rattle.std.specs.Prelude.{IsTrue}
use Rattle.std.proofs.lemmas.Grind.{common_steps}
use Rattle.rv_chunk.specs.Chunks.{IsInRange, is_chunk_text}
use Rattle.rv_chunk.proofs.ChunkTest.{tests_text, content_back}
use Rattle.rv_chunk.proofs.chunk.pack.Goals as goal

in_range : (c : goal.After-text_of) → IsInRange c.args.source c.args.number c.args.events.now
in_range c = grind (arith, common_steps)

pub invariant_of-result : goal.invariant_of-result
invariant_of-result c = subst (λ (ws : List ℕ). IsTrue (is_chunk_text ws)) (sym c.text_of.ensures.words)
    (tests_text c.args.source c.args.number c.args.events.now (in_range c))

pub returns : goal.returns
returns c = grind (arith, common_steps, in_range, content_back)
