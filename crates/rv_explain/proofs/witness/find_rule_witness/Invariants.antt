use Rattle.std.proofs.Common.{All, take}
use Rattle.rv_event.specs.Log.{events}
use Rattle.rv_explain.specs.Witnesses.{IsRuleWitness}
use Rattle.rv_explain.proofs.witness.find_rule_witness.Given as goal

-- none so far
abbrev pub invariant-loop-entry : goal.invariant-loop-entry
invariant-loop-entry l =
    All (λ m. IsRuleWitness (events l.log) l.a l.b m l.rule → ⊥) (events (take l.entry-index l.log))
