use Rattle.std.proofs.Common.{◌∙◌}
use Rattle.rv_memory.proofs.Orders.{last-is}
use Rattle.rv_memory.proofs.stores.Stores.last_of.Goals as goal

pub returns : goal.returns
returns c = λ log are. last-is are c.args.address c.of_word.result.now c.copied.result c.of_word.ensures.stores
    (c.copied.ensures ∙ c.last.ensures.value)
