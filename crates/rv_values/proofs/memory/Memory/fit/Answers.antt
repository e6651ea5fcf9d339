use Rattle.std.proofs.Common.{◌∙◌, sym}
use Rattle.rv_values.proofs.Known.{some-same}
use Rattle.rv_values.proofs.memory.Memory.fit.Goals as goal

pub returns-in-Unshown : goal.returns-in-Unshown
returns-in-Unshown c = λ issued more performed later is grow value other holds same.
    absurd (c.in-Unshown.ensures issued more performed later is grow value holds)

pub returns-in-Value : goal.returns-in-Value
returns-in-Value c = λ issued more performed later is grow value other holds same.
    (c.in-Value.ensures issued more performed later is grow).1 value holds ∙
    c.if-value-returned.true ∙
    some-same c.in-Some.returned other (sym c.in-Some.is ∙ same)
