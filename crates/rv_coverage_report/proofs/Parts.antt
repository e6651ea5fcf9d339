-- A text in parts.
use Rattle.std.proofs.Common.{◌≡◌, ◌++◌, ℕ, List, arith}
use Rattle.std.proofs.lemmas.Grind.{common_steps}
use Rattle.rv_event.specs.Texts.{◌⋯◌}

-- a heading with five parts behind it, added one by one
pub parts : (heading one two three four five first second third fourth fifth sixth : List ℕ) →
    first ≡ heading → second ≡ first ++ one → third ≡ second ++ two → fourth ≡ third ++ three →
    fifth ≡ fourth ++ four → sixth ≡ fifth ++ five →
    sixth ≡ heading ⋯ one ⋯ two ⋯ three ⋯ four ⋯ five
parts heading one two three four five first second third fourth fifth sixth h a b c d e =
    grind (arith, common_steps, h, a, b, c, d, e)
