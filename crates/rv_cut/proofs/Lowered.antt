-- Cuts with less and less past.
use Rattle.std.proofs.Common.{IsTrue, List, arith, ℕ}
use Rattle.std.proofs.lemmas.Grind.{common_steps}
use Rattle.rv_event.specs.declared.event.Id.{Id}
use Rattle.rv_cut.specs.Cuts.{AreLower, is_past}

-- no hart has more past than itself
pub lower-refl : (firsts : List ℕ) → AreLower firsts firsts
lower-refl firsts hart = omega arith

-- twice less is less
pub lower-trans : (a b c : List ℕ) → AreLower a b → AreLower b c → AreLower a c
lower-trans a b c ab bc hart = omega (arith, ab hart, bc hart)

-- what is past with less past is past
pub past-lower : (old new : List ℕ) → AreLower old new → (i : Id) → IsTrue (is_past new i) → IsTrue (is_past old i)
past-lower old new lower i past =
    let l = lower i.hart in grind (arith, common_steps)
