-- The unit has the row at a new place.
use Rattle.std.proofs.Common.{◌≢◌, ◌<◌, ◌∙◌, ◌++◌, ◌∷◌, [], ℕ, List, length, get_or}
use Rattle.std.proofs.lemmas.List.{get_or_default}
use Rattle.std.proofs.lemmas.List.Quantifiers.{all_pairs_push}
use Rattle.rv_insn.specs.declared.unit.Unit.{Unit}
use Rattle.rv_rows.specs.Bits.{Has}
use Rattle.rv_flow.specs.Flows.{Holds, HoldsIn, Lacks}
use Rattle.rv_flow.proofs.Places.{push-at, same-set}
use Rattle.rv_flow.proofs.Sets.{has-same}
use Rattle.rv_flow.proofs.flow.Flow.add.Goals as goal

-- a unit that the list lacks is none of it
apart : (units : List Unit) (unit : Unit) → Lacks units unit → (k : ℕ) (d : Unit) → k < length units →
    get_or units k d ≢ unit
apart units unit lacks k d low is = lacks k low (get_or_default units k unit d low ∙ is)

pub invariant_of-self-clause-distinct : goal.invariant_of-self-clause-distinct
invariant_of-self-clause-distinct c = rw c.push_reserved.ensures.items
    (all_pairs_push (λ u v. u ≢ v) c.args.self.now.units.items c.args.unit c.args.self.now.distinct
    (apart c.args.self.now.units.items c.args.unit c.requires.new))

pub returns-clause-set : goal.returns-clause-set
returns-clause-set c =
    rw (c.push_reserved.ensures.items, c.push_reserved-2.ensures.items)
    (same-set (Holds c.args.self.now)
    (HoldsIn (c.args.self.now.units.items ++ c.args.unit ∷ []) (c.args.self.now.rows.items ++ c.assign.new.self ∷ []))
    c.args.unit (Has c.assign.new.self) (Has c.args.row.now)
    (has-same c.assign.new.self c.args.row.now c.assign.ensures)
    (push-at c.args.self.now.units.items c.args.self.now.rows.items c.args.unit c.assign.new.self
    c.args.self.now.same c.requires.new))
