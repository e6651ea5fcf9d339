use Rattle.std.proofs.Common.{◌++◌, ◌∷◌, [], List, ℕ, sym, arith, subst}
use Rattle.std.proofs.lemmas.Bool.{false≢true}
use Rattle.std.proofs.Common.{rules}
use Rattle.std.proofs.lemmas.Grind.{common_steps}
use Rattle.rv_rows.specs.Flat.{AreLaid}
use Rattle.rv_rows.specs.declared.rows.Place.{Place}
use Rattle.rv_rows.proofs.Laying.{rows_count, rows_less, laid_less}
use Rattle.rv_rows.proofs.rows.Rows.pop.Goals as goal

module _ (c : goal.After-truncate) where
  abbrev stem : List ℕ
  stem = c.self.inside.stem.items

  abbrev words : List ℕ
  words = c.self.inside.words.items

  abbrev front : List Place
  front = c.pop.new.self.items

  laid : AreLaid stem words (front ++ c.in-Some.place ∷ [])
  laid = subst (AreLaid stem words) c.in-Some.ensures.items c.self.invariant

pub invariant_of-self : goal.invariant_of-self
invariant_of-self c =
    subst (λ (ws : List ℕ). AreLaid (stem c) ws (front c)) (sym c.truncate.ensures.items)
    (laid_less (stem c) (words c) (front c) c.in-Some.place (laid c))

pub returns-in-Some : goal.returns-in-Some
returns-in-Some c rows last is = search (rows_less, rules)

pub returns-in_default : goal.returns-in_default
returns-in_default c rows last is = grind (arith, common_steps, rows_count, false≢true)
