-- What a read of a node's edges leaves.
use Rattle.std.specs.Prelude.{◌≡◌, ℕ, ◌≤◌, ◌++◌, ◌∷◌, [], ⊤}
use Rattle.std.specs.Borrow.{Fml, MutBor, follows_so}
use mathlib.Core.Option.{none}
use Rattle.rv_rank.specs.Walking.{Walking}
use Rattle.rv_rank.specs.contracts.walk.Walk.{the_row}

-- one node more has been visited
pub record IsVisited (old new : Walking) (node : ℕ) : Type 0 where
  pub edges : new.edges ≡ old.edges
  pub visits : new.visits ≡ old.visits ++ node ∷ []
  pub rounds : new.rounds ≡ old.rounds
  pub room : old.room ≤ new.room

-- once the borrow is over
abbrev pub EndsVisited : MutBor Walking → ℕ → Fml
EndsVisited w node = follows_so the_row the_row w.ghost_name none (λ _ _. ⊤) (λ n. IsVisited w.now n node)
