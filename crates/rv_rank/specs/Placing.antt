-- What placing a node in an order promises.
use Rattle.std.specs.Prelude.{◌≡◌, ◌≢◌, ℕ, ◌+◌, ◌%◌, ◌^◌, ◌<◌, ◌≤◌, ◌⊎◌, ◌==◌, not, List, [], length, slice_index}
use Rattle.std.specs.List.{Contains, zip, count_by}
use Rattle.rv_rank.specs.Graph.{Reaches, IsCircle, IsOrder, IsGrown}
use Rattle.rv_rank.specs.declared.ranks.Placed.{Placed}
use Rattle.rv_rank.specs.declared.ranks.Refused.{Refused}
use Rattle.rv_rank.specs.declared.ranks.Refused.TheVariants.{Circle, NoMemory}
use Rattle.rv_rank.specs.Ranking.{Ranking}

-- no successor reaches a predecessor; a node reaches itself
abbrev pub NoneReaches : List (List ℕ) → List ℕ → List ℕ → Type 0
NoneReaches edges succs preds = (s p : ℕ) → Contains succs s → Contains preds p → Reaches edges s p → ⊥

-- the forward set: the successors and what they reach
abbrev pub IsAhead : List (List ℕ) → List ℕ → ℕ → Type 0
IsAhead edges succs a = (s : ℕ) × Contains succs s × Reaches edges s a

-- the node is of the least rank of a successor or above, so there is a successor
abbrev pub IsHigh : List ℕ → List ℕ → ℕ → Type 0
IsHigh ranks succs a = (s : ℕ) × Contains succs s × (slice_index ranks s ≤ slice_index ranks a)

-- the backward set: what is high, and a predecessor or reaching one
abbrev pub IsBehind : List (List ℕ) → List ℕ → List ℕ → List ℕ → ℕ → Type 0
IsBehind edges ranks preds succs a = IsHigh ranks succs a × ((p : ℕ) × Contains preds p × Reaches edges a p)

-- a node of one of the two sets
abbrev pub IsAffected : List (List ℕ) → List ℕ → List ℕ → List ℕ → ℕ → Type 0
IsAffected edges ranks preds succs a =
    (IsAhead edges succs a ⊎ IsBehind edges ranks preds succs a) × (a < length ranks)

-- the list names affected nodes alone
abbrev pub OnlyAffected : List (List ℕ) → List ℕ → List ℕ → List ℕ → List ℕ → Type 0
OnlyAffected edges ranks preds succs list = (a : ℕ) → Contains list a → IsAffected edges ranks preds succs a

-- an affected node or the new one
abbrev pub IsMover : List (List ℕ) → List ℕ → List ℕ → List ℕ → ℕ → Type 0
IsMover edges ranks preds succs a = IsAffected edges ranks preds succs a ⊎ (a ≡ length ranks)

-- the old rank of an affected node, or the new greatest rank
abbrev pub IsFreed : List (List ℕ) → List ℕ → List ℕ → List ℕ → ℕ → Type 0
IsFreed edges ranks preds succs r =
    (r ≡ length ranks) ⊎ ((b : ℕ) × IsAffected edges ranks preds succs b × (slice_index ranks b ≡ r))

-- how many of the nodes have another rank than before
abbrev pub moved_of : List ℕ → List ℕ → ℕ
moved_of old new = count_by (λ r. not (r.0 == r.1)) (zip old new)

-- just the members, each once
pub record ListsOnce (member : ℕ → Type 0) (list : List ℕ) : Type 0 where
  pub each : (a : ℕ) → member a → Contains list a
  pub only : (a : ℕ) → Contains list a → member a
  pub once : (i j : ℕ) → i < j → j < length list → slice_index list i ≢ slice_index list j

-- one round more was begun; the count wraps
abbrev pub IsNextRound : Ranking → Ranking → Type 0
IsNextRound old new = new.rounds ≡ (old.rounds + 1) % 2 ^ 64

-- what holds where a node was placed: `new` is the old state with the node and its edges
pub record IsPlacement (old new : Ranking) (preds succs : List ℕ) (placed : Placed) : Type 0 where
  pub node : placed.node ≡ length old.ranks
  pub moved : placed.moved ≡ moved_of old.ranks new.ranks
  pub visited : placed.visited ≡ length new.visits
  pub free : NoneReaches old.edges succs preds
  pub grown : IsGrown old.edges new.edges preds succs
  pub ordered : IsOrder new.edges new.ranks
  pub spared : (a : ℕ) → a < length old.ranks → (IsAffected old.edges old.ranks preds succs a → ⊥) →
      slice_index new.ranks a ≡ slice_index old.ranks a
  pub exchanged : (a : ℕ) → IsMover old.edges old.ranks preds succs a →
      IsFreed old.edges old.ranks preds succs (slice_index new.ranks a)
  pub taken : (r : ℕ) → IsFreed old.edges old.ranks preds succs r →
      (a : ℕ) × IsMover old.edges old.ranks preds succs a × (slice_index new.ranks a ≡ r)
  pub visits : ListsOnce (IsAffected old.edges old.ranks preds succs) new.visits
  pub rounds : IsNextRound old new
  pub greatest : succs ≡ [] → slice_index new.ranks (length old.ranks) ≡ length old.ranks
  pub still : succs ≡ [] → (placed.moved ≡ 0) × (placed.visited ≡ 0)

-- what a refusal shows: at `Circle` a path from a successor to a predecessor
abbrev pub IsRefusal : List (List ℕ) → List ℕ → List ℕ → Refused → Type 0
IsRefusal edges preds succs (Circle path) = IsCircle edges preds succs path.items
IsRefusal edges preds succs NoMemory = Unit {0}

-- a new round, whose visits are of affected nodes alone
abbrev pub IsPartRound : Ranking → Ranking → List ℕ → List ℕ → Type 0
IsPartRound old new preds succs =
    IsNextRound old new × OnlyAffected old.edges old.ranks preds succs new.visits

-- what a refusal leaves of the visits: a new round, or out of memory also the old one
abbrev pub IsRefusedRound : Ranking → Ranking → List ℕ → List ℕ → Refused → Type 0
IsRefusedRound old new preds succs (Circle path) = IsPartRound old new preds succs
IsRefusedRound old new preds succs NoMemory =
    ((new.rounds ≡ old.rounds) × (new.visits ≡ old.visits)) ⊎ IsPartRound old new preds succs
