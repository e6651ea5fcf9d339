-- What a search has found of the nodes, as sets of them.
use Rattle.std.specs.Prelude.{◌≡◌, ℕ, ◌<◌, ◌≤◌, ◌⊎◌, ◌*◌, ◌||◌, ◌&&◌, Bool, true, List, length, nat_lt}
use Rattle.std.specs.Prelude.{slice_index}
use Rattle.std.specs.List.{Contains}
use Rattle.rv_rows.specs.Bits.{Has, has_bit}
use Rattle.rv_rank.specs.declared.search.Found.{Found}
use Rattle.rv_rank.specs.Graph.{Edge, Reaches}
use Rattle.rv_rank.specs.Placing.{IsAhead}

-- whether a node is one whose rank is among the slots
abbrev pub has_slot : List ℕ → List ℕ → ℕ → Bool
has_slot ranks slots a = nat_lt a (length ranks) && has_bit slots (slice_index ranks a)

-- the slots are ranks
abbrev pub AreRanks : List ℕ → List ℕ → Type 0
AreRanks ranks slots = (r : ℕ) → Has slots r → r < length ranks

-- the node's rank is at most that of each of these nodes whose rank is among the slots
abbrev pub IsLowest : List ℕ → List ℕ → List ℕ → ℕ → Type 0
IsLowest ranks slots nodes a =
    (b : ℕ) → Contains nodes b → has_slot ranks slots b ≡ true → slice_index ranks a ≤ slice_index ranks b

-- the nodes were added to those that passed the test, and nothing else was
pub record IsJoined (old new : ℕ → Bool) (nodes : List ℕ) : Type 0 where
  pub kept : (a : ℕ) → old a ≡ true → new a ≡ true
  pub found : (a : ℕ) → Contains nodes a → new a ≡ true
  pub only : (a : ℕ) → new a ≡ true → (old a ≡ true) ⊎ Contains nodes a

-- the sets have room for so many nodes
pub record HasRoomFor (count : ℕ) (found : Found) : Type 0 where
  pub behind : count ≤ 64 * length found.behind
  pub slots : count ≤ 64 * length found.slots

-- the ranks of the nodes that pass the test were put in
pub record AreAdded (test : ℕ → Bool) (nodes old new : List ℕ) : Type 0 where
  pub ranks : (r : ℕ) → r < length nodes → has_bit new r ≡ (test (slice_index nodes r) || has_bit old r)
  pub beyond : (r : ℕ) → length nodes ≤ r → has_bit new r ≡ has_bit old r

-- the set is of nodes, each of a rank below r
abbrev pub AreBelow : List ℕ → List ℕ → ℕ → Type 0
AreBelow ranks set r = (a : ℕ) → Has set a → (a < length ranks) × (slice_index ranks a < r)

-- the search forward has gone through the ranks below r
pub record IsSearched (edges : List (List ℕ)) (ranks succs : List ℕ) (low : ℕ) (ahead : ℕ → Bool) (r : ℕ) :
    Type 0 where
  pub begun : (a : ℕ) → Contains succs a → ahead a ≡ true
  pub closed : (a b : ℕ) → slice_index ranks a < r → ahead a ≡ true → Edge edges a b → ahead b ≡ true
  pub found : (a : ℕ) → ahead a ≡ true → IsAhead edges succs a
  pub high : (a : ℕ) → ahead a ≡ true → low ≤ slice_index ranks a

-- the search backward has gone through the ranks from r up
pub record IsTraced (edges : List (List ℕ)) (ranks preds behind : List ℕ) (r : ℕ) : Type 0 where
  pub begun : (a : ℕ) → Contains preds a → Has behind a
  pub closed : (a b : ℕ) → r ≤ slice_index ranks b → Has behind b → Edge edges a b → Has behind a
  pub found : (a : ℕ) → Has behind a → (p : ℕ) × Contains preds p × Reaches edges a p

-- the list names nodes of the forward set alone
abbrev pub OnlyAhead : List (List ℕ) → List ℕ → List ℕ → List ℕ → Type 0
OnlyAhead edges ranks succs list = (a : ℕ) → Contains list a → IsAhead edges succs a × (a < length ranks)
