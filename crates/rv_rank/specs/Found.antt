-- What the two searches of a placement find.
use Rattle.std.specs.Prelude.{◌≡◌, ℕ, ◌<◌, ◌≤◌, ◌&&◌, ◌||◌, Bool, true, not, nat_lt, List, ◌++◌, length}
use Rattle.std.specs.Prelude.{reverse, slice_index}
use Rattle.std.specs.List.{Contains, filter}
use Rattle.rv_rows.specs.Bits.{has_bit}
use Rattle.rv_rank.specs.declared.search.Found.{Found}
use Rattle.rv_rank.specs.Walking.{Walking}
use Rattle.rv_rank.specs.Ordering.{Ordering}
use Rattle.rv_rank.specs.Placing.{NoneReaches, IsAhead, IsBehind}
use Rattle.rv_rank.specs.Sets.{has_slot}

-- nothing but the visits differs, and no room is lost
pub record IsSameGraph (old new : Walking) : Type 0 where
  pub edges : new.edges ≡ old.edges
  pub rounds : new.rounds ≡ old.rounds
  pub room : old.room ≤ new.room

-- whether a node was found backward, and is of rank `low` or above
abbrev pub is_traced : ℕ → List ℕ → List ℕ → ℕ → Bool
is_traced low ranks behind a = has_bit behind a && not (nat_lt (slice_index ranks a) low)

-- the nodes found backward of rank `low` or above, by rank
abbrev pub found_behind : ℕ → Ordering → List ℕ → List ℕ
found_behind low order behind = filter (is_traced low order.ranks behind) order.nodes

-- whether an affected node was found backward
abbrev pub is_behind_in : Found → List ℕ → ℕ → Bool
is_behind_in found ranks a = is_traced found.low ranks found.behind a

-- whether an affected node was found forward
abbrev pub is_ahead_in : Found → List ℕ → ℕ → Bool
is_ahead_in found ranks a = has_slot ranks found.slots a && not (is_behind_in found ranks a)

-- the nodes found forward, by rank
abbrev pub found_ahead : Found → Ordering → List ℕ
found_ahead found order = filter (is_ahead_in found order.ranks) order.nodes

-- whether the node of a rank is affected
abbrev pub slot_in : Found → ℕ → Bool
slot_in found r = has_bit found.slots r

-- the slots are the ranks of the nodes of the two sets
pub record AreSlots (found : Found) (nodes ranks : List ℕ) : Type 0 where
  pub each : (r : ℕ) → r < length nodes →
      slot_in found r
      ≡ (is_behind_in found ranks (slice_index nodes r) || is_ahead_in found ranks (slice_index nodes r))
  pub within : (r : ℕ) → slot_in found r ≡ true → r < length nodes

-- the two sets are the affected nodes; the list has the forward one by rising rank, and the other
-- one by falling rank
pub record IsFound (edges : List (List ℕ)) (order : Ordering) (preds succs : List ℕ) (found : Found)
    (list : List ℕ) : Type 0 where
  pub few : found.low ≤ length order.ranks
  pub lowest : found.low < length order.ranks →
      (s : ℕ) × Contains succs s × (slice_index order.ranks s ≡ found.low)
  pub free : NoneReaches edges succs preds
  pub within : (a : ℕ) → is_ahead_in found order.ranks a ≡ true →
      (a < length order.ranks) × (found.low ≤ slice_index order.ranks a)
  pub nodes : (a : ℕ) → is_behind_in found order.ranks a ≡ true → a < length order.ranks
  pub ahead : (a : ℕ) → is_ahead_in found order.ranks a ≡ true → IsAhead edges succs a
  pub all_ahead : (a : ℕ) → IsAhead edges succs a → is_ahead_in found order.ranks a ≡ true
  pub behind : (a : ℕ) → is_behind_in found order.ranks a ≡ true → IsBehind edges order.ranks preds succs a
  pub all_behind : (a : ℕ) → IsBehind edges order.ranks preds succs a → is_behind_in found order.ranks a ≡ true
  pub visits : list ≡ found_ahead found order ++ reverse (found_behind found.low order found.behind)
  pub split : found.split ≡ length (found_ahead found order)
  pub slots : AreSlots found order.nodes order.ranks
