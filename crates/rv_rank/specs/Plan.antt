-- How the order is mended, by what a search found and the visits that it made.
use Rattle.std.specs.Prelude.{◌≡◌, ◌≢◌, ℕ, ◌+◌, ◌<◌, ◌≤◌, true, false, List, ◌++◌, length, reverse, slice_index}
use Rattle.std.specs.List.{All, filter}
use Rattle.rv_rank.specs.declared.search.Found.{Found}
use Rattle.rv_rank.specs.Found.{AreSlots, is_ahead_in, is_behind_in, slot_in}
use Rattle.rv_rank.specs.Mended.{count_below, members_of}

-- the members in their new order
abbrev pub members_in : Found → List ℕ → ℕ → List ℕ
members_in found visits node = members_of visits found.split node

-- the visits are the nodes that the two sets tell: those found forward by rising rank, the others
-- by falling rank
pub record IsPlan (found : Found) (nodes ranks visits : List ℕ) : Type 0 where
  pub few : found.low ≤ length nodes
  pub lowest : found.low < length nodes →
      (s : ℕ) × (s < length nodes) × (is_ahead_in found ranks s ≡ true) × (slice_index ranks s ≡ found.low)
  pub ahead : (a : ℕ) → is_ahead_in found ranks a ≡ true → (a < length nodes) × (found.low ≤ slice_index ranks a)
  pub behind : (a : ℕ) → is_behind_in found ranks a ≡ true → a < length nodes
  pub apart : (a : ℕ) → is_behind_in found ranks a ≡ true → is_ahead_in found ranks a ≡ false
  pub listed : visits
      ≡ filter (is_ahead_in found ranks) nodes ++ reverse (filter (is_behind_in found ranks) nodes)
  pub split : found.split ≡ length (filter (is_ahead_in found ranks) nodes)
  pub slots : AreSlots found nodes ranks

-- the members are one more than the slots, none stands twice, and each has a place among the ranks
pub record IsRoster (found : Found) (nodes ranks visits : List ℕ) : Type 0 where
  pub few : found.low ≤ length nodes
  pub split : found.split ≤ length visits
  pub count : length visits ≡ count_below (slot_in found) (length nodes)
  pub slots : (r : ℕ) → slot_in found r ≡ true → (found.low ≤ r) × (r < length nodes)
  pub placed : All (λ a. a < length ranks) (members_in found visits (length nodes))
  pub apart : (i j : ℕ) → i < j → j < length visits + 1 →
      slice_index (members_in found visits (length nodes)) i ≢ slice_index (members_in found visits (length nodes)) j
