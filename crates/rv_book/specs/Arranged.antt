-- A history whose memory operations have nodes, and an order of the nodes that every edge respects.
use Rattle.std.specs.Prelude.{ℕ, zero, suc, ◌+◌, ◌<◌, ◌≤◌, ◌≡◌, ◌≢◌, ◌==◌, ◌++◌, List, [], ◌∷◌, map, length}
use Rattle.std.specs.Prelude.{slice_index_or, Contains, AllPairs, if◌then◌else◌, nat_lt}
use Rattle.rv_event.specs.Orders.{IsOperation}
use Rattle.rv_event.specs.Edges.{IsEdge, IsStale}
use Rattle.rv_event.specs.declared.memory_model.MemoryModel.{MemoryModel}
use Rattle.rv_event.specs.declared.event.Id.{Id}
use Rattle.rv_event.specs.declared.event.Event.{Event}
use Rattle.rv_event.specs.declared.event.Entry.{Entry}
use Rattle.rv_event.specs.declared.reason.Reason.{Reason}
use Rattle.rv_cert.specs.declared.certificate.Certificate.{Certificate}
use Rattle.rv_cert.specs.declared.certificate.Certificate.TheVariants.{Circle, Stale}
use Rattle.rv_edges.specs.Kept.{Kept, happened, IsKept}
use Rattle.rv_edges.specs.Histories.{IsHistory}
use Rattle.rv_rank.specs.Graph.{Edge, IsOrder}

-- a model, a log, its history, the edges and ranks of the history's nodes, and their ids
pub record Arranged : Type 0 where
  pub model : MemoryModel
  pub log : List Entry
  pub history : List Kept
  pub edges : List (List ℕ)
  pub ranks : List ℕ
  pub ids : List Id

-- what is read past the end of a list of ids
abbrev pub nobody : Id
nobody = record { hart = 0; seq = 0 }

abbrev pub at : List Id → ℕ → Id
at ids a = slice_index_or ids a nobody

-- the place of a number in a list, or the list's length
abbrev pub index_of : List ℕ → ℕ → ℕ
index_of [] r = 0
index_of (x ∷ xs) r = if x == r then 0 else suc (index_of xs r)

abbrev pub up_to : ℕ → List ℕ
up_to zero = []
up_to (suc n) = up_to n ++ n ∷ []

-- the ids in the order of their nodes' ranks
abbrev pub order_of : List ℕ → List Id → List Id
order_of ranks ids = map (λ r. at ids (index_of ranks r)) (up_to (length ranks))

-- Node k is the memory operation that came k-th. Kept edges are edges, kept links are kept edges,
-- and no operation has an edge to itself or is stale
pub record IsArranged (v : Arranged) : Type 0 where
  pub history : IsHistory v.model v.history
  pub ordered : IsOrder v.edges v.ranks
  pub long : length v.ids ≡ length v.ranks
  pub few : length v.ids ≤ length v.history
  pub each : (i : Id) → IsOperation (happened v.history) i → Contains v.ids i
  pub only : (a : ℕ) → a < length v.ids → IsOperation (happened v.history) (at v.ids a)
  pub once : (a b : ℕ) → a < length v.ids → b < length v.ids → at v.ids a ≡ at v.ids b → a ≡ b
  pub inside : (a b : ℕ) → Edge v.edges a b → (a < length v.ids) × (b < length v.ids)
  pub true_edges : (a b : ℕ) → Edge v.edges a b →
      (r : Reason) × IsEdge v.model (happened v.history) (at v.ids a) r (at v.ids b)
  pub tied : (a b : ℕ) (r : Reason) → a < length v.ids → b < length v.ids →
      IsKept v.history (at v.ids a) r (at v.ids b) → Edge v.edges a b
  pub none_itself : (i : Id) (r : Reason) → IsEdge v.model (happened v.history) i r i → ⊥
  pub none_stale : (load store : Id) → IsStale (happened v.history) load store → ⊥

-- the ids of the steps of a circle
abbrev pub walked : List (Id × Reason) → List Id
walked steps = map (λ s. s.0) steps

-- a circle that begins with the event and names none twice, or a stale pair with it as the load
abbrev pub IsOwn : Event → Certificate → Type 0
IsOwn e (Circle steps) = ((rest : List Id) × (walked steps ≡ e.id ∷ rest)) × AllPairs (λ i j. i ≢ j) (walked steps)
IsOwn e (Stale load store) = load ≡ e.id

-- the id after place k of a circle of ids
abbrev pub next_id : List Id → ℕ → Id
next_id ids k = if nat_lt (k + 1) (length ids) then at ids (k + 1) else at ids 0

-- each id has an edge to the next, and the last to the first
abbrev pub EachLeads : MemoryModel → List Event → List Id → Type 0
EachLeads model log ids = (k : ℕ) → k < length ids → (r : Reason) × IsEdge model log (at ids k) r (next_id ids k)
