-- What a call hands on, at the values that it had.
use Rattle.rv_book.proofs.Common.{arith, common_steps, rules, ◌≡◌, ◌≢◌, ℕ, ◌<◌, List, ◌∷◌, map, length, Contains}
use Rattle.rv_book.proofs.Common.{All, AllPairs, sym, subst, slice_index_or, Contains-get_or, MemoryModel, Id}
use Rattle.rv_book.proofs.Common.{Event, Link, Reason, IsClosedWalk, Kept, grown, IsCircle, IsGrown, at}
use Rattle.rv_book.proofs.Common.{EachLeads, walked, AreNodes}

-- nodes of links are below the count of ranks
pub nodes_low : (ids : List Id) (links : List Link) (nodes now ranks : List ℕ) → AreNodes ids links nodes →
    now ≡ nodes → length ids ≡ length ranks → All (λ p. p < length ranks) now
nodes_low ids links nodes now ranks h refl-now long k d l =
    subst (λ n. slice_index_or now k d < n) long
    (h.low (slice_index_or now k d) (subst (λ (x : List ℕ). Contains x (slice_index_or now k d)) refl-now
    (Contains-get_or now k d l)))

-- a circle that was found between copies of two lists is one between these
pub circle_between : (edges : List (List ℕ)) (preds preds' succs succs' path : List ℕ) → preds' ≡ preds →
    succs' ≡ succs → IsCircle edges preds' succs' path → IsCircle edges preds succs path
circle_between edges preds preds' succs succs' path p q c = grind (arith, common_steps)

-- and so of edges that were added
pub grown_between : (old new : List (List ℕ)) (preds preds' succs succs' : List ℕ) → preds' ≡ preds →
    succs' ≡ succs → IsGrown old new preds' succs' → IsGrown old new preds succs
grown_between old new preds preds' succs succs' p q g = grind (arith, common_steps)

-- the path leads from the event over nodes with these ids back to it, and names none twice
pub record ShowsCircle (model : MemoryModel) (history : List Kept) (ids : List Id) (path : List ℕ) (e : Event) :
    Type 0 where
  pub low : All (λ a. a < length ids) path
  pub leads : EachLeads model (grown history e) (e.id ∷ map (at ids) path)
  pub once : AllPairs (λ i j. i ≢ j) (e.id ∷ map (at ids) path)

-- what a path shows it shows at equal values
pub circle_at :
    (model model' : MemoryModel) (history history' : List Kept) (ids ids' : List Id) (path path' : List ℕ) (e : Event) →
    model' ≡ model → history' ≡ history → ids' ≡ ids → path' ≡ path →
    ShowsCircle model history ids path e → ShowsCircle model' history' ids' path' e
circle_at model model' history history' ids ids' path path' e m h i p shown = search rules

-- a closed walk through these ids
pub own_circle : (model : MemoryModel) (log log' : List Event) (e : Event) (rest walk : List Id)
    (steps result : List (Id × Reason)) → log' ≡ log → walk ≡ e.id ∷ rest → result ≡ steps →
    IsClosedWalk model log' steps → walked steps ≡ walk → AllPairs (λ i j. i ≢ j) (e.id ∷ rest) →
    IsClosedWalk model log result × (((r : List Id) × (walked result ≡ e.id ∷ r)) ×
    AllPairs (λ i j. i ≢ j) (walked result))
own_circle model log log' e rest walk steps result p q s closed w once = search rules

-- a circle in a log is one in an equal log
pub leads_log : (model : MemoryModel) (log log' : List Event) (ids ids' : List Id) → log' ≡ log → ids' ≡ ids →
    EachLeads model log ids → EachLeads model log' ids'
leads_log model log log' ids ids' p q w = subst (λ (l : List Event). EachLeads model l ids') (sym p)
    (subst (EachLeads model log) (sym q) w)
