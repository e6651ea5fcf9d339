-- Circles of ids, step by step.
use Rattle.rv_book.proofs.Common.{rules, ◌≡◌, ℕ, ◌+◌, ◌<◌, ◌≤◌, true, false, List, [], ◌∷◌, ◌++◌, length, ltb, refl}
use Rattle.rv_book.proofs.Common.{sym, arith, subst, if◌then◌else◌, nat_lt, take, map-append, take_more, IsEdge}
use Rattle.rv_book.proofs.Common.{MemoryModel, Id, Event, Reason, start_of, IsWalk, at, walked}

-- the id at place k of a circle of ids, or the first past its end
abbrev pub end_at : List Id → ℕ → Id
end_at ids k = if nat_lt k (length ids) then at ids k else at ids 0

-- behind an id stands the next
pub end-within : (ids : List Id) (k : ℕ) → k < length ids → end_at ids k ≡ at ids k
end-within ids k l = let e : ltb k (length ids) ≡ true = grind arith in rw e

-- behind the last stands the first
pub end-past : (ids : List Id) (k : ℕ) → length ids ≤ k → end_at ids k ≡ at ids 0
end-past ids k l = let e : ltb k (length ids) ≡ false = grind arith in rw e

start-push : (rest : List (Id × Reason)) (from to : Id) (r : Reason) →
    start_of (rest ++ (from, r) ∷ []) to ≡ start_of rest from
start-push [] from to r = refl
start-push (s ∷ rest) from to r = refl

-- a walk with one step more
pub IsWalk-push : (model : MemoryModel) (log : List Event) (steps : List (Id × Reason)) (from to : Id) (r : Reason) →
    IsWalk model log steps from → IsEdge model log from r to → IsWalk model log (steps ++ (from, r) ∷ []) to
IsWalk-push model log [] from to r w e = (e, tt)
IsWalk-push model log (s ∷ rest) from to r w e = (
  subst (λ (i : Id). IsEdge model log s.0 s.1 i) (sym (start-push rest from to r)) w.0,
  IsWalk-push model log rest from to r w.1 e,
)

-- one step more of a circle
pub walk_step : (model : MemoryModel) (log : List Event) (ids : List Id) (steps new : List (Id × Reason)) (k : ℕ)
    (r : Reason) → k < length ids → (walked steps ≡ take k ids) × IsWalk model log steps (end_at ids k) →
    IsEdge model log (at ids k) r (end_at ids (k + 1)) → new ≡ steps ++ (at ids k, r) ∷ [] →
    (walked new ≡ take (k + 1) ids) × IsWalk model log new (end_at ids (k + 1))
walk_step model log ids steps new k r l w e is =
    search (map-append, take_more, IsWalk-push, end-within, rules)
