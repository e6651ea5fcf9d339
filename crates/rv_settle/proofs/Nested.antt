-- Windows of windows.
use Rattle.std.proofs.Common.{Bool, List, arith, inl, inr, refl, ℕ, [], ◌+◌, ◌-◌, ◌∷◌}
use Rattle.std.proofs.Common.{◌<◌, ◌≡◌, ◌≤◌, ◌⊎◌}
use Rattle.std.proofs.lemmas.Bool.{cases_lt, le-leb, lt-leb}
use Rattle.rv_event.proofs.Indexed.{indexed_from_WellFormed, indexed_within}
use Rattle.rv_event.specs.Log.{events}
use Rattle.rv_event.specs.declared.event.Dep.{Dep}
use Rattle.rv_event.specs.declared.event.Entry.{Entry}
use Rattle.rv_event.specs.declared.event.Event.{Event}
use Rattle.rv_settle.proofs.Formed.{window-formed}
use Rattle.rv_settle.proofs.Windows.{into-window, onto-window, paired-in}
use Rattle.rv_settle.specs.Laws.{PairsStayKept}
use Rattle.rv_settle.specs.Windows.{AreBoth, IsBelow, both_firsts, deps_from}
use Rattle.rv_settle.specs.Windows.{renumbered, window}

-- dependencies counted from one number and then from another
deps-twice : (n m : ℕ) (deps : List Dep) → deps_from m (deps_from n deps) ≡ deps_from (n + m) deps
deps-twice n m [] = refl
deps-twice n m (d ∷ deps) = go (cases_lt d.seq n) (cases_lt (d.seq - n) m) (deps-twice n m deps)
  where
    go : (d.seq < n) ⊎ (n ≤ d.seq) → (d.seq - n < m) ⊎ (m ≤ d.seq - n) →
        deps_from m (deps_from n deps) ≡ deps_from (n + m) deps →
        deps_from m (deps_from n (d ∷ deps)) ≡ deps_from (n + m) (d ∷ deps)
    go (inl low) _ rest = rw (lt-leb n d.seq low, lt-leb (n + m) d.seq (omega (arith, low))) rest
    go (inr high) (inl low) rest =
        rw (le-leb n d.seq high, lt-leb (n + m) d.seq (omega (arith, high, low)), lt-leb m (d.seq - n) low) rest
    go (inr high) (inr more) rest =
        let number : (d.seq - n) - m ≡ d.seq - (n + m) = omega arith in
        rw (le-leb n d.seq high, le-leb (n + m) d.seq (omega (arith, high, more)), le-leb m (d.seq - n) more)
        (λ i. record { kind = d.kind; seq = number i } ∷ rest i)

-- an event counted from one number and then from another
event-twice : (first next : ℕ → ℕ) (e : Event) →
    renumbered next (renumbered first e) ≡ renumbered (both_firsts first next) e
event-twice first next e =
    let number : (e.id.seq - first e.id.hart) - next e.id.hart ≡ e.id.seq - (first e.id.hart + next e.id.hart) =
    omega arith in
    let deps = deps-twice (first e.id.hart) (next e.id.hart) e.deps in
    λ i. record e { id = record { hart = e.id.hart; seq = number i }; deps = deps i }

-- the window of a window is one of the log
pub window-twice : (log : List Entry) (first next : ℕ → ℕ) →
    window next (window first log) ≡ window (both_firsts first next) log
window-twice [] first next = refl
window-twice (x ∷ log) first next =
    go (cases_lt seq n) (cases_lt (seq - n) m) (window-twice log first next)
  where
    seq : ℕ
    seq = x.event.id.seq

    n : ℕ
    n = first x.event.id.hart

    m : ℕ
    m = next x.event.id.hart

    go : (seq < n) ⊎ (n ≤ seq) → (seq - n < m) ⊎ (m ≤ seq - n) →
        window next (window first log) ≡ window (both_firsts first next) log →
        window next (window first (x ∷ log)) ≡ window (both_firsts first next) (x ∷ log)
    go (inl low) _ rest = rw (lt-leb n seq low, lt-leb (n + m) seq (omega (arith, low))) rest
    go (inr high) (inl low) rest =
        rw (le-leb n seq high, lt-leb (n + m) seq (omega (arith, high, low)), lt-leb m (seq - n) low) rest
    go (inr high) (inr more) rest =
        rw (le-leb n seq high, le-leb (n + m) seq (omega (arith, high, more)), le-leb m (seq - n) more)
        (λ i. record x { event = event-twice first next x.event i } ∷ rest i)

-- the past of a window's past is below both numbers
pub below-both : (log : List Entry) (first next : ℕ → ℕ) (past more both : Event → Bool) →
    IsBelow (events log) past first → IsBelow (events (window first log)) more next →
    AreBoth first (events log) past more both → IsBelow (events log) both (both_firsts first next)
below-both log first next past more both below below' are a own = (
  λ gone. elim ((are a).0 gone) [
    | inl old ↦ let low = (below a own).0 old in omega (arith, low)
    | inr new ↦
        let low = (below' (renumbered first a) (into-window first log a own new.1)).0 new.2 in omega (arith, low)
  ],
  λ low. elim (cases_lt a.id.seq (first a.id.hart)) [
    | inl old ↦ (are a).1 (inl ((below a own).1 old))
    | inr kept ↦ (are a).1 (inr (
      own,
      kept,
      (below' (renumbered first a) (into-window first log a own kept)).1
          (omega (arith, low, kept)),
    ))
  ],
)

-- a window that keeps the LR of each SC that it keeps makes both do so
pub pairs-both : PairsStayKept
pairs-both limit log first next ok few pairs pairs' sc c kept lr c-lr paired =
    let high = pairs sc c (omega (arith, kept)) lr c-lr paired in
    let there = paired-in (events log) (events (window first log)) first (indexed_within limit log ok)
    (indexed_from_WellFormed (window first log) (window-formed limit log first ok pairs few)) (into-window first log)
    (onto-window first log) lr sc high (omega (arith, kept)) paired in
    let higher = pairs' (renumbered first sc) (into-window first log sc c (omega (arith, kept)))
    (omega (arith, kept)) (renumbered first lr) (into-window first log lr c-lr high) there in
    omega (arith, high, higher)
