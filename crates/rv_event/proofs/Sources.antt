-- A log is well formed whatever the order in which its sources were merged.
use Rattle.rv_event.proofs.Common.{rules, common_steps, ◌≡◌, ℕ, Bool, true, false, not, ◌&&◌, ◌==◌, cond, List, []}
use Rattle.rv_event.proofs.Common.{◌∷◌, ◌++◌, filter, Contains, None, ◌⊎◌, inl, inr, refl, sym, ap, ◌∙◌, arith}
use Rattle.rv_event.proofs.Common.{subst, eq-eqb, eqb-true, append_assoc, append-nil, false≢true, not-false}
use Rattle.rv_event.proofs.Common.{Contains-push_cases, All-contains, filter_passes, events, first_faults}
use Rattle.rv_event.proofs.Common.{source_fault, deps_fault, fault_of, WellFormed, entries_of, SameSources, Entry}
use Rattle.rv_event.proofs.Names.{Contains-here, Contains-there}
use Rattle.rv_event.proofs.Indexed.{NoneOf, lowest-none}
use Rattle.rv_event.proofs.Merged.{SameHarts, Contains-filter, Contains-unfilter, WellFormed-merge}

-- a second filter changes nothing where it passes all that the first keeps
filter-through : {X : Type 0} (p q : X → Bool) (xs : List X) → ((x : X) → Contains xs x → p x ≡ true → q x ≡ true) →
    filter p xs ≡ filter p (filter q xs)
filter-through p q [] only = refl
filter-through {X} p q (x ∷ xs) only = go (p x) refl (q x) refl (only x (Contains-here x xs x refl))
    (filter-through p q xs (λ y c. only y (Contains-there x xs y c)))
  where
    go : (b : Bool) → p x ≡ b → (d : Bool) → q x ≡ d → (p x ≡ true → q x ≡ true) →
        filter p xs ≡ filter p (filter q xs) → cond b (x ∷ filter p xs) (filter p xs) ≡ filter p
        (cond d (x ∷ filter q xs) (filter q xs))
    go true f true g one again = rw f (ap (λ (l : List X). x ∷ l) again)
    go true f false g one again = absurd (false≢true (sym g ∙ one f))
    go false f true g one again = rw f again
    go false f false g one again = again

-- entries of one hart are of one source
abbrev OneSource : List Entry → Type 0
OneSource log = (a b : Entry) → Contains log a → Contains log b → a.event.id.hart ≡ b.event.id.hart →
    a.source ≡ b.source

OneSource-nil : OneSource []
OneSource-nil a b (k, l, e) d h = absurd (omega arith)

same_source_as : (log : List Entry) (x y : Entry) → fault_of log x ≡ None → Contains log y →
    y.event.id.hart ≡ x.event.id.hart → y.source ≡ x.source
same_source_as log x y none c h =
    let other : Entry → Bool = λ z. (z.event.id.hart == x.event.id.hart) && not (z.source == x.source) in
    let each : NoneOf (first_faults (events log) x.event ++ source_fault log x ∷ deps_fault x.event ∷ []) =
    lowest-none (first_faults (events log) x.event ++ source_fault log x ∷ deps_fault x.event ∷ []) none in
    let off : other y ≡ false = grind (arith, common_steps) in
    let off' : not (y.source == x.source) ≡ false = rw (eq-eqb y.event.id.hart x.event.id.hart h) at off in
    eqb-true y.source x.source (not-false (y.source == x.source) off')

OneSource-push : (log : List Entry) (x : Entry) → OneSource log → fault_of log x ≡ None → OneSource (log ++ x ∷ [])
OneSource-push log x one none a b ca cb h = go (Contains-push_cases log x a ca) (Contains-push_cases log x b cb)
  where
    go : Contains log a ⊎ (x ≡ a) → Contains log b ⊎ (x ≡ b) → a.source ≡ b.source
    go (inl c) (inl d) = one a b c d h
    go (inl c) (inr e) = same_source_as log x a none c (h ∙ ap (λ (y : Entry). y.event.id.hart) (sym e)) ∙
        ap (λ (y : Entry). y.source) e
    go (inr e) (inl d) = sym (same_source_as log x b none d (sym h ∙ ap (λ (y : Entry). y.event.id.hart) (sym e)) ∙
        ap (λ (y : Entry). y.source) e)
    go (inr e) (inr f) = ap (λ (y : Entry). y.source) (sym e ∙ f)

OneSource-all : (log before rest : List Entry) → WellFormed log → log ≡ before ++ rest → OneSource before →
    OneSource log
OneSource-all log before [] ok e one = subst OneSource (sym (e ∙ append-nil before)) one
OneSource-all log before (x ∷ rest) ok e one =
    OneSource-all log (before ++ x ∷ []) rest ok (e ∙ sym (append_assoc before (x ∷ []) rest))
    (OneSource-push before x one (ok before rest x e))

module _ (log other : List Entry) (ok : WellFormed log) (same : SameSources log other) where
  one_source : OneSource log
  one_source = OneSource-all log [] log ok refl OneSource-nil

  of_log : (y : Entry) → Contains other y → Contains log y
  of_log y c =
      let p : Entry → Bool = λ x. y.source == x.source in
      Contains-unfilter p log y (subst (λ (l : List Entry). Contains l y) (sym (same y.source))
      (Contains-filter p other y c (eq-eqb y.source y.source refl)))

  of_other : (y : Entry) → Contains log y → Contains other y
  of_other y c =
      let p : Entry → Bool = λ x. y.source == x.source in
      Contains-unfilter p other y (subst (λ (l : List Entry). Contains l y) (same y.source)
      (Contains-filter p log y c (eq-eqb y.source y.source refl)))

  -- a hart with an entry has its entries from that entry's source, in both logs
  same_hart : (hart : ℕ) (y : Entry) → Contains log y → hart ≡ y.event.id.hart →
      entries_of hart log ≡ entries_of hart other
  same_hart hart y cy h =
      let p : Entry → Bool = λ x. hart == x.event.id.hart in
      let q : Entry → Bool = λ x. y.source == x.source in
      filter-through p q log (λ x c t. eq-eqb y.source x.source
      (one_source y x cy c (sym h ∙ eqb-true hart x.event.id.hart t)))
      ∙ ap (filter p) (same y.source)
      ∙ sym (filter-through p q other (λ x c t. eq-eqb y.source x.source
      (one_source y x cy (of_log x c) (sym h ∙ eqb-true hart x.event.id.hart t))))

  -- merges of the same sources have the same harts
  pub SameHarts-from_sources : SameHarts log other
  SameHarts-from_sources hart = go (entries_of hart log) refl (entries_of hart other) refl
    where
      passed : (l : List Entry) (y : Entry) → Contains (entries_of hart l) y → hart ≡ y.event.id.hart
      passed l y c = search (eqb-true, All-contains, filter_passes, rules)

      at_hand : (l : List Entry) (y : Entry) (ys : List Entry) → entries_of hart l ≡ y ∷ ys →
          Contains (entries_of hart l) y
      at_hand l y ys e = subst (λ (zs : List Entry). Contains zs y) (sym e) (Contains-here y ys y refl)

      go : (xs : List Entry) → entries_of hart log ≡ xs → (ys : List Entry) → entries_of hart other ≡ ys →
          entries_of hart log ≡ entries_of hart other
      go [] e [] f = e ∙ sym f
      go (x ∷ xs) e ys f =
          let c = at_hand log x xs e in
          same_hart hart x (Contains-unfilter (λ (z : Entry). hart == z.event.id.hart) log x c) (passed log x c)
      go [] e (y ∷ ys) f =
          let c = at_hand other y ys f in
          same_hart hart y (of_log y (Contains-unfilter (λ (z : Entry). hart == z.event.id.hart) other y c))
          (passed other y c)

-- a log is well formed whatever the order in which its sources were merged
pub WellFormed-sources : (log other : List Entry) → WellFormed log → SameSources log other → WellFormed other
WellFormed-sources log other ok same = WellFormed-merge log other ok (SameHarts-from_sources log other ok same)
