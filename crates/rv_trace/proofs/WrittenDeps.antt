-- Dependencies as they are printed and read.
use Rattle.std.proofs.Common.{◌≡◌, ◌&&◌, ◌==◌, ◌≤◌, ℕ, List, [], ◌∷◌, ◌++◌, length, refl, suc, ap, ◌∙◌}
use Rattle.std.proofs.Common.{subst, inl, inr, true, false, Bool, Ok, Err, Result, arith, decimal, nat_lt, map, All}
use Rattle.std.proofs.lemmas.Bool.{cases_Bool, le-ltb, ltb-false, ne_eqb}
use Rattle.std.proofs.lemmas.List.{append-nil, length-map}
use Rattle.std.proofs.lemmas.List.Elements.{All-append, All-cons, All-nil}
use Rattle.std.proofs.lemmas.List.Splits.{slice_split_at, slice_split_none}
use Rattle.rv_event.specs.Rows.{dep_text, deps_text, kind_text}
use Rattle.rv_event.specs.declared.event.Dep.{Dep}
use Rattle.rv_event.specs.declared.event.DepKind.{DepKind}
use Rattle.rv_event.specs.declared.event.DepKind.TheVariants.{Addr, DataOf, Ctrl}
use Rattle.rv_trace.specs.Dependencies.{dependencies, dependency, each_dependency, in_dependency, letter, parts}
use Rattle.rv_trace.specs.Steps.{◌>>=◌}
use Rattle.rv_trace.specs.declared.fault.FaultKind.{FaultKind}
use Rattle.rv_trace.specs.declared.operation.Columns.{Columns}
use Rattle.rv_trace.proofs.WrittenNumbers.{all_decimal, both, number-decimal, number-le}

-- where two checks succeed one after another, both do
pub and_then : {A B : Type 0} (r : Result A FaultKind) (f : A → Result B FaultKind) (y : B) → (r >>= f) ≡ Ok y →
    (x : A) × (r ≡ Ok x) × (f x ≡ Ok y)
and_then (Ok x) f y said = (x, refl, said)
and_then (Err k) f y said = absurd (cc said)

-- whether an operation may have a dependency of the kind
abbrev has_kind : Columns → DepKind → Bool
has_kind columns Addr = columns.addr
has_kind columns DataOf = columns.data_of
has_kind columns Ctrl = columns.ctrl

-- a row may have the dependency
pub record IsSaid (columns : Columns) (d : Dep) : Type 0 where
  pub may : has_kind columns d.kind ≡ true
  pub low : d.seq ≤ 1073741823

letter_is : (columns : Columns) (b : ℕ) (k : DepKind) → letter columns b ≡ Ok k → has_kind columns k ≡ true
letter_is columns b k said = elim (cases_Bool ((b == 97) && columns.addr)) [
  | inl a ↦
      let h = rw a at said in
      let is : Addr ≡ k = cc h in
      subst (λ (x : DepKind). has_kind columns x ≡ true) is (both (b == 97) columns.addr a).1
  | inr other ↦
      let h = rw other at said in
      elim (cases_Bool ((b == 100) && columns.data_of)) [
        | inl d ↦
            let g = rw d at h in
            let is : DataOf ≡ k = cc g in
            subst (λ (x : DepKind). has_kind columns x ≡ true) is (both (b == 100) columns.data_of d).1
        | inr third ↦
            let g = rw third at h in
            elim (cases_Bool ((b == 99) && columns.ctrl)) [
              | inl c ↦
                  let f = rw c at g in
                  let is : Ctrl ≡ k = cc f in
                  subst (λ (x : DepKind). has_kind columns x ≡ true) is (both (b == 99) columns.ctrl c).1
              | inr none ↦ let f = rw none at g in absurd (cc f)
            ]
      ]
]

in_number : (r : Result ℕ FaultKind) (n : ℕ) → in_dependency r ≡ Ok n → r ≡ Ok n
in_number (Ok m) n said = said
in_number (Err k) n said = absurd (cc said)

dependency_is : (columns : Columns) (text : List ℕ) (d : Dep) → dependency columns text ≡ Ok d → IsSaid columns d
unfolding dependency
dependency_is columns [] d said = absurd (cc said)
dependency_is columns (b ∷ digits) d said =
    let k = and_then _ _ d said in
    let n = and_then _ _ d k.2 in
    let is : record { kind = k.0; seq = n.0 } ≡ d = cc n.2 in
    subst (IsSaid columns) is (record {
      may = letter_is columns b k.0 k.1;
      low = number-le 1073741823 digits n.0 (in_number _ n.0 n.1);
    })

-- a row may have each dependency
abbrev pub AreSaid : Columns → List Dep → Type 0
AreSaid columns [] = Unit {0}
AreSaid columns (d ∷ ds) = IsSaid columns d × AreSaid columns ds

each_is : (columns : Columns) (ps : List (List ℕ)) (ds : List Dep) → each_dependency columns ps ≡ Ok ds →
    AreSaid columns ds × (length ds ≡ length ps)
unfolding each_dependency
each_is columns [] ds said =
    let none : [] ≡ ds = cc said in
    subst (λ (xs : List Dep). AreSaid columns xs × (length xs ≡ 0)) none (tt, refl)
each_is columns (p ∷ ps) ds said =
    let d = and_then _ _ ds said in
    let rest = and_then _ _ ds d.2 in
    let is : d.0 ∷ rest.0 ≡ ds = cc rest.2 in
    let more = each_is columns ps rest.0 rest.1 in
    subst (λ (xs : List Dep). AreSaid columns xs × (length xs ≡ length (p ∷ ps))) is
    ((dependency_is columns p d.0 d.1, more.0), ap suc more.1)

-- the dependencies that were read are few, and a row may have each
pub deps_are : (columns : Columns) (text : List ℕ) (ds : List Dep) → dependencies columns text ≡ Ok ds →
    AreSaid columns ds × (length ds ≤ 8)
unfolding dependencies
deps_are columns text ds said = elim (cases_Bool (length text == 0)) [
  | inl none ↦
      let h = rw none at said in
      let is : [] ≡ ds = cc h in
      subst (λ (xs : List Dep). AreSaid columns xs × (length xs ≤ 8)) is (tt, omega arith)
  | inr some ↦
      let h = rw some at said in
      elim (cases_Bool (nat_lt 8 (length (parts text)))) [
        | inl many ↦ let g = rw many at h in absurd (cc g)
        | inr few ↦
            let g = rw few at h in
            let e = each_is columns (parts text) ds g in
            (e.0, omega (arith, e.1, ltb-false 8 (length (parts text)) few))
      ]
]

-- what holds of the letters and of every digit holds of each byte that is printed of a dependency
pub all_dep : (P : ℕ → Type 0) → P 97 → P 100 → P 99 → ((c : ℕ) → 48 ≤ c → c ≤ 57 → P c) →
    (d : Dep) → d.seq ≤ 1073741823 → All P (dep_text d)
all_dep P a b c holds d low =
    All-append P (kind_text d.kind) (decimal d.seq) (letters d.kind) (all_decimal P holds d.seq (omega arith))
  where
    letters : (k : DepKind) → All P (kind_text k)
    letters Addr = All-cons P 97 [] a (All-nil P)
    letters DataOf = All-cons P 100 [] b (All-nil P)
    letters Ctrl = All-cons P 99 [] c (All-nil P)

no_space : (d : Dep) → d.seq ≤ 1073741823 → All (λ c. (c == 32) ≡ false) (dep_text d)
no_space = all_dep (λ c. (c == 32) ≡ false) refl refl refl (λ c low high. ne_eqb c 32 (λ e. omega (arith, e)))

-- the parts of what is printed are what is printed of each
parts-deps : (columns : Columns) (d : Dep) (ds : List Dep) → AreSaid columns (d ∷ ds) →
    parts (deps_text (d ∷ ds)) ≡ map dep_text (d ∷ ds)
parts-deps columns d [] said = slice_split_none _ (dep_text d) (no_space d said.0.low)
parts-deps columns d (e ∷ es) said =
    slice_split_at _ (dep_text d) 32 (deps_text (e ∷ es)) (no_space d said.0.low) refl
    ∙ ap (λ (rest : List (List ℕ)). dep_text d ∷ rest) (parts-deps columns e es said.1)

dependency-text : (columns : Columns) (k : DepKind) (n : ℕ) → has_kind columns k ≡ true → n ≤ 1073741823 →
    dependency columns (kind_text k ++ decimal n) ≡ Ok (record { kind = k; seq = n })
unfolding dependency
dependency-text columns Addr n may low = rw (may, number-decimal 1073741823 n low (omega arith)) refl
dependency-text columns DataOf n may low = rw (may, number-decimal 1073741823 n low (omega arith)) refl
dependency-text columns Ctrl n may low = rw (may, number-decimal 1073741823 n low (omega arith)) refl

each-text : (columns : Columns) (ds : List Dep) → AreSaid columns ds →
    each_dependency columns (map dep_text ds) ≡ Ok ds
unfolding each_dependency
each-text columns [] said = refl
each-text columns (d ∷ ds) said =
    rw (dependency-text columns d.kind d.seq said.0.may said.0.low, each-text columns ds said.1) refl

dep_nonempty : (d : Dep) (rest : List ℕ) → (length (dep_text d ++ rest) == 0) ≡ false
dep_nonempty d rest = begun d.kind where
  begun : (k : DepKind) → (length ((kind_text k ++ decimal d.seq) ++ rest) == 0) ≡ false
  begun Addr = ne_eqb _ 0 (λ e. omega (arith, e))
  begun DataOf = ne_eqb _ 0 (λ e. omega (arith, e))
  begun Ctrl = ne_eqb _ 0 (λ e. omega (arith, e))

some_text : (d : Dep) (ds : List Dep) → (length (deps_text (d ∷ ds)) == 0) ≡ false
some_text d [] = subst (λ (t : List ℕ). (length t == 0) ≡ false) (append-nil (dep_text d)) (dep_nonempty d [])
some_text d (e ∷ es) = dep_nonempty d (32 ∷ deps_text (e ∷ es))

-- what is printed of dependencies is read as just these
pub dependencies-text : (columns : Columns) (ds : List Dep) → AreSaid columns ds → length ds ≤ 8 →
    dependencies columns (deps_text ds) ≡ Ok ds
unfolding dependencies
dependencies-text columns [] said few = refl
dependencies-text columns (d ∷ ds) said few =
    let cut = parts-deps columns d ds said in
    let count = ap length cut ∙ length-map (d ∷ ds) dep_text in
    rw (some_text d ds, le-ltb 8 (length (parts (deps_text (d ∷ ds)))) (omega (arith, count)), cut)
    (each-text columns (d ∷ ds) said)
