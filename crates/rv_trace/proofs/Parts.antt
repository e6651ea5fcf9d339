-- Dependencies that were read, and the parts that are left.
use Rattle.std.proofs.Common.{◌≡◌, ◌∙◌, ℕ, ◌+◌, ◌<◌, ◌≤◌, List, [], ◌∷◌, ◌++◌, Ok, Err, Result, length, get_or}
use Rattle.std.proofs.Common.{drop, refl, sym, ap, append_assoc, append-nil, add-one}
use Rattle.std.proofs.Math.Seq.{drop-cons}
use Rattle.std.proofs.Math.ListN.{drop_of_length-le}
use Rattle.rv_event.specs.declared.event.Dep.{Dep}
use Rattle.rv_trace.specs.Dependencies.{dependency, each_dependency}
use Rattle.rv_trace.specs.declared.fault.FaultKind.{FaultKind}
use Rattle.rv_trace.specs.declared.operation.Columns.{Columns}
use Rattle.rv_trace.specs.Steps.{◌>>=◌}

-- the dependencies that were read, or the fault
abbrev pub Read : Type 0
Read = Result (List Dep) FaultKind

-- those that were read, and then those that are left
abbrev pub with_front : List Dep → Read → Read
with_front front rest = rest >>= λ ds. Ok (front ++ ds)

with_front-more : (front : List Dep) (d : Dep) (rest : Read)
    → with_front front (rest >>= λ ds. Ok (d ∷ ds)) ≡ with_front (front ++ (d ∷ [])) rest
with_front-more front d (Ok ds) = ap Ok (sym (append_assoc front (d ∷ []) ds))
with_front-more front d (Err k) = refl

-- the part at a place of the parts
abbrev pub IsPart : List (List ℕ) → ℕ → List ℕ → Type 0
IsPart ps i p = (i < length ps) × (p ≡ get_or ps i p)

at-part : (columns : Columns) (ps : List (List ℕ)) (i : ℕ) (p : List ℕ) → IsPart ps i p
    → each_dependency columns (drop i ps) ≡
    (dependency columns p >>= λ d. each_dependency columns (drop (i + 1) ps) >>= λ ds. Ok (d ∷ ds))
unfolding each_dependency
at-part columns ps i p at = let below = at.0 in rw (add-one, drop-cons ps i p, sym at.1) refl

-- one dependency more
pub part-read : (columns : Columns) (ps : List (List ℕ)) (i : ℕ) (p : List ℕ) (front next : List Dep) (d : Dep)
    (all : Read) → IsPart ps i p
    → with_front front (each_dependency columns (drop i ps)) ≡ all → dependency columns p ≡ Ok d
    → next ≡ front ++ (d ∷ []) → with_front next (each_dependency columns (drop (i + 1) ps)) ≡ all
part-read columns ps i p front next d all at said is n =
    rw n (sym (with_front-more front d (each_dependency columns (drop (i + 1) ps)))
    ∙ (rw (at-part columns ps i p at, is) at said))

-- a part that is none
pub part-wrong : (columns : Columns) (ps : List (List ℕ)) (i : ℕ) (p : List ℕ) (front : List Dep) (k : FaultKind)
    (all : Read) → IsPart ps i p
    → with_front front (each_dependency columns (drop i ps)) ≡ all → dependency columns p ≡ Err k
    → all ≡ Err k
part-wrong columns ps i p front k all at said is = sym (rw (at-part columns ps i p at, is) at said)

-- all parts were read
pub parts-read : (columns : Columns) (ps : List (List ℕ)) (i : ℕ) (front : List Dep) (all : Read) → length ps ≤ i
    → with_front front (each_dependency columns (drop i ps)) ≡ all → all ≡ Ok front
unfolding each_dependency
parts-read columns ps i front all end said = sym (rw (drop_of_length-le ps end, append-nil) at said)
