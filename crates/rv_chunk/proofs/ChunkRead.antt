-- How words are read in place.
use Rattle.std.proofs.Common.{◌≡◌, ℕ, zero, suc, ◌+◌, ◌<◌, Bool, true, false, ◌||◌, ◌==◌, List, [], ◌∷◌, length}
use Rattle.std.proofs.Common.{get_or, take, refl, ◌∙◌, subst, arith, true≢false}
use Rattle.std.specs.Prelude.{if◌then◌else◌}
use Rattle.std.specs.List.{list_any}
use Rattle.rv_event.specs.declared.event.Dep.{Dep}
use Rattle.rv_chunk.specs.Chunks.{dep_code, dep_at, dep_of, deps_of}

both_false : (a b : Bool) → a || b ≡ false → (a ≡ false) × (b ≡ false)
both_false true b e = absurd (true≢false e)
both_false false b e = (refl, e)

code_if : (b : Bool) (d : Dep) (ds : List Dep) → b ≡ false → dep_at (if b then [] else (d ∷ ds)) 0 ≡ dep_code d
code_if true d ds e = absurd (true≢false e)
code_if false d ds e = refl

next_if : (b : Bool) (d : Dep) (ds : List Dep) (i : ℕ) → b ≡ false → dep_at (if b then [] else (d ∷ ds))
    (suc i) ≡ dep_at ds i
next_if true d ds i e = absurd (true≢false e)
next_if false d ds i e = refl

-- before the first zero, each half is a dependency
pub some_code : (ns : List ℕ) (i : ℕ) → i < length ns → list_any (λ y. y == 0) (take (suc i) ns) ≡ false →
    dep_at (deps_of ns) i ≡ dep_code (dep_of (get_or ns i 0))
some_code [] i h e = absurd (omega arith)
some_code (n ∷ ns) zero h e = code_if (n == 0) (dep_of n) (deps_of ns) (both_false (n == 0) _ e).0
some_code (n ∷ ns) (suc i) h e = let b = both_false (n == 0) (list_any (λ y. y == 0) (take (suc i) ns)) e in
    next_if (n == 0) (dep_of n) (deps_of ns) i b.0 ∙ some_code ns i (let k : i < length ns = omega arith in k) b.1

-- a dependency whose code is not 0 is read
pub some_code_up_to : (ns : List ℕ) (i : ℕ) → i < length ns → list_any (λ y. y == 0) (take (i + 1) ns) ≡ false →
    dep_at (deps_of ns) i ≡ dep_code (dep_of (get_or ns i 0))
some_code_up_to ns i h e = let q : i + 1 ≡ suc i = omega arith in
    some_code ns i h (subst (λ (k : ℕ). list_any (λ y. y == 0) (take k ns) ≡ false) q e)
