-- The text of a list of dependencies, from that of the first on.
use Rattle.std.proofs.Common.{◌≡◌, ℕ, List, [], ◌∷◌, ◌++◌, ap}
use Rattle.std.proofs.lemmas.List.{append-nil}
use Rattle.std.specs.List.{flat_map}
use Rattle.rv_event.specs.declared.event.Dep.{Dep}
use Rattle.rv_event.specs.Rows.{dep_text, deps_text}

-- the first dependency, and each other one behind a space, are the text of them all
pub deps_text-first :
    (d : Dep) (ds : List Dep) → dep_text d ++ flat_map (λ x. 32 ∷ dep_text x) ds ≡ deps_text (d ∷ ds)
deps_text-first d [] = append-nil (dep_text d)
deps_text-first d (e ∷ es) = ap (λ (t : List ℕ). dep_text d ++ (32 ∷ t)) (deps_text-first e es)
