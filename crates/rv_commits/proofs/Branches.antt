-- The rows of branches.
use Rattle.std.proofs.Common.{ℕ, ◌≡◌, ◌+◌, ◌-◌, ◌≤◌, ◌++◌, ◌∷◌, [], List, inl, inr, All, length, map, take, drop}
use Rattle.std.proofs.Common.{refl, sym, ap, ◌∙◌, subst, arith, append-nil}
use Rattle.std.proofs.lemmas.Bool.{cases_lt}
use Rattle.std.proofs.lemmas.Grind.{flat_map-append}
use Rattle.std.proofs.lemmas.List.{get_or_append_left, get_or_at, length_push, length-map, map-id}
use Rattle.std.proofs.lemmas.List.Elements.{All-map}
use Rattle.std.proofs.lemmas.Simd.{map-map}
use Rattle.std.proofs.Math.Seq.{take-add}
use Rattle.std.specs.List.{flat_map}
use Rattle.rv_event.specs.declared.event.Dep.{Dep}
use Rattle.rv_event.specs.declared.event.DepKind.TheVariants.{Ctrl}
use Rattle.rv_event.specs.declared.event.Event.{Event}
use Rattle.rv_commits.specs.Harts.{AreBranchRows, IsBranchRow, listed_by}
use Rattle.rv_commits.specs.Rows.{parts_of}

-- dependencies of a branch
abbrev dep : ℕ → Dep
dep p = record { kind = Ctrl; seq = p }

pub ctrl-all : (parts : List ℕ) → All (λ d. d.kind ≡ Ctrl) (parts_of Ctrl parts)
ctrl-all parts = All-map (λ (d : Dep). d.kind ≡ Ctrl) dep parts (λ k d low. refl)

pub ctrl-few : (parts : List ℕ) → length parts ≤ 8 → length (parts_of Ctrl parts) ≤ 8
ctrl-few parts few = let long = length-map parts dep in omega (long, few, arith)

pub ctrl-listed : (parts : List ℕ) → map (λ (d : Dep). d.seq) (parts_of Ctrl parts) ≡ parts
ctrl-listed parts = map-map (λ (d : Dep). d.seq) dep parts ∙ map-id parts

-- the first events, and those from there up to a place
pub taken-upto : (a b : ℕ) (events : List ℕ) → a ≤ b → take a events ++ take (b - a) (drop a events) ≡ take b events
taken-upto a b events upto = sym (take-add a (b - a) events) ∙ ap (λ (n : ℕ). take n events) (omega (upto, arith))

-- no rows list no events
pub no-rows : (hart first : ℕ) (rows : List Event) → rows ≡ [] → AreBranchRows hart first [] rows
no-rows hart first rows none = subst (AreBranchRows hart first []) (sym none) (record {
  each = λ k d low. absurd (omega (low, arith));
  all = refl;
})

-- with one row more they list its events too
pub rows-more : (hart first : ℕ) (events more : List ℕ) (rows : List Event) (row : Event) →
    AreBranchRows hart first events rows → IsBranchRow hart (first + length rows) row → listed_by row ≡ more →
    AreBranchRows hart first (events ++ more) (rows ++ row ∷ [])
rows-more hart first events more rows row are is lists = record {
  each = λ k d low. elim (cases_lt k (length rows)) [
    | inl before ↦ subst (IsBranchRow hart (first + k)) (sym (get_or_append_left rows (row ∷ []) d k before))
        (are.each k d before)
    | inr last ↦ (
        let long = length_push rows row in
        let here : length rows ≡ k = omega (low, last, long, arith) in
        subst (IsBranchRow hart (first + k)) (sym (get_or_at rows row [] d k here))
        (subst (λ (n : ℕ). IsBranchRow hart (first + n) row) here is))
  ];
  all = flat_map-append listed_by rows (row ∷ []) ∙
      ap (λ (xs : List ℕ). xs ++ flat_map listed_by (row ∷ [])) are.all ∙
      ap (λ (xs : List ℕ). events ++ xs) (append-nil (listed_by row) ∙ lists);
}
