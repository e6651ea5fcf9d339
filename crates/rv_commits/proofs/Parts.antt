-- The rows that a list of dependencies names.
use Rattle.std.proofs.Common.{ℕ, ◌≡◌, ◌<◌, ◌↔◌, ◌∙◌, List, Contains, ap, length, subst, sym}
use Rattle.std.proofs.lemmas.List.{get_or-map, length-map}
use Rattle.rv_event.specs.declared.event.Dep.{Dep}
use Rattle.rv_event.specs.declared.event.DepKind.{DepKind}
use Rattle.rv_event.specs.declared.event.Event.{Event}
use Rattle.rv_commits.specs.Rows.{ListsJust, parts_of}

-- they are just these
pub names-parts : (kind : DepKind) (parts : List ℕ) (p : ℕ) →
    Contains (parts_of kind parts) (record { kind = kind; seq = p }) ↔ Contains parts p
names-parts kind parts p = (to, from)
  where
    to : Contains (parts_of kind parts) (record { kind = kind; seq = p }) → Contains parts p
    to there =
        let low : there.0 < length parts = subst (λ (n : ℕ). there.0 < n)
        (length-map parts (λ (n : ℕ). record { kind = kind; seq = n })) there.1 in (
          there.0,
          low,
          ap (λ (d : Dep). d.seq) (sym (get_or-map (λ (n : ℕ). record { kind = kind; seq = n }) parts there.0 p
              (record { kind = kind; seq = p }) low) ∙ there.2),
        )

    from : Contains parts p → Contains (parts_of kind parts) (record { kind = kind; seq = p })
    from there = (
      there.0,
      subst (λ (n : ℕ). there.0 < n) (sym (length-map parts (λ (n : ℕ). record { kind = kind; seq = n }))) there.1,
      get_or-map (λ (n : ℕ). record { kind = kind; seq = n }) parts there.0 p (record { kind = kind; seq = p }) there.1
          ∙ ap (λ (n : ℕ). record { kind = kind; seq = n }) there.2,
    )

-- so does a row that has them alone
pub lists-just : (kind : DepKind) (row : Event) (parts : List ℕ) → row.deps ≡ parts_of kind parts →
    ListsJust kind row parts
lists-just kind row parts is p =
    subst (λ (ds : List Dep). Contains ds (record { kind = kind; seq = p }) ↔ Contains parts p) (sym is)
    (names-parts kind parts p)
