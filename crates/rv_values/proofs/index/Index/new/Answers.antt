use Rattle.std.proofs.Common.{◌≡◌, ◌∙◌, ◌+◌, ◌++◌, ◌∷◌, [], ap, arith, subst, sym, take, List, ℕ, None, get_or}
use Rattle.std.proofs.lemmas.List.{take_more, take_all}
use Rattle.std.specs.Map.{lookup}
use Rattle.std.specs.HashMap.{get}
use Rattle.rv_memory.specs.Stores.{same_issuer as same_key}
use Rattle.rv_values.specs.Index.{AreVersions, IsFound}
use Rattle.rv_values.specs.Values.{IsWritten}
use Rattle.rv_values.specs.Issues.{AreSingle}
use Rattle.rv_values.specs.Memory.{IsMemory}
use Rattle.rv_values.specs.declared.issues.Issued.{Issued}
use Rattle.rv_values.proofs.Search.{single-take}
use Rattle.rv_values.proofs.index.Index.new.Goals as goal

-- what stands where there is no store
abbrev blank : Issued
blank = record { hart = 0; order = 0; word = record { address = 0; size = 0 }; wdata = None }

pub issues-init : goal.issues-init
issues-init c = λ performed is address value.
    subst (IsFound (λ v. IsWritten [] performed address v value))
    (sym (ap (lookup (same_key (address, value))) c.new-versions.ensures.empty))
    (λ v w. let low = w.made.retired.1 in omega (low, arith))

pub issues-preserved : goal.issues-preserved
issues-preserved c = λ performed is.
    let k : ℕ = c.issues.issued-index in
    let issued : List Issued = c.all-issued-items.result.now in
    let next : take (k + 1) issued ≡ take k issued ++ get_or issued k blank ∷ [] =
    take_more issued k blank c.issues-test.true in
    subst (λ (l : List Issued). AreVersions l performed (get same_key c.add.new.versions)) (sym next)
    (c.in_ok-add.ensures (take k issued) performed is.stores
    (subst AreSingle next (single-take (k + 1) issued
    (subst AreSingle (sym c.all-issued-items.ensures) is.single)))
    (c.issues.invariant performed is))

pub returns : goal.returns
returns c = λ issued performed is.
    let all : c.all-issued-items.result.now ≡ issued = c.all-issued-items.ensures ∙ is.issues in
    let whole : take c.issues.issued-index c.all-issued-items.result.now ≡ issued =
    take_all c.issues.issued-index c.all-issued-items.result.now c.issues-test.false ∙ all in
    subst (λ (l : List Issued). AreVersions l performed (get same_key c.issues.versions)) whole
    (c.issues.invariant performed
    (subst (λ (l : List Issued). IsMemory l performed c.args.memory.now) (sym is.issues) is))
