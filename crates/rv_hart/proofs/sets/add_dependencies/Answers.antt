use Rattle.rv_hart.proofs.Common.{◌≡◌, ◌+◌, ℕ, take, sym, ◌∙◌, subst, List, rules, tests, get_or, take_all}
use Rattle.rv_hart.proofs.Common.{get_or_default, arith, common_steps, Dep, Addr}
use Rattle.rv_hart.proofs.DependencyRows.{AddsNamed, named-more, named-same}
use Rattle.rv_hart.proofs.sets.add_dependencies.Goals.{then-eq, else-eq}
use Rattle.rv_hart.proofs.sets.add_dependencies.Goals as goal

pub loop-dep-preserved : goal.loop-dep-preserved
loop-dep-preserved c =
    let kind = c.args.kind in
    let loads : List ℕ = c.args.loads.now in
    let stores : List ℕ = c.args.stores.now in
    let carried : List (List ℕ) = c.args.carried.now in
    let items : List Dep = c.as_slice-dep-items.result.now in
    let i : ℕ = c.loop-dep.dep-index in
    let d : Dep = get_or items i (record { kind = Addr; seq = 0 }) in
    let is : d ≡ get_or items i d = get_or_default items i (record { kind = Addr; seq = 0 }) d c.loop-dep-test.true in
    let old : List ℕ = c.args.row.now in
    let so : AddsNamed kind loads stores carried (take i items) old c.loop-dep.row = c.loop-dep.invariant in
    elim c.if-eq.branch [
      | then-eq w ↦ (
          let same : d.kind ≡ kind = search (rules, tests) in
          let more : AddsNamed kind loads stores carried (take (i + 1) items) old w.add_dependency.new.row =
          named-more kind loads stores carried items i d c.loop-dep-test.true is old c.loop-dep.row so
          w.add_dependency.new.row same w.add_dependency.ensures in
          subst (λ (row : List ℕ). AddsNamed kind loads stores carried (take (i + 1) items) old row)
          (sym w.row-is) more)
      | else-eq w ↦ (
          let apart : d.kind ≡ kind → ⊥ = grind (arith, common_steps) in
          subst (λ (row : List ℕ). AddsNamed kind loads stores carried (take (i + 1) items) old row) (sym w.row-is)
          (named-same kind loads stores carried items i d c.loop-dep-test.true is old c.loop-dep.row so apart))
    ]

pub returns : goal.returns
returns c = subst (λ (ds : List Dep). AddsNamed c.args.kind c.args.loads.now c.args.stores.now c.args.carried.now ds
    c.args.row.now c.loop-dep.row) (take_all c.loop-dep.dep-index c.as_slice-dep-items.result.now
    c.loop-dep-test.false ∙ c.as_slice-dep-items.ensures) c.loop-dep.invariant
