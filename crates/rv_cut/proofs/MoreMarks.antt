-- What marks say when there is one more.
use Rattle.std.proofs.Common.{IsTrue, List, ap, arith, inl, inr, refl, subst, sym, ℕ, ◌<◌, ◌==◌, ◌∙◌, ◌≡◌, ◌⊎◌}
use Rattle.std.proofs.lemmas.Bool.{eqb-true}
use Rattle.std.specs.Global.{Vec}
use Rattle.std.specs.List.{Contains}
use Rattle.rv_cover.specs.Paths.{Path}
use Rattle.rv_cover.specs.Paths.Path.{more, one}
use Rattle.rv_edges.specs.declared.ties.Tie.{Tie}
use Rattle.rv_event.proofs.Growing.{Any-from_contains}
use Rattle.rv_event.proofs.Names.{named-is}
use Rattle.rv_event.specs.Log.{Earlier}
use Rattle.rv_event.specs.Operations.{IsMemory}
use Rattle.rv_event.specs.Relations.{DependsOn, Lists}
use Rattle.rv_event.specs.declared.event.Dep.{Dep}
use Rattle.rv_event.specs.declared.event.DepKind.{DepKind}
use Rattle.rv_event.specs.declared.event.DepKind.TheVariants.{Addr, Ctrl}
use Rattle.rv_event.specs.declared.event.Event.{Event}
use Rattle.rv_event.specs.declared.event.Id.{Id}
use Rattle.rv_event.specs.declared.event.Op.TheVariants.{Branch}
use Rattle.rv_event.specs.declared.memory_model.MemoryModel.{MemoryModel}
use Rattle.rv_settle.specs.Bars.IsBeforeStores.{addressed, branched}
use Rattle.rv_settle.specs.Settled.{AnyEdge, LeadsTo}
use Rattle.rv_cut.specs.Marked.{AreMarked, PutsBefore, StandsBefore, has_place, mark_of, place_for}
use Rattle.rv_cut.specs.declared.bars.Later.{Later}
use Rattle.rv_cut.specs.declared.bars.Later.TheVariants.{Loads, Stores}

module _ (model : MemoryModel) (log : List Event) (hart : ℕ) (later : Later) where
  -- edges lead from each operation of this id to one that stands there
  abbrev pub Leads : Id → Type 0
  Leads i = (p : Event) → Contains log p → IsMemory p → p.id ≡ i →
      LeadsTo model log hart (StandsBefore later model log) p

  -- an operation of the hart that stands there is one itself
  pub leads-own : (m : Event) → Contains log m → IsMemory m → m.id.hart ≡ hart → StandsBefore later model log m →
      Leads m.id
  leads-own m of_log memory own stands p p-own p-memory is =
      record { m = m; of_log = of_log; memory = memory; own = own; leads = inl is; stands = stands }

-- each place is that of one hart and one kind
place-apart : (hart h : ℕ) (later l : Later) → place_for hart later ≡ place_for h l → (hart ≡ h) × (later ≡ l)
place-apart hart h Loads Loads same = (omega (arith, same), refl)
place-apart hart h Loads Stores same = absurd (omega (arith, same))
place-apart hart h Stores Loads same = absurd (omega (arith, same))
place-apart hart h Stores Stores same = (omega (arith, same), refl)

module _ (model : MemoryModel) (log : List Event) where
  -- with more places for one id marks say the same, where edges lead from it for each of these
  pub marked-more : (old new : List (Vec ℕ)) (i : Id) (mark : ℕ) →
      ((j : Id) (k : ℕ) → IsTrue (has_place (mark_of new j) k) →
      IsTrue (has_place (mark_of old j) k) ⊎ ((j ≡ i) × IsTrue (has_place mark k))) →
      ((hart : ℕ) (later : Later) → IsTrue (has_place mark (place_for hart later)) → Leads model log hart later i) →
      AreMarked model log old → AreMarked model log new
  marked-more old new i mark with_one leads are hart later p own memory marked =
      elim (with_one p.id (place_for hart later) marked) [
        | inl before ↦ are hart later p own memory before
        | inr is ↦ leads hart later is.1 p own memory is.0
      ]

  -- with one place they do where edges lead from it for that one
  pub leads-one : (i : Id) (h : ℕ) (l : Later) (mark : ℕ) →
      ((k : ℕ) → has_place mark k ≡ (k == place_for h l)) → Leads model log h l i →
      (hart : ℕ) (later : Later) → IsTrue (has_place mark (place_for hart later)) → Leads model log hart later i
  leads-one i h l mark is leads hart later has =
      let same = place-apart hart h later l
      (eqb-true (place_for hart later) (place_for h l) (sym (is (place_for hart later)) ∙ has)) in
      subst (λ (x : ℕ). Leads model log x later i) (sym same.0)
      (subst (λ (x : Later). Leads model log h x i) (sym same.1) leads)

-- an operation on which an event depends by a branch or an address stands before each later store
pub leads-source : (model : MemoryModel) (log : List Event) (e : Event) (later : Later) (d : Dep) → Contains log e →
    Contains e.deps d → (later ≡ Stores) × PutsBefore e d →
    Leads model log e.id.hart later (record { hart = e.id.hart; seq = d.seq })
leads-source model log e later d of_log listed (kind, (before, why)) p p-own p-memory is =
    record {
      m = p;
      of_log = p-own;
      memory = p-memory;
      own = own;
      leads = inl refl;
      stands = subst (λ x. StandsBefore x model log p) (sym kind) (stands why);
    }
  where
    own : p.id.hart ≡ e.id.hart
    own = ap (λ (i : Id). i.hart) is

    number : d.seq ≡ p.id.seq
    number = sym (ap (λ (i : Id). i.seq) is)

    earlier : Earlier p e
    earlier = record { hart = own; seq = subst (λ n. n < e.id.seq) number before }

    lists : (kind : DepKind) → d.kind ≡ kind → Lists kind e p
    lists kind same = (
      earlier,
      subst (λ k. Contains e.deps (record { kind = k; seq = p.id.seq })) same
          (subst (λ n. Contains e.deps (record { kind = d.kind; seq = n })) number listed),
    )

    stands : (d.kind ≡ Addr) ⊎ ((d.kind ≡ Ctrl) × (e.op ≡ Branch)) → StandsBefore Stores model log p
    stands (inl address) =
        addressed (Any-from_contains (λ f. Earlier p f × DependsOn log Addr f p) log e of_log
        (earlier, inl (lists Addr address)))
    stands (inr (control, branch)) =
        branched (Any-from_contains (λ f. Earlier p f × (f.op ≡ Branch) × DependsOn log Ctrl f p) log e of_log
        (earlier, branch, inl (lists Ctrl control)))

module _ (model : MemoryModel) (log : List Event) (hart : ℕ) (later : Later) where
  -- where an edge leads to a marked operation, edges lead from the other one too
  pub leads-before : (rows : List (Vec ℕ)) (t : Tie) → AnyEdge model log t.from t.to →
      IsTrue (has_place (mark_of rows t.to) (place_for hart later)) → AreMarked model log rows →
      Leads model log hart later t.from
  leads-before rows t (reason, edge) marked are p own memory is =
      record { m = at.m; of_log = at.of_log; memory = at.memory; own = at.own; leads = inr leads; stands = at.stands }
    where
      named : Contains log edge.b × (t.to ≡ edge.b.id)
      named = named-is log t.to edge.b edge.to_named

      at : LeadsTo model log hart (StandsBefore later model log) edge.b
      at = are hart later edge.b named.0 edge.to_memory
          (subst (λ i. IsTrue (has_place (mark_of rows i) (place_for hart later))) named.1 marked)

      step : AnyEdge model log p.id edge.b.id
      step = subst (λ i. AnyEdge model log i edge.b.id) (sym is)
          (subst (λ i. AnyEdge model log t.from i) named.1 (reason, edge))

      leads : Path Id (AnyEdge model log) p.id at.m.id
      leads = elim at.leads [
        | inl same ↦ one (subst (λ i. AnyEdge model log p.id i) same step)
        | inr path ↦ more step path
      ]
