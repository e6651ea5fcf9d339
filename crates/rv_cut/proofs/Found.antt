-- What is found is a cut.
use Rattle.std.proofs.Common.{Bool, IsTrue, List, ap, arith, false, filter, inl, inr, length, refl, subst, sym, ℕ}
use Rattle.std.proofs.Common.{[], ◌∙◌, ◌∷◌, ◌≡◌, ◌≤◌}
use Rattle.std.proofs.lemmas.Bool.{false≢true, le-ltb, lt-ltb, ltb-true}
use Rattle.std.proofs.lemmas.Grind.{common_steps}
use Rattle.std.specs.List.{Contains}
use Rattle.rv_book.proofs.ForwardOrders.{id_cases}
use Rattle.rv_cover.specs.Paths.{Path}
use Rattle.rv_cover.specs.Paths.Path.{more, one}
use Rattle.rv_edges.specs.Ties.{AreTiesOf}
use Rattle.rv_edges.specs.declared.ties.Tie.{Tie}
use Rattle.rv_event.specs.Faults.{is_reserved}
use Rattle.rv_event.specs.Log.{of_hart}
use Rattle.rv_event.specs.Operations.{IsMemory}
use Rattle.rv_event.specs.declared.event.Event.{Event}
use Rattle.rv_event.specs.declared.event.Id.{Id}
use Rattle.rv_event.specs.declared.memory_model.MemoryModel.{MemoryModel}
use Rattle.rv_settle.specs.Settled.{IsSettled}
use Rattle.rv_settle.specs.Windows.{LeavesReserved}
use Rattle.rv_cut.specs.Cuts.{HasWaited, IsCutOf, first_of, is_past}

-- no tie leads from what is kept into the past
abbrev pub IsClosed : List ℕ → List Tie → Type 0
IsClosed firsts ties = (t : Tie) → Contains ties t → IsTrue (is_past firsts t.to) → IsTrue (is_past firsts t.from)

-- and no path of ties does
path-past : (firsts : List ℕ) (ties : List Tie) → IsClosed firsts ties → (i j : Id) →
    Path Id (λ a b. Contains ties (record { from = a; to = b })) i j → IsTrue (is_past firsts j) →
    IsTrue (is_past firsts i)
path-past firsts ties closed i j (one step) past = closed (record { from = i; to = j }) step past
path-past firsts ties closed i j (more {j = k} step path) past =
    closed (record { from = i; to = k }) step (path-past firsts ties closed k j path past)

-- below numbers to which no tie leads, and below which all is settled, is a cut
pub found : (model : MemoryModel) (log : List Event) (active : List ℕ) (patience : ℕ) (firsts : List ℕ)
    (ties : List Tie) →
    AreTiesOf model log ties → IsClosed firsts ties →
    ((p : Event) → Contains log p → IsMemory p → IsTrue (is_past firsts p.id) → IsSettled model log active p) →
    ((hart : ℕ) → LeavesReserved (first_of firsts) log hart → HasWaited patience log firsts hart) →
    ((hart : ℕ) → first_of firsts hart ≤ length (of_hart hart log)) → IsCutOf model log active patience firsts
found model log active patience firsts ties are closed settled waits within = record {
  cut = λ past of_log below. record {
    of_log = of_log;
    begins = λ a p own gone earlier.
        let low = (below p (of_log p gone)).0 gone in
        (below a own).1 (omega (
          arith,
          low,
          earlier.seq,
          ap (first_of firsts) earlier.hart,
        ));
    closed = λ a p own gone edge.
        let low = lt-ltb p.id.seq (first_of firsts p.id.hart) ((below p (of_log p gone)).0 gone) in
        let also : IsTrue (is_past firsts a.id) = elim (id_cases a.id p.id) [
          | inl same ↦ subst (λ (i : Id). IsTrue (is_past firsts i)) (sym same) low
          | inr other ↦ path-past firsts ties closed a.id p.id (are.covered a.id p.id edge.0 other edge.1) low
        ] in
        (below a own).1 (ltb-true a.id.seq (first_of firsts a.id.hart) also);
    settled = λ p gone memory.
        settled p (of_log p gone) memory
        (lt-ltb p.id.seq (first_of firsts p.id.hart) ((below p (of_log p gone)).0 gone));
  };
  waits = waits;
  within = within;
}

-- nothing passes a test that is false of all
filter-none : {X : Type 0} (p : X → Bool) (xs : List X) → ((x : X) → p x ≡ false) → filter p xs ≡ []
filter-none p [] none = refl
filter-none p (x ∷ xs) none = let rest = filter-none p xs none in let first = none x in grind (arith, common_steps)

-- no past at all is that of a cut
pub found-none : (model : MemoryModel) (log : List Event) (active : List ℕ) (patience : ℕ) (firsts : List ℕ) →
    ((hart : ℕ) → first_of firsts hart ≡ 0) → IsCutOf model log active patience firsts
found-none model log active patience firsts none = record {
  cut = λ past of_log below.
      let no : (p : Event) → IsTrue (past p) → ⊥ = λ p gone.
      let low = (below p (of_log p gone)).0 gone in
      omega (arith, low, none p.id.hart) in
      record {
        of_log = of_log;
        begins = λ a p own gone earlier. absurd (no p gone);
        closed = λ a p own gone edge. absurd (no p gone);
        settled = λ p gone memory. absurd (no p gone);
      };
  waits = λ hart reserved.
      absurd (false≢true (sym (ap (λ (es : List Event). is_reserved es hart)
      (filter-none (λ (e : Event). is_past firsts e.id) log
      (λ e. le-ltb e.id.seq (first_of firsts e.id.hart) (omega (arith, none e.id.hart))))) ∙ reserved));
  within = λ hart. omega (arith, none hart);
}
