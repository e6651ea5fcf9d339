-- A cut stays one while some order is lawful.
use Rattle.std.proofs.Common.{◌++◌, ◌∷◌, ◌≡◌, ◌⊎◌, ◌∙◌, [], Bool, Contains, IsTrue, List, Some, ap}
use Rattle.std.proofs.Common.{arith, inl, inr, subst, sym, ℕ}
use Rattle.std.proofs.lemmas.List.Elements.{Contains-append_left, Contains-push_cases}
use Rattle.std.proofs.lemmas.Option.{same_Some}
use Rattle.rv_event.proofs.Indexed.{IndexedWithin, SoundWithin, indexed-push}
use Rattle.rv_event.proofs.Names.{named-is}
use Rattle.rv_event.proofs.Settled.{edge-push}
use Rattle.rv_event.specs.Edges.{IsEdge}
use Rattle.rv_event.specs.Log.{Earlier, named}
use Rattle.rv_event.specs.Operations.{IsMemory}
use Rattle.rv_event.specs.Orders.{Lawful}
use Rattle.rv_event.specs.declared.event.Event.{Event}
use Rattle.rv_event.specs.declared.event.Id.{Id}
use Rattle.rv_event.specs.declared.memory_model.MemoryModel.{MemoryModel}
use Rattle.rv_event.specs.declared.reason.Reason.{Reason}
use Rattle.rv_settle.proofs.Bars.{earlier-new}
use Rattle.rv_settle.proofs.Forward.{no_way_back}
use Rattle.rv_settle.proofs.Stays.{settled-stays}
use Rattle.rv_settle.specs.Cuts.{IsCut}

module _ {limit : ℕ} (model : MemoryModel) (log : List Event) (e : Event) (known : IndexedWithin limit log)
    (sound : SoundWithin limit log e) where
  -- an event of the longer log with the id of an old one is that
  same-old : (a p : Event) → Contains (log ++ e ∷ []) a → Contains log p → a.id ≡ p.id → a ≡ p
  same-old a p ca cp same =
      let known' = indexed-push log e known sound in
      let there : named (log ++ e ∷ []) p.id ≡ Some p = known'.own p (Contains-append_left log (e ∷ []) p cp) in
      let here : named (log ++ e ∷ []) a.id ≡ Some a = known'.own a ca in
      same_Some a p (sym here ∙ ap (named (log ++ e ∷ [])) same ∙ there)

  -- no old event has the new one's id
  pub new-id : (p : Event) → Contains log p → p.id ≡ e.id → ⊥
  new-id p c same =
      let earlier = earlier-new model log e known sound p c (ap (λ (i : Id). i.hart) same) in
      let low = earlier.seq in
      let equal = ap (λ (i : Id). i.seq) same in
      omega (arith, low, equal)

  module _ (active : List ℕ) (past : Event → Bool) (cut : IsCut model log active past) where
    -- while some order is lawful, no edge leads from a new event of an active hart into the past
    pub none-back : (order : List Id) → Contains active e.id.hart → Lawful model (log ++ e ∷ []) order →
        (p : Event) (reason : Reason) → IsTrue (past p) → IsEdge model (log ++ e ∷ []) e.id reason p.id → ⊥
    none-back order is_active lawful p reason gone edge =
        let there : named (log ++ e ∷ []) p.id ≡ Some p =
        (indexed-push log e known sound).own p (Contains-append_left log (e ∷ []) p (cut.of_log p gone)) in
        let memory : IsMemory p =
        subst IsMemory (same_Some edge.b p (sym edge.to_named ∙ there)) edge.to_memory in
        no_way_back model log e known sound order lawful p reason (cut.settled p gone memory e.id.hart is_active) edge

    -- what is earlier than the past is past: the new event is not
    begins : (a p : Event) → Contains log a ⊎ (e ≡ a) → IsTrue (past p) → Earlier a p → IsTrue (past a)
    begins a p (inl c) gone earlier = cut.begins a p c gone earlier
    begins a p (inr is) gone earlier =
        let from_new : Earlier e p = subst (λ (b : Event). Earlier b p) (sym is) earlier in
        let to_new = earlier-new model log e known sound p (cut.of_log p gone) (sym from_new.hart) in
        absurd (omega (arith, from_new.seq, to_new.seq))

    module _ (none : (p : Event) (reason : Reason) → IsTrue (past p) →
        IsEdge model (log ++ e ∷ []) e.id reason p.id → ⊥) where
      -- an edge into the past is an old one
      closed : (a p : Event) (reason : Reason) → Contains (log ++ e ∷ []) a → IsTrue (past p) →
          IsEdge model (log ++ e ∷ []) a.id reason p.id →
          IsEdge model log a.id reason p.id ⊎ ((a.id ≡ e.id) ⊎ (p.id ≡ e.id)) → IsTrue (past a)
      closed a p reason c gone edge (inl old) =
          let from = named-is log a.id old.a old.from_named in
          let is : a ≡ old.a = same-old a old.a c from.0 from.1 in
          cut.closed a p (subst (Contains log) (sym is) from.0) gone (reason, old)
      closed a p reason c gone edge (inr (inl same)) =
          absurd (none p reason gone (subst (λ (i : Id). IsEdge model (log ++ e ∷ []) i reason p.id) same edge))
      closed a p reason c gone edge (inr (inr same)) = absurd (new-id p (cut.of_log p gone) same)

      -- a cut of the log is one of the longer log
      pub cut-stays : IsCut model (log ++ e ∷ []) active past
      cut-stays = record {
        of_log = λ p gone. Contains-append_left log (e ∷ []) p (cut.of_log p gone);
        begins = λ a p c gone earlier. begins a p (Contains-push_cases log e a c) gone earlier;
        closed = λ a p c gone edge. closed a p edge.0 c gone edge.1
            (edge-push model log e known sound a.id p.id edge.0 edge.1);
        settled = λ p gone memory hart is.
            settled-stays model log e known sound hart p (cut.settled p gone memory hart is);
      }
