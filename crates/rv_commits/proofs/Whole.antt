-- The rows of a hart over all of its instructions.
use Rattle.std.proofs.Common.{ℕ, ◌≡◌, ◌∙◌, ◌++◌, ◌∷◌, [], List, ap, refl, subst, sym, Option, inl, inr}
use Rattle.std.proofs.lemmas.List.{append_assoc}
use Rattle.rv_event.specs.declared.event.Event.{Event}
use Rattle.rv_flow.specs.Traces.{IsTraceOf, Traced}
use Rattle.rv_log.specs.declared.record.Performed.{Performed}
use Rattle.rv_log.specs.declared.record.Retired.{Retired}
use Rattle.rv_values.specs.declared.issues.Issued.{Issued}
use Rattle.rv_commits.specs.Harts.{IsCarrierFields}
use Rattle.rv_commits.specs.Queues.{IsGiven, IsRetired, pendings}
use Rattle.rv_commits.specs.Settled.{waiting_by}
use Rattle.rv_commits.specs.Whole.{AreAdded, AreGiven, AreWhole, carrier, next, none, nothing, row}
use Rattle.rv_commits.specs.declared.hart.HartRows.{HartRows}
use Rattle.rv_commits.specs.declared.pending.Pending.{Pending}
use Rattle.rv_commits.specs.declared.queue.WaitingHart.{WaitingHart}

module _ {issued : List Issued} {performed : List Performed} where
  -- a new hart has all its rows
  pub begun : (h : WaitingHart) → IsTraceOf [] h.rows.trace → h.queue.items ≡ [] → AreWhole issued performed [] [] h
  begun h is empty = record {
    passed = [];
    added = subst (AreAdded h.rows.hart [] h.rows.trace) (sym empty) (none is);
    are = nothing;
  }

  module _ {done : List Retired} {given : List Event} {old new : WaitingHart}
      (whole : AreWhole issued performed done given old) where
    -- an instruction adds its rows behind those that wait
    pub retired : (r : Retired) (word_number log_row : ℕ) → new.rows.hart ≡ old.rows.hart →
        IsRetired done r word_number log_row old new → AreWhole issued performed (done ++ r ∷ []) given new
    retired r word_number log_row same is =
        let behind = pendings is.added (waiting_by r is.own log_row) in
        record {
          passed = whole.passed;
          added = subst (λ (hart : ℕ). AreAdded hart (done ++ r ∷ []) new.rows.trace (whole.passed ++ new.queue.items))
              (sym same)
              (subst (AreAdded old.rows.hart (done ++ r ∷ []) new.rows.trace)
              (append_assoc whole.passed old.queue.items behind ∙
              ap (λ (ps : List Pending). whole.passed ++ ps) (sym is.queued))
              (next r word_number log_row is.added is.own whole.added is.is_added is.is_own));
          are = subst (λ (hart : ℕ). AreGiven issued performed hart whole.passed given) (sym same) whole.are;
        }

    -- a row that is given waits no more
    pub given-one : (initial : Option ℕ) (event : Event) → new.rows ≡ old.rows →
        IsGiven issued performed initial old new event → AreWhole issued performed done (given ++ event ∷ []) new
    given-one initial event same (inl (is, queue)) = record {
      passed = whole.passed;
      added = subst (λ (rows : HartRows). AreAdded rows.hart done rows.trace (whole.passed ++ new.queue.items))
          (sym same)
          (subst (λ (ps : List Pending). AreAdded old.rows.hart done old.rows.trace (whole.passed ++ ps)) (sym queue)
          whole.added);
      are = subst (λ (rows : HartRows). AreGiven issued performed rows.hart whole.passed (given ++ event ∷ []))
          (sym same)
          (carrier whole.are (subst (λ (n : ℕ). IsCarrierFields old.rows.hart n event) (sym is.number) is.fields)
          is.row);
    }
    given-one initial event same (inr is) = record {
      passed = whole.passed ++ is.first ∷ [];
      added = subst (λ (rows : HartRows). AreAdded rows.hart done rows.trace
          ((whole.passed ++ is.first ∷ []) ++ new.queue.items)) (sym same)
          (subst (AreAdded old.rows.hart done old.rows.trace)
          (ap (λ (ps : List Pending). whole.passed ++ ps) is.queue ∙
          sym (append_assoc whole.passed (is.first ∷ []) new.queue.items))
          whole.added);
      are = subst (λ (rows : HartRows). AreGiven issued performed rows.hart (whole.passed ++ is.first ∷ [])
          (given ++ event ∷ [])) (sym same) (row whole.are is.is_settled is.row);
    }
