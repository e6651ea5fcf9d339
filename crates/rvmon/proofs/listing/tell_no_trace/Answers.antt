use Rattle.std.proofs.Common.{◌∙◌, ℕ, [], subst, sym}
use Rattle.std.proofs.lemmas.Result.{IfOk-weaker}
use Rattle.rvmon.specs.Listing.{IsFailureTold}
use Rattle.rvmon.proofs.listing.tell_no_trace.Goals as goal

pub returns : goal.returns
returns g c = IfOk-weaker c.tell_failure.result _ _ (λ status told. (
  told.1.0,
  told.1.1,
  record {
    reason = c.args.fault;
    is_reason = c.requires;
    status_is = told.0 ∙ c.status_of_names.ensures;
    told = subst (λ (s : ℕ). IsFailureTold [] s told.1.0) (sym told.0) told.1.2;
  },
)) c.tell_failure.ensures
