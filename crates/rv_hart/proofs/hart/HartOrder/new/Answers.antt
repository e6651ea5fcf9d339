-- A hart without events has no places, and nothing is kept of it.
use Rattle.rv_hart.proofs.Common.{List, sym, ◌∙◌, subst, Event, IsKept}
use Rattle.rv_hart.proofs.Places.{places-none}
use Rattle.rv_hart.proofs.hart.HartOrder.new.Goals as goal

pub returns-clause-none : goal.returns-clause-none
returns-clause-none c = λ log none. record {
  places = c.new-places.ensures.items ∙ sym (places-none _ log none);
  kept = subst (λ (es : List Event). IsKept es c.new-kept.result) (sym none) c.new-kept.ensures.kept;
}
