-- No events and no links are a history, in which no hart has events.
use Rattle.rv_edges.proofs.Common.{List, length, sym, ap, subst, arith, events, of_hart, Event, IsHistory}
use Rattle.rv_edges.proofs.CarriedEdges.{IsHistory-nil}
use Rattle.rv_edges.proofs.Sides.{no_sides}
use Rattle.rv_edges.proofs.history.History.new.Goals as goal

pub invariant_of-result : goal.invariant_of-result
invariant_of-result c =
    let none = no_sides (events c.new-versions.result) c.new-links.result (ap events c.new-versions.ensures)
    c.new-links.ensures in
    record {
      lengths = none.0;
      history = subst (IsHistory _) (sym none.1) (IsHistory-nil _);
      own = record {
        each = λ h x low. absurd (omega (arith, low, ap length c.new-harts.ensures.items));
        none = λ h high. ap (λ (es : List Event). of_hart h es) (ap events c.new-versions.ensures);
      };
    }
