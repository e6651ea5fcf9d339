-- What an explanation of a refusal says: the certificate's steps or pair, with the events that they
-- speak of, in a column for each hart.
use Rattle.std.specs.Prelude.{◌≡◌, ◌+◌, List, [], ◌∷◌, Some, length}
use Rattle.rv_event.specs.Log.{events, named}
use Rattle.rv_event.specs.declared.event.Entry.{Entry}
use Rattle.rv_event.specs.declared.event.Event.{Event}
use Rattle.rv_event.specs.declared.event.Id.{Id}
use Rattle.rv_cert.specs.Refusals.{Refusal}
use Rattle.rv_cert.specs.declared.certificate.Certificate.{Certificate}
use Rattle.rv_cert.specs.declared.certificate.Certificate.TheVariants as certificate
use Rattle.rv_explain.specs.RowTexts.{Said}
use Rattle.rv_explain.specs.Showing.{AreColumns, AreShown, IsShown}
use Rattle.rv_explain.specs.Steps.{AreStepsOfCycle, ids_of_steps}
use Rattle.rv_explain.specs.declared.explanation.Cause.{Cause}
use Rattle.rv_explain.specs.declared.explanation.Cause.TheVariants.{Cycle, Stale}
use Rattle.rv_explain.specs.declared.explanation.Explanation.{Explanation}
use Rattle.rv_explain.specs.declared.shown.Column.{Column}
use Rattle.rv_explain.specs.declared.shown.Shown.{Shown}

-- the cause is that of the certificate: the steps of its cycle, or the events of its pair
abbrev pub IsCauseOf : List Event → Certificate → Cause → Type 0
IsCauseOf log (certificate.Circle edges) (Cycle steps) = AreStepsOfCycle log edges steps.items
IsCauseOf log (certificate.Circle edges) (Stale a b) = ⊥
IsCauseOf log (certificate.Stale load store) (Cycle steps) = ⊥
IsCauseOf log (certificate.Stale load store) (Stale a b) =
    (named log load ≡ Some a.now) × (named log store ≡ Some b.now)

-- the ids of the events that it speaks of
abbrev pub ids_of_cause : Cause → List Id
ids_of_cause (Cycle steps) = ids_of_steps steps.items
ids_of_cause (Stale a b) = a.now.id ∷ b.now.id ∷ []

-- the columns show just these events and the refused one, each under its row
pub record Shows (log : List Entry) (texts : Said) (refused : Id) (cause : Cause)
    (columns : List Column) : Type 0 where
  pub shown : List Shown
  pub are_shown : AreShown log texts (refused ∷ ids_of_cause cause) shown
  pub are_columns : AreColumns shown columns

-- the explanation of a refusal, with what is said of rows
pub record IsExplanation (f : Refusal) (texts : Said) (e : Explanation) : Type 0 where
  pub refused : IsShown f.evidence texts e.refused
  pub last : e.refused.place + 1 ≡ length f.evidence
  pub cause : IsCauseOf (events f.evidence) f.certificate e.cause
  pub shows : Shows f.evidence texts e.refused.entry.now.event.id e.cause e.columns.items
