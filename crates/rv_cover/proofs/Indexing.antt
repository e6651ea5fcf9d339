-- Events without faults over those before them are indexed.
use Rattle.std.proofs.Common.{◌≡◌, List, [], ◌∷◌, ◌++◌, refl, sym, ◌∙◌, append_assoc}
use Rattle.rv_event.proofs.Indexed.{Indexed, AllSound, indexed-all, indexed-nil, sound_of}
use Rattle.rv_event.specs.WellFormed.{WellFormedEvents}
use Rattle.rv_event.specs.declared.event.Event.{Event}

events_sound : (log before rest : List Event) → WellFormedEvents log → log ≡ before ++ rest → AllSound before rest
events_sound log before [] ok e = tt
events_sound log before (x ∷ rest) ok e = (
  sound_of before x (ok before rest x e),
  events_sound log (before ++ x ∷ []) rest ok
      (e ∙ sym (append_assoc before (x ∷ []) rest)),
)

-- a well formed list of events is indexed
pub indexed_from_events : (log : List Event) → WellFormedEvents log → Indexed log
indexed_from_events log ok = indexed-all [] log indexed-nil (events_sound log [] log ok refl)
