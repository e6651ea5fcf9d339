-- The places of a hart's events in a log.
use Rattle.std.specs.Prelude.{ℕ, ◌+◌, ◌==◌, List, [], ◌∷◌, if◌then◌else◌}
use Rattle.rv_event.specs.declared.event.Event.{Event}

-- the places of the hart's events, where the first event of the list has this place
abbrev pub places_from : ℕ → ℕ → List Event → List ℕ
places_from hart place [] = []
places_from hart place (e ∷ log) =
    if hart == e.id.hart then place ∷ places_from hart (place + 1) log else places_from hart (place + 1) log

-- the places of the hart's events in the log
abbrev pub places_of : ℕ → List Event → List ℕ
places_of hart log = places_from hart 0 log
