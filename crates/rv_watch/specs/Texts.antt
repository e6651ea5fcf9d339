-- The report of a watched run as text. The format is this project's own.
use Rattle.std.specs.Prelude.{ℕ, List, codes, decimal, Option, Some, None}
use Rattle.rv_event.specs.Texts.{◌⋯◌, id_text, reason_text}
use Rattle.rv_event.specs.declared.event.Id.{Id}
use Rattle.rv_past.specs.declared.edge.PastEdge.{PastEdge}
use Rattle.rv_report.specs.Texts.{certificate_text, forbidden_line, line_feed, malformed_line}
use Rattle.rv_watch.specs.Names.{certificate_named}
use Rattle.rv_watch.specs.declared.stop.Stop.{Stop}
use Rattle.rv_watch.specs.declared.stop.Stop.TheVariants as stop
use Rattle.rv_watch.specs.declared.watch.Watch.{Watch}

abbrev pub taken_line : List ℕ → ℕ → List ℕ
taken_line refused after =
    codes "malformed: " ⋯ refused ⋯ codes " after " ⋯ decimal after ⋯ codes " events: fault 5 version taken"
    ⋯ line_feed

abbrev pub past_line : List ℕ → PastEdge → List ℕ
past_line refused edge =
    codes "past: " ⋯ refused ⋯ codes " " ⋯ reason_text edge.reason ⋯ codes " word " ⋯ decimal edge.word
    ⋯ codes " version " ⋯ decimal edge.version ⋯ line_feed

-- the report of a run that refused this event, where it did
abbrev pub refusal_text : Watch → Id → Stop → Option (List ℕ)
refusal_text w i (stop.Malformed f) = Some (malformed_line (id_text i) w.events f)
refusal_text w i stop.Taken = Some (taken_line (id_text i) w.events)
refusal_text w i (stop.Forbidden r) =
    Some (forbidden_line (id_text i) w.events ⋯ certificate_text (certificate_named w.run.firsts None r.certificate))
refusal_text w i (stop.BeforePast edge) = Some (forbidden_line (id_text i) w.events ⋯ past_line (id_text i) edge)
refusal_text w i (stop.Beyond b) = None
refusal_text w i stop.Stopped = None
refusal_text w i stop.NoMemory = None
