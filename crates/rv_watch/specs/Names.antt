-- How the events of a window are named in a report. These are this project's own.
use Rattle.std.specs.Prelude.{ℕ, ◌+◌, List, None, Option, Some, if◌then◌else◌, map, min}
use Rattle.rv_cert.specs.declared.certificate.Certificate.{Certificate}
use Rattle.rv_cert.specs.declared.certificate.Certificate.TheVariants as certificate
use Rattle.rv_cut.specs.Cuts.{first_of}
use Rattle.rv_event.specs.Log.{same_id}
use Rattle.rv_event.specs.declared.event.Id.{Id}
use Rattle.rv_event.specs.declared.reason.Reason.{Reason}

-- an id of the window, with its number in the log
abbrev pub in_log : List ℕ → Id → Id
in_log firsts i = record { hart = i.hart; seq = min (i.seq + first_of firsts i.hart) 4294967295 }

-- but one of them by a name of its own
abbrev pub named : List ℕ → Option (Id × Id) → Id → Id
named firsts None i = in_log firsts i
named firsts (Some (refused, own)) i = if same_id refused i then own else in_log firsts i

abbrev pub step_named : List ℕ → Option (Id × Id) → Id × Reason → Id × Reason
step_named firsts refused s = (named firsts refused s.0, s.1)

-- a certificate of the window, with the names of its events
abbrev pub certificate_named : List ℕ → Option (Id × Id) → Certificate → Certificate
certificate_named firsts refused (certificate.Circle steps) = certificate.Circle (map (step_named firsts refused) steps)
certificate_named firsts refused (certificate.Stale load store) =
    certificate.Stale (named firsts refused load) (named firsts refused store)
