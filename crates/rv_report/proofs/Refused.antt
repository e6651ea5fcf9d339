-- The last entry of a log that refuses it.
use Rattle.std.proofs.Common.{rules, ◌≡◌, ◌∷◌, List, [], ◌++◌, Option, Some, option_map, unwrap_or, refl}
use Rattle.std.specs.List.{last_or}
use Rattle.rv_event.specs.Texts.{id_text}
use Rattle.rv_event.specs.declared.event.Id.{Id}
use Rattle.rv_event.specs.declared.event.Entry.{Entry}
use Rattle.rv_cert.specs.Refusals.{LastIs}
use Rattle.rv_report.specs.Texts.{refused_text}

last_or-append : (o : Option Entry) (front : List Entry) (x : Entry) → last_or o (front ++ x ∷ []) ≡ Some x
last_or-append o [] x = refl
last_or-append o (y ∷ front) x = last_or-append (Some y) front x

-- the refused event is the last
pub refused_text_of_last : (log : List Entry) (i : Id) → LastIs log i → refused_text log ≡ id_text i
refused_text_of_last log i h = search (unwrap_or, option_map, last_or-append, rules)
