-- Facts for single answers of a run.
use Rattle.std.specs.Prelude.{⊤}
use Rattle.rv_cert.specs.Refusals.{Refusal}
use Rattle.rv_event.specs.declared.fault.Fault.{Fault}
use Rattle.rv_past.specs.declared.edge.PastEdge.{PastEdge}
use Rattle.rv_endless.specs.declared.answer.Answer.{Answer}
use Rattle.rv_endless.specs.declared.answer.Answer.TheVariants.{Accepted, BeforePast, Beyond}
use Rattle.rv_endless.specs.declared.answer.Answer.TheVariants.{Forbidden, Malformed}
use Rattle.rv_endless.specs.declared.answer.Answer.TheVariants.{NoMemory, Stopped, Taken}
use Rattle.rv_endless.specs.declared.answer.Beyond as why

-- where the entry was accepted
abbrev pub OnAccepted : Answer → Type 0 → Type 0
OnAccepted Accepted P = P
OnAccepted _ P = ⊤

-- where it is malformed
abbrev pub IfMalformed : Answer → (Fault → Type 0) → Type 0
IfMalformed (Malformed f) P = P f
IfMalformed _ P = ⊤

-- where a store that was forgotten wrote its version
abbrev pub OnTaken : Answer → Type 0 → Type 0
OnTaken Taken P = P
OnTaken _ P = ⊤

-- where it is forbidden by the window
abbrev pub IfForbidden : Answer → (Refusal → Type 0) → Type 0
IfForbidden (Forbidden f) P = P f
IfForbidden _ P = ⊤

-- where it is forbidden by the past
abbrev pub IfBeforePast : Answer → (PastEdge → Type 0) → Type 0
IfBeforePast (BeforePast edge) P = P edge
IfBeforePast _ P = ⊤

-- where it can't be judged
abbrev pub IfBeyond : Answer → (why.Beyond → Type 0) → Type 0
IfBeyond (Beyond b) P = P b
IfBeyond _ P = ⊤

-- where it was refused, in any way
abbrev pub OnRefused : Answer → Type 0 → Type 0
OnRefused (Malformed f) P = P
OnRefused Taken P = P
OnRefused (Forbidden f) P = P
OnRefused (BeforePast edge) P = P
OnRefused _ P = ⊤

-- where nothing was judged
abbrev pub OnUnjudged : Answer → Type 0 → Type 0
OnUnjudged (Beyond b) P = P
OnUnjudged Stopped P = P
OnUnjudged NoMemory P = P
OnUnjudged _ P = ⊤
