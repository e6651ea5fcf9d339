-- Facts for single answers of an offer.
use Rattle.std.specs.Prelude.{⊤}
use Rattle.rv_cert.specs.Refusals.{FaultyLog, Refusal}
use Rattle.rv_book.specs.declared.book.Offer.{Offer}
use Rattle.rv_book.specs.declared.book.Offer.TheVariants.{Accepted, Malformed, Forbidden, Stopped, NoMemory}

-- where the entry was accepted
abbrev pub OnAccepted : Offer → Type 0 → Type 0
OnAccepted Accepted P = P
OnAccepted _ P = ⊤

-- where it is malformed
abbrev pub IfMalformed : Offer → (FaultyLog → Type 0) → Type 0
IfMalformed (Malformed m) P = P m
IfMalformed _ P = ⊤

-- where it is forbidden
abbrev pub IfForbidden : Offer → (Refusal → Type 0) → Type 0
IfForbidden (Forbidden f) P = P f
IfForbidden _ P = ⊤

-- where it is one or the other
abbrev pub OnRefused : Offer → Type 0 → Type 0
OnRefused (Malformed m) P = P
OnRefused (Forbidden f) P = P
OnRefused _ P = ⊤

-- where nothing was judged
abbrev pub OnUnjudged : Offer → Type 0 → Type 0
OnUnjudged Stopped P = P
OnUnjudged NoMemory P = P
OnUnjudged _ P = ⊤
