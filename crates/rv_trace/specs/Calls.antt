-- What a call answered: a value, the end, or a fault.
use Rattle.std.specs.Prelude.{◌≡◌, ◌↔◌, ℕ, Bool, true, Option, Some, None, Result, IfOk, IfErr, IfSome, IfNone}
use Rattle.rv_trace.specs.declared.fault.FaultKind.TheVariants as fault
use Rattle.rv_trace.specs.declared.fault.TraceFault.{TraceFault}
use Rattle.rv_trace.specs.Source.{Stream, whole}

abbrev pub Answer : Type 0 → Type 0
Answer A = Result (Option A) TraceFault

-- of the value that was given, if one was
abbrev pub IfGiven : {A : Type 0} → Answer A → (A → Type 0) → Type 0
IfGiven answer P = IfOk answer (λ o. IfSome o P)

-- where the answer was that nothing is left
abbrev pub OnEnd : {A : Type 0} → Answer A → Type 0 → Type 0
OnEnd answer P = IfOk answer (λ o. IfNone o P)

-- of the fault that was answered, if it was not kept from an earlier call
abbrev pub IfFirst : {A : Type 0} → Option TraceFault → Answer A → (TraceFault → Type 0) → Type 0
IfFirst kept answer P = IfErr answer (λ f. kept ≡ None → P f)

-- the end has come, and nothing is left; the end record said so much, if there was one
abbrev pub IsAtEnd : Bool → Option ℕ → Option Stream → Type 0
IsAtEnd ended said stream = (ended ≡ true) × (stream ≡ Some (whole said))

-- the fault is one of reading exactly where the reader refused
abbrev pub IsReadWhere : Bool → TraceFault → Type 0
IsReadWhere refused f = (f.kind ≡ fault.Read) ↔ (refused ≡ true)
