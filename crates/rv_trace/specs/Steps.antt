-- One check after another: the first that fails is answered.
use Rattle.std.specs.Prelude.{◌≡◌, ◌≢◌, Result, Ok, Err}
use Rattle.rv_trace.specs.declared.fault.FaultKind.{FaultKind}
use Rattle.rv_trace.specs.declared.fault.FaultKind.TheVariants as fault

infixl 10 ◌>>=◌
abbrev pub ◌>>=◌ : {A B : Type 0} → Result A FaultKind → (A → Result B FaultKind) → Result B FaultKind
(Ok x) >>= f = f x
(Err k) >>= f = Err k

-- what was given is what the text says
abbrev pub Gives : {A : Type 0} → Result A FaultKind → Result A FaultKind → Type 0
Gives (Ok x) says = says ≡ Ok x
Gives (Err k) says = says ≡ Err k

-- what was given is what the text says, unless there was no memory
abbrev pub GivesOrMemory : {A : Type 0} → Result A FaultKind → Result A FaultKind → Type 0
GivesOrMemory (Ok x) says = says ≡ Ok x
GivesOrMemory (Err k) says = k ≢ fault.NoMemory → says ≡ Err k
