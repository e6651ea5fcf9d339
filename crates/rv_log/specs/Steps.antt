-- One check after another: the first that fails is answered.
use Rattle.std.specs.Prelude.{Result, Ok, Err}
use Rattle.rv_log.specs.declared.fault.RecordFault.{RecordFault}

infixl 10 ◌>>=◌
abbrev pub ◌>>=◌ : {A B : Type 0} → Result A RecordFault → (A → Result B RecordFault) → Result B RecordFault
(Ok x) >>= f = f x
(Err k) >>= f = Err k
