-- The fields of a row that are numbers, or must be blank.
use Rattle.std.specs.Prelude.{ℕ, ◌+◌, ◌-◌, ◌*◌, ◌&&◌, ◌==◌, List, length, fold, Bool, Option, Some, None, Result}
use Rattle.std.specs.Prelude.{Ok, Err, nat_lt, nat_le, if◌then◌else◌}
use Rattle.std.specs.List.{list_all}
use Rattle.rv_trace.specs.declared.fault.FaultKind.{FaultKind}
use Rattle.rv_trace.specs.declared.fault.FaultKind.TheVariants as fault

-- an ASCII digit
abbrev pub is_digit : ℕ → Bool
is_digit b = nat_le 48 b && nat_le b 57

-- the number that digits say after n, the first digit first
abbrev pub decimal_after : ℕ → List ℕ → ℕ
decimal_after n digits = fold (λ m b. m * 10 + (b - 48)) n digits

-- the number that a text says, if each of its bytes is a digit
abbrev pub decimal_of : List ℕ → Option ℕ
decimal_of text = if list_all is_digit text then Some (decimal_after 0 text) else None

abbrev pub at_most : ℕ → Option ℕ → Result ℕ FaultKind
at_most max None = Err fault.Number
at_most max (Some n) = if nat_le n max then Ok n else Err fault.Number

-- a field that must be a number: 1 to 10 digits, and no more than max
unfoldable pub number : ℕ → List ℕ → Result ℕ FaultKind
number max text =
    if length text == 0 then Err fault.Missing
    else if nat_lt 10 (length text) then Err fault.Number
    else at_most max (decimal_of text)

-- a field that must be blank, which an event has as 0
unfoldable pub blank : List ℕ → Result ℕ FaultKind
blank text = if length text == 0 then Ok 0 else Err fault.NotBlank

-- a field by whether the operation has it
abbrev pub value : Bool → List ℕ → Result ℕ FaultKind
value has text = if has then number 4294967295 text else blank text
