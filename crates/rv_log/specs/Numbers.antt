-- The fields of a record that are numbers, or must be blank.
use Rattle.std.specs.Prelude.{ℕ, ◌&&◌, ◌==◌, List, length, Bool, Option, Some, None, Result, Ok, Err, nat_lt, nat_le}
use Rattle.std.specs.Prelude.{⊤, if◌then◌else◌}
use Rattle.std.specs.Char.{digit_value}
use Rattle.std.specs.List.{list_all}
use Rattle.std.specs.Str.Parse.{digits_value}
use Rattle.rv_log.specs.declared.fault.Field.{Field}
use Rattle.rv_log.specs.declared.fault.RecordFault.{RecordFault}
use Rattle.rv_log.specs.declared.fault.RecordFault.TheVariants as fault
use Rattle.rv_log.specs.declared.number.Form.{Form}

-- each byte is a digit of the base
abbrev pub all_digits : ℕ → List ℕ → Bool
all_digits radix text = list_all (λ b. nat_lt (digit_value b) radix) text

-- a field that must be a number of the form
unfoldable pub number : Form → Field → List ℕ → Result ℕ RecordFault
number form name text =
    if length text == 0 then Err (fault.Missing name)
    else if nat_lt form.most (length text) then Err (fault.Number name)
    else if all_digits form.radix text && nat_le (digits_value form.radix text) form.max
    then Ok (digits_value form.radix text)
    else Err (fault.Number name)

-- a field that must be blank
unfoldable pub blank : Field → List ℕ → Result ⊤ RecordFault
blank name text = if length text == 0 then Ok tt else Err (fault.NotBlank name)

-- a field that is a number where it is there, and blank where it is not; a number is 0 then
unfoldable pub needed : Bool → Form → Field → List ℕ → Result ℕ RecordFault
needed has form name text =
    if has then number form name text
    else if length text == 0 then Ok 0
    else Err (fault.NotBlank name)

abbrev pub known : Result ℕ RecordFault → Result (Option ℕ) RecordFault
known (Ok n) = Ok (Some n)
known (Err k) = Err k

-- a field that may be a number where it is there, and is blank else
unfoldable pub optional : Bool → Form → Field → List ℕ → Result (Option ℕ) RecordFault
optional has form name text =
    if length text == 0 then Ok None
    else if has then known (number form name text)
    else Err (fault.NotBlank name)
