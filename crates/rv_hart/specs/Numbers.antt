-- Numbers of a hart's events as they are kept.
use Rattle.std.specs.Prelude.{ℕ, ◌==◌, if◌then◌else◌, Option, Some, None}

-- the number, or none, that two bytes stand for
abbrev pub number_of : ℕ → Option ℕ
number_of n = if n == 65535 then None else Some n
