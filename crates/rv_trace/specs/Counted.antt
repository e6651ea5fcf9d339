-- What a counting reader has taken of the reader underneath.
use Rattle.std.specs.Prelude.{ℕ, Bool, List, [], Option, Some, if◌then◌else◌}
use Rattle.rv_trace.specs.declared.counted.Counted.{Counted}

abbrev pub bytes_taken : {R : Type 0} → Counted R → ℕ
bytes_taken c = c.bytes

abbrev pub calls_made : {R : Type 0} → Counted R → ℕ
calls_made c = c.calls

-- each read is refused once as many bytes were taken, or calls made
abbrev pub limit_of : {R : Type 0} → Counted R → ℕ
limit_of c = c.limit

-- the last read answered an error
abbrev pub last_refused : {R : Type 0} → Counted R → Bool
last_refused c = c.refused

-- a read gave nothing, where there was room
abbrev pub has_ended : {R : Type 0} → Counted R → Bool
has_ended c = c.ended

-- the bytes that are left: none at the end, else those of the reader underneath
abbrev pub bytes_left : {R : Type 0} → (R → Option (List ℕ)) → Counted R → Option (List ℕ)
bytes_left remaining c = if c.ended then Some [] else remaining c.inner
