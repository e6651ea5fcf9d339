-- The dialects of traces.
use Rattle.std.specs.Prelude.{false}
use Rattle.rv_trace.specs.declared.dialect.Dialect.{Dialect}

-- rows of the nine operations alone
abbrev pub plain : Dialect
plain = record { carriers = false; end_record = false }
