-- What a read of a record does to the records that are left.
use Rattle.std.proofs.Common.{rules, ◌≡◌, ℕ, List, Option, None, Some, true, false, refl, option_map}
use Rattle.csv.specs.Machine.{Read}
use Rattle.csv.specs.Reading.{NextIs, ReadRecord, ReadsNext, default_config, reader_config, reader_state}
use Rattle.csv.specs.Reading.{source_of, strip_bom}
use Rattle.csv.specs.Records.{Row, fields_of}
use Rattle.csv.specs.declared.parser.State.{State}
use Rattle.csv.specs.declared.parser.State.TheVariants as st
use Rattle.csv.specs.declared.reader.Reader.{Reader}
use Rattle.rv_trace.specs.Row.{Fields}
use Rattle.rv_trace.specs.Source.{rest_of, text_records}
use Rattle.rv_trace.specs.Rows.{NoRow, TakesRow}
use Rattle.rv_trace.proofs.Records.{rest-none, rest-some}

strip-rest : (k : Option (List ℕ))
    → option_map (rest_of st.StartRecord) (option_map strip_bom k) ≡ option_map text_records k
unfolding rest_of
strip-rest None = refl
strip-rest (Some xs) = refl

-- what a new reader has left
pub new-left : {R : Type 0} (rem : R → Option (List ℕ)) (r : Reader R) (k : Option (List ℕ))
    → reader_state r ≡ st.StartRecord → source_of rem r ≡ option_map strip_bom k
    → option_map (rest_of (reader_state r)) (source_of rem r) ≡ option_map text_records k
new-left rem r k s e = rw (s, e) (strip-rest k)

found : (o : Option Read) (f : Fields) (s : State) (z : List ℕ) → NextIs o true f s z → o ≡ Some (f, s, z)
found None f s z n = cc n
found (Some p) f s z n = rw (n.1, n.2, n.3) refl

take-known : (a b : State) (old new : Option (List ℕ)) (row : Row)
    → ReadsNext default_config a old new true (fields_of row) b
    → TakesRow (option_map (rest_of a) old) (option_map (rest_of b) new) row
take-known a b old new row h = search (rest-some, rules)

end-known : (a b : State) (old new : Option (List ℕ)) (f : Fields) → ReadsNext default_config a old new false f b
    → NoRow (option_map (rest_of a) old)
end-known a b old new f h = search (rest-none, rules)

-- a record that was read is the next
pub row-taken : {R : Type 0} (rem : R → Option (List ℕ)) (a b : Reader R) (row : Row)
    → reader_config a ≡ default_config → ReadRecord rem a b true (fields_of row)
    → TakesRow (option_map (rest_of (reader_state a)) (source_of rem a))
    (option_map (rest_of (reader_state b)) (source_of rem b)) row
row-taken rem a b row c r = search (take-known, rules)

-- where none was read there is none
pub no-row : {R : Type 0} (rem : R → Option (List ℕ)) (a b : Reader R) (f : Fields)
    → reader_config a ≡ default_config → ReadRecord rem a b false f
    → NoRow (option_map (rest_of (reader_state a)) (source_of rem a))
no-row rem a b f c r = search (end-known, rules)
