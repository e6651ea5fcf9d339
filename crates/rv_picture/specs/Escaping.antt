-- Texts within XML.
use Rattle.std.specs.Prelude.{ℕ, List, ◌==◌, ◌||◌, codes, flat_map, if◌then◌else◌, nat_lt}
use Rattle.std.specs.Str.{chars}
use Rattle.std.specs.Prelude.{encode_utf8}

-- a character as XML has it: marks are spelled out, and what may not stand there is a question mark
abbrev pub xml_char : ℕ → List ℕ
xml_char c =
    if c == 38 then codes "&amp;"
    else if c == 60 then codes "&lt;"
    else if c == 62 then codes "&gt;"
    else if nat_lt c 32 || c == 65534 || c == 65535 then codes "?"
    else encode_utf8 c

abbrev pub xml_text : List ℕ → List ℕ
xml_text text = flat_map xml_char (chars text)
