use Rattle.std.proofs.Common.{◌≡◌, flat_map, string_bytes}
use Rattle.rv_picture.specs.Escaping.{xml_char}
use Rattle.rv_picture.proofs.escape.xml_text.Given as goal

-- the characters so far
abbrev pub invariant-characters : goal.invariant-characters
invariant-characters l = string_bytes l.text ≡ flat_map xml_char l.yielded
