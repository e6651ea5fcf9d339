use Rattle.std.proofs.Common.{◌≡◌, map, string_bytes, take}
use Rattle.rv_picture.specs.Escaping.{xml_text}
use Rattle.rv_picture.proofs.escape.xml_texts.Given as goal

-- the names so far
abbrev pub invariant-names : goal.invariant-names
invariant-names l = map string_bytes l.texts.items ≡ map (λ n. xml_text (string_bytes n)) (take l.name-index l.names)
