use Rattle.std.proofs.Common.{◌∙◌, ap, arith, map, string_bytes, sym}
use Rattle.std.proofs.lemmas.List.{take_all}
use Rattle.std.proofs.lemmas.Simd.{map-map}
use Rattle.rv_picture.specs.Escaping.{xml_text}
use Rattle.rv_picture.proofs.escape.xml_texts.Goals as goal

pub returns : goal.returns
returns c =
    let end = c.names-test.false in
    c.names.invariant
    ∙ ap (map (λ n. xml_text (string_bytes n))) (take_all c.names.name-index c.args.names.now (omega (end, arith)))
    ∙ sym (map-map xml_text string_bytes c.args.names.now)
