use Rattle.std.proofs.Common.{◌∙◌, List, ℕ, ap, flat_map, sym, rules}
use Rattle.std.proofs.lemmas.List.{map-id}
use Rattle.std.proofs.lemmas.Iterator.{YieldsList-from_chars}
use Rattle.std.proofs.lemmas.Iterator.Consumers.{YieldsList-end}
use Rattle.rv_picture.specs.Escaping.{xml_char}
use Rattle.rv_picture.proofs.escape.xml_text.Goals as goal

pub returns : goal.returns
returns c =
    let all = YieldsList-from_chars {s = c.into_iter-character-iterator.result} c.args.name.now c.utf8.name
    (search rules) in
    let end = YieldsList-end all
    c.characters.yielded _ c.characters.yielded_by _ _ c.in-None.is c.next.ensures.steps in
    c.characters.invariant ∙ ap (λ (l : List ℕ). flat_map xml_char l) (sym (map-id c.characters.yielded) ∙ end.0)
