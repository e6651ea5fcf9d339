use Rattle.std.proofs.Common.{◌≡◌, ◌∙◌, ◌++◌, ◌==◌, List, ℕ, ap, codes, rules, string_bytes}
use Rattle.rv_event.specs.Texts.{◌⋯◌}
use Rattle.rv_picture.specs.Tiles.{first_line, outline_text, second_line}
use Rattle.rv_picture.proofs.Pieces.{three}
use Rattle.rv_picture.proofs.tile.push_tile.Goals as goal

pub returns : goal.returns
returns c =
    let s = c.args.shown.now in
    let scene = c.args.scene in
    let outline = outline_text c.args.grid.width c.args.spot (s.place == scene.refused) s.entry.now.event.op in
    let first : string_bytes c.write.new.self ≡ string_bytes c.args.text.now ++ outline = search rules in
    let second : string_bytes c.writeln.new.self ≡
    string_bytes c.write.new.self ++ first_line scene.names.now scene.refused s =
    c.in_ok-writeln.ensures.bytes in
    let third : string_bytes c.writeln-2.new.self ≡ string_bytes c.writeln.new.self ++ second_line s =
    c.in_ok-writeln-2.ensures.bytes
    ∙ ap (λ (deed : List ℕ). string_bytes c.writeln.new.self
    ++ (codes "<text x=\"12\" y=\"36\">" ⋯ deed ⋯ codes "</text>\n</g>\n")) c.in_ok-second.ensures in
    three (string_bytes c.args.text.now) (string_bytes c.write.new.self) (string_bytes c.writeln.new.self)
    (string_bytes c.writeln-2.new.self) outline (first_line scene.names.now scene.refused s) (second_line s)
    first second third
