use Rattle.std.proofs.Common.{◌≡◌, ◌++◌, rules, string_bytes}
use Rattle.rv_picture.specs.Pictures.{below_text}
use Rattle.rv_picture.proofs.Pieces.{three}
use Rattle.rv_picture.proofs.drawing.push_notes.Goals as goal

pub returns : goal.returns
returns c =
    let below : string_bytes c.writeln.new.self ≡ string_bytes c.args.text.now ++ below_text c.args.rows =
    search rules in
    three _ _ _ _ (below_text c.args.rows) _ _ below c.in_ok-push_lines.ensures c.in_ok-push_str.ensures.bytes
