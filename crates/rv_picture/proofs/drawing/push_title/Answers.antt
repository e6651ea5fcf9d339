use Rattle.rv_picture.proofs.Pieces.{three}
use Rattle.rv_picture.proofs.drawing.push_title.Goals as goal

pub returns : goal.returns
returns c =
    three _ _ _ _ _ _ _ c.in_ok-push_str.ensures.bytes c.in_ok-push_lines.ensures c.in_ok-push_str-2.ensures.bytes
