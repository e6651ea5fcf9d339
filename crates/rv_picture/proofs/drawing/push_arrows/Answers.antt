use Rattle.rv_picture.proofs.Pieces.{three}
use Rattle.rv_picture.proofs.drawing.push_arrows.Goals as goal

pub returns : goal.returns
returns c =
    three _ _ _ _ _ _ _ c.in_ok-push_str.ensures.bytes c.in_ok-push_paths.ensures c.in_ok-push_str-2.ensures.bytes
