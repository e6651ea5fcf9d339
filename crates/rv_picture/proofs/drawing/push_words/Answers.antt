use Rattle.rv_picture.proofs.Pieces.{three}
use Rattle.rv_picture.proofs.drawing.push_words.Goals as goal

pub returns : goal.returns
returns c =
    three _ _ _ _ _ _ _ c.in_ok-push_str.ensures.bytes c.in_ok-push_labels.ensures c.in_ok-push_str-2.ensures.bytes
