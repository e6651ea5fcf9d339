use Rattle.std.proofs.Common.{◌∙◌, ◌++◌, List, ap, string_bytes}
use Rattle.std.proofs.lemmas.Result.{on_ok_weaker}
use Rattle.rv_explain.specs.declared.shown.Shown.{Shown}
use Rattle.rv_picture.specs.Numbering.{numbered}
use Rattle.rv_picture.specs.Tiles.{tile_in}
use Rattle.rv_picture.proofs.Pieces.{two}
use Rattle.rv_picture.proofs.tile.push_column.Goals as goal

pub returns : goal.returns
returns c =
    let tiles = numbered (tile_in c.args.scene.names.now c.args.scene.refused c.args.grid.width c.args.number) 0 in
    on_ok_weaker c.push_tiles.result (λ e. two _ _ _ _ (tiles c.args.column.now.events.items)
    c.in_ok-push_hart.ensures
    (e ∙ ap (λ (es : List Shown). string_bytes c.push_hart.new.text ++ tiles es) c.as_slice.ensures.value))
    c.push_tiles.ensures
