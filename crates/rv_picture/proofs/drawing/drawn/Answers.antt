use Rattle.std.proofs.Common.{◌≡◌, ◌∙◌, ◌++◌, List, ℕ, ap, codes, rules, string_bytes}
use Rattle.rv_event.specs.Texts.{◌⋯◌}
use Rattle.rv_picture.specs.Drawings.{plan_in}
use Rattle.rv_picture.specs.Numbering.{numbered}
use Rattle.rv_picture.specs.Pages.{head_text}
use Rattle.rv_picture.specs.Pictures.{labels_text, most_rows, notes_text, paths_text, plan_height, plan_text}
use Rattle.rv_picture.specs.Pictures.{plan_width, title_text}
use Rattle.rv_picture.specs.Tiles.{column_text}
use Rattle.rv_picture.proofs.Pieces.{piece}
use Rattle.rv_picture.proofs.drawing.drawn.Goals as goal

pub returns : goal.returns
returns c =
    let p = plan_in c.args.drawing.now in
    let notes = notes_text (most_rows p.columns) p.notes ⋯ codes "</svg>\n" in
    let labels = labels_text p.width p.arrows ⋯ notes in
    let columns = numbered (column_text p.names p.refused p.width) 0 p.columns ⋯ labels in
    let arrows = paths_text p.width p.arrows ⋯ columns in
    let title = title_text p.title ⋯ arrows in
    let head : string_bytes c.in_ok-text.text ≡ head_text (plan_width p) (plan_height p) = search rules in
    let a : string_bytes c.in_ok-text.text ++ title ≡ plan_text p = ap (λ (t : List ℕ). t ++ title) head in
    let b : string_bytes c.push_title.new.text ++ arrows ≡ plan_text p =
    piece (plan_text p) _ _ (title_text p.title) arrows a c.in_ok-push_title.ensures in
    let d : string_bytes c.push_arrows.new.text ++ columns ≡ plan_text p =
    piece (plan_text p) _ _ (paths_text p.width p.arrows) columns b c.in_ok-push_arrows.ensures in
    let e : string_bytes c.push_columns.new.text ++ labels ≡ plan_text p =
    piece (plan_text p) _ _ (numbered (column_text p.names p.refused p.width) 0 p.columns) labels d
    c.in_ok-push_columns.ensures in
    let f : string_bytes c.push_words.new.text ++ notes ≡ plan_text p =
    piece (plan_text p) _ _ (labels_text p.width p.arrows) notes e c.in_ok-push_words.ensures in
    let said : string_bytes c.push_notes.new.text ≡
    string_bytes c.push_words.new.text ++ notes_text (most_rows p.columns) p.notes =
    c.in_ok-push_notes.ensures
    ∙ ap (λ (n : ℕ). string_bytes c.push_words.new.text ++ notes_text n p.notes) c.most_rows.ensures in
    c.in_ok-push_str.ensures.bytes
    ∙ piece (plan_text p) _ _ (notes_text (most_rows p.columns) p.notes) (codes "</svg>\n") f said
