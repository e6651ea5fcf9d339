use Rattle.std.proofs.Common.{◌≡◌, ◌∙◌, ◌+◌, ◌*◌, ◌++◌, [], List, ℕ, ap, length, map, rules, string_bytes, sym}
use Rattle.std.proofs.lemmas.List.{length-map}
use Rattle.std.specs.Str.Lines.{lines}
use Rattle.rv_explain.specs.Layout.{widest}
use Rattle.rv_picture.specs.Numbering.{numbered}
use Rattle.rv_picture.specs.Pages.{head_text, line_text}
use Rattle.rv_picture.proofs.Pieces.{three}
use Rattle.rv_picture.proofs.drawing.page.Goals as goal

pub returns : goal.returns
returns c =
    let all = lines c.args.text.now in
    let said : map string_bytes c.as_slice-lines.result.now ≡ all =
    ap (map string_bytes) c.as_slice-lines.ensures.value ∙ c.in_ok-lines.ensures in
    let wide : c.widest.result ≡ widest all = c.widest.ensures ∙ ap widest said in
    let many : length c.as_slice-lines.result.now ≡ length all =
    sym (length-map c.as_slice-lines.result.now string_bytes) ∙ ap length said in
    let head : string_bytes c.in_ok-page.page ≡
    head_text (48 + 8 * c.widest.result) (44 + 18 * length c.as_slice-lines.result.now) =
    search rules in
    three [] _ _ _ (head_text (48 + 8 * widest all) (44 + 18 * length all)) (numbered line_text 0 all) _
    (head ∙ ap (λ (w : ℕ). head_text (48 + 8 * w) (44 + 18 * length c.as_slice-lines.result.now)) wide
    ∙ ap (λ (n : ℕ). head_text (48 + 8 * widest all) (44 + 18 * n)) many)
    (c.in_ok-push_lines.ensures
    ∙ ap (λ (ls : List (List ℕ)). string_bytes c.in_ok-page.page ++ numbered line_text 0 ls) said)
    c.in_ok-push_str.ensures.bytes
