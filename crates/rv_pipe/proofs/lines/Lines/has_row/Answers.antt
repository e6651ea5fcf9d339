use Rattle.rv_pipe.proofs.Scanned.{feed-row, row-feed}
use Rattle.rv_pipe.specs.Rows.{has_feed}
use Rattle.std.proofs.Common.{◌≡◌, ◌∙◌, ap, sym}
use Rattle.rv_pipe.proofs.lines.Lines.has_row.Goals as goal

pub returns : goal.returns
returns c =
    let same : c.has_feed.result ≡ has_feed c.args.self.now = c.has_feed.ensures
    ∙ ap has_feed c.as_slice.ensures.value in
    (λ is. feed-row c.args.self.now (sym same ∙ is), λ row. same ∙ row-feed c.args.self.now row)
