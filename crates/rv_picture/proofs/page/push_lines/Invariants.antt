use Rattle.std.proofs.Common.{◌≡◌, ◌++◌, drop, string_bytes}
use Rattle.rv_picture.specs.Numbering.{numbered}
use Rattle.rv_picture.specs.Pages.{line_text}
use Rattle.rv_picture.proofs.page.push_lines.Given as goal

-- the lines that are left are numbered on
abbrev pub invariant-lines : goal.invariant-lines
invariant-lines l =
    string_bytes l.text ++ numbered (λ n s. line_text n (string_bytes s)) l.number (drop l.number l.lines) ≡
    string_bytes l.fn.text ++ numbered (λ n s. line_text n (string_bytes s)) 0 l.lines
