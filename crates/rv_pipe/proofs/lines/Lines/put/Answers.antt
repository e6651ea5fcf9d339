use Rattle.std.proofs.Common.{◌≤◌, ◌+◌, ◌-◌, ◌++◌, ap, ◌∙◌, length, slice_range, arith}
use Rattle.std.proofs.Math.Seq.{paste}
use Rattle.std.proofs.lemmas.Slice.{put_mid-paste}
use Rattle.rv_pipe.proofs.Appended.{appended}
use Rattle.rv_pipe.proofs.lines.Lines.put.Goals as goal

pub returns : goal.returns
returns c =
    let bytes = c.self.inside.bytes in
    let block = c.args.block.now in
    let count = c.self.inside.to - c.self.inside.from in
    let within : c.self.inside.to ≤ length bytes = omega (arith, c.self.told, c.self.invariant.1) in
    ap (λ l. slice_range l 0 (count + length block))
    (put_mid-paste count (count + length block - count) c.copy_within.new.self c.copy_from_slice.new.self
    block (length block) c.copy_from_slice.ensures.after (omega arith) (λ i. length block)
    ∙ ap (λ l. paste l count block (length block)) c.copy_within.ensures.after)
    ∙ appended bytes block c.self.inside.from c.self.inside.to c.self.invariant.0 within
    ∙ ap (λ l. l ++ block) c.self.view_is
