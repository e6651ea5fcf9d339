use Rattle.std.proofs.Common.{Some, ap, ◌∙◌, sym, arith}
use Rattle.rv_versions.proofs.Found.{writer_found, no_writer}
use Rattle.rv_versions.proofs.accesses.Accesses.writer.Goals as goal

pub returns : goal.returns
returns c log word of =
    let store = c.in-Some.store.now in
    let item = c.in-Some.ensures.item.3 in
    let b = (c.between.ensures store).0 (0, item.0, sym (item.1 store)) in
    ap Some c.id.ensures ∙ writer_found log word c.args.self.now of c.args.version store b.0
    (omega (arith, b.1, b.2, c.from-from.ensures))

pub returns-in_default : goal.returns-in_default
returns-in_default c log word of =
    no_writer log word c.args.self.now of c.args.version (λ x is at.
    let m = (c.between.ensures x).1 (is, omega (arith, c.from-from.ensures), omega (arith, c.from-from.ensures)) in
    omega (arith, m.1, c.in_default.ensures.item.3))
