use Rattle.rv_run.proofs.Common.{Fed, List, ap, get_or, length, subst, sym, ◌<◌, ◌≡◌, ◌∙◌, ℕ}
use Rattle.rv_run.specs.InTurn.{reads_from}
use Rattle.rv_run.proofs.EndsLacking.{counted-more, first-end}
use Rattle.rv_run.proofs.InTurn.{below-all, length-reads, read_of, reads-at}
use Rattle.rv_run.proofs.in_turn.ends_lacking.Goals as goal

-- This source is the first whose end record lacks something.
pub returns-then-is_some : goal.returns-then-is_some
returns-then-is_some g c =
    let i = c.loop-i.i in
    let log = c.args.book.now.log in
    let traces = c.args.sources.now in
    let reads : List Fed = reads_from 0 log traces in
    let one : Fed = read_of i log c.index-sources-i.result in
    let below : i < length traces = c.loop-i-test.true in
    let low : i < length reads = subst (λ (n : ℕ). i < n) (sym (length-reads 0 log traces)) below in
    let is : one ≡ get_or reads i one =
    ap (read_of i log) c.index-sources-i.is ∙ sym (reads-at i log traces c.index-sources-i.result one below) in
    let lacks = rw (c.given_by.ensures, c.said.ensures) at c.end_lacking-lacking.ensures in
    first-end reads i one c.end_lacking-lacking.result c.loop-i.invariant low is lacks
    (sym c.is_some.ensures ∙ c.if-is_some.true)

-- The end record of this source counts its rows too.
pub loop-i-preserved : goal.loop-i-preserved
loop-i-preserved g c =
    let i = c.loop-i.i in
    let log = c.args.book.now.log in
    let traces = c.args.sources.now in
    let reads : List Fed = reads_from 0 log traces in
    let one : Fed = read_of i log c.index-sources-i.result in
    let below : i < length traces = c.loop-i-test.true in
    let low : i < length reads = subst (λ (n : ℕ). i < n) (sym (length-reads 0 log traces)) below in
    let is : one ≡ get_or reads i one =
    ap (read_of i log) c.index-sources-i.is ∙ sym (reads-at i log traces c.index-sources-i.result one below) in
    let lacks = rw (c.given_by.ensures, c.said.ensures) at c.end_lacking-lacking.ensures in
    counted-more reads i one c.end_lacking-lacking.result c.loop-i.invariant low is lacks
    (sym c.is_some.ensures ∙ c.if-is_some.false)

-- Those of all do.
pub returns : goal.returns
returns g c = λ i f low.
    let traces = c.args.sources.now in
    let log = c.args.book.now.log in
    c.loop-i.invariant i f (below-all i (length (reads_from 0 log traces)) (length traces) c.loop-i.i low
    (sym (length-reads 0 log traces)) c.loop-i-test.false)
