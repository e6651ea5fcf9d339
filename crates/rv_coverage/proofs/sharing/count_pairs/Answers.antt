-- Each memory operation is counted, and pairs with those of other harts on its word.
use Rattle.std.proofs.Common.{◌≡◌, ◌<◌, ◌+◌, ◌++◌, ◌∷◌, [], List, ap}
use Rattle.std.proofs.Common.{arith, subst, sym, take, length, ◌∙◌, count_by, false}
use Rattle.std.proofs.lemmas.List.{map_more, length-map, length-take-le}
use Rattle.std.proofs.lemmas.List.Sums.{count_by-le-length}
use Rattle.rv_event.specs.Log.{events}
use Rattle.rv_event.specs.Operations.{is_memory}
use Rattle.rv_event.specs.declared.event.Entry.{Entry}
use Rattle.rv_event.specs.declared.event.Event.{Event}
use Rattle.rv_coverage.specs.Counts.{pairs_of, share_word}
use Rattle.rv_coverage.specs.Shares.{AreMetByHart, AreMetOnWord, is_on, is_on_by, times_by, times_on}
use Rattle.rv_coverage.specs.declared.sharing.HartCounts.{HartCounts}
use Rattle.rv_coverage.specs.declared.sharing.WordCounts.{WordCounts}
use Rattle.rv_coverage.proofs.Pairs.{count-none, met-none, met-none-by, pairs_of-push}
use Rattle.rv_coverage.proofs.sharing.count_pairs.Goals.{then-is_memory+in_ok-count+in_ok-count-2, else-is_memory}
use Rattle.rv_coverage.proofs.sharing.count_pairs.Goals as goal

module _ (c : goal.Joined-is_memory) where
  abbrev before : List Event
  before = events (take c.entries.entry-index c.args.log.now)

  abbrev event : Event
  event = c.entry-item.result.event

  push : events (take (c.entries.entry-index + 1) c.args.log.now) ≡ before ++ event ∷ []
  push = map_more (λ x. x.event) c.args.log.now c.entries.entry-index c.entry-item.result c.entries-test.true
      ∙ ap (λ (x : Entry). before ++ x.event ∷ []) (sym c.entry-item.is)

  short : length before ≡ c.entries.entry-index
  short = omega (
    arith,
    c.entries-test.true,
    length-map (take c.entries.entry-index c.args.log.now) (λ (x : Entry). x.event),
    length-take-le c.entries.entry-index c.args.log.now (omega (arith, c.entries-test.true)),
  )

  few : length before < 65536
  few = omega (arith, short, c.entries-test.true, c.requires.few)

  all : pairs_of (events (take (c.entries.entry-index + 1) c.args.log.now))
      ≡ pairs_of before + count_by (λ x. share_word x event) before
  all = ap pairs_of push ∙ pairs_of-push before event

pub entries-preserved : goal.entries-preserved
entries-preserved c = elim c.if-is_memory.branch [
  | then-is_memory+in_ok-count+in_ok-count-2 w ↦ (
      let inv = c.entries.invariant in
      let others : w.count_others.result ≡ count_by (λ x. share_word x (event c)) (before c) =
      w.count_others.ensures (before c) inv.0 inv.1 in (
        subst (λ (es : List Event). AreMetOnWord es c.if-is_memory.words) (sym (push c))
            (subst (AreMetOnWord (before c ++ event c ∷ [])) (sym w.words-is)
            (w.in_ok-count.ensures (before c) (few c) inv.0)),
        subst (λ (es : List Event). AreMetByHart es c.if-is_memory.harts) (sym (push c))
            (subst (AreMetByHart (before c ++ event c ∷ [])) (sym w.harts-is)
            (w.in_ok-count-2.ensures (before c) (few c) inv.1)),
        omega (arith, all c, others, w.pairs-is, inv.2),
        omega (
          arith,
          others,
          w.pairs-is,
          inv.3,
          short c,
          few c,
          count_by-le-length (λ x. share_word x (event c)) (before c),
        ),
      ))
  | else-is_memory w ↦ (
      let inv = c.entries.invariant in
      let none : is_memory (event c).op ≡ false = sym c.is_memory.ensures ∙ w.if-is_memory.false in (
        λ word.
            ap (λ (x : WordCounts). times_on x word) w.words-is ∙ inv.0 word ∙ met-none (event c) (before c) none word
            ∙ ap (λ (es : List Event). count_by (is_on word) es) (sym (push c)),
        λ word hart.
            ap (λ (x : HartCounts). times_by x word hart) w.harts-is ∙ inv.1 word hart
            ∙ met-none-by (event c) (before c) none word hart
            ∙ ap (λ (es : List Event). count_by (is_on_by word hart) es) (sym (push c)),
        omega (arith, all c, w.pairs-is, inv.2, count-none (before c) (event c) none),
        omega (arith, w.pairs-is, inv.3),
      ))
]
