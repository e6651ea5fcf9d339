use Rattle.std.proofs.Common.{◌+◌, ap, refl, subst, sym, ◌∙◌, arith}
use Rattle.std.proofs.lemmas.Bool.{false≢true}
use Rattle.rv_explain.specs.RowTexts.{said_by}
use Rattle.rv_explain.proofs.Shows.{AreShownBefore, shown-all, shown-kept, shown-more}
use Rattle.rv_explain.proofs.shown.shown_of.Goals.{then-is_among+in_ok-push, else-is_among}
use Rattle.rv_explain.proofs.shown.shown_of.Goals as goal

pub entries-preserved : goal.entries-preserved
entries-preserved c =
    let log = c.args.log.now in
    let ids = c.args.ids.now in
    let texts = said_by c.args.texts.now in
    elim c.if-is_among.branch [
      | then-is_among+in_ok-push w ↦
          subst (AreShownBefore log texts ids (c.entries.place + 1))
          (sym (ap (λ v. v.items) w.shown-is ∙ w.in_ok-push.ensures.items))
          (shown-more log texts ids c.entries.place c.entries.shown.items _ c.entries.invariant refl
          (record {
            inside = let low = c.entries-test.true in omega (low, arith);
            entry = sym c.index-log-place.is;
            row = w.row_of-row.ensures;
            text = w.text_of-text.ensures;
          }) (c.is_among.ensures.0 w.if-is_among.true))
      | else-is_among w ↦
          subst (AreShownBefore log texts ids (c.entries.place + 1)) (sym (ap (λ v. v.items) w.shown-is))
          (shown-kept log texts ids c.entries.place c.entries.shown.items c.index-log-place.result
          c.entries.invariant (sym c.index-log-place.is)
          (λ has. false≢true (sym w.if-is_among.false ∙ c.is_among.ensures.1 has)))
    ]

pub returns : goal.returns
returns c = shown-all c.args.log.now (said_by c.args.texts.now) c.args.ids.now c.entries.place c.entries.shown.items
    (λ low. let end = c.entries-test.false in omega (low, end, arith)) c.entries.invariant
