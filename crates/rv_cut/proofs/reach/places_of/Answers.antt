-- The places of one hart more are in the mark.
use Rattle.std.proofs.Common.{IsTrue, List, arith, get_or, inl, inr, subst, sym, ℕ, ◌*◌, ◌+◌, ◌∙◌, ◌≡◌}
use Rattle.std.proofs.lemmas.Bool.{eq-eqb}
use Rattle.std.proofs.lemmas.List.{take_all}
use Rattle.std.proofs.lemmas.List.Elements.{Contains-get_or}
use Rattle.std.specs.Int.Bits.{bit_or}
use Rattle.std.specs.List.{Contains}
use Rattle.rv_cut.proofs.Entries.{contained-more}
use Rattle.rv_cut.proofs.Places.{or-left, or-right}
use Rattle.rv_cut.specs.Marked.{has_place, place_for}
use Rattle.rv_cut.specs.declared.bars.Later.{Later}
use Rattle.rv_cut.specs.declared.bars.Later.TheVariants.{Loads, Stores}
use Rattle.rv_cut.proofs.reach.places_of.Goals as goal

pub mark-requires : goal.mark-requires
mark-requires c =
    c.requires _ (Contains-get_or c.args.active.now c.loop-hart.hart-index 0 c.loop-hart-test.true)

pub mark-requires-in-loop-hart : goal.mark-requires-in-loop-hart
mark-requires-in-loop-hart c =
    c.requires _ (Contains-get_or c.args.active.now c.loop-hart.hart-index 0 c.loop-hart-test.true)

pub loop-hart-preserved : goal.loop-hart-preserved
loop-hart-preserved c = λ hart later is.
    elim (contained-more c.args.active.now c.loop-hart.hart-index 0 hart c.loop-hart-test.true is) [
      | inl before ↦
          or-left (bit_or c.loop-hart.all c.mark.result) c.mark-in-loop-hart.result (place_for hart later)
          (or-left c.loop-hart.all c.mark.result (place_for hart later) (c.loop-hart.invariant hart later before))
      | inr same ↦ new hart same later
    ]
  where
    new : (hart : ℕ) → get_or c.args.active.now c.loop-hart.hart-index 0 ≡ hart → (later : Later) →
        IsTrue (has_place (bit_or (bit_or c.loop-hart.all c.mark.result) c.mark-in-loop-hart.result)
        (place_for hart later))
    new hart same Loads =
        or-left (bit_or c.loop-hart.all c.mark.result) c.mark-in-loop-hart.result (2 * hart)
        (or-right c.loop-hart.all c.mark.result (2 * hart)
        (c.mark.ensures (2 * hart) ∙ eq-eqb (2 * hart) _ (omega (arith, same))))
    new hart same Stores =
        or-right (bit_or c.loop-hart.all c.mark.result) c.mark-in-loop-hart.result (2 * hart + 1)
        (c.mark-in-loop-hart.ensures (2 * hart + 1) ∙ eq-eqb (2 * hart + 1) _ (omega (arith, same)))

pub returns : goal.returns
returns c = λ hart later is.
    c.loop-hart.invariant hart later (subst (λ (hs : List ℕ). Contains hs hart)
    (sym (take_all c.loop-hart.hart-index c.args.active.now c.loop-hart-test.false)) is)
