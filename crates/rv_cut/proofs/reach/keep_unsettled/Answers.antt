-- What is left of the past has all places of the active harts.
use Rattle.std.proofs.Common.{IsTrue, subst, ℕ}
use Rattle.rv_event.specs.Log.{events}
use Rattle.rv_cut.proofs.Places.{none-there}
use Rattle.rv_cut.specs.Marked.{AreMarked, has_place, place_for}
use Rattle.rv_cut.specs.declared.bars.Later.TheVariants.{Loads, Stores}
use Rattle.rv_cut.proofs.reach.keep_unsettled.Goals as goal

pub returns-clause-settled : goal.returns-clause-settled
returns-clause-settled c = λ p own memory past hart is.
    let none : AreMarked c.args.model (events c.args.log.now) c.in_ok-marks.marks = λ h later q of_log is_memory has.
    absurd (none-there (place_for h later)
    (subst (λ (n : ℕ). IsTrue (has_place n (place_for h later))) (c.in_ok-marks.ensures q.id) has)) in
    let are = c.mark_sources.ensures c.args.model (events c.args.log.now) c.requires.edges
    (c.mark_bars.ensures none) in
    let has = c.keep_unmarked.ensures.marked p own memory past in
    record {
      loads = are hart Loads p own memory (has (place_for hart Loads) (c.places_of.ensures hart Loads is));
      stores = are hart Stores p own memory
          (has (place_for hart Stores) (c.places_of.ensures hart Stores is));
    }
