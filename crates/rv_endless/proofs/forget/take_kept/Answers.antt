use Rattle.rv_cut.specs.Cuts.{first_of}
use Rattle.rv_endless.proofs.Forgotten.{so-far, window-kept}
use Rattle.rv_endless.proofs.Refused.{not-refused}
use Rattle.rv_endless.specs.Forgetting.{IsRefusedBy}
use Rattle.rv_event.specs.Log.{events}
use Rattle.rv_event.specs.Orders.{Lawful}
use Rattle.rv_event.specs.WellFormed.{WellFormed}
use Rattle.rv_event.specs.declared.event.Entry.{Entry}
use Rattle.rv_event.specs.declared.event.Op.TheVariants.{Carrier}
use Rattle.rv_event.specs.declared.memory_model.MemoryModel.{MemoryModel}
use Rattle.rv_settle.specs.Windows.{KeepsPairs, counted_from, renumbered, window}
use Rattle.std.proofs.Common.{ℕ, ◌≡◌, ◌≢◌, ◌∙◌, ◌++◌, ◌∷◌, [], All, List, ap, subst, sym, take}
use Rattle.rv_endless.proofs.forget.take_kept.Goals as goal

-- the entry, counted from the hart's first number of the cut, is as the window has it
moved-is : (cut : List ℕ) (x moved : Entry) (first : ℕ) → first ≡ first_of cut x.event.id.hart →
    moved ≡ record x { event = counted_from first x.event } →
    moved ≡ record x { event = renumbered (first_of cut) x.event }
moved-is cut x moved first is same = same ∙ ap (λ (n : ℕ). record x { event = counted_from n x.event }) is

pub returns-then-not-branch-clause-all : goal.returns-then-not-branch-clause-all
returns-then-not-branch-clause-all c = λ plain pairs.
    let here = sym c.log-entry-items.ensures.value in
    let moved = moved-is c.args.cut.now c.entry-item.result c.in_ok-moved.moved c.first.result c.first.ensures
    c.in_ok-moved.ensures in
    absurd (not-refused c.windows_are_lawful.ensures c.args.book.now.model c.log-entry-items.result.now c.args.cut.now
    (subst (λ (xs : List Entry). WellFormed xs) here c.log-entry-items.ensures.well_formed)
    c.args.book.now.order
    (subst (λ (xs : List Entry). Lawful c.args.book.now.model (events xs) c.args.book.now.order) here
    c.model.ensures.lawful)
    (subst (λ (xs : List Entry). All (λ m. m.op ≢ Carrier) (events xs)) here plain)
    (subst (λ (xs : List Entry). KeepsPairs (first_of c.args.cut.now) (events xs)) here pairs)
    c.entries.entry-index c.entries-test.true c.entry-item.result c.entry-item.is
    (sym c.is_past.ensures ∙ c.if-is_past.false)
    (subst (λ (x : Entry). IsRefusedBy c.args.book.now.model
    (window (first_of c.args.cut.now) (take c.entries.entry-index c.log-entry-items.result.now)) x) moved
    (subst (λ (xs : List Entry). IsRefusedBy c.args.book.now.model xs c.in_ok-moved.moved) c.entries.invariant.log_is
    (subst (λ (m : MemoryModel). IsRefusedBy m c.entries.kept.log c.in_ok-moved.moved) c.entries.invariant.model_is
    (c.in_ok-take_in.ensures.refused c.if-not-branch.true c.entries.invariant.going)))))

pub entries-preserved : goal.entries-preserved
entries-preserved c =
    let taken = c.in_ok-take_in.ensures.taken c.if-not-branch.false in
    let moved = moved-is c.args.cut.now c.entry-item.result c.in_ok-moved.moved c.first.result c.first.ensures
    c.in_ok-moved.ensures in
    let front = take c.entries.entry-index c.log-entry-items.result.now in
    record {
      model_is = taken.model ∙ c.entries.invariant.model_is;
      log_is = taken.log ∙ ap (λ (xs : List Entry). xs ++ c.in_ok-moved.moved ∷ []) c.entries.invariant.log_is
          ∙ ap (λ (x : Entry). window (first_of c.args.cut.now) front ++ x ∷ []) moved
          ∙ sym (ap (window (first_of c.args.cut.now)) (so-far c.log-entry-items.result.now c.entries.entry-index
          c.entries-test.true c.entry-item.result c.entry-item.is)
          ∙ window-kept c.args.cut.now front c.entry-item.result (sym c.is_past.ensures ∙ c.if-is_past.false));
      going = taken.stopped ∙ c.entries.invariant.going;
    }
