use Rattle.rv_book.specs.Booked.{Booked}
use Rattle.rv_cut.specs.Cuts.{IsCutOf, first_of}
use Rattle.rv_endless.proofs.Cutting.{cut-stands, fresh, numbers, plain-window, stands-with, window-pairs}
use Rattle.rv_endless.specs.Exclusives.{AreLast}
use Rattle.rv_endless.specs.Forgetting.{AreFresh, HaveNumbers, IsBookOf, forgotten_of}
use Rattle.rv_event.specs.Log.{events}
use Rattle.rv_event.specs.WellFormed.{WellFormed}
use Rattle.rv_event.specs.declared.event.Entry.{Entry}
use Rattle.rv_past.specs.Facts.{AreFacts}
use Rattle.rv_past.specs.Gone.{AreGone}
use Rattle.rv_settle.specs.Windows.{window}
use Rattle.std.proofs.Common.{◌∙◌, ap, arith, ℕ, ◌++◌, IfSome, List, Option, refl, subst, sym}
use Rattle.std.proofs.lemmas.Bool.{false≢true}
use Rattle.std.specs.Option.{is_some}
use Rattle.rv_endless.proofs.run.Endless.cut.Goals as goal

pub returns-in_err-reserve-2-clause-stands : goal.returns-in_err-reserve-2-clause-stands
returns-in_err-reserve-2-clause-stands c = λ log stands.
    stands-with c.args.self.now log stands c.reserve.new.self c.reserve-2.new.self
    (c.in_ok-reserve.ensures.same (events stands.gone.0) stands.gone.1.past)
    (c.in_err-reserve-2.ensures.same stands.gone.0 stands.gone.1.facts)

pub returns-in_err-book-clause-stands : goal.returns-in_err-book-clause-stands
returns-in_err-book-clause-stands c = λ log stands.
    stands-with c.args.self.now log stands c.reserve.new.self c.reserve-2.new.self
    (c.in_ok-reserve.ensures.same (events stands.gone.0) stands.gone.1.past)
    (c.in_ok-reserve-2.ensures.same stands.gone.0 stands.gone.1.facts)

pub returns-in_default-clause-stands : goal.returns-in_default-clause-stands
returns-in_default-clause-stands c = λ log stands.
    stands-with c.args.self.now log stands c.reserve.new.self c.reserve-2.new.self
    (c.in_ok-reserve.ensures.same (events stands.gone.0) stands.gone.1.past)
    (c.in_ok-reserve-2.ensures.same stands.gone.0 stands.gone.1.facts)

pub returns-clause-stands : goal.returns-clause-stands
returns-clause-stands c = λ log stands.
    let is-cut = subst (λ (xs : List ℕ). IsCutOf c.args.self.now.book.model (events c.args.self.now.book.log) xs
    c.args.patience c.in_ok-cut.cut) c.as_slice.ensures.value c.in_ok-cut.ensures in
    let book-is : IsBookOf c.in-Some.book c.args.self.now.book.model
    (window (first_of c.in_ok-cut.cut) c.args.self.now.book.log) =
    subst (λ (o : Option Booked). IfSome o (λ kept. IsBookOf kept c.args.self.now.book.model
    (window (first_of c.in_ok-cut.cut) c.args.self.now.book.log))) c.in-Some.is c.in_ok-book.ensures.book in
    let formed : WellFormed c.args.self.now.book.log = c.log-window.ensures.well_formed in
    let here = c.log-window.ensures.value in
    let known-numbers = subst (λ (xs : List Entry). HaveNumbers c.args.self.now.firsts xs) (sym here)
    (numbers c.args.self.now log stands c.args.patience c.in_ok-cut.cut is-cut) in
    let known-fresh = subst (λ (xs : List Entry). AreFresh c.args.self.now.firsts stands.gone.0 xs) (sym here)
    (fresh c.args.self.now log stands c.args.patience c.in_ok-cut.cut is-cut formed) in
    cut-stands c.args.self.now log stands c.args.patience c.in_ok-cut.cut is-cut _
    (subst (λ (b : Booked). IsBookOf b c.args.self.now.book.model
    (window (first_of c.in_ok-cut.cut) c.args.self.now.book.log)) (sym c.replace.ensures.after) book-is)
    (λ hart low. let same = c.then-self.ensures hart in omega (arith, same, low)) refl refl refl
    (subst (λ (xs : List Entry). AreGone
    (events (stands.gone.0 ++ forgotten_of c.args.self.now.firsts c.in_ok-cut.cut xs))
    c.forget.new.past) here
    (c.forget.ensures.past stands.gone.0 known-numbers
    (c.in_ok-reserve.ensures.same (events stands.gone.0) stands.gone.1.past)))
    (subst (λ (xs : List Entry). AreFacts (stands.gone.0 ++ forgotten_of c.args.self.now.firsts c.in_ok-cut.cut xs)
    c.forget.new.facts) here
    (c.forget.ensures.facts stands.gone.0 known-numbers known-fresh
    (c.in_ok-reserve-2.ensures.same stands.gone.0 stands.gone.1.facts)))
    (subst (λ (xs : List Entry). AreLast
    (events (stands.gone.0 ++ forgotten_of c.args.self.now.firsts c.in_ok-cut.cut xs))
    c.forget_exclusives.new.last) here
    (c.forget_exclusives.ensures stands.gone.0 known-numbers known-fresh stands.gone.1.exclusives))

pub returns-in_default-clause-done : goal.returns-in_default-clause-done
returns-in_default-clause-done c = λ log stands.
    let is-cut = subst (λ (xs : List ℕ). IsCutOf c.args.self.now.book.model (events c.args.self.now.book.log) xs
    c.args.patience c.in_ok-cut.cut) c.as_slice.ensures.value c.in_ok-cut.ensures in
    absurd (false≢true (ap is_some (sym c.in_default.is)
    ∙ c.in_ok-book.ensures.some (plain-window c.args.self.now log stands c.args.patience c.in_ok-cut.cut is-cut)
    (window-pairs c.args.self.now log stands c.args.patience c.in_ok-cut.cut is-cut)))
