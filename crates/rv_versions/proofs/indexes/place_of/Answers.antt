use Rattle.rv_versions.proofs.Common.{◌≡◌, ◌∷◌, ◌++◌, [], Some, ap, sym, ◌∙◌, cases_eq, inl, inr, number_of, ℕ}
use Rattle.rv_versions.proofs.Common.{Accesses}
use Rattle.rv_versions.proofs.Placed.{padded, numbered}
use Rattle.rv_versions.proofs.indexes.place_of.Goals as goal

pub returns-in_err-insert-clause-in_place : goal.returns-in_err-insert-clause-in_place
returns-in_err-insert-clause-in_place c =
    let words = c.args.words.now.items in
    let word = c.args.word in
    let old = number_of c.args.places.now in
    let new = number_of c.insert.new.self in
    let same : (other : ℕ) → new other ≡ old other = λ other. elim (cases_eq word other) [
      | inl here ↦ rw (sym here) c.in_err-insert.ensures.unchanged
      | inr apart ↦ c.insert.ensures.others other apart
    ] in
    padded old new words c.push.new.self.items c.requires
    (c.in_ok-push.ensures.items ∙ ap (λ (w : Accesses). words ++ w ∷ []) c.new.ensures) same

pub returns-clause-in_place : goal.returns-clause-in_place
returns-clause-in_place c =
    let words = c.args.words.now.items in
    numbered (number_of c.args.places.now) (number_of c.insert.new.self) words c.push.new.self.items c.requires
    (c.in_ok-push.ensures.items ∙ ap (λ (w : Accesses). words ++ w ∷ []) c.new.ensures) c.args.word
    (sym c.in_default.ensures)
    (c.in_ok-insert.ensures.here ∙ ap Some (c.in-Ok.ensures.1 ∙ c.len-place.ensures ∙ c.args.words.now.ok.0))
    (λ word other. c.insert.ensures.others word other)
