use Rattle.rv_hart.proofs.Common.{◌≡◌, cases_eq, inl, inr, ◌++◌, ◌∷◌, [], List, ℕ, length, Option, sym, ap, ◌∙◌}
use Rattle.rv_hart.proofs.Common.{false≢true, number_of, arith, common_steps, Event, IsLastBelow, Words}
use Rattle.std.specs.Prelude.{Result, Ok, Err, OnErr}
use Rattle.rv_hart.proofs.WordLinks.{words-push, words-same, lasts-memory, lasts-same}
use Rattle.rv_hart.proofs.words.Words.add.Goals.{then-is_memory+in_ok-insert, else-is_memory}
use Rattle.rv_hart.proofs.words.Words.add.Goals as goal

-- the words' last operations
lasts : (c : goal.After-push_reserved) → (word : ℕ) → IsLastBelow (c.args.events.now ++ c.args.event.now ∷ []) word
    (length (c.args.events.now ++ c.args.event.now ∷ [])) (number_of c.if-is_memory.self.lasts word)
lasts c =
    let es : List Event = c.args.events.now in
    let e : Event = c.args.event.now in
    let old : ℕ → Option ℕ = λ w. number_of c.args.self.now.lasts w in
    let new : ℕ → Option ℕ = λ w. number_of c.if-is_memory.self.lasts w in
    elim c.if-is_memory.branch [
      | then-is_memory+in_ok-insert w ↦ (
          let memory = c.is_memory.ensures.0 w.if-is_memory.true in
          let put = w.in_ok-insert.ensures in
          let is = ap (λ (x : Words). x.lasts) w.self-is in
          lasts-memory es e c.requires.numbered c.requires.next old new memory c.requires.words.lasts
          (ap (λ m. number_of m e.word) is ∙ put.here)
          (λ word apart. ap (λ m. number_of m word) is ∙ put.others word apart))
      | else-is_memory w ↦ (
          let is = ap (λ (x : Words). x.lasts) w.self-is in
          lasts-same es e c.requires.numbered c.requires.next old new
          (λ m. false≢true (sym w.if-is_memory.false ∙ c.is_memory.ensures.1 m)) c.requires.words.lasts
          (λ word. ap (λ m. number_of m word) is))
    ]

links : (c : goal.After-push_reserved) → c.push_reserved.new.self.items ≡ c.args.self.now.links.items ++
    c.link_of.result ∷ []
links c = grind (arith, common_steps)

pub returns-clause-pushed : goal.returns-clause-pushed
returns-clause-pushed c =
    words-push c.args.events.now c.args.event.now c.requires.numbered c.requires.next c.args.self.now
    (record { lasts = c.if-is_memory.self.lasts; links = c.push_reserved.new.self }) c.link_of.result
    c.requires.words (links c) c.link_of.ensures (lasts c)

-- what is so anyway is so of an error
on_err : {X E : Type 0} (r : Result X E) (P : Type 0) → P → OnErr r P
on_err (Ok x) P h = tt
on_err (Err x) P h = h

pub returns-in_err-insert-clause-unchanged : goal.returns-in_err-insert-clause-unchanged
returns-in_err-insert-clause-unchanged c =
    let old = number_of c.args.self.now.lasts in
    let new = number_of c.insert.new.self in
    let word = c.args.event.now.word in
    let told = c.in_err-insert.ensures in
    let same : (other : ℕ) → new other ≡ old other = λ other. elim (cases_eq word other) [
      | inl here ↦ rw (sym here) told.unchanged
      | inr apart ↦ c.insert.ensures.others other apart
    ] in
    on_err c.from_residual-in_err-insert.result _
    (words-same c.args.events.now c.args.self.now (record { lasts = c.insert.new.self; links = c.reserve.new.self })
    c.requires.words same c.in_ok-reserve.ensures.items)
