use Rattle.rv_hart.proofs.Common.{◌≡◌, ◌++◌, ◌∷◌, [], List, ℕ, length, Option, refl, ap, ◌∙◌, number_of, arith}
use Rattle.rv_hart.proofs.Common.{common_steps, IsMemory, Event, AreNumbered, IsLastBelow, Words}
use Rattle.rv_hart.proofs.WordLinks.{words-pop, pop-here, lasts-back, lasts-kept, numbered-front, numbered-last}
use Rattle.rv_hart.specs.declared.words.WordLink.{WordLink}
use Rattle.rv_hart.proofs.words.Words.drop_last.Goals as goal

pub returns-then-is_memory : goal.returns-then-is_memory
returns-then-is_memory c =
    let front : List Event = c.args.events.now in
    let e : Event = c.args.event.now in
    let old : ℕ → Option ℕ = λ w. number_of c.args.self.now.lasts w in
    let new : ℕ → Option ℕ = λ w. number_of c.step_back.new.self.lasts w in
    let memory : IsMemory e = c.is_memory.ensures.0 c.if-is_memory.true in
    let before : AreNumbered front = numbered-front front e c.requires.numbered in
    let next : e.id.seq ≡ length front = numbered-last front e c.requires.numbered in
    let popped : c.args.self.now.links.items ≡ c.step_back.new.self.links.items ++ c.in-Some.link ∷ [] =
    grind (arith, common_steps) in
    let back : IsLastBelow front e.word (length front) c.in-Some.link.previous =
    pop-here front e before next c.args.self.now c.step_back.new.self c.in-Some.link c.requires.words popped memory in
    words-pop front e before next c.args.self.now c.step_back.new.self c.in-Some.link c.requires.words popped
    (lasts-back front e before next old new c.in-Some.link.previous c.requires.words.lasts back
    (c.step_back.ensures.here ∙ ap (λ (l : WordLink). l.previous) c.link.ensures) c.step_back.ensures.others)

pub returns-else-is_memory : goal.returns-else-is_memory
returns-else-is_memory c =
    let front : List Event = c.args.events.now in
    let e : Event = c.args.event.now in
    let old : ℕ → Option ℕ = λ w. number_of c.args.self.now.lasts w in
    let left : Words = record { lasts = c.args.self.now.lasts; links = c.pop.new.self } in
    let none : IsMemory e → ⊥ = grind (arith, common_steps) in
    let before : AreNumbered front = numbered-front front e c.requires.numbered in
    let next : e.id.seq ≡ length front = numbered-last front e c.requires.numbered in
    words-pop front e before next c.args.self.now left c.in-Some.link c.requires.words c.in-Some.ensures.items
    (lasts-kept front e before next old old none c.requires.words.lasts (λ w. refl))
