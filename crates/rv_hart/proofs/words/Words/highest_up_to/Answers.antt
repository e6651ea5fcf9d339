use Rattle.rv_hart.proofs.Common.{◌≡◌, List, ℕ, Some, length, sym, ◌∙◌, subst, arith, false≢true, common_steps}
use Rattle.rv_hart.proofs.Common.{rules, IsStore, Event, IsLastBelow, IsWordLink, IsHighestStore}
use Rattle.rv_hart.proofs.WordLinks.{numbered-below, numbered-read, wrote-same, highest-before, highest-first}
use Rattle.rv_hart.proofs.WordLinks.{highest-here, highest-there}
use Rattle.rv_hart.proofs.WordWalks.{read_link}
use Rattle.rv_hart.proofs.words.Words.highest_up_to.Goals as goal

pub returns-then-not-is_store : goal.returns-then-not-is_store
returns-then-not-is_store c =
    let es : List Event = c.args.events.now in
    let number : ℕ = c.args.number in
    let last : IsLastBelow es c.args.word (length es) (Some number) = grind (arith, common_steps) in
    let a : Event = last.names.1.a in
    let ca = last.names.1.of_list in
    let at = last.names.1.at in
    let same : c.at-last.result.now ≡ a =
    numbered-read es c.requires.numbered a c.at-last.result.now number ca at c.at-last.ensures in
    let link : IsWordLink es a c.link_at-before.result =
    read_link es c.args.self.now c.requires.words a c.link_at-before.result number ca last.names.1.holds.0
    (numbered-below es c.requires.numbered a ca) at c.link_at-before.ensures in
    highest-before es c.requires.numbered c.args.word number a ca at last c.link_at-before.result.highest
    (λ s. false≢true (sym c.if-not-is_store.true ∙ c.is_store.ensures.1 (subst IsStore (sym same) s))) link.highest

pub returns-in_default : goal.returns-in_default
returns-in_default c =
    let es : List Event = c.args.events.now in
    let number : ℕ = c.args.number in
    let last : IsLastBelow es c.args.word (length es) (Some number) = grind (arith, common_steps) in
    let a : Event = last.names.1.a in
    let ca = last.names.1.of_list in
    let at = last.names.1.at in
    let same : c.at-last.result.now ≡ a =
    numbered-read es c.requires.numbered a c.at-last.result.now number ca at c.at-last.ensures in
    let link : IsWordLink es a c.link_at-before.result =
    read_link es c.args.self.now c.requires.words a c.link_at-before.result number ca last.names.1.holds.0
    (numbered-below es c.requires.numbered a ca) at c.link_at-before.ensures in
    let store : IsStore a = subst IsStore same (c.is_store.ensures.0 c.if-not-is_store.false) in
    highest-first es c.requires.numbered c.args.word number a ca at last store
    (subst (IsHighestStore es a.word a.id.seq) c.in_default.is link.highest)

pub returns-then-highest-last : goal.returns-then-highest-last
returns-then-highest-last c =
    let es : List Event = c.args.events.now in
    let number : ℕ = c.args.number in
    let last : IsLastBelow es c.args.word (length es) (Some number) = grind (arith, common_steps) in
    let a : Event = last.names.1.a in
    let ca = last.names.1.of_list in
    let at = last.names.1.at in
    let same : c.at-last.result.now ≡ a =
    numbered-read es c.requires.numbered a c.at-last.result.now number ca at c.at-last.ensures in
    let link : IsWordLink es a c.link_at-before.result =
    read_link es c.args.self.now c.requires.words a c.link_at-before.result number ca last.names.1.holds.0
    (numbered-below es c.requires.numbered a ca) at c.link_at-before.ensures in
    let store : IsStore a = subst IsStore same (c.is_store.ensures.0 c.if-not-is_store.false) in
    let high : IsHighestStore es a.word a.id.seq (Some c.in-Some.store) =
    subst (IsHighestStore es a.word a.id.seq) c.in-Some.is link.highest in
    let other : c.at-highest.result.now ≡ high.1.a = search (numbered-read, rules) in
    highest-here es c.requires.numbered c.args.word number a ca at last store c.in-Some.store high
    (omega (
      arith,
      c.if-highest-last.true,
      wrote-same c.at-last.result.now a same,
      wrote-same c.at-highest.result.now high.1.a other,
    ))

pub returns-else-highest-last : goal.returns-else-highest-last
returns-else-highest-last c =
    let es : List Event = c.args.events.now in
    let number : ℕ = c.args.number in
    let last : IsLastBelow es c.args.word (length es) (Some number) = grind (arith, common_steps) in
    let a : Event = last.names.1.a in
    let ca = last.names.1.of_list in
    let at = last.names.1.at in
    let same : c.at-last.result.now ≡ a =
    numbered-read es c.requires.numbered a c.at-last.result.now number ca at c.at-last.ensures in
    let link : IsWordLink es a c.link_at-before.result =
    read_link es c.args.self.now c.requires.words a c.link_at-before.result number ca last.names.1.holds.0
    (numbered-below es c.requires.numbered a ca) at c.link_at-before.ensures in
    let store : IsStore a = subst IsStore same (c.is_store.ensures.0 c.if-not-is_store.false) in
    let high : IsHighestStore es a.word a.id.seq (Some c.in-Some.store) =
    subst (IsHighestStore es a.word a.id.seq) c.in-Some.is link.highest in
    let other : c.at-highest.result.now ≡ high.1.a = search (numbered-read, rules) in
    highest-there es c.requires.numbered c.args.word number a ca at last c.in-Some.store high
    (omega (
      arith,
      c.if-highest-last.false,
      wrote-same c.at-last.result.now a same,
      wrote-same c.at-highest.result.now high.1.a other,
    ))
