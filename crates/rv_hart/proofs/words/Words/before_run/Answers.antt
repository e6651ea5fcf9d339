use Rattle.rv_hart.proofs.Common.{◌≡◌, List, ℕ, Some, length, sym, refl, ap, ◌∙◌, subst, false≢true, IsStore, Event}
use Rattle.rv_hart.proofs.Common.{IsLastBelow, IsWordLink}
use Rattle.rv_hart.proofs.WordLinks.{numbered-below, numbered-read, run-goes_on}
use Rattle.rv_hart.proofs.WordWalks.{read_link}
use Rattle.rv_hart.proofs.words.Words.before_run.Goals as goal

pub returns : goal.returns
returns c =
    let es : List Event = c.args.events.now in
    let e : Event = c.args.event.now in
    let number : ℕ = c.args.number in
    let last : IsLastBelow es e.word (length es) (Some number) =
    subst (IsLastBelow es e.word (length es)) c.requires.last (c.requires.words.lasts e.word) in
    let a : Event = last.names.1.a in
    let ca = last.names.1.of_list in
    let at = last.names.1.at in
    let same : c.at-last.result.now ≡ a =
    numbered-read es c.requires.numbered a c.at-last.result.now number ca at c.at-last.ensures in
    let link : IsWordLink es a c.link_at.result =
    read_link es c.args.self.now c.requires.words a c.link_at.result number ca last.names.1.holds.0
    (numbered-below es c.requires.numbered a ca) at c.link_at.ensures in
    run-goes_on es c.requires.numbered e.word number a ca at last e refl c.requires.next
    (λ s. false≢true (sym c.if-is_store.false ∙ c.is_store.ensures.1 (subst IsStore (sym same) s)))
    (sym (ap (λ (x : Event). x.read) same) ∙ c.if-last-event.false) c.link_at.result.before_run link.before_run
