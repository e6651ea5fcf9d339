use Rattle.rv_book.proofs.Common.{◌≡◌, ◌-◌, ℕ, List, length, ◌∙◌, ap, arith, drop, happened, Booked, Event, Entry}
use Rattle.std.specs.Prelude.{count_by}
use Rattle.std.proofs.lemmas.List.{take_all, length-drop}
use Rattle.rv_book.specs.Counts.{is_waiting, waiting_of}
use Rattle.rv_book.proofs.Settled.{settled_count}
use Rattle.rv_book.proofs.book.Book.waiting.Goals as goal

pub returns : goal.returns
returns c =
    let log = c.self.inside.arrangement.log in
    let asked = c.log.result.now in
    let place = c.self.inside.settled in
    let waits : List Event → List Entry → ℕ =
    λ (happened : List Event) (some : List Entry). count_by (λ (x : Entry). is_waiting happened x.event) some in
    let happened = happened c.self.inside.arrangement.history in
    let count : c.count_waiting.result ≡ waits happened (drop place log) =
    c.count_waiting.ensures ∙ ap (waits happened) (take_all (length asked - place) (drop place asked)
    (omega (arith, length-drop place asked))) ∙
    ap (λ (l : List Entry). waits happened (drop place l)) c.log.ensures in
    count ∙ ap (λ (l : List Event). waits l (drop place log)) c.self.invariant.0.same ∙
    settled_count log place c.self.invariant.2 ∙ ap (λ (b : Booked). waiting_of b.log) c.self.view_is
