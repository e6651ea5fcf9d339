-- The first event of a log for which something holds.
use Rattle.std.proofs.Common.{◌≡◌, ◌∙◌, ◌∷◌, ◌++◌, ◌<◌, ℕ, List, suc, length, take, drop, get_or, map, sym, ap, subst}
use Rattle.std.proofs.Common.{take-append-drop, drop-cons, arith, All}
use Rattle.std.proofs.lemmas.List.{map-append, take_all}
use Rattle.rv_event.specs.Log.{events}
use Rattle.rv_event.specs.declared.event.Entry.{Entry}
use Rattle.rv_event.specs.declared.event.Event.{Event}
use Rattle.rv_explain.specs.Witnesses.{IsFirstOf}

-- the events around the place of an entry
split-at : (log : List Entry) (k : ℕ) (x : Entry) → k < length log → x ≡ get_or log k x →
    events log ≡ events (take k log) ++ x.event ∷ events (drop (suc k) log)
split-at log k x low is =
    let event : Entry → Event = λ y. y.event in
    ap (map event) (sym (take-append-drop k log) ∙ ap (λ (r : List Entry). take k log ++ r)
    (drop-cons log k x low ∙ ap (λ (y : Entry). y ∷ drop (suc k) log) (sym is)))
    ∙ map-append event (take k log) (x ∷ drop (suc k) log)

-- a scan that comes to one, where there was none before
pub first-found : (P : Event → Type 0) (log : List Entry) (k : ℕ) (x : Entry) → k < length log → x ≡ get_or log k x →
    All (λ e. P e → ⊥) (events (take k log)) → P x.event → IsFirstOf P (events log) x.event
first-found P log k x low is none holds = record {
  before = events (take k log);
  after = events (drop (suc k) log);
  split = split-at log k x low is;
  holds = holds;
  none_before = none;
}

-- a scan that comes to the end has seen all
pub none-left : (P : Event → Type 0) (log : List Entry) (k : ℕ) → (k < length log → ⊥) →
    All (λ e. P e → ⊥) (events (take k log)) → All (λ e. P e → ⊥) (events log)
none-left P log k end none =
    subst (λ (l : List Entry). All (λ e. P e → ⊥) (events l)) (take_all k log (omega (arith, end))) none
