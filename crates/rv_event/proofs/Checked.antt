-- Whether a log is well formed, entry by entry.
use Rattle.rv_event.proofs.Common.{rules, ◌≡◌, ℕ, suc, ◌+◌, ◌<◌, true, false, List, ◌∷◌, ◌++◌, length, take, drop}
use Rattle.rv_event.proofs.Common.{get_or, Option, Some, None, IsTrue, is_some, ◌↔◌, sym, ◌∙◌, take-append-drop}
use Rattle.rv_event.proofs.Common.{drop-cons, false≢true, none-some, take_more, fault_of, WellFormed, Entry}
use Rattle.rv_event.proofs.Common.{Fault}
use Rattle.rv_event.proofs.Pushed.{WellFormed-push}

module _ (log : List Entry) (k : ℕ) (x : Entry) (low : k < length log) (is : x ≡ get_or log k x) where
  -- an entry that has no fault over those before it goes on a well formed log
  pub one_more : WellFormed (take k log) → (o : Option Fault) → o ≡ fault_of (take k log) x → is_some o ≡ false →
      WellFormed (take (k + 1) log)
  one_more h o l e = search (WellFormed-push, take_more, false≢true, rules)

  -- one that has a fault shows that the log isn't well formed
  pub none_more : (o : Option Fault) → o ≡ fault_of (take k log) x → is_some o ≡ true → IsTrue false ↔ WellFormed log
  none_more None e some = absurd (false≢true some)
  none_more (Some f) e some = (
    λ t. absurd (false≢true t),
    λ ok. absurd (none-some f (sym (ok (take k log) (drop (suc k) log) x cut) ∙ sym e)),
  )
    where
      cut : log ≡ take k log ++ x ∷ drop (suc k) log
      cut = search (take-append-drop, drop-cons, suc, rules)
