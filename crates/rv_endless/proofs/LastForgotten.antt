-- The last LR, SC or failed SC that was forgotten, with one event more.
use Rattle.rv_cut.proofs.Exclusives.{last-higher, last-new, last-stays}
use Rattle.rv_cut.specs.Exclusives.{IsExclusiveOf}
use Rattle.rv_endless.specs.Exclusives.{IsLastOf}
use Rattle.rv_endless.specs.declared.exclusives.Exclusive.{Exclusive}
use Rattle.rv_event.specs.Faults.{is_lr}
use Rattle.rv_event.specs.Operations.{is_exclusive}
use Rattle.rv_event.specs.declared.event.Event.{Event}
use Rattle.std.proofs.Common.{IsTrue, List, None, Option, Some, arith, refl, subst, ℕ, [], ◌++◌, ◌∷◌}
use Rattle.std.proofs.Common.{◌≡◌, ◌≤◌}
use Rattle.std.proofs.lemmas.Option.{none-some, same_Some}

module _ (gone : List Event) (e : Event) where
  -- an event that is none of the hart leaves its last one
  pub stays-of : (hart : ℕ) (o : Option Exclusive) → (IsExclusiveOf (gone ++ e ∷ []) hart e → ⊥) →
      IsLastOf gone hart o → IsLastOf (gone ++ e ∷ []) hart o
  stays-of hart None none before = last-stays gone hart e None none before
  stays-of hart (Some l) none before = record {
    event = before.event;
    last = last-stays gone hart e (Some before.event) none before.last;
    seq = before.seq;
    lr = before.lr;
  }

  -- one with a lower number does too
  pub higher-of : (l : Exclusive) → e.id.seq ≤ l.seq → IsLastOf gone e.id.hart (Some l) →
      IsLastOf (gone ++ e ∷ []) e.id.hart (Some l)
  higher-of l lower before = record {
    event = before.event;
    last = last-higher gone e.id.hart e before.event (let same = before.seq in omega (arith, lower, same)) before.last;
    seq = before.seq;
    lr = before.lr;
  }

  -- and else it is the last one
  pub new-of : (o : Option Exclusive) (l : Exclusive) → e.id.seq ≡ l.seq → is_lr e.op ≡ l.is_lr →
      IsTrue (is_exclusive e.op) → ((k : Exclusive) → o ≡ Some k → k.seq ≤ e.id.seq) → IsLastOf gone e.id.hart o →
      IsLastOf (gone ++ e ∷ []) e.id.hart (Some l)
  new-of None l seq lr exclusive higher before = record {
    event = e;
    last = last-new gone e.id.hart e None refl exclusive before (λ m is. absurd (none-some m is));
    seq = seq;
    lr = lr;
  }
  new-of (Some k) l seq lr exclusive higher before = record {
    event = e;
    last = last-new gone e.id.hart e (Some before.event) refl exclusive before.last
        (λ m is. subst (λ (x : Event). x.id.seq ≤ e.id.seq) (same_Some before.event m is)
        (let same = before.seq in let low = higher k refl in omega (arith, same, low)));
    seq = seq;
    lr = lr;
  }
