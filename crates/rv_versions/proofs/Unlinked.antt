-- What is no memory operation, and has no LR, is linked with nothing.
use Rattle.std.proofs.Common.{sym, ◌∙◌}
use Rattle.std.proofs.lemmas.Option.{none-some}
use Rattle.rv_versions.proofs.Common.{◌≡◌, ℕ, Option, Some, None, List, [], refl, arith, Reason}
use Rattle.rv_versions.proofs.Common.{Preserved, Coherence, ReadsFrom, FromRead, AtomicIn, AtomicOut, Event, Access}
use Rattle.rv_versions.proofs.Common.{AreLinked, stored, returned, held, ComesBefore, ComesAfter, AreTheirs, AreBefore}
use Rattle.rv_versions.proofs.Common.{AreAfter, Accesses}
use Rattle.rv_versions.specs.Indexes.{AreOfWord}

apart : (o : Option ℕ) (n : ℕ) → o ≡ None → o ≡ Some n → ⊥
apart o n none some = none-some n (sym none ∙ some)

-- where no access is meant, nothing is linked
nothing : (IsMeant : Reason → Access → Type 0) → ((k : Reason) (x : Access) → IsMeant k x → ⊥) → AreLinked IsMeant []
nothing IsMeant none = record { only = λ l c. absurd (omega (arith, c.1)); each = λ k x is. absurd (none k x is) }

module _ (log : List Event) (e : Event) (own : Accesses) (of-own : AreOfWord log e.word own)
    (stores : stored e ≡ None) (loads : returned e ≡ None) where
  theirs : AreTheirs log e None own own
  theirs = record { of_own = of-own; of_lr = λ r is. absurd (none-some r is) }

  none_before : (k : Reason) (x : Access) → ComesBefore own own e None 0 0 k x → ⊥
  none_before Coherence x (c, (n, is, _, _)) = apart (stored e) n stores is
  none_before ReadsFrom x (c, is, _) = apart (returned e) x.version loads is
  none_before FromRead x (c, (n, is, _, _)) = apart (stored e) n stores is
  none_before AtomicIn x (c, is) = apart None x.version refl is
  none_before AtomicOut x (c, (n, is, _, _), _) = apart (stored e) n stores is
  none_before (Preserved k) x is = is

  none_after : (k : Reason) (x : Access) → ComesAfter own own e None 0 0 0 k x → ⊥
  none_after Coherence x (c, (n, is, _, _)) = apart (stored e) n stores is
  none_after ReadsFrom x (c, is) = apart (stored e) x.version stores is
  none_after FromRead x (c, (n, is, _, _)) = apart (returned e) n loads is
  none_after AtomicIn x (c, is) = apart (stored e) x.version stores is
  none_after AtomicOut x (c, (n, is, _, _), _) = apart None n refl is
  none_after (Preserved k) x is = is

  -- there are no links into it
  pub nothing_before : AreBefore log e None []
  nothing_before = record {
    own = own;
    lr = own;
    theirs = theirs;
    low = 0;
    is_low = λ n is. absurd (apart (stored e) n stores is);
    unparted = 0;
    is_unparted = λ n is. absurd (apart (stored e) n stores is);
    linked = nothing (ComesBefore own own e None 0 0) none_before;
  }

  -- and none out of it
  pub nothing_after : AreAfter log e None []
  nothing_after = record {
    own = own;
    lr = own;
    theirs = theirs;
    next = 0;
    is_next = λ n is. absurd (apart (stored e) n stores is);
    above = 0;
    is_above = λ n is. absurd (apart (returned e) n loads is);
    foreign = 0;
    is_foreign = λ n is. absurd (apart (held None) n refl is);
    linked = nothing (ComesAfter own own e None 0 0 0) none_after;
  }
