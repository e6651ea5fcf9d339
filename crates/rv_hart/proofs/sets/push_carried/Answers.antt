use Rattle.rv_hart.proofs.Common.{◌≡◌, [], ℕ, sym, ◌∙◌, ap, false}
use Rattle.rv_hart.proofs.Common.{false≢true, has_bit}
use Rattle.std.proofs.Common.{◌==◌, ◌%◌}
use Rattle.std.proofs.lemmas.Nat.Bits.{bit_at-zero}
use Rattle.std.proofs.lemmas.Result.{on_ok_weaker}
use Rattle.rv_hart.proofs.CarriedRows.{next-few}
use Rattle.rv_hart.proofs.GrownSets.{none-carried}
use Rattle.rv_hart.proofs.HartFacts.{fits_of}
use Rattle.rv_hart.proofs.sets.push_carried.Goals as goal

-- no numbers are in no words
none : (s : ℕ) → has_bit [] s ≡ false
none s = ap (λ x. x == 1) (bit_at-zero (s % 64))

pub push_carrier-requires-clause-carrier : goal.push_carrier-requires-clause-carrier
push_carrier-requires-clause-carrier c = c.is_carrier.ensures.0 c.if-is_carrier.true

pub push_carrier-requires-clause-next : goal.push_carrier-requires-clause-next
push_carrier-requires-clause-next c = c.requires.next

pub push_empty-requires : goal.push_empty-requires
push_empty-requires c = record { few = next-few c.requires.next }

pub returns-else-is_carrier-clause-pushed : goal.returns-else-is_carrier-clause-pushed
returns-else-is_carrier-clause-pushed c = on_ok_weaker c.push_empty.result
    (λ pushed. record {
      last = [];
      is_last = pushed;
      says = λ h ok follows are are-sets. none-carried (fits_of h c.args.event.now ok follows)
          (λ is. false≢true (sym c.if-is_carrier.false ∙ c.is_carrier.ensures.1 is)) [] none;
    })
    c.push_empty.ensures.pushed
