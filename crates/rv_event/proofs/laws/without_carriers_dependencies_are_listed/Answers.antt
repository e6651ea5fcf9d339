use Rattle.rv_event.proofs.Common.{◌≢◌, All-contains, Behind, Lists, inl, inr}
use Rattle.rv_event.specs.declared.event.Op.TheVariants.{Carrier}
use Rattle.rv_event.proofs.Carrying.{behind-carrier}
use Rattle.rv_event.proofs.Growing.{Any-contains}
use Rattle.rv_event.proofs.laws.without_carriers_dependencies_are_listed.Goals as goal

pub returns : goal.returns
returns c log kind e a none = (
  λ depends. elim depends [
    | inl l ↦ l
    | inr any ↦ (
        let found = Any-contains (λ m. Lists kind e m × Behind log m a) log any in
        absurd (All-contains (λ m. m.op ≢ Carrier) log found.0 none found.1 (behind-carrier log a found.0 found.2.1).0))
  ],
  λ l. inl l,
)
