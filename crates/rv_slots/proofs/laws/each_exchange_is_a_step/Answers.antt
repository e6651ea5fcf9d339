use Rattle.rv_slots.proofs.ClaimSteps.{claims_go}
use Rattle.rv_slots.proofs.FillSteps.{puts_go, publishes_go}
use Rattle.rv_slots.proofs.PinSteps.{pins_go}
use Rattle.rv_slots.proofs.GetSteps.{gets_go}
use Rattle.rv_slots.proofs.EndSteps.{finishes_go, frees_go}
use Rattle.rv_slots.proofs.UnpinSteps.{unpins_go, unpins_stray_go}
use Rattle.rv_slots.proofs.laws.each_exchange_is_a_step.Goals as goal

pub returns : goal.returns
returns c =
    search (
      claims_go,
      puts_go,
      publishes_go,
      pins_go,
      gets_go,
      finishes_go,
      unpins_go,
      unpins_stray_go,
      frees_go,
    )
