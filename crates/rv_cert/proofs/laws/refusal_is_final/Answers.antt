-- The certificate is one for the longer log too, which then has no lawful order.
use Rattle.rv_cert.proofs.Final.{no_longer_log}
use Rattle.rv_cert.proofs.laws.refusal_is_final.Goals as goal

pub returns : goal.returns
returns c limit model log longer certificate order ok continues certifies lawful =
    no_longer_log limit model log longer certificate order ok continues certifies lawful
