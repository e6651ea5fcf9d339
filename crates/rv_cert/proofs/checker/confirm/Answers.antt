-- A certificate of a well formed log leaves no lawful order, for it and for what continues it.
use Rattle.rv_event.specs.Log.{events}
use Rattle.rv_cert.proofs.Final.{final_from_refusal}
use Rattle.rv_cert.proofs.Forward.{no_certificate}
use Rattle.rv_cert.proofs.checker.confirm.Goals as goal

pub returns-then-is_well_formed-clause-refuted : goal.returns-then-is_well_formed-clause-refuted
returns-then-is_well_formed-clause-refuted c told order lawful =
    no_certificate c.args.model (events c.args.entries.now) order lawful c.args.certificate.now (c.check.ensures.0 told)

pub returns-then-is_well_formed-clause-continued : goal.returns-then-is_well_formed-clause-continued
returns-then-is_well_formed-clause-continued c told longer order ok continues lawful =
    final_from_refusal
    (record { model = c.args.model; evidence = c.args.entries.now; certificate = c.args.certificate.now })
    (record {
      well_formed = c.is_well_formed.ensures.0 c.if-is_well_formed.true;
      certifies = c.check.ensures.0 told;
    }) longer order ok continues lawful
