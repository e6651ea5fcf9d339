-- What both verdicts show: the model and the log.
use Rattle.std.specs.Prelude.{List}
use Rattle.rv_event.specs.declared.event.Entry.{Entry}
use Rattle.rv_event.specs.declared.memory_model.MemoryModel.{MemoryModel}
use Rattle.rv_cert.specs.declared.verdict.Verdict.{Verdict}
use Rattle.rv_cert.specs.declared.verdict.Verdict.TheVariants.{Forbidden, Malformed}

abbrev pub evidence_of : Verdict → List Entry
evidence_of (Forbidden f) = f.evidence
evidence_of (Malformed m) = m.evidence

abbrev pub model_of : Verdict → MemoryModel
model_of (Forbidden f) = f.model
model_of (Malformed m) = m.model
