-- The test of all pairs of lines computes to true.
use Rattle.std.proofs.Common.{refl}
use Rattle.rv_insn.specs.Compressed.{compressed}
use Rattle.rv_insn.specs.Encodings.{encodings}
use Rattle.rv_insn.proofs.Disjoint.{all-sound}
use Rattle.rv_insn.proofs.laws.no_bits_fit_two_lines.Goals as goal

pub returns-clause-long : goal.returns-clause-long
returns-clause-long c = all-sound encodings refl

pub returns-clause-short : goal.returns-clause-short
returns-clause-short c = all-sound compressed refl
