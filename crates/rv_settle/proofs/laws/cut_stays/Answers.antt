use Rattle.rv_settle.proofs.CutStays.{cut-stays-one}
use Rattle.rv_settle.proofs.laws.cut_stays.Goals as goal

pub returns : goal.returns
returns c = cut-stays-one
