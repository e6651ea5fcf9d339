use Rattle.rv_settle.proofs.Faulted.{fault-same}
use Rattle.rv_settle.proofs.laws.windows_have_the_faults.Goals as goal

pub returns : goal.returns
returns c limit log x first ok pairs pair few within fits room = fault-same limit log x first ok pairs pair
    few within fits.kept room fits
