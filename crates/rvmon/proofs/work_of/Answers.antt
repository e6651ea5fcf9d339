use Rattle.rvmon.specs.Starting.{nothing_known}
use Rattle.rvmon.proofs.Ends.{work_is}
use Rattle.rvmon.proofs.work_of.Goals as goal

pub returns-in-Ok-texts_of : goal.returns-in-Ok-texts_of
returns-in-Ok-texts_of g c = work_is nothing_known _ c.answer_words.result c.answer_words.ensures
