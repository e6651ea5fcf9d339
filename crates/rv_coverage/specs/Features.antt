-- What is counted, and in which words.
use Rattle.std.specs.Prelude.{ℕ, List, codes}
use Rattle.rv_event.specs.Texts.{reason_text}
use Rattle.rv_coverage.specs.Kinds.{kind_text}
use Rattle.rv_coverage.specs.declared.feature.Feature.{Feature}
use Rattle.rv_coverage.specs.declared.feature.Feature.TheVariants as feature
use Rattle.rv_coverage.specs.declared.feature.Origin.{Origin}
use Rattle.rv_coverage.specs.declared.feature.Origin.TheVariants.{Initial, Own, Other, Waiting}

abbrev pub origin_text : Origin → List ℕ
origin_text Initial = codes "initial value"
origin_text Own = codes "own hart"
origin_text Other = codes "another hart"
origin_text Waiting = codes "missing store"

abbrev pub feature_text : Feature → List ℕ
feature_text (feature.Event k) = kind_text k
feature_text (feature.Link r) = reason_text r
feature_text (feature.Read o) = origin_text o
