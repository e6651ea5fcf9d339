-- Where the dependencies of an event stand.
use Rattle.std.specs.Prelude.{List}
use Rattle.rv_event.specs.declared.event.Dep.{Dep}
use Rattle.rv_event.specs.declared.event.Kept.{Kept}
use Rattle.rv_event.specs.declared.event.Kept.TheVariants.{Short, Long}

-- those that are kept, in place or in a list
abbrev pub kept_deps : Kept → List Dep
kept_deps (Short places) = places
kept_deps (Long list) = list.items
