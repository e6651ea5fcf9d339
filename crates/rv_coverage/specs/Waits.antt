-- The loads whose stores have not come.
use Rattle.std.specs.Prelude.{ℕ, ◌==◌, ◌&&◌, List, codes, decimal, filter, map}
use Rattle.std.specs.List.{flat_map}
use Rattle.rv_event.specs.Log.{events}
use Rattle.rv_event.specs.Texts.{◌⋯◌, id_text}
use Rattle.rv_event.specs.declared.event.Entry.{Entry}
use Rattle.rv_event.specs.declared.event.Event.{Event}
use Rattle.rv_book.specs.Counts.{is_waiting}
use Rattle.rv_coverage.specs.Counts.{all_harts}
use Rattle.rv_coverage.specs.declared.waiting.Wait.{Wait}

-- for what a load waits
abbrev pub wait_of : Event → Wait
wait_of e = record { id = e.id; word = e.word; version = e.read }

-- the loads of a hart that wait, in program order
abbrev pub waits_of : List Entry → ℕ → List Wait
waits_of log hart =
    map (λ x. wait_of x.event) (filter (λ x. (x.event.id.hart == hart) && is_waiting (events log) x.event) log)

-- those of all harts, by their names
abbrev pub waits : List Entry → List Wait
waits log = flat_map (waits_of log) all_harts

abbrev pub wait_text : Wait → List ℕ
wait_text w = id_text w.id ⋯ codes " waits for version " ⋯ decimal w.version ⋯ codes " of word " ⋯ decimal w.word
