-- A malformed event in words, byte by byte: what is wrong, what was expected, and how traces come to have
-- it. The format is this project's own.
use Rattle.std.specs.Prelude.{ℕ, List, codes, decimal, String}
use Rattle.std.specs.Global.{Global}
use Rattle.rv_event.specs.Texts.{◌⋯◌, id_text}
use Rattle.rv_event.specs.declared.event.Event.{Event}
use Rattle.rv_event.specs.declared.fault.Fault.{Fault}
use Rattle.rv_event.specs.declared.fault.Fault.TheVariants as fault
use Rattle.rv_explain.specs.Telling.{described_text, id_cell, place_cell}
use Rattle.rv_explain.specs.declared.shown.Shown.{Shown}

abbrev pub wrong_text : Fault → Event → List ℕ
wrong_text fault.Hart e = codes "its hart is " ⋯ decimal e.id.hart
wrong_text (fault.Sequence n) e =
    codes "its seq is " ⋯ decimal e.id.seq ⋯ codes ", and its hart had " ⋯ decimal n ⋯ codes " events before it"
wrong_text fault.Dependency e = codes "one of its dependencies names no event that it can depend on"
wrong_text fault.VersionZero e = codes "it writes version 0 of word " ⋯ decimal e.word
wrong_text (fault.VersionTaken i) e =
    codes "it writes version " ⋯ decimal e.wrote ⋯ codes " of word " ⋯ decimal e.word ⋯ codes ", which " ⋯ id_text i
    ⋯ codes " wrote already"
wrong_text fault.NoReservation e = codes "the last LR, SC or failed SC of its hart is not an LR"
wrong_text fault.Full e = codes "its hart has 4096 events already"
wrong_text fault.OtherSource e = codes "the earlier events of its hart came from another source"
wrong_text fault.TooManyDeps e = codes "it has more than 8 dependencies"

abbrev pub expected_text : Fault → List ℕ
expected_text fault.Hart = codes "a hart from 0 to 15"
expected_text (fault.Sequence n) = codes "seq " ⋯ decimal n
expected_text fault.Dependency =
    codes "earlier L, LR, SC, SF, AMO or I of its hart, each by a letter that its operation has"
expected_text fault.VersionZero = codes "a version from 1 on, as 0 is the initial value"
expected_text (fault.VersionTaken i) = codes "a version of its own for each store to a word"
expected_text fault.NoReservation = codes "an LR of its hart with no other LR, SC or failed SC behind it"
expected_text fault.Full = codes "at most 4096 events a hart"
expected_text fault.OtherSource = codes "all events of a hart in one source"
expected_text fault.TooManyDeps = codes "at most 8 dependencies"

abbrev pub usual_text : Fault → List ℕ
usual_text fault.Hart = codes "harts that are not numbered from 0, or more than 16 of them"
usual_text (fault.Sequence n) = codes "a row that was lost or written twice, or rows out of program order"
usual_text fault.Dependency = codes "a dependency on a store or fence, or rows numbered anew without their deps"
usual_text fault.VersionZero = codes "versions that were counted from 0"
usual_text (fault.VersionTaken i) = codes "a store that was logged twice, or stores that each hart numbers by itself"
usual_text fault.NoReservation = codes "an SC that failed, which is SF, or an LR that was not logged"
usual_text fault.Full = codes "a run that is longer than a trace may be"
usual_text fault.OtherSource = codes "sources of two runs, or a run that was cut by time and not by hart"
usual_text fault.TooManyDeps = codes "dependencies that rows I could stand for, with --carriers"

-- the whole
abbrev pub malformed_text : List (String Global) → Shown → Fault → List ℕ
malformed_text names s f =
    id_cell s ⋯ codes " (" ⋯ place_cell names s ⋯ codes ") is malformed: "
    ⋯ described_text s ⋯ codes ".\n\n  Wrong: " ⋯ wrong_text f s.entry.now.event
    ⋯ codes ".\n  Expected: " ⋯ expected_text f ⋯ codes ".\n  Usual cause: " ⋯ usual_text f ⋯ codes ".\n"
