use Rattle.rv_run.proofs.Common.{List, IfOk, IfErr, option_map, rules, subst, bytes_say, AgreesWith, IsFaultIn}
use Rattle.rv_run.proofs.Common.{Fed, IfSome, IsAllowed}
use Rattle.std.specs.Prelude.{IsTrue}
use Rattle.std.proofs.lemmas.Result.{IfOk-weaker}
use Rattle.rv_run.specs.Comparisons.{IsCoveredBy, IsTestedBy, LacksBy}
use Rattle.rv_run.specs.Completeness.{Lacks}
use Rattle.rv_run.proofs.Completeness.{readers-lack}
use Rattle.rv_run.proofs.Outcomes.{IsAnswer, answer-true}
use Rattle.rv_run.proofs.Strengths.{readers-tested}
use Rattle.rv_run.specs.Strengths.{AreTested}
use Rattle.rv_run.specs.Sources.{streams_in}
use Rattle.rv_run.proofs.running.run_in.Goals as goal

pub returns : goal.returns
returns g c =
    let told = rw c.question-question.ensures at c.judge-judged.ensures in
    let answer : IsAnswer c.args.settings.model
    (streams_in c.args.reading.dialect g.R.Read.remaining c.args.readers.items) c.judge-judged.result =
    answer-true (λ r. option_map (bytes_say c.args.reading.dialect) (g.R.Read.remaining r)) c.args.readers.items
    c.in_ok-driven.driven.fed.items c.args.settings.model c.judge-judged.result
    (search rules) c.in_ok-driven.ensures.fed.0 c.in_ok-driven.ensures.fed.1
    (subst (λ (fed : List Fed). IfOk c.judge-judged.result (λ j. AgreesWith c.args.settings.model fed j.outcome))
    c.as_slice-fed.ensures.value told.outcome)
    (subst (λ (fed : List Fed). IfOk c.judge-judged.result
    (λ j. IfSome j.coverage (IsCoveredBy c.args.settings.model fed)))
    c.as_slice-fed.ensures.value told.coverage)
    (subst (λ (fed : List Fed). IfErr c.judge-judged.result (IsFaultIn fed)) c.as_slice-fed.ensures.value
    told.fault) in
    let lacks : IfOk c.judge-judged.result (λ j. IsTrue c.args.reading.dialect.end_record → IsAllowed j.outcome →
    Lacks (streams_in c.args.reading.dialect g.R.Read.remaining c.args.readers.items) j.missing) =
    IfOk-weaker c.judge-judged.result _ _ (λ j lacking asked allowed.
    readers-lack (λ r. option_map (bytes_say c.args.reading.dialect) (g.R.Read.remaining r)) c.args.readers.items
    c.in_ok-driven.driven.fed.items (search rules) c.in_ok-driven.ensures.fed.0 c.in_ok-driven.ensures.fed.1 j.missing
    (lacking asked allowed))
    (subst (λ (fed : List Fed). IfOk c.judge-judged.result
    (λ j. IsTrue c.args.reading.dialect.end_record → IsAllowed j.outcome → LacksBy fed j.missing))
    c.as_slice-fed.ensures.value told.lacks) in
    let strength : IfOk c.judge-judged.result (λ j. IfSome j.strength
    (AreTested c.args.settings.model (streams_in c.args.reading.dialect g.R.Read.remaining c.args.readers.items))) =
    IfOk-weaker c.judge-judged.result _ _ (λ j tested.
    readers-tested (λ r. option_map (bytes_say c.args.reading.dialect) (g.R.Read.remaining r)) c.args.readers.items
    c.in_ok-driven.driven.fed.items (search rules) c.in_ok-driven.ensures.fed.0 c.in_ok-driven.ensures.fed.1
    c.args.settings.model j.strength tested)
    (subst (λ (fed : List Fed). IfOk c.judge-judged.result
    (λ j. IfSome j.strength (IsTestedBy c.args.settings.model fed)))
    c.as_slice-fed.ensures.value told.strength) in record {
      allowed = answer.allowed;
      forbidden = answer.forbidden;
      malformed = answer.malformed;
      covered = answer.covered;
      asked = search rules;
      only = search rules;
      lacks = lacks;
      complete = search rules;
      strength = strength;
      tested = search rules;
      fault = answer.fault;
      settings = search rules;
    }

pub drive_shared-requires-clause-fits : goal.drive_shared-requires-clause-fits
drive_shared-requires-clause-fits g c κs bounds k d low = rw c.new-step.ensures.carrier (c.requires.fits k d low)
