use Rattle.std.proofs.Common.{rules, List, Option, Err, string_bytes, ap, length, refl}
use Rattle.std.proofs.Common.{sym, ◌∙◌, subst}
use Rattle.std.proofs.lemmas.List.{length-map}
use Rattle.rv_run.specs.Sources.{IsFaultAmong}
use Rattle.rv_run.specs.declared.fault.RunFault.{RunFault}
use Rattle.rv_run.specs.declared.fault.RunFault.TheVariants as fault
use Rattle.rv_run.specs.declared.running.Settings.{Settings}
use Rattle.rv_trace.specs.Source.{Stream}
use Rattle.rv_trace.specs.declared.dialect.Dialect.{Dialect}
use Rattle.rvmon.specs.Backings.{dialect_asked}
use Rattle.rvmon.specs.Starting.{IsJudgedOf, bytes_asked}
use Rattle.rvmon.specs.declared.ending.Ending.TheVariants.{Failed}
use Rattle.rvmon.proofs.Ends.{count_asked, ends_unopened, in_range, streams_are}
use Rattle.rvmon.proofs.answer.Goals as goal

pub returns-in_default : goal.returns-in_default
returns-in_default g c =
    ends_unopened (g.O.Opener.known c.args.opener.now) c.args.asked.now (Failed fault.NoMemory) refl

pub returns-in-Err : goal.returns-in-Err
returns-in-Err g c = search (ends_unopened, string_bytes, rules)

pub returns-in-Ok-run_reading : goal.returns-in-Ok-run_reading
returns-in-Ok-run_reading g c =
    let known = g.O.Opener.known c.args.opener.now in
    let asked = c.args.asked.now in
    let opened = c.in-Ok-open_all.ensures.opened ∙ ap (bytes_asked known) c.as_slice-names.ensures.value in
    let ran = c.in-Ok-run_reading.ensures in
    subst (λ (ss : List (Option Stream)). IsJudgedOf asked ss c.in-Ok-run_reading.judged)
    (streams_are _ (dialect_asked asked) _ c.in-Ok-open_all.opened.inputs.items _ c.dialect_of.ensures opened)
    (record {
      outcome = record { allowed = ran.allowed; forbidden = ran.forbidden; malformed = ran.malformed };
      covered = ran.covered;
      counted = λ asks. ran.asked (c.is_covering.ensures ∙ asks);
      only = λ some. (sym c.is_covering.ensures ∙ (ran.only some).0, (ran.only some).1);
      lacks = λ asks. ran.lacks (ap (λ (d : Dialect). d.end_record) c.dialect_of.ensures ∙ asks);
      complete = λ some. (
        sym (ap (λ (d : Dialect). d.end_record) c.dialect_of.ensures) ∙ (ran.complete some).0,
        (ran.complete some).1,
      );
      strength = ran.strength;
      tested = ran.tested;
    })

pub returns : goal.returns
returns g c =
    let known = g.O.Opener.known c.args.opener.now in
    let asked = c.args.asked.now in
    let settings : Settings = record { workers = asked.workers; slots = asked.slots; model = asked.model } in
    let opened = c.in-Ok-open_all.ensures.opened ∙ ap (bytes_asked known) c.as_slice-names.ensures.value in
    let many = sym (length-map c.in-Ok-open_all.opened.inputs.items _) ∙ ap length opened
    ∙ count_asked known asked.files.items in (
      λ is. in_range asked _ settings c.requires (c.in-Ok-open_all.opened.inputs.ok.0 ∙ many) refl refl
          (c.run_reading.ensures.settings.0 (c.in-Err-run_reading.is ∙ ap (λ (f : RunFault). Err f) is)),
      subst (λ (ss : List (Option Stream)). IsFaultAmong ss c.in-Err-run_reading.fault)
          (streams_are _ (dialect_asked asked) _ c.in-Ok-open_all.opened.inputs.items _ c.dialect_of.ensures opened)
          c.in-Err-run_reading.ensures.fault,
    )
