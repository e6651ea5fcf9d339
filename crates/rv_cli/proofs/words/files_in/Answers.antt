use Rattle.rv_cli.proofs.Common.{◌∙◌, refl, Some, None, length-map, texts}
use Rattle.clap.specs.Words.{found_of}
use Rattle.rv_cli.proofs.Getters.{files_read}
use Rattle.rv_cli.proofs.words.files_in.Goals as goal

pub returns-then-names-gt-MAX_FILES-clause-fault : goal.returns-then-names-gt-MAX_FILES-clause-fault
returns-then-names-gt-MAX_FILES-clause-fault c =
    let e = files_read (found_of c.args.matches.now) (Some (texts c.in-Some.names.now)) c.in-Some.ensures in
    rw (← e, length-map c.in-Some.names.now (λ s. s.now)) c.if-names-gt-MAX_FILES.true

pub returns-in_ok-copies-in-Some-clause-names : goal.returns-in_ok-copies-in-Some-clause-names
returns-in_ok-copies-in-Some-clause-names c =
    let e = files_read (found_of c.args.matches.now) (Some (texts c.in-Some.names.now)) c.in-Some.ensures in
    c.in_ok-copies-in-Some.ensures ∙ e

pub returns-in-None-clause-names : goal.returns-in-None-clause-names
returns-in-None-clause-names c =
    let e = files_read (found_of c.args.matches.now) None c.in-None.ensures in
    rw (← e, c.new.ensures.items) refl
