-- From a step's ending to the program's.
use Rattle.std.proofs.lemmas.Grind.{common_steps}
use Rattle.std.proofs.Common.{Global, String, ◌≡◌, ◌≢◌, ◌<◌, ℕ, List, [], ◌∷◌, Option, Ok, length, map}
use Rattle.std.proofs.Common.{slice_index_or, string_bytes, sym, ◌∙◌, subst, ap, refl, arith, nat_eq, false}
use Rattle.std.proofs.Common.{None, inr, suc, option_map, take, ◌+◌, ◌++◌}
use Rattle.std.proofs.lemmas.Bool.{false≢true}
use Rattle.std.proofs.lemmas.List.{length-map, get_or-map, map-append, take_more}
use Rattle.std.proofs.lemmas.Simd.{map-map}
use Rattle.clap.specs.Words.{Text}
use Rattle.rv_trace.specs.Source.{bytes_say}
use Rattle.rv_trace.specs.declared.dialect.Dialect.{Dialect}
use Rattle.rv_run.specs.Sources.{IsFaultAmong, streams_in}
use Rattle.rv_run.specs.declared.fault.RunFault.TheVariants as fault
use Rattle.rv_run.specs.Ranges.{IsOutOfRange}
use Rattle.rv_run.specs.declared.running.Settings.{Settings}
use Rattle.rv_cli.specs.Answers.{AnswersTo}
use Rattle.rv_cli.specs.Asked.{AreInRange}
use Rattle.rv_cli.specs.declared.request.Asked.{Asked}
use Rattle.rvmon.specs.Starting.{IsUnopened, IsUnopenedFile, IsWork, IsWorkBy, EndsAsked, EndsBy, IsFormAsked}
use Rattle.rvmon.specs.Starting.{IsOfSources, bytes_asked, streams_asked}
use Rattle.rvmon.specs.declared.ending.Ending.{Ending}
use Rattle.rvmon.specs.declared.form.Form.{Form}
use Rattle.rvmon.specs.declared.work.Work.{Work}
use Rattle.rvmon.specs.declared.work.Work.TheVariants.{Ended, Many}
use Rattle.rvmon.specs.declared.ending.Ending.TheVariants.{Ran, Failed, Words, NotText, NotOpened}

-- a source for each file; standard input where there is none
abbrev pub sources_of : {X : Type 0} → List X → ℕ
sources_of [] = 1
sources_of (x ∷ xs) = suc (length xs)

-- so the numbers of a request are those that a run takes
pub in_range :
    (asked : Asked) (sources : ℕ) (settings : Settings) → AreInRange asked → sources ≡ sources_of asked.files.items →
    settings.workers ≡ asked.workers → settings.slots ≡ asked.slots → IsOutOfRange sources settings → ⊥
in_range asked sources settings r many workers slots out = grind (arith, common_steps)

no_memory_in_range : fault.NoMemory ≢ fault.Settings
no_memory_in_range same = cc

-- a file that did not open is an ending of what was asked
pub ends_unopened : (known : Text → Option (List ℕ)) (asked : Asked) (e : Ending) →
    IsUnopened (map string_bytes asked.files.items) e → EndsAsked known asked e
ends_unopened known asked (Ran j) h = absurd h
ends_unopened known asked (Failed f) h =
    (λ is. no_memory_in_range (sym h ∙ is), subst (IsFaultAmong (streams_asked known asked)) (sym h) tt)
ends_unopened known asked (Words f) h = absurd h
ends_unopened known asked NotText h = absurd h
ends_unopened known asked (NotOpened name) h = h

-- an ending of what was asked is one of the words
pub ends_asked : (known : Text → Option (List ℕ)) (texts : List Text) (asked : Asked) (e : Ending) →
    (form : Form) → AnswersTo texts (Ok asked) → asked.list_file ≡ None → IsFormAsked known asked e form →
    EndsAsked known asked e → EndsBy known texts e form
ends_asked known texts asked (Ran j) form said alone is h = (asked, said, alone, is, h)
ends_asked known texts asked (Failed f) form said alone is h = (asked, said, alone, is, h)
ends_asked known texts asked (Words f) form said alone is h = absurd h
ends_asked known texts asked NotText form said alone is h = absurd h
ends_asked known texts asked (NotOpened name) form said alone is h = (asked, said, alone, is, h)

-- what words have the program do, it does
pub work_is : (known : Text → Option (List ℕ)) (texts : List Text) (w : Work) → IsWorkBy known texts w →
    IsWork known w
work_is known texts (Ended e form) h = inr (texts, h)
work_is known texts (Many asked) h = (h.0, (texts, h.1))

-- the ending of a request is one of sources
pub of_sources : (known : Text → Option (List ℕ)) (asked : Asked) (e : Ending) → EndsAsked known asked e →
    IsOfSources e
of_sources known asked (Ran j) h = tt
of_sources known asked (Failed f) h = tt
of_sources known asked (Words f) h = absurd h
of_sources known asked NotText h = absurd h
of_sources known asked (NotOpened name) h = tt

-- a file that does not open is one of the files
pub unopened_among : (names : List (String Global)) (k : ℕ) (name : String Global) → k < length names →
    slice_index_or names k name ≡ name → (e : Ending) → IsUnopenedFile (string_bytes name) e →
    IsUnopened (map string_bytes names) e
unopened_among names k name within is (Ran j) h = absurd h
unopened_among names k name within is (Failed f) h = h
unopened_among names k name within is (Words f) h = absurd h
unopened_among names k name within is NotText h = absurd h
unopened_among names k name within is (NotOpened other) h = (
  k,
  subst (λ n. k < n) (sym (length-map names string_bytes)) within,
  get_or-map string_bytes names k name (string_bytes other) within ∙ ap string_bytes is ∙ sym h,
)

-- what the readers of the sources asked for say
pub streams_are : {I : Type 0} (read asked : Dialect) (remaining : I → Option (List ℕ)) (inputs : List I)
    (bytes : List (Option (List ℕ))) → read ≡ asked →
    map remaining inputs ≡ bytes → streams_in read remaining inputs ≡ map (option_map (bytes_say asked)) bytes
streams_are read asked remaining inputs bytes same is =
    ap (λ (d : Dialect). streams_in d remaining inputs) same
    ∙ (sym (map-map (option_map (bytes_say asked)) remaining inputs) ∙ ap (map (option_map (bytes_say asked))) is)

-- where there are files, they are the sources
pub files_asked : (known : Text → Option (List ℕ)) (names : List (String Global)) →
    nat_eq (length names) 0 ≡ false → map (λ n. known (string_bytes n)) names ≡ bytes_asked known names
files_asked known [] some = absurd (false≢true (sym some))
files_asked known (n ∷ ns) some = refl

-- so many sources are asked for
pub count_asked : (known : Text → Option (List ℕ)) (names : List (String Global)) →
    length (bytes_asked known names) ≡ sources_of names
count_asked known [] = refl
count_asked known (n ∷ ns) = ap suc (length-map ns _)

-- one file more is opened
pub opened_more : {I : Type 0} (remaining : I → Option (List ℕ)) (known : Text → Option (List ℕ))
    (names : List (String Global)) (old new : List I) (input : I) (k : ℕ) (name : String Global) →
    k < length names → slice_index_or names k name ≡ name → new ≡ old ++ input ∷ [] →
    remaining input ≡ known (string_bytes name) →
    map remaining old ≡ map (λ n. known (string_bytes n)) (take k names) →
    map remaining new ≡ map (λ n. known (string_bytes n)) (take (k + 1) names)
opened_more remaining known names old new input k name within at grown says so_far =
    let told = λ (n : String Global). known (string_bytes n) in
    let more : take (k + 1) names ≡ take k names ++ name ∷ [] =
    take_more names k name within ∙ ap (λ (x : String Global). take k names ++ x ∷ []) at in
    ap (map remaining) grown ∙ map-append remaining old (input ∷ [])
    ∙ ap (λ (bs : List (Option (List ℕ))). bs ++ remaining input ∷ []) so_far
    ∙ ap (λ (b : Option (List ℕ)). map told (take k names) ++ b ∷ []) says
    ∙ sym (ap (map told) more ∙ map-append told (take k names) (name ∷ []))
