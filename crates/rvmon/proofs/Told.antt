-- What is told of a trace of a list.
use Rattle.std.proofs.Common.{◌≡◌, ◌∙◌, ◌+◌, ◌++◌, ◌∷◌, ◌==◌, ℕ, Bool, List, [], Option, Some, None, All}
use Rattle.std.proofs.Common.{ap, append_assoc, arith, length, map, refl, sym}
use Rattle.std.proofs.lemmas.Grind.{common_steps}
use Rattle.std.proofs.lemmas.List.{append-nil, length-append, map-append}
use Rattle.std.proofs.lemmas.List.Elements.{All-nil, All-push}
use Rattle.std.proofs.lemmas.List.Folds.{concat-append}
use Rattle.std.proofs.lemmas.List.Sums.{fold_push}
use Rattle.std.specs.Bool.{⊤}
use Rattle.std.specs.Io.KnownBytes.{Appends, Keeps}
use Rattle.std.specs.List.{concat, fold}
use Rattle.std.specs.Option.{IfSome}
use Rattle.std.specs.Str.Lines.{lines}
use Rattle.clap.specs.Words.{Text}
use Rattle.rv_trace.specs.Faults.{fault_number}
use Rattle.rv_trace.specs.declared.fault.TraceFault.{TraceFault}
use Rattle.rv_event.specs.Texts.{◌⋯◌}
use Rattle.rv_report.proofs.Pieces.{Appends-trans}
use Rattle.rv_report.specs.Texts.{line_feed}
use Rattle.rv_list.specs.Lines.{failed_text, failure_data}
use Rattle.rv_list.specs.ListLines.{NoLine, TakesLine}
use Rattle.rv_cli.specs.declared.request.Asked.{Asked}
use Rattle.rvmon.specs.Endings.{status_of_kind}
use Rattle.rvmon.specs.Listing.{AreTold, IsFailureTold, IsFaultTold, IsLineTold, Told, Writes, graver, gravest}
use Rattle.rvmon.specs.Listing.{list_status, texts_of}

abbrev pub text_of : List Text → ℕ → Option ℕ → Option ℕ → Option ℕ → List ℕ → List ℕ
text_of names status source row number words = failed_text names status (failure_data source row number words)

-- words alone
pub failure-told : (names : List Text) (status : ℕ) (words : List ℕ) →
    IsFailureTold names status (text_of names status None None None words)
failure-told names status words = record { words = words; text_is = refl }

-- the fault of a source
pub fault-told : (names : List Text) (source : ℕ) (f : TraceFault) (status number : ℕ) (words : List ℕ) →
    status ≡ status_of_kind f.kind → number ≡ fault_number f.kind →
    IsFaultTold names source f (text_of names status (Some source) (Some f.row) (Some number) words) status
fault-told names source f status number words is same = record {
  status_is = is;
  words = words;
  text_is = ap (λ (n : ℕ). text_of names status (Some source) (Some f.row) (Some n) words) same;
}

-- ---- line after line
-- what was told of the lines before those that are left
abbrev pub AreBefore : Option (List ℕ) → Option (List ℕ) → List Told → Type 0
AreBefore None left tolds = ⊤
AreBefore (Some bytes) None tolds = ⊥
AreBefore (Some bytes) (Some left) tolds = lines bytes ≡ map (λ t. t.line) tolds ++ lines left

-- the list is before this line, with this status so far
pub record IsBefore (known : Text → Option (List ℕ)) (whole : Asked) (bytes old left new : Option (List ℕ))
    (number status : ℕ) : Type 0 where
  pub tolds : List Told
  pub are_told : All (λ t. IsLineTold known whole t.line t.text t.status) tolds
  pub lines : AreBefore bytes left tolds
  pub appends : Appends old new (texts_of tolds)
  pub status_is : status ≡ gravest tolds
  pub number_is : number ≡ length tolds + 1

appends-none : (known : Option (List ℕ)) → Appends known known []
appends-none None = tt
appends-none (Some bytes) = sym (append-nil bytes)

appends-kept : (old new kept : Option (List ℕ)) (text : List ℕ) → Appends old new text → Keeps new kept →
    Appends old kept text
appends-kept None new kept text grows keeps = tt
appends-kept (Some bytes) None kept text grows keeps = absurd grows
appends-kept (Some bytes) (Some more) None text grows keeps = absurd keeps
appends-kept (Some bytes) (Some more) (Some same) text grows keeps = keeps ∙ grows

before-none : (bytes : Option (List ℕ)) → AreBefore bytes bytes []
before-none None = tt
before-none (Some bytes) = refl

-- before the first line
pub begins : (known : Text → Option (List ℕ)) (whole : Asked) (bytes old : Option (List ℕ)) →
    IsBefore known whole bytes old bytes old 1 0
begins known whole bytes old = record {
  tolds = [];
  are_told = All-nil _;
  lines = before-none bytes;
  appends = appends-none old;
  status_is = refl;
  number_is = refl;
}

before-more : (bytes left rest : Option (List ℕ)) (tolds : List Told) (t : Told) → AreBefore bytes left tolds →
    TakesLine left rest t.line → AreBefore bytes rest (tolds ++ t ∷ [])
before-more None left rest tolds t before takes = tt
before-more (Some bytes) None rest tolds t before takes = absurd before
before-more (Some bytes) (Some left) None tolds t before takes = absurd takes
before-more (Some bytes) (Some left) (Some rest) tolds t before takes =
    let line = λ (u : Told). u.line in
    before ∙ ap (λ (ls : List (List ℕ)). map line tolds ++ ls) takes
    ∙ sym (append_assoc (map line tolds) (t.line ∷ []) (lines rest))
    ∙ ap (λ (ls : List (List ℕ)). ls ++ lines rest) (sym (map-append line tolds (t ∷ [])))

texts-more : (tolds : List Told) (t : Told) → texts_of (tolds ++ t ∷ []) ≡ texts_of tolds ++ (t.text ⋯ line_feed)
texts-more tolds t =
    let text = λ (u : Told). u.text ⋯ line_feed in
    ap concat (map-append text tolds (t ∷ [])) ∙ concat-append (map text tolds) (text t ∷ [])
    ∙ ap (λ (l : List ℕ). texts_of tolds ++ l) (append-nil (text t))

-- a line more was told
pub told-more : (known : Text → Option (List ℕ)) (whole : Asked) (bytes old left new : Option (List ℕ))
    (number status : ℕ) → IsBefore known whole bytes old left new number status →
    (rest written kept : Option (List ℕ)) (line : List ℕ) (s : ℕ) → TakesLine left rest line →
    Writes new written (λ text. IsLineTold known whole line text s) → Keeps written kept →
    IsBefore known whole bytes old rest kept (number + 1) (graver status s)
told-more known whole bytes old left new number status before rest written kept line s takes writes keeps =
    let t : Told = record { line = line; text = writes.0; status = s } in
    let tolds = before.tolds in
    record {
      tolds = tolds ++ t ∷ [];
      are_told = All-push (λ u. IsLineTold known whole u.line u.text u.status) tolds t before.are_told writes.2;
      lines = before-more bytes left rest tolds t before.lines takes;
      appends = appends-kept old written kept (texts_of (tolds ++ t ∷ []))
          (Appends-trans old new written (texts_of tolds) (writes.0 ⋯ line_feed) (texts_of (tolds ++ t ∷ []))
          before.appends writes.1 (sym (texts-more tolds t))) keeps;
      status_is = ap (λ (n : ℕ). graver n s) before.status_is
          ∙ sym (ap (fold graver 0) (map-append (λ u. u.status) tolds (t ∷ []))
          ∙ fold_push graver 0 (map (λ u. u.status) tolds) s);
      number_is = let n = before.number_is in let l = length-append tolds (t ∷ []) in omega (n, l, arith);
    }

before-all : (bytes left : Option (List ℕ)) (tolds : List Told) → AreBefore bytes left tolds → NoLine left →
    IfSome bytes (λ bs. lines bs ≡ map (λ t. t.line) tolds)
before-all None left tolds before none = tt
before-all (Some bytes) None tolds before none = absurd before
before-all (Some bytes) (Some left) tolds before none =
    let line = λ (u : Told). u.line in
    before ∙ ap (λ (ls : List (List ℕ)). map line tolds ++ ls) none ∙ append-nil (map line tolds)

first : (tolds : List Told) (number : ℕ) → number ≡ length tolds + 1 → (number == 1) ≡ (length tolds == 0)
first tolds number is = grind (arith, common_steps)

-- no line is left
pub told-all : (known : Text → Option (List ℕ)) (whole : Asked) (bytes old left new : Option (List ℕ))
    (number status : ℕ) → IsBefore known whole bytes old left new number status → NoLine left → (result : ℕ) →
    result ≡ list_status (number == 1) whole.complete status → AreTold known whole bytes old new result
told-all known whole bytes old left new number status before none result is = record {
  tolds = before.tolds;
  are_told = before.are_told;
  lines = before-all bytes left before.tolds before.lines none;
  appends = before.appends;
  status_is = is ∙ ap (λ (b : Bool). list_status b whole.complete status) (first before.tolds number before.number_is)
      ∙ ap (list_status (length before.tolds == 0) whole.complete) before.status_is;
}
