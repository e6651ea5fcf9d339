-- A line more.
use Rattle.std.proofs.Common.{◌≡◌, ◌∙◌, ℕ, Bool, true, false, rules, List, None, Ok, Some, refl, length}
use Rattle.std.proofs.lemmas.Str.{IsUtf8-from_is_utf8, is_utf8-from_IsUtf8}
use Rattle.std.specs.Prelude.{if◌then◌else◌}
use Rattle.std.specs.List.{list_any}
use Rattle.std.specs.Str.{IsUtf8, is_utf8}
use Rattle.rv_trace.specs.Numbers.{number}
use Rattle.rv_trace.specs.Row.{Fields, field}
use Rattle.rv_explain.specs.RowTexts.{IsNoted, Said, same_row}
use Rattle.rv_where.specs.Lines.{IsTaken, is_control, is_text, line_fault}
use Rattle.rv_where.specs.declared.fault.LineFault.TheVariants as line

-- where no byte is a control character, a text is what UTF-8 is
pub utf8-text : (bytes : List ℕ) → list_any is_control bytes ≡ false → IsUtf8 bytes → is_text bytes ≡ true
utf8-text bytes none is = rw none (is_utf8-from_IsUtf8 bytes is)

pub other-text : (bytes : List ℕ) → list_any is_control bytes ≡ false → (IsUtf8 bytes → ⊥) → is_text bytes ≡ false
other-text bytes none not = rw none (by (is_utf8 bytes) refl)
  where
    by : (is : Bool) → is_utf8 bytes ≡ is → is_utf8 bytes ≡ false
    by true e = absurd (not (IsUtf8-from_is_utf8 bytes e))
    by false e = e

-- only the text of a line with two numbers may have a fault
pub numbered : (fields : Fields) (source row : ℕ) → length fields ≡ 3 → number 7 (field fields 0) ≡ Ok source →
    number 4294967295 (field fields 1) ≡ Ok row →
    line_fault fields ≡ (if is_text (field fields 2) then None else Some line.Text)
unfolding line_fault
numbered fields source row three one two = rw (three, one, two) refl

-- what is said of rows with its text
said-more : (old new : Said) (source row : ℕ) (text : List ℕ) → IsNoted old source row text new →
    (s r : ℕ) (is : Bool) → same_row (source, row) (s, r) ≡ is → new s r ≡ (if is then Some text else old s r)
said-more old new source row text noted s r true e = search (noted.this, rules)
said-more old new source row text noted s r false e = noted.others s r e

pub taken : (old new : Said) (fields : Fields) (source row : ℕ) → length fields ≡ 3 →
    number 7 (field fields 0) ≡ Ok source → number 4294967295 (field fields 1) ≡ Ok row →
    is_text (field fields 2) ≡ true → IsNoted old source row (field fields 2) new → IsTaken old fields new
taken old new fields source row three one two text noted = record {
  good = numbered fields source row three one two ∙ rw text refl;
  said = λ s r. rw (one, two) (said-more old new source row (field fields 2) noted s r _ refl);
}
