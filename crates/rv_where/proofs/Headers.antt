-- The header of a file, and what is behind it.
use Rattle.std.proofs.Common.{◌≡◌, ◌∙◌, ◌∷◌, ℕ, true, false, List, Option, None, Some, refl, sym, ap, inl, inr}
use Rattle.csv.specs.Records.{Row, fields_of}
use Rattle.rv_trace.specs.Row.{Fields}
use Rattle.rv_trace.specs.Rows.{NoRow, TakesRow}
use Rattle.rv_explain.specs.RowTexts.{Said}
use Rattle.rv_where.specs.Lines.{AreTextsFrom, AreTextsOf, IsFaultFrom, IsFaultOf, fault_at, fault_from}
use Rattle.rv_where.specs.Lines.{fault_in, is_header, nothing, said_in}
use Rattle.rv_where.specs.declared.fault.LineFault.TheVariants as line
use Rattle.rv_where.specs.declared.fault.WhereFault.{WhereFault}
use Rattle.rv_where.proofs.Going.{said-same}

-- the faults of a file with a header are those of its lines
behind : (h : Fields) (lines : List Fields) → is_header h ≡ true → fault_in (h ∷ lines) ≡ fault_from 1 lines
behind h lines is = rw is refl

-- and of one without it is that
without : (h : Fields) (lines : List Fields) → is_header h ≡ false →
    fault_in (h ∷ lines) ≡ Some (fault_at line.Header 0)
without h lines is = rw is refl

-- the texts of the lines are those of the file
pub header-texts : (old left : Option (List Fields)) (row : Row) (start new : Said) → TakesRow old left row →
    is_header (fields_of row) ≡ true → ((s r : ℕ) → start s r ≡ None) → AreTextsFrom start left new →
    AreTextsOf old new
header-texts None left row start new takes is none are = tt
header-texts (Some records) None row start new takes is none are = absurd takes
header-texts (Some records) (Some lines) row start new takes is none are = record {
  good = ap fault_in takes ∙ behind (fields_of row) lines is ∙ are.good;
  texts = λ s r. are.texts s r ∙ said-same start nothing lines none s r
      ∙ ap (λ (rs : List Fields). said_in rs s r) (sym takes);
}

-- the fault of the lines is that of the file
pub header-fault : (old left : Option (List Fields)) (row : Row) (f : WhereFault) → TakesRow old left row →
    is_header (fields_of row) ≡ true → IsFaultFrom left f → IsFaultOf old f
header-fault None left row f takes is fault = tt
header-fault (Some records) None row f takes is fault = absurd takes
header-fault (Some records) (Some lines) row f takes is (inr outside) = inr outside
header-fault (Some records) (Some lines) row f takes is (inl e) =
    inl (ap fault_in takes ∙ behind (fields_of row) lines is ∙ e)

-- there is no header
pub no-record : (old : Option (List Fields)) → NoRow old → IsFaultOf old (fault_at line.Header 0)
no-record None none = tt
no-record (Some records) none = inl (ap fault_in none)

pub other-header : (old left : Option (List Fields)) (row : Row) → TakesRow old left row →
    is_header (fields_of row) ≡ false → IsFaultOf old (fault_at line.Header 0)
other-header None left row takes is = tt
other-header (Some records) None row takes is = absurd takes
other-header (Some records) (Some lines) row takes is = inl (ap fault_in takes ∙ without (fields_of row) lines is)
