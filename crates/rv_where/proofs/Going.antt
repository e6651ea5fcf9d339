-- Line after line of a file.
use Rattle.std.proofs.Common.{◌≡◌, ◌∙◌, ◌∷◌, ◌+◌, ◌<◌, [], ℕ, List, Option, None, Some, refl, sym, ap, arith}
use Rattle.std.proofs.Common.{inl, inr}
use Rattle.std.proofs.lemmas.Bool.{le-ltb}
use Rattle.std.specs.Bool.{⊤}
use Rattle.csv.specs.Records.{Row, fields_of}
use Rattle.rv_trace.specs.Row.{Fields}
use Rattle.rv_trace.specs.Rows.{NoRow, TakesRow}
use Rattle.rv_explain.specs.RowTexts.{Said}
use Rattle.rv_where.specs.Lines.{AreTextsFrom, IsFaultFrom, IsLineFault, IsOutside, IsTaken, fault_at, fault_from}
use Rattle.rv_where.specs.Lines.{fault_of_line, said_from, with_line}
use Rattle.rv_where.specs.declared.fault.LineFault.{LineFault}
use Rattle.rv_where.specs.declared.fault.LineFault.TheVariants as line

-- so many lines were taken: what is left has the first fault, and gives what is said
pub record IsGoing (n : ℕ) (old : Said) (lines : List Fields) (new : Said) (left : List Fields) : Type 0 where
  pub fault : fault_from 1 lines ≡ fault_from (n + 1) left
  pub said : (source row : ℕ) → said_from old lines source row ≡ said_from new left source row

abbrev pub AreGoing : ℕ → Said → Option (List Fields) → Said → Option (List Fields) → Type 0
AreGoing n old None new left = ⊤
AreGoing n old (Some lines) new None = ⊥
AreGoing n old (Some lines) new (Some left) = IsGoing n old lines new left

-- what is said depends on nothing but what was said of each row
pub said-same : (f g : Said) (lines : List Fields) → ((s r : ℕ) → f s r ≡ g s r) → (s r : ℕ) →
    said_from f lines s r ≡ said_from g lines s r
unfolding said_from
said-same f g [] same s r = same s r
said-same f g (l ∷ lines) same s r =
    said-same (with_line f l) (with_line g l) lines (λ t q. rw (same t q) refl) s r

-- the first of the lines has no fault
past : (n : ℕ) (l : Fields) (lines : List Fields) → fault_of_line n l ≡ None →
    fault_from n (l ∷ lines) ≡ fault_from (n + 1) lines
unfolding fault_from
past n l lines none = rw none refl

-- or it has this one
here : (n : ℕ) (l : Fields) (lines : List Fields) (k : LineFault) → fault_of_line n l ≡ Some k →
    fault_from n (l ∷ lines) ≡ Some (fault_at k n)
unfolding fault_from
here n l lines k some = rw some refl

said-next : (said : Said) (l : Fields) (lines : List Fields) (s r : ℕ) →
    said_from said (l ∷ lines) s r ≡ said_from (with_line said l) lines s r
unfolding said_from
said-next said l lines s r = refl

-- before the first
pub going-begins : (old : Said) (known : Option (List Fields)) → AreGoing 0 old known old known
going-begins old None = tt
going-begins old (Some lines) = record { fault = refl; said = λ s r. refl }

-- one more was taken
pub going-next : (n : ℕ) (old new more : Said) (known left rest : Option (List Fields)) (row : Row) →
    AreGoing n old known new left → TakesRow left rest row → n < 524288 → IsTaken new (fields_of row) more →
    AreGoing (n + 1) old known more rest
going-next n old new more None left rest row going takes low taken = tt
going-next n old new more (Some lines) None rest row going takes low taken = absurd going
going-next n old new more (Some lines) (Some left) None row going takes low taken = absurd takes
going-next n old new more (Some lines) (Some left) (Some rest) row going takes low taken = record {
  fault = going.fault ∙ ap (fault_from (n + 1)) takes ∙ past (n + 1) (fields_of row) rest
      (rw (le-ltb 524288 (n + 1) (omega (low, arith))) taken.good);
  said = λ s r. going.said s r ∙ ap (λ (ls : List Fields). said_from new ls s r) takes
      ∙ said-next new (fields_of row) rest s r
      ∙ said-same (with_line new (fields_of row)) more rest (λ t q. sym (taken.said t q)) s r;
}

-- none is left
pub going-ends : (n : ℕ) (old new : Said) (known left : Option (List Fields)) → AreGoing n old known new left →
    NoRow left → AreTextsFrom old known new
unfolding said_from fault_from
going-ends n old new None left going none = tt
going-ends n old new (Some lines) None going none = absurd going
going-ends n old new (Some lines) (Some left) going none = record {
  good = going.fault ∙ ap (fault_from (n + 1)) none;
  texts = λ s r. sym (going.said s r ∙ ap (λ (ls : List Fields). said_from new ls s r) none);
}

-- the next has a fault
pub going-fault : (n : ℕ) (old new : Said) (known left rest : Option (List Fields)) (row : Row) (k : LineFault) →
    AreGoing n old known new left → TakesRow left rest row → n < 524288 → IsLineFault (fields_of row) k →
    IsFaultFrom known (fault_at k (n + 1))
going-fault n old new None left rest row k going takes low wrong = tt
going-fault n old new (Some lines) None rest row k going takes low wrong = absurd going
going-fault n old new (Some lines) (Some left) None row k going takes low wrong = absurd takes
going-fault n old new (Some lines) (Some left) (Some rest) row k going takes low (inr memory) = inr (inr memory)
going-fault n old new (Some lines) (Some left) (Some rest) row k going takes low (inl is) =
    inl (going.fault ∙ ap (fault_from (n + 1)) takes ∙ here (n + 1) (fields_of row) rest k
    (rw (le-ltb 524288 (n + 1) (omega (low, arith))) is))

-- the next is one too many
pub going-long : (n : ℕ) (old new : Said) (known left rest : Option (List Fields)) (row : Row) →
    AreGoing n old known new left → TakesRow left rest row → n ≡ 524288 →
    IsFaultFrom known (fault_at line.TooLong 524289)
going-long n old new None left rest row going takes long = tt
going-long n old new (Some lines) None rest row going takes long = absurd going
going-long n old new (Some lines) (Some left) None row going takes long = absurd takes
going-long n old new (Some lines) (Some left) (Some rest) row going takes long =
    inl (going.fault ∙ ap (λ (m : ℕ). fault_from (m + 1) left) long ∙ ap (fault_from 524289) takes
    ∙ here 524289 (fields_of row) rest line.TooLong refl)

-- reading or memory failed
pub outside-fault : (known : Option (List Fields)) (k : LineFault) (n : ℕ) → IsOutside k →
    IsFaultFrom known (fault_at k n)
outside-fault None k n is = tt
outside-fault (Some lines) k n is = inr is
