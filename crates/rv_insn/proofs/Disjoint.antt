-- A test of two lines that no bits fit both, and of all pairs of a table.
use Rattle.std.proofs.Common.{◌≡◌, ℕ, Bool, true, false, not, ◌&&◌, ◌||◌, ◌==◌, List, [], ◌∷◌}
use Rattle.std.proofs.Common.{inl, inr, sym, ap, ◌∙◌, eqb-true, eq-eqb}
use Rattle.std.specs.Prelude.{bit_and}
use Rattle.std.specs.List.{list_all, list_any}
use Rattle.std.proofs.lemmas.Nat.{and_comm, and_assoc}
use Rattle.std.proofs.lemmas.Bool.{and_parts, or_cases, false≢true}
use Rattle.std.proofs.lemmas.List.Elements.{All-contains}
use Rattle.std.proofs.lemmas.List.Sums.{AllPass-from_list_all}
use Rattle.rv_insn.specs.Apart.{AreApart, ShareNone}
use Rattle.rv_insn.specs.Lines.{Line, fits, has, is_of}
use Rattle.rv_insn.specs.declared.insn.Width.{Width}
use Rattle.rv_insn.specs.declared.insn.Width.TheVariants.{Rv32, Rv64}
use Rattle.rv_insn.specs.declared.line.Widths.{Widths}
use Rattle.rv_insn.specs.declared.line.Widths.TheVariants.{Both, Only32, Only64}

-- the one is of 32 bits alone, the other of 64
abbrev pub parted : Widths → Widths → Bool
parted Only32 Only64 = true
parted Only64 Only32 = true
parted _ _ = false

-- under both masks the patterns differ
abbrev pub differ : Line → Line → Bool
differ l m = not (bit_and l.pattern m.mask == bit_and m.pattern l.mask)

-- the exception has the pattern that bits have which fit the line
abbrev pub catches : Line → ℕ × ℕ → Bool
catches m e = (bit_and e.0 m.mask == e.0) && (bit_and m.pattern e.0 == e.1)

-- no bits fit both lines
abbrev pub are_apart : Line → Line → Bool
are_apart l m =
    parted l.widths m.widths || (differ l m || (list_any (catches m) l.except || list_any (catches l) m.except))

-- nor any two of a table
abbrev pub all_apart : List Line → Bool
all_apart [] = true
all_apart (l ∷ lines) = list_all (are_apart l) lines && all_apart lines

-- what bits that fit a line have
pub record Fitted (w : Width) (bits : ℕ) (l : Line) : Type 0 where
  pub width : is_of w l.widths ≡ true
  pub masked : bit_and bits l.mask ≡ l.pattern
  pub excepted : list_all (λ e. not (has bits e.0 e.1)) l.except ≡ true

fitted : (w : Width) (bits : ℕ) (l : Line) → fits w bits l ≡ true → Fitted w bits l
fitted w bits l fit =
    let outer = and_parts (is_of w l.widths && has bits l.mask l.pattern)
    (list_all (λ e. not (has bits e.0 e.1)) l.except) fit in
    let inner = and_parts (is_of w l.widths) (has bits l.mask l.pattern) outer.0 in
    record { width = inner.0; masked = eqb-true (bit_and bits l.mask) l.pattern inner.1; excepted = outer.1 }

parted-sound : (w : Width) (a b : Widths) → parted a b ≡ true → is_of w a ≡ true → is_of w b ≡ true → ⊥
parted-sound Rv32 Only32 Only64 p one other = false≢true other
parted-sound Rv64 Only32 Only64 p one other = false≢true one
parted-sound Rv32 Only64 Only32 p one other = false≢true one
parted-sound Rv64 Only64 Only32 p one other = false≢true other
parted-sound w Both b p one other = false≢true p
parted-sound w Only32 Both p one other = false≢true p
parted-sound w Only32 Only32 p one other = false≢true p
parted-sound w Only64 Both p one other = false≢true p
parted-sound w Only64 Only64 p one other = false≢true p

-- bits have under two masks what either pattern has under the other mask
same-below : (bits lm lp mm mp : ℕ) → bit_and bits lm ≡ lp → bit_and bits mm ≡ mp → bit_and lp mm ≡ bit_and mp lm
same-below bits lm lp mm mp one other =
    ap (λ (n : ℕ). bit_and n mm) (sym one) ∙ and_assoc mm bits lm ∙ ap (λ (n : ℕ). bit_and bits n) (and_comm lm mm)
    ∙ sym (and_assoc lm bits mm) ∙ ap (λ (n : ℕ). bit_and n lm) other

differ-sound : (bits : ℕ) (l m : Line) → differ l m ≡ true → bit_and bits l.mask ≡ l.pattern →
    bit_and bits m.mask ≡ m.pattern → ⊥
differ-sound bits l m d one other =
    let same = eq-eqb (bit_and l.pattern m.mask) (bit_and m.pattern l.mask)
    (same-below bits l.mask l.pattern m.mask m.pattern one other) in
    false≢true (sym (ap not same) ∙ d)

-- an exception that catches a line has the bits that fit it
catches-sound : (bits : ℕ) (m : Line) (e : ℕ × ℕ) → catches m e ≡ true → bit_and bits m.mask ≡ m.pattern →
    has bits e.0 e.1 ≡ true
catches-sound bits m e c masked =
    let parts = and_parts (bit_and e.0 m.mask == e.0) (bit_and m.pattern e.0 == e.1) c in
    let within : bit_and e.0 m.mask ≡ e.0 = eqb-true (bit_and e.0 m.mask) e.0 parts.0 in
    let is : bit_and m.pattern e.0 ≡ e.1 = eqb-true (bit_and m.pattern e.0) e.1 parts.1 in
    eq-eqb (bit_and bits e.0) e.1 (ap (λ (n : ℕ). bit_and bits n) (sym within ∙ and_comm e.0 m.mask)
    ∙ sym (and_assoc e.0 bits m.mask) ∙ ap (λ (n : ℕ). bit_and n e.0) masked ∙ is)

-- so bits that fit a line which an exception catches are excepted
caught : (bits : ℕ) (m : Line) (es : List (ℕ × ℕ)) → list_any (catches m) es ≡ true →
    bit_and bits m.mask ≡ m.pattern → list_all (λ e. not (has bits e.0 e.1)) es ≡ true → ⊥
caught bits m [] any masked all = false≢true any
caught bits m (e ∷ es) any masked all =
    let parts = and_parts (not (has bits e.0 e.1)) (list_all (λ x. not (has bits x.0 x.1)) es) all in
    elim (or_cases (catches m e) (list_any (catches m) es) any) [
      | inl here ↦ false≢true (sym (ap not (catches-sound bits m e here masked)) ∙ parts.0)
      | inr there ↦ caught bits m es there masked parts.1
    ]

apart-sound : (l m : Line) → are_apart l m ≡ true → ShareNone l m
apart-sound l m apart w bits fit other =
    let one = fitted w bits l fit in
    let two = fitted w bits m other in
    elim (or_cases (parted l.widths m.widths)
    (differ l m || (list_any (catches m) l.except || list_any (catches l) m.except)) apart) [
      | inl p ↦ parted-sound w l.widths m.widths p one.width two.width
      | inr rest ↦ elim (or_cases (differ l m) (list_any (catches m) l.except || list_any (catches l) m.except) rest) [
        | inl d ↦ differ-sound bits l m d one.masked two.masked
        | inr some ↦ elim (or_cases (list_any (catches m) l.except) (list_any (catches l) m.except) some) [
          | inl x ↦ caught bits m l.except x two.masked one.excepted
          | inr x ↦ caught bits l m.except x one.masked two.excepted
        ]
      ]
    ]

-- a table that passes the test is apart
pub all-sound : (lines : List Line) → all_apart lines ≡ true → AreApart lines
all-sound [] all = tt
all-sound (l ∷ lines) all =
    let parts = and_parts (list_all (are_apart l) lines) (all_apart lines) all in (
      λ m c. apart-sound l m (All-contains (λ x. are_apart l x ≡ true) lines m
          (AllPass-from_list_all (are_apart l) lines parts.0) c),
      all-sound lines parts.1,
    )
