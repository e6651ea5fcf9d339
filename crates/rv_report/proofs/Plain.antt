-- Texts in which JSON escapes no byte.
use Rattle.std.proofs.lemmas.Grind.{common_steps}
use Rattle.std.proofs.Common.{rules, ◌≡◌, ℕ, zero, suc, ◌/◌, ◌%◌, ◌<◌, ◌==◌, ◌∷◌, [], List, ◌++◌, Bool, true}
use Rattle.std.proofs.Common.{false, ◌&&◌, if◌then◌else◌, length, Option, None, Some, option_map, unwrap_or, refl}
use Rattle.std.proofs.Common.{sym, arith, codes}
use Rattle.std.proofs.lemmas.Bool.{true≢false}
use Rattle.std.specs.Prelude.{decimal}
use Rattle.std.specs.Fmt.{digits, digits_onto, digit_glyph}
use Rattle.std.specs.List.{last_or}
use Rattle.json.specs.Print.{escape}
use Rattle.json.specs.Run.{is_plain}
use Rattle.json.specs.Written.{PlainBetween}
use Rattle.json.proofs.Printed.Plain.{escape_on_plain}
use Rattle.rv_event.specs.Texts.{◌⋯◌, id_text, reason_text, fault_text}
use Rattle.rv_event.specs.declared.event.Id.{Id}
use Rattle.rv_event.specs.declared.event.Entry.{Entry}
use Rattle.rv_event.specs.declared.fault.Fault.{Fault}
use Rattle.rv_event.specs.declared.reason.Reason.{Reason}
use Rattle.rv_report.specs.Texts.{refused_text}

-- each byte stands for itself
abbrev are_plain : List ℕ → Bool
are_plain [] = true
are_plain (x ∷ s) = is_plain x && are_plain s

and_parts : (a b : Bool) → (a && b) ≡ true → (a ≡ true) × (b ≡ true)
and_parts true b h = (refl, h)
and_parts false b h = absurd (true≢false (sym h))

between : (s : List ℕ) → are_plain s ≡ true → PlainBetween s 0 (length s)
between [] h k p q = absurd (omega (arith, q))
between (x ∷ s) h zero p q = (and_parts (is_plain x) (are_plain s) h).0
between (x ∷ s) h (suc k) p q = between s (and_parts (is_plain x) (are_plain s) h).1 k (omega arith) (omega (arith, q))

escape_of_plain : (s : List ℕ) → are_plain s ≡ true → escape s ≡ s
escape_of_plain s h = escape_on_plain true s (between s h)

append_plain : (s t : List ℕ) → are_plain s ≡ true → are_plain t ≡ true → are_plain (s ++ t) ≡ true
append_plain [] t h k = k
append_plain (x ∷ s) t h k = let p = and_parts (is_plain x) (are_plain s) h in rw p.0 (append_plain s t p.1 k)

-- ---- decimals
glyph_plain : (d : ℕ) → d < 10 → is_plain (digit_glyph false d) ≡ true
glyph_plain d h = grind (arith, common_steps)

either_plain : (b : Bool) (s t : List ℕ) → are_plain s ≡ true → are_plain t ≡ true →
    are_plain (if b then s else t) ≡ true
either_plain true s t h k = h
either_plain false s t h k = k

digits_plain : (k n : ℕ) (s : List ℕ) → are_plain s ≡ true → are_plain (digits_onto k 10 false n s) ≡ true
digits_plain zero n s h = h
digits_plain (suc k) n s h =
    let more : are_plain (digit_glyph false (n % 10) ∷ s) ≡ true = rw (glyph_plain (n % 10) (omega arith)) h in
    either_plain (n / 10 == 0) _ _ more (digits_plain k (n / 10) (digit_glyph false (n % 10) ∷ s) more)

decimal_plain : (n : ℕ) → are_plain (decimal n) ≡ true
unfolding digits
decimal_plain n = digits_plain 64 n [] refl

-- ---- the texts of a report
id_plain : (i : Id) → are_plain (id_text i) ≡ true
id_plain i = append_plain (decimal i.hart) (codes ":" ⋯ decimal i.seq) (decimal_plain i.hart) (decimal_plain i.seq)

reason_plain : (r : Reason) → are_plain (reason_text r) ≡ true
reason_plain r = search (decimal_plain, rules)

fault_plain : (f : Fault) → are_plain (fault_text f) ≡ true
fault_plain f = search (decimal_plain, id_plain, rules)

last_plain : (o : Option Entry) → are_plain (unwrap_or (option_map (λ x. id_text x.event.id) o) []) ≡ true
last_plain None = refl
last_plain (Some x) = id_plain x.event.id

-- an id needs no escape
pub escape_id : (i : Id) → escape (id_text i) ≡ id_text i
escape_id i = escape_of_plain (id_text i) (id_plain i)

-- nor does a reason
pub escape_reason : (r : Reason) → escape (reason_text r) ≡ reason_text r
escape_reason r = escape_of_plain (reason_text r) (reason_plain r)

-- nor a fault
pub escape_fault : (f : Fault) → escape (fault_text f) ≡ fault_text f
escape_fault f = escape_of_plain (fault_text f) (fault_plain f)

-- nor a refused event
pub escape_refused : (log : List Entry) → escape (refused_text log) ≡ refused_text log
escape_refused log = escape_of_plain (refused_text log) (last_plain (last_or None log))
