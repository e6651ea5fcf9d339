-- The records of a text, one at a time.
use Rattle.std.proofs.lemmas.Grind.{common_steps}
use Rattle.std.proofs.Common.{◌≡◌, ◌∙◌, ◌⊎◌, inl, inr, ℕ, zero, suc, ◌+◌, ◌<◌, ◌∷◌, [], List, Option, None, Some}
use Rattle.std.proofs.Common.{Bool, true, false, length, refl, sym, ap, arith, add-one, if◌then◌else◌}
use Rattle.csv.specs.Machine.{Read, ends_at_end, field_after, fields_after, is_end, next_record, step}
use Rattle.csv.specs.Reading.{default_config, records_from, records_next}
use Rattle.csv.specs.declared.parser.Config.{Config}
use Rattle.csv.specs.declared.parser.State.{State}
use Rattle.csv.specs.declared.parser.State.TheVariants as st
use Rattle.rv_trace.specs.Row.{Fields}
use Rattle.rv_trace.specs.Source.{rest_of}

-- a record takes at least a byte, but for one that the end of the text ends
abbrev pub Shorter : List ℕ → Read → Type 0
Shorter xs p = (length p.2 < length xs) ⊎ ((length xs ≡ 0) × (p.1 ≡ st.StartRecord) × (p.2 ≡ []))

at-end : (b : Bool) (f : Fields) (p : Read) → (if b then Some (f, st.StartRecord, []) else None) ≡ Some p
    → (p.1 ≡ st.StartRecord) × (p.2 ≡ [])
at-end b f p h = grind (arith, common_steps)

-- a record takes bytes
pub takes-bytes : (cfg : Config) (s : State) (f : Fields) (g xs : List ℕ) (p : Read)
    → next_record cfg s f g xs ≡ Some p → Shorter xs p
unfolding next_record
takes-bytes cfg s f g [] p e = let h = at-end (ends_at_end s) _ p e in inr (refl, h.0, h.1)
takes-bytes cfg s f g (c ∷ rest) p e = by (is_end (step cfg s c).1) refl e
    (takes-bytes cfg (step cfg s c).0 _ _ rest p)
  where
    by : (b : Bool) → is_end (step cfg s c).1 ≡ b → next_record cfg s f g (c ∷ rest) ≡ Some p
        → (next_record cfg (step cfg s c).0 (fields_after (step cfg s c).1 f g) (field_after (step cfg s c).1 c g)
        rest ≡ Some p → Shorter rest p) → Shorter (c ∷ rest) p
    by true t e more =
        let q : ◌≡◌ {A = Option Read} (Some (fields_after (step cfg s c).1 f g, (step cfg s c).0, rest)) (Some p) =
        rw t at e in
        let r : ◌≡◌ {A = Read} (fields_after (step cfg s c).1 f g, (step cfg s c).0, rest) p = cc in
        let l : length rest ≡ length p.2 = ap (λ (x : Read). length x.2) r in
        inl (omega arith)
    by false t e more =
        elim (more (rw t at e)) [
          | inl h ↦ inl (omega arith)
          | inr h ↦ let z : length p.2 ≡ 0 = ap length h.2 in inl (omega arith)
        ]

nothing-left : (cfg : Config) (n : ℕ) → records_from cfg n st.StartRecord [] ≡ []
unfolding records_from next_record
nothing-left cfg zero = refl
nothing-left cfg (suc n) = refl

next-same : (a b : State → List ℕ → List Fields) (o : Option Read)
    → ((p : Read) → o ≡ Some p → a p.1 p.2 ≡ b p.1 p.2) → records_next a o ≡ records_next b o
next-same a b None h = refl
next-same a b (Some p) h = ap (λ (t : List Fields). p.0 ∷ t) (h p refl)

-- more turns than bytes give no more records
pub enough : (cfg : Config) (n m : ℕ) (s : State) (xs : List ℕ) → length xs < n → length xs < m
    → records_from cfg n s xs ≡ records_from cfg m s xs
unfolding records_from
enough cfg zero m s xs h k = absurd (omega arith)
enough cfg (suc n) zero s xs h k = absurd (omega arith)
enough cfg (suc n) (suc m) s xs h k =
    next-same (records_from cfg n) (records_from cfg m) (next_record cfg s [] [] xs)
    (λ p e. elim (takes-bytes cfg s [] [] xs p e) [
      | inl l ↦ enough cfg n m p.1 p.2 (omega arith) (omega arith)
      | inr z ↦ rw (z.1, z.2) (nothing-left cfg n ∙ sym (nothing-left cfg m))
    ])

-- no record is left
pub rest-none : (s : State) (xs : List ℕ) → next_record default_config s [] [] xs ≡ None → rest_of s xs ≡ []
unfolding rest_of records_from
rest-none s xs e = rw (add-one, e) refl

-- one record, and the rest
pub rest-some : (s : State) (xs : List ℕ) (p : Read) → next_record default_config s [] [] xs ≡ Some p
    → rest_of s xs ≡ p.0 ∷ rest_of p.1 p.2
unfolding rest_of records_from
rest-some s xs p e =
    rw (add-one, e) (ap (λ (t : List Fields). p.0 ∷ t) (elim (takes-bytes default_config s [] [] xs p e) [
      | inl l ↦ enough default_config (length xs) (length p.2 + 1) p.1 p.2 l (omega arith)
      | inr z ↦ rw (z.1, z.2) (nothing-left default_config (length xs) ∙ sym (nothing-left default_config (0 + 1)))
    ]))
