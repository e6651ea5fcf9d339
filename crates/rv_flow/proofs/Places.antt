-- Units and their rows after one was set.
use Rattle.std.proofs.Common.{◌≡◌, ℕ, ◌<◌, ◌≤◌, List, [], ◌∷◌, ◌++◌, length, get_or, ◌⊎◌, ◌↔◌, inl, inr, sym, ap}
use Rattle.std.proofs.Common.{refl, subst, ◌∙◌, arith, set}
use Rattle.std.proofs.lemmas.Bool.{cases_eq, cases_lt, cases_order}
use Rattle.std.proofs.lemmas.List.{get_or_default, get_or_append_left, get_or_at, get_or-set_other, get_or-set_same}
use Rattle.std.proofs.lemmas.List.{length_push}
use Rattle.rv_insn.specs.declared.unit.Unit.{Unit}
use Rattle.rv_rows.specs.Bits.{Has}
use Rattle.rv_flow.specs.Flows.{HoldsIn, IsPlace, Lacks}

-- a unit has one first place
place-one : (units : List Unit) (u : Unit) (j k : ℕ) → IsPlace units u j → IsPlace units u k → j ≡ k
place-one units u j k a b = elim (cases_order j k) [
  | inl same ↦ same
  | inr order ↦ elim order [ inl low ↦ absurd (b.first j low a.at) | inr high ↦ absurd (a.first k high b.at) ]
]

-- two units at one place are one
unit-one : (units : List Unit) (u v : Unit) (k : ℕ) → IsPlace units u k → IsPlace units v k → u ≡ v
unit-one units u v k a b = sym a.at ∙ get_or_default units k u v a.within ∙ b.at

module _ (units : List Unit) (rows : List (List ℕ)) (unit : Unit) (row : List ℕ)
    (many : length units ≡ length rows) where
  -- at a place that it has
  pub set-at : (k : ℕ) → IsPlace units unit k → (u : Unit) (n : ℕ) → HoldsIn units (set rows k row) u n ↔
      (((u ≡ unit) × Has row n) ⊎ ((u ≡ unit → ⊥) × HoldsIn units rows u n))
  set-at k is u n = (λ h. to h (cases_eq h.place k), from)
    where
      same-row : get_or (set rows k row) k [] ≡ row
      same-row = get_or-set_same rows k row [] (let low = is.within in omega (arith, many))

      to : (h : HoldsIn units (set rows k row) u n) → (h.place ≡ k) ⊎ (h.place ≡ k → ⊥) →
          ((u ≡ unit) × Has row n) ⊎ ((u ≡ unit → ⊥) × HoldsIn units rows u n)
      to h (inl here) = inl (
        unit-one units u unit k (subst (IsPlace units u) here h.is_place) is,
        subst (λ (xs : List ℕ). Has xs n)
            (ap (λ (j : ℕ). get_or (set rows k row) j []) here ∙ same-row) h.has,
      )
      to h (inr apart) = inr (
        λ same. apart (place-one units u h.place k h.is_place (subst (λ (v : Unit). IsPlace units v k) (sym same) is)),
        record {
          place = h.place;
          is_place = h.is_place;
          has = subst (λ (xs : List ℕ). Has xs n) (get_or-set_other rows k h.place row [] apart) h.has;
        },
      )

      from : ((u ≡ unit) × Has row n) ⊎ ((u ≡ unit → ⊥) × HoldsIn units rows u n) → HoldsIn units (set rows k row) u n
      from (inl (same, has)) = record {
        place = k;
        is_place = subst (λ (v : Unit). IsPlace units v k) (sym same) is;
        has = subst (λ (xs : List ℕ). Has xs n) (sym same-row) has;
      }
      from (inr (other, h)) = record {
        place = h.place;
        is_place = h.is_place;
        has = subst (λ (xs : List ℕ). Has xs n) (sym (get_or-set_other rows k h.place row []
            (λ here. other (unit-one units u unit k (subst (IsPlace units u) here h.is_place) is)))) h.has;
      }

  -- at a new place
  pub push-at : Lacks units unit → (u : Unit) (n : ℕ) → HoldsIn (units ++ unit ∷ []) (rows ++ row ∷ []) u n ↔
      (((u ≡ unit) × Has row n) ⊎ ((u ≡ unit → ⊥) × HoldsIn units rows u n))
  push-at lacks u n = (λ h. to h (cases_lt h.place (length units)), from)
    where
      old-unit : (j : ℕ) → j < length units → (v : Unit) → get_or (units ++ unit ∷ []) j v ≡ get_or units j v
      old-unit j low v = get_or_append_left units (unit ∷ []) v j low

      old-row : (j : ℕ) → j < length units → get_or (rows ++ row ∷ []) j [] ≡ get_or rows j []
      old-row j low = get_or_append_left rows (row ∷ []) [] j (omega (low, many, arith))

      new-unit : (v : Unit) → get_or (units ++ unit ∷ []) (length units) v ≡ unit
      new-unit v = get_or_at units unit [] v (length units) refl

      new-row : get_or (rows ++ row ∷ []) (length units) [] ≡ row
      new-row = get_or_at rows row [] [] (length units) (sym many)

      new-place : IsPlace (units ++ unit ∷ []) unit (length units)
      new-place = record {
        within = let long = length_push units unit in omega (long, arith);
        at = new-unit unit;
        first = λ j less at. lacks j less (sym (old-unit j less unit) ∙ at);
      }

      to : (h : HoldsIn (units ++ unit ∷ []) (rows ++ row ∷ []) u n) → (h.place < length units) ⊎
          (length units ≤ h.place) → ((u ≡ unit) × Has row n) ⊎ ((u ≡ unit → ⊥) × HoldsIn units rows u n)
      to h (inl low) = inr (
        other,
        record {
          place = h.place;
          is_place = place;
          has = subst (λ (xs : List ℕ). Has xs n) (old-row h.place low) h.has;
        },
      )
        where
          place : IsPlace units u h.place
          place = record {
            within = low;
            at = sym (old-unit h.place low u) ∙ h.is_place.at;
            first = λ j less at. h.is_place.first j less (old-unit j (omega (less, low, arith)) u ∙ at);
          }

          other : u ≡ unit → ⊥
          other same = lacks h.place low (subst (λ (v : Unit). get_or units h.place v ≡ v) same place.at)
      to h (inr high) = inl (
        sym h.is_place.at ∙ ap (λ (j : ℕ). get_or (units ++ unit ∷ []) j u) here ∙ new-unit u,
        subst (λ (xs : List ℕ). Has xs n)
            (ap (λ (j : ℕ). get_or (rows ++ row ∷ []) j []) here ∙ new-row) h.has,
      )
        where
          here : h.place ≡ length units
          here = let low = h.is_place.within in let long = length_push units unit in omega (low, long, high, arith)

      from : ((u ≡ unit) × Has row n) ⊎ ((u ≡ unit → ⊥) × HoldsIn units rows u n) →
          HoldsIn (units ++ unit ∷ []) (rows ++ row ∷ []) u n
      from (inl (same, has)) = record {
        place = length units;
        is_place = subst (λ (v : Unit). IsPlace (units ++ unit ∷ []) v (length units)) (sym same) new-place;
        has = subst (λ (xs : List ℕ). Has xs n) (sym new-row) has;
      }
      from (inr (other, h)) = record {
        place = h.place;
        is_place = record {
          within = let low = h.is_place.within in let long = length_push units unit in omega (low, long, arith);
          at = old-unit h.place h.is_place.within u ∙ h.is_place.at;
          first = λ j less at. h.is_place.first j less
              (sym (old-unit j (let low = h.is_place.within in omega (less, low, arith)) u) ∙ at);
        };
        has = subst (λ (xs : List ℕ). Has xs n) (sym (old-row h.place h.is_place.within)) h.has;
      }

-- what was set has the same events as the other row
module _ (Old New : Unit → ℕ → Type 0) (unit : Unit) (Row Other : ℕ → Type 0) (same : (n : ℕ) → Row n ↔ Other n)
    (is_set : (u : Unit) (n : ℕ) → New u n ↔ (((u ≡ unit) × Row n) ⊎ ((u ≡ unit → ⊥) × Old u n))) where
  pub same-set : (u : Unit) (n : ℕ) → New u n ↔ (((u ≡ unit) × Other n) ⊎ ((u ≡ unit → ⊥) × Old u n))
  same-set u n = (λ h. to ((is_set u n).0 h), λ h. (is_set u n).1 (from h))
    where
      to : ((u ≡ unit) × Row n) ⊎ ((u ≡ unit → ⊥) × Old u n) → ((u ≡ unit) × Other n) ⊎ ((u ≡ unit → ⊥) × Old u n)
      to (inl (is, has)) = inl (is, (same n).0 has)
      to (inr old) = inr old

      from : ((u ≡ unit) × Other n) ⊎ ((u ≡ unit → ⊥) × Old u n) → ((u ≡ unit) × Row n) ⊎ ((u ≡ unit → ⊥) × Old u n)
      from (inl (is, has)) = inl (is, (same n).1 has)
      from (inr old) = inr old
