-- In a history kept links are edges, and cover every edge.
use Rattle.rv_edges.proofs.Common.{common_steps, ◌≡◌, List, [], ◌∷◌, ◌++◌, length, ◌⊎◌, inl, inr, refl, sym, ap}
use Rattle.rv_edges.proofs.Common.{◌∙◌, arith, subst, append_assoc, append-nil, length-append, map-append}
use Rattle.rv_edges.proofs.Common.{Indexed, AllSound, indexed-all, indexed-nil, indexed-push, sound_of}
use Rattle.rv_edges.proofs.Common.{split_push, Any-from_contains, IsEdge-grows, grows-push, IsEdge, Id, Event}
use Rattle.rv_edges.proofs.Common.{MemoryModel, Reason, Covers, OwnLinks, Kept, kept_from, happened, grown, Joins}
use Rattle.rv_edges.proofs.Common.{IsKept, Ties, IsTied, Either, Joined, IsHistory, IsCarried, covered, path-map}
use Rattle.std.proofs.Common.{rules}
use Rattle.rv_edges.proofs.Listed.{Contains-last}
use Rattle.rv_edges.proofs.Sides.{kept_one, kept_from-push}

-- the events of a history with one more
pub happened-push : (h : List Kept) (k : Kept) → happened (h ++ k ∷ []) ≡ happened h ++ k.event ∷ []
happened-push h k = map-append (λ (x : Kept). x.event) h (k ∷ [])

module _ (model : MemoryModel) where
  all_sound : (h before rest : List Kept) → IsHistory model h → h ≡ before ++ rest →
      AllSound (happened before) (happened rest)
  all_sound h before [] ok e = tt
  all_sound h before (k ∷ rest) ok e =
      let again : AllSound (happened (before ++ k ∷ [])) (happened rest) =
      all_sound h (before ++ k ∷ []) rest ok (e ∙ sym (append_assoc before (k ∷ []) rest)) in (
        sound_of (happened before) k.event (ok before rest k e).sound,
        subst (λ (seen : List Event). AllSound seen (happened rest)) (happened-push before k) again,
      )

  -- a history's events are indexed
  pub indexed_from_IsHistory : (h : List Kept) → IsHistory model h → Indexed (happened h)
  indexed_from_IsHistory h ok = indexed-all [] (happened h) indexed-nil (all_sound h [] h ok refl)

  IsKept-old : (h : List Kept) (k : Kept) (i j : Id) (r : Reason) → IsKept h i r j → IsKept (h ++ k ∷ []) i r j
  IsKept-old h k i j r any = grind (arith, common_steps)

  IsKept-new : (h : List Kept) (k : Kept) (i j : Id) (r : Reason) → Joins k i r j → IsKept (h ++ k ∷ []) i r j
  IsKept-new h k i j r is = Any-from_contains (λ x. Joins x i r j) (h ++ k ∷ []) k (Contains-last h k) is

  -- a kept link is an old one or one of the new event
  pub IsKept-cases : (h : List Kept) (k : Kept) (i j : Id) (r : Reason) → IsKept (h ++ k ∷ []) i r j → IsKept h i r j ⊎
      Joins k i r j
  IsKept-cases h k i j r any = grind (arith, common_steps)

  either_tied : (h : List Kept) (k : Kept) (i j : Id) → Either (IsTied h) (Ties k) i j → IsTied (h ++ k ∷ []) i j
  either_tied h k i j (inl t) = (t.0, IsKept-old h k i j t.0 t.1)
  either_tied h k i j (inr t) = (t.0, IsKept-new h k i j t.0 t.1)

  -- the links of an event that joins a history cover its edges, with those kept
  pub covered_with : (h : List Kept) (k : Kept) → Indexed (happened h) → Joined model h k →
      Covers model (happened h) (IsTied h) → Covers model (grown h k.event) (IsTied (h ++ k ∷ []))
  covered_with h k known joined covers i j r other edge =
      path-map Id (Either (IsTied h) (Ties k)) (IsTied (h ++ k ∷ [])) (either_tied h k) i j
      (covered model (happened h) k.event (IsTied h) (Ties k) known (sound_of (happened h) k.event joined.sound) covers
      joined.linked.carried i j r other edge)

  -- an event with such links keeps it so
  IsCarried-push : (h : List Kept) (k : Kept) → Indexed (happened h) → Joined model h k → IsCarried model h →
      IsCarried model (h ++ k ∷ [])
  IsCarried-push h k known joined ok =
      let new = happened h ++ k.event ∷ [] in
      let same = happened-push h k in
      let known' : Indexed new = indexed-push (happened h) k.event known (sound_of (happened h) k.event joined.sound) in
      record {
        true_edges = λ i j r e. subst (λ (log : List Event). IsEdge model log i r j) (sym same)
            (elim (IsKept-cases h k i j r e) [
              | inl old ↦ IsEdge-grows model (happened h) new (grows-push (happened h) k.event) known known' i j r
                  (ok.true_edges i j r old)
              | inr is ↦ joined.linked.listed i j r is
            ]);
        covered = subst (λ (log : List Event). Covers model log (IsTied (h ++ k ∷ []))) (sym same)
            (covered_with h k known joined ok.covered);
      }

  IsCarried-nil : IsCarried model []
  IsCarried-nil = grind (arith, common_steps)

  IsHistory-part : (before rest : List Kept) → IsHistory model (before ++ rest) → IsHistory model before
  IsHistory-part before rest ok b a k e = grind (arith, common_steps)

  carried_all : (before rest : List Kept) → IsHistory model (before ++ rest) → IsCarried model before →
      IsCarried model (before ++ rest)
  carried_all before [] ok c = rw append-nil c
  carried_all before (k ∷ rest) ok c =
      let known = indexed_from_IsHistory before (IsHistory-part before (k ∷ rest) ok) in
      let same = append_assoc before (k ∷ []) rest in
      let step : IsCarried model (before ++ k ∷ []) = IsCarried-push before k known (ok before rest k refl) c in
      subst (IsCarried model) same (carried_all (before ++ k ∷ []) rest (subst (IsHistory model) (sym same) ok) step)

  -- its links carry every edge
  pub carried_from_IsHistory : (h : List Kept) → IsHistory model h → IsCarried model h
  carried_from_IsHistory h ok = carried_all [] h ok IsCarried-nil

  -- no events are a history
  pub IsHistory-nil : IsHistory model []
  IsHistory-nil before after k e = absurd (omega (arith, ap length e, length-append before (k ∷ after)))

  -- an event that joins it leaves it one
  pub IsHistory-push : (h : List Kept) (k : Kept) → IsHistory model h → Joined model h k → IsHistory model (h ++ k ∷ [])
  IsHistory-push h k ok joined before after y e = search (split_push, rules)

  -- and so does taking the last one off
  pub IsHistory-front : (h : List Kept) (k : Kept) → IsHistory model (h ++ k ∷ []) → IsHistory model h
  IsHistory-front h k ok = IsHistory-part h (k ∷ []) ok

  -- one more entry with its links
  pub pushed_sides :
      (xs new : List Event) (ls more : List OwnLinks) (x : Event) (l : OwnLinks) (k : Kept) → length xs ≡ length ls →
      IsHistory model (kept_from xs ls) → Joined model (kept_from xs ls) k → kept_one x l ≡ k →
      new ≡ xs ++ x ∷ [] → more ≡ ls ++ l ∷ [] →
      (length new ≡ length more) × IsHistory model (kept_from new more) ×
      (kept_from new more ≡ kept_from xs ls ++ k ∷ [])
  pushed_sides xs new ls more x l k same ok joined is e f =
      let cut : kept_from new more ≡ kept_from xs ls ++ k ∷ [] = search (kept_from-push, rules) in (
        omega (arith, same, ap length e, ap length f, length-append xs (x ∷ []), length-append ls (l ∷ [])),
        subst (IsHistory model) (sym cut) (IsHistory-push (kept_from xs ls) k ok joined),
        cut,
      )
