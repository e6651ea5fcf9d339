use Rattle.std.proofs.Common.{◌≡◌, ◌<◌, ◌≤◌, ◌-◌, ◌++◌, ◌∷◌, [], List, ℕ, length, sym, refl, ap, ◌∙◌, arith, subst}
use Rattle.std.proofs.Common.{get_or}
use Rattle.rv_rows.specs.Flat.{AreLaid, beginning_at, rows_of, shifted}
use Rattle.rv_rows.specs.declared.rows.Place.{Place}
use Rattle.rv_rows.proofs.Laying.{rows_count, rows_more, laid_more}
use Rattle.rv_rows.proofs.Words.{all_bits}
use Rattle.rv_rows.proofs.rows.Rows.push.Goals as goal

module _ (c : goal.After-push_reserved) where
  abbrev stem : List ℕ
  stem = c.self.inside.stem.items

  abbrev words : List ℕ
  words = c.self.inside.words.items

  abbrev places : List Place
  places = c.self.inside.places.items

  abbrev part : List ℕ
  part = c.used_from-first.result.1.now

  abbrev place : Place
  place = record {
    start = c.len.result;
    shared = c.shared_with-shared.result;
    first = c.used_from-first.result.0;
    count = length c.used_from-first.result.1.now;
  }

  longer : c.extend_from_slice.new.self.items ≡ words ++ part
  longer = c.in_ok-extend_from_slice.ensures.items

  more : c.push_reserved.new.self.items ≡ places ++ place ∷ []
  more = c.push_reserved.ensures.items ∙ ap (λ (ps : List Place). ps ++ place ∷ []) c.in_ok-reserve.ensures.items

  begins : place.start ≡ length words
  begins = c.len.ensures ∙ c.self.inside.words.ok.0

  same : rows_of stem words places ≡ c.args.self.now
  same = c.self.view_is ∙ c.in_ok-settle.ensures

  few : length places < 4096
  few = let below = c.requires.few in omega
      (arith, rows_count stem words places, ap (λ (rs : List (List ℕ)). length rs) same)

  within : c.shared_with-shared.result ≤ length stem
  within = let all = c.shared_with-shared.ensures.within in omega
      (arith, ap (λ (xs : List ℕ). length xs) c.as_slice.ensures.value)

pub invariant_of-self-2 : goal.invariant_of-self-2
invariant_of-self-2 c =
    subst (λ (ws : List ℕ). AreLaid (stem c) ws c.push_reserved.new.self.items) (sym (longer c)) (
    subst (AreLaid (stem c) (words c ++ part c)) (sym (more c))
    (laid_more (stem c) (words c) (part c) (places c) (place c) c.self.invariant (few c)
    (begins c) refl (within c) c.used_from-first.ensures.behind c.used_from-first.ensures.within))

pub returns-clause-pushed : goal.returns-clause-pushed
returns-clause-pushed c = record {
  last = beginning_at (stem c) (place c) ++ shifted ((place c).first - (place c).shared) (part c);
  is_last = ap (λ (ws : List ℕ). rows_of (stem c) ws c.push_reserved.new.self.items) (longer c)
      ∙ ap (rows_of (stem c) (words c ++ part c)) (more c)
      ∙ rows_more (stem c) (words c) (part c) (places c) (place c) c.self.invariant (begins c) refl
      ∙ ap (λ (rs : List (List ℕ)).
      rs ++ (beginning_at (stem c) (place c) ++ shifted ((place c).first - (place c).shared) (part c)) ∷ []) (same c);
  same = all_bits (stem c) c.args.row.now (part c) (place c).shared (place c).first (within c)
      c.used_from-first.ensures.behind
      (λ k low. ap (λ (xs : List ℕ). get_or xs k 0) (sym c.as_slice.ensures.value)
      ∙ c.shared_with-shared.ensures.same k low) c.used_from-first.ensures.same;
}
