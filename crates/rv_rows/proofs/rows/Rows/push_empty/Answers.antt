use Rattle.std.proofs.Common.{◌≡◌, ◌<◌, ◌++◌, ◌∷◌, [], List, ℕ, length, sym, refl, ap, ◌∙◌, arith, subst, append-nil}
use Rattle.rv_rows.specs.Flat.{AreLaid, rows_of}
use Rattle.rv_rows.specs.declared.rows.Place.{Place}
use Rattle.rv_rows.proofs.Laying.{rows_count, rows_more, laid_more}
use Rattle.rv_rows.proofs.rows.Rows.push_empty.Goals as goal

module _ (c : goal.After-push_reserved) where
  abbrev stem : List ℕ
  stem = c.self.inside.stem.items

  abbrev words : List ℕ
  words = c.self.inside.words.items

  abbrev places : List Place
  places = c.self.inside.places.items

  abbrev place : Place
  place = record { start = c.len-start.result; shared = 0; first = 0; count = 0 }

  more : c.push_reserved.new.self.items ≡ places ++ place ∷ []
  more = c.push_reserved.ensures.items ∙ ap (λ (ps : List Place). ps ++ place ∷ []) c.in_ok-reserve.ensures.items

  begins : place.start ≡ length words
  begins = c.len-start.ensures ∙ c.self.inside.words.ok.0

  same : rows_of stem words places ≡ c.args.self.now
  same = c.self.view_is ∙ c.in_ok-settle.ensures

  few : length places < 4096
  few = let below = c.requires.few in omega
      (arith, rows_count stem words places, ap (λ (rs : List (List ℕ)). length rs) same)

pub invariant_of-self-2 : goal.invariant_of-self-2
invariant_of-self-2 c =
    subst (AreLaid (stem c) (words c)) (sym (more c))
    (subst (λ (ws : List ℕ). AreLaid (stem c) ws (places c ++ place c ∷ [])) (append-nil (words c))
    (laid_more (stem c) (words c) [] (places c) (place c) c.self.invariant (few c) (begins c) refl (omega arith)
    (omega arith) (omega arith)))

pub returns-clause-pushed : goal.returns-clause-pushed
returns-clause-pushed c =
    ap (rows_of (stem c) (words c)) (more c)
    ∙ ap (λ (ws : List ℕ). rows_of (stem c) ws (places c ++ place c ∷ [])) (sym (append-nil (words c)))
    ∙ rows_more (stem c) (words c) [] (places c) (place c) c.self.invariant (begins c) refl
    ∙ ap (λ (rs : List (List ℕ)). rs ++ [] ∷ []) (same c)
