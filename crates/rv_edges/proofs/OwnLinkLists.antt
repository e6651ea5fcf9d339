-- Links of events, in one list, when one event more comes or the last one goes.
use Rattle.rv_edges.proofs.Common.{common_steps, ◌≡◌, ℕ, ◌+◌, ◌-◌, ◌≤◌, List, [], ◌∷◌, ◌++◌, length, take, drop}
use Rattle.std.specs.List.{flat_map}
use Rattle.std.proofs.lemmas.List.{drop-drop, take-append-drop}
use Rattle.std.proofs.Common.{suc}
use Rattle.rv_edges.proofs.Common.{refl, sym, ap, ◌∙◌, append_assoc, arith, length-drop, length-take-le}
use Rattle.rv_edges.proofs.Common.{take-append_seam, drop-append_seam, take-length}
use Rattle.rv_edges.proofs.Common.{Link, Sides, OwnLinks, total, own_from}

-- one event's links more
pub total-push : (sides : List Sides) (s : Sides) → total (sides ++ s ∷ []) ≡ total sides + (s.before + s.after)
total-push [] s = omega arith
total-push (x ∷ sides) s = omega (arith, total-push sides s)

-- each event has its links
pub length-own_from : (links : List Link) (sides : List Sides) → length (own_from links sides) ≡ length sides
length-own_from links [] = refl
length-own_from links (s ∷ sides) = ap suc (length-own_from (drop (s.before + s.after) links) sides)

-- how many links two lists have
abbrev pub sides_of : List Link → List Link → Sides
sides_of before after = record { before = length before; after = length after }

-- the links of one event
abbrev one : List Link → Sides → OwnLinks
one links s = record { before = take s.before links; after = take s.after (drop s.before links) }

-- the first event's links are the same where more come behind
one-append : (s : Sides) (links more : List Link) → s.before + s.after ≤ length links →
    one (links ++ more) s ≡ one links s
one-append s links more few = grind (arith, common_steps)

-- the links of one event more
pub own_from-push :
    (sides : List Sides) (links before after : List Link) → total sides ≡ length links →
    own_from (links ++ (before ++ after)) (sides ++ sides_of before after ∷ [])
    ≡ own_from links sides ++ record { before = before; after = after } ∷ []
own_from-push [] [] before after same = λ i. record { before = take-append_seam before after i; after = ends i } ∷ []
  where
    ends : take (length after) (drop (length before) (before ++ after)) ≡ after
    ends = ap (take (length after)) (drop-append_seam before after) ∙ take-length after
own_from-push [] (l ∷ links) before after same = absurd (omega (arith, same))
own_from-push (s ∷ sides) links before after same =
    λ i. one-append s links (before ++ after) few i ∷ (rest ∙ own_from-push sides (drop w links) before after left) i
  where
    w : ℕ
    w = s.before + s.after

    few : s.before + s.after ≤ length links
    few = omega (arith, same)

    left : total sides ≡ length (drop (s.before + s.after) links)
    left = omega (arith, same, length-drop (s.before + s.after) links)

    rest :
        own_from (drop (s.before + s.after) (links ++ (before ++ after))) (sides ++ sides_of before after ∷ [])
        ≡ own_from (drop (s.before + s.after) links ++ (before ++ after)) (sides ++ sides_of before after ∷ [])
    rest = grind (arith, common_steps)

-- the links without those of the last event
module _ (sides : List Sides) (s : Sides) (links : List Link) (same : total (sides ++ s ∷ []) ≡ length links) where
  abbrev front : List Link
  front = take (length links - (s.before + s.after)) links

  abbrev back : List Link
  back = drop (length links - (s.before + s.after)) links

  abbrev before : List Link
  before = take s.before back

  abbrev after : List Link
  after = drop s.before back

  all : total sides + (s.before + s.after) ≡ length links
  all = sym (total-push sides s) ∙ same

  -- the links of the others
  pub total-front : total sides ≡ length front
  total-front = omega (arith, all, length-take-le (length links - (s.before + s.after)) links (omega arith))

  long : length back ≡ s.before + s.after
  long = omega (arith, all, length-drop (length links - (s.before + s.after)) links)

  sizes : s ≡ sides_of before after
  sizes = λ i. record { before = sym long_before i; after = sym long_after i }
    where
      long_before : length before ≡ s.before
      long_before = length-take-le s.before back (omega (arith, long))

      long_after : length after ≡ s.after
      long_after = omega (arith, long, length-drop s.before back)

  parts : links ≡ front ++ (before ++ after)
  parts = grind (arith, common_steps)

  -- the last event's own links are taken off
  pub own_from-pop : (own : OwnLinks) × (own_from links (sides ++ s ∷ []) ≡ own_from front sides ++ own ∷ [])
  own_from-pop = (
    record { before = before; after = after },
    ap (λ (x : Sides). own_from links (sides ++ x ∷ [])) sizes
        ∙ ap (λ (ls : List Link). own_from ls (sides ++ sides_of before after ∷ [])) parts
        ∙ own_from-push sides front before after total-front,
  )

-- one event after the other they are all links
pub flat_map-own_from : (links : List Link) (sides : List Sides) → total sides ≡ length links →
    flat_map (λ own. own.before ++ own.after) (own_from links sides) ≡ links
flat_map-own_from [] [] same = refl
flat_map-own_from (l ∷ links) [] same = absurd (omega (arith, same))
flat_map-own_from links (s ∷ sides) same =
    ap (λ (ls : List Link). (take s.before links ++ take s.after (drop s.before links)) ++ ls)
    (flat_map-own_from (drop (s.before + s.after) links) sides left) ∙ parts-of
  where
    left : total sides ≡ length (drop (s.before + s.after) links)
    left = omega (arith, same, length-drop (s.before + s.after) links)

    parts-of :
        (take s.before links ++ take s.after (drop s.before links)) ++ drop (s.before + s.after) links ≡ links
    parts-of = append_assoc (take s.before links) (take s.after (drop s.before links)) (drop (s.before + s.after) links)
        ∙ ap (λ (ls : List Link). take s.before links ++ ls) inner ∙ take-append-drop s.before links
      where
        inner : take s.after (drop s.before links) ++ drop (s.before + s.after) links ≡ drop s.before links
        inner = ap (λ (ls : List Link). take s.after (drop s.before links) ++ ls)
            (sym (drop-drop s.after s.before links)) ∙ take-append-drop s.after (drop s.before links)
