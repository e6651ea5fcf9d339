-- Entries and links side by side.
use Rattle.rv_edges.proofs.Common.{common_steps, ◌≡◌, List, [], ◌∷◌, ◌++◌, length, refl, sym, ap, ◌∙◌, arith}
use Rattle.std.specs.List.{flat_map}
use Rattle.rv_edges.proofs.Common.{length-append, Event, Link, OwnLinks, Kept, kept_from, happened}
use Rattle.rv_edges.specs.Kept.{links_of}
use Rattle.std.proofs.Common.{rules}

-- an entry with its links
abbrev pub kept_one : Event → OwnLinks → Kept
kept_one e own = record { event = e; before = own.before; after = own.after }

-- as many links as events: the events are all there
pub happened-kept_from : (xs : List Event) (ls : List OwnLinks) → length xs ≡ length ls →
    happened (kept_from xs ls) ≡ xs
happened-kept_from [] ls same = refl
happened-kept_from (x ∷ xs) [] same = absurd (omega (arith, same))
happened-kept_from (x ∷ xs) (l ∷ ls) same =
    ap (λ (es : List Event). x ∷ es) (happened-kept_from xs ls (omega (arith, same)))

-- events and links side by side, with one more
pub kept_from-push :
    (xs : List Event) (ls : List OwnLinks) (x : Event) (l : OwnLinks) → length xs ≡ length ls →
    kept_from (xs ++ x ∷ []) (ls ++ l ∷ []) ≡ kept_from xs ls ++ kept_one x l ∷ []
kept_from-push [] [] x l same = refl
kept_from-push [] (m ∷ ls) x l same = absurd (omega (arith, same))
kept_from-push (y ∷ xs) [] x l same = absurd (omega (arith, same))
kept_from-push (y ∷ xs) (m ∷ ls) x l same =
    ap (λ (ks : List Kept). kept_one y m ∷ ks) (kept_from-push xs ls x l (omega (arith, same)))

-- both lists without their last
pub record Popped (xs ys : List Event) (ls ms : List OwnLinks) : Type 0 where
  pub lengths : length ys ≡ length ms
  pub last : Kept
  pub cut : kept_from xs ls ≡ kept_from ys ms ++ last ∷ []

-- and with one less
pub popped_sides :
    (xs ys : List Event) (ls ms : List OwnLinks) (x : Event) (l : OwnLinks) → length xs ≡ length ls →
    xs ≡ ys ++ x ∷ [] → ls ≡ ms ++ l ∷ [] → Popped xs ys ls ms
popped_sides xs ys ls ms x l same e f =
    let lengths : length ys ≡ length ms =
    omega (arith, same, ap length e, ap length f, length-append ys (x ∷ []), length-append ms (l ∷ [])) in
    record { lengths = lengths; last = kept_one x l; cut = search (kept_from-push, rules) }

-- lists with one more at the end are equal where their fronts are
pub same_front : {X : Type 0} (xs ys : List X) (x y : X) → xs ++ x ∷ [] ≡ ys ++ y ∷ [] → xs ≡ ys
same_front {X} xs ys x y e = grind (arith, common_steps)

-- nothing at all is a history
pub no_sides : (xs : List Event) (ls : List OwnLinks) → xs ≡ [] → ls ≡ [] → (length xs ≡ length ls) ×
    (kept_from xs ls ≡ [])
no_sides xs ls e f = (ap length e ∙ sym (ap length f), ap (λ (zs : List Event). kept_from zs ls) e)

-- the links of events that are kept side by side with theirs
pub links_of-kept_from : (xs : List Event) (ls : List OwnLinks) → length xs ≡ length ls →
    links_of (kept_from xs ls) ≡ flat_map (λ own. own.before ++ own.after) ls
links_of-kept_from [] [] same = refl
links_of-kept_from [] (l ∷ ls) same = absurd (omega (arith, same))
links_of-kept_from (x ∷ xs) [] same = absurd (omega (arith, same))
links_of-kept_from (x ∷ xs) (l ∷ ls) same =
    ap (λ (rest : List Link). (l.before ++ l.after) ++ rest) (links_of-kept_from xs ls (omega (arith, same)))
