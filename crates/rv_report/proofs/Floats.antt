-- Lists and objects without floats.
use Rattle.std.proofs.Common.{rules, ◌≡◌, ◌||◌, ◌∷◌, [], ℕ, List, Bool, false, map, refl}
use Rattle.std.specs.Ordering.{nat_cmp, match_ordering}
use Rattle.std.specs.Cmp.Lexicographic.{slice_cmp}
use Rattle.std.specs.declared.cmp.Ordering.{Ordering}
use Rattle.std.specs.declared.cmp.Ordering.TheVariants.{Less, Equal, Greater}
use Rattle.serde_json.specs.Data.{Data, Members, member, no_members, put}
use Rattle.serde_json.specs.View.{items_of}
use Rattle.serde_json.specs.Written.{has_float, items_have_float, members_have_float}

-- neither of two has one
pub neither : (a b : Bool) → a ≡ false → b ≡ false → (a || b) ≡ false
neither a b p q = rw (p, q) refl

-- the second of two has none
second : (a b : Bool) → (a || b) ≡ false → b ≡ false
second a b h = search rules

-- the first of two has none
first : (a b : Bool) → (a || b) ≡ false → a ≡ false
first a b h = search rules

-- a list of data that have none
pub items-none : {A : Type 0} (f : A → Data) → ((x : A) → has_float (f x) ≡ false) → (xs : List A) →
    items_have_float (items_of (map f xs)) ≡ false
items-none f none [] = refl
items-none f none (x ∷ xs) = neither (has_float (f x)) _ (none x) (items-none f none xs)

-- one member of members, or one behind it
put-at : (k : List ℕ) (d : Data) (l : List ℕ) (e : Data) (ms : Members) (o : Ordering) → has_float d ≡ false →
    members_have_float (member l e ms) ≡ false → members_have_float (put k d ms) ≡ false →
    members_have_float (match_ordering o (member k d (member l e ms)) (member l d ms) (member l e (put k d ms)))
    ≡ false
put-at k d l e ms Less p q behind = neither (has_float d) _ p q
put-at k d l e ms Equal p q behind = neither (has_float d) _ p (second (has_float e) (members_have_float ms) q)
put-at k d l e ms Greater p q behind =
    neither (has_float e) _ (first (has_float e) (members_have_float ms) q) behind

-- members that have none, with one more that has none
pub put-none : (k : List ℕ) (d : Data) (ms : Members) → has_float d ≡ false → members_have_float ms ≡ false →
    members_have_float (put k d ms) ≡ false
put-none k d no_members p q = neither (has_float d) false p refl
put-none k d (member l e ms) p q =
    put-at k d l e ms (slice_cmp nat_cmp k l) p q
    (put-none k d ms p (second (has_float e) (members_have_float ms) q))
