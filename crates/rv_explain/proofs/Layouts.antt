-- Blocks of lines, one more at a time.
use Rattle.std.proofs.lemmas.Grind.{common_steps}
use Rattle.std.proofs.Common.{◌≡◌, ◌∙◌, ◌∷◌, ◌++◌, ◌+◌, ◌≤◌, [], ℕ, List, length, map, refl, sym}
use Rattle.std.proofs.Common.{ap, arith, append-nil, append_assoc, codes, string_bytes, String, Vec, rules, Bool}
use Rattle.std.proofs.Common.{true, false}
use Rattle.std.proofs.lemmas.List.{length-map}
use Rattle.std.proofs.lemmas.Bool.{le-leb, leb-true}
use Rattle.std.specs.Global.{Global}
use Rattle.std.specs.Prelude.{nat_le, slice_index_or}
use Rattle.rv_event.specs.Texts.{◌⋯◌}
use Rattle.rv_explain.specs.Layout.{HaveRoom, blocks_text, end_of, greater, line_across, lines_alone, lines_below}
use Rattle.rv_explain.specs.Layout.{lines_beside, placed, put, tallest, widest}

greater-assoc : (a b c : ℕ) → greater a (greater b c) ≡ greater (greater a b) c
greater-assoc a b c = omega arith

-- the widest of a line and those behind it
pub widest-next : (all : ℕ) (rest after : List (String Global)) (line : String Global) (now next : ℕ) →
    all ≡ greater now (widest (map string_bytes rest)) → rest ≡ line ∷ after →
    next ≡ greater now (length (string_bytes line)) → all ≡ greater next (widest (map string_bytes after))
unfolding widest
widest-next all rest after line now next h e n =
    h ∙ ap (λ (r : List (String Global)). greater now (widest (map string_bytes r))) e
    ∙ greater-assoc now (length (string_bytes line)) (widest (map string_bytes after))
    ∙ ap (λ (w : ℕ). greater w (widest (map string_bytes after))) (sym n)

pub widest-all : (all now : ℕ) (rest : List (String Global)) → all ≡ greater now (widest (map string_bytes rest)) →
    length rest ≡ 0 → now ≡ all
unfolding widest
widest-all all now [] h e = omega (h, arith)
widest-all all now (x ∷ rest) h e = absurd (omega (e, arith))

count-map : (lines : List (String Global)) → length (map string_bytes lines) ≡ length lines
count-map lines = search (length-map, rules)

-- the tallest of a block and those behind it
pub tallest-next : (all : ℕ) (rest after : List (Vec (String Global) Global)) (block : Vec (String Global) Global)
    (now next : ℕ) → all ≡ greater now (tallest (blocks_text rest)) → rest ≡ block ∷ after →
    next ≡ greater now (length block.items) → all ≡ greater next (tallest (blocks_text after))
unfolding tallest
tallest-next all rest after block now next h e n =
    h ∙ ap (λ (r : List (Vec (String Global) Global)). greater now (tallest (blocks_text r))) e
    ∙ ap (λ (k : ℕ). greater now (greater k (tallest (blocks_text after)))) (count-map block.items)
    ∙ greater-assoc now (length block.items) (tallest (blocks_text after))
    ∙ ap (λ (w : ℕ). greater w (tallest (blocks_text after))) (sym n)

pub tallest-all : (all now : ℕ) (rest : List (Vec (String Global) Global)) →
    all ≡ greater now (tallest (blocks_text rest)) → length rest ≡ 0 → now ≡ all
unfolding tallest
tallest-all all now [] h e = omega (h, arith)
tallest-all all now (x ∷ rest) h e = absurd (omega (e, arith))

-- ---- where blocks end
-- blocks end behind where they begin
pub end-above : (at : ℕ) (blocks : List (List (List ℕ))) → at ≤ end_of at blocks
unfolding end_of
end-above at [] = omega arith
end-above at (block ∷ blocks) = let more = end-above (at + (widest block + 3)) blocks in omega (more, arith)

-- the end of blocks, one further
pub end-next : (end at : ℕ) (rest after : List (Vec (String Global) Global)) (block : Vec (String Global) Global) →
    end ≡ end_of at (blocks_text rest) → rest ≡ block ∷ after →
    end ≡ end_of (at + (widest (map string_bytes block.items) + 3)) (blocks_text after)
unfolding end_of
end-next end at rest after block h e = h ∙ ap (λ (r : List (Vec (String Global) Global)). end_of at (blocks_text r)) e

pub end-all : (end at : ℕ) (rest : List (Vec (String Global) Global)) → end ≡ end_of at (blocks_text rest) →
    length rest ≡ 0 → end ≡ at
unfolding end_of
end-all end at [] h e = h
end-all end at (x ∷ rest) h e = absurd (omega (e, arith))

-- ---- a line across
pub across-next : (n at : ℕ) (rest after : List (Vec (String Global) Global)) (block : Vec (String Global) Global)
    (whole now next text : List ℕ) → whole ≡ line_across n at (blocks_text rest) now → rest ≡ block ∷ after →
    text ≡ slice_index_or (map string_bytes block.items) n [] → next ≡ put at text now →
    whole ≡ line_across n (at + (widest (map string_bytes block.items) + 3)) (blocks_text after) next
unfolding line_across
across-next n at rest after block whole now next text h e t p =
    h ∙ ap (λ (r : List (Vec (String Global) Global)). line_across n at (blocks_text r) now) e
    ∙ ap (line_across n (at + (widest (map string_bytes block.items) + 3)) (blocks_text after))
    (sym (p ∙ ap (λ (x : List ℕ). put at x now) t))

pub across-all : (n at : ℕ) (rest : List (Vec (String Global) Global)) (whole now : List ℕ) →
    whole ≡ line_across n at (blocks_text rest) now → length rest ≡ 0 → now ≡ whole
unfolding line_across
across-all n at [] whole now h e = sym h
across-all n at (x ∷ rest) whole now h e = absurd (omega (e, arith))

-- ---- lines
pub beside-next : (n : ℕ) (blocks : List (List (List ℕ))) (old now one two next : List ℕ) →
    now ≡ old ++ lines_beside n blocks → one ≡ now ++ line_across n 2 blocks [] → next ≡ one ++ codes "\n" →
    next ≡ old ++ lines_beside (n + 1) blocks
unfolding lines_beside
beside-next n blocks old now one two next h e k = grind (arith, common_steps)

pub alone-next : (old now next : List ℕ) (all rest after : List (String Global)) (line : String Global) →
    now ++ lines_alone (map string_bytes rest) ≡ old ++ lines_alone (map string_bytes all) → rest ≡ line ∷ after →
    next ≡ now ++ (codes "  " ⋯ string_bytes line ⋯ codes "\n") →
    next ++ lines_alone (map string_bytes after) ≡ old ++ lines_alone (map string_bytes all)
unfolding lines_alone
alone-next old now next all rest after line h e n = grind (arith, common_steps)

pub alone-all : (old now : List ℕ) (all rest : List (String Global)) →
    now ++ lines_alone (map string_bytes rest) ≡ old ++ lines_alone (map string_bytes all) → length rest ≡ 0 →
    now ≡ old ++ lines_alone (map string_bytes all)
unfolding lines_alone
alone-all old now all [] h e = sym (append-nil now) ∙ h
alone-all old now all (x ∷ rest) h e = absurd (omega (e, arith))

pub below-next : (old now one next : List ℕ) (all rest after : List (Vec (String Global) Global))
    (block : Vec (String Global) Global) →
    now ++ lines_below (blocks_text rest) ≡ old ++ lines_below (blocks_text all) → rest ≡ block ∷ after →
    one ≡ now ++ lines_alone (map string_bytes block.items) → next ≡ one ++ codes "\n" →
    next ++ lines_below (blocks_text after) ≡ old ++ lines_below (blocks_text all)
unfolding lines_below
below-next old now one next all rest after block h e o n = grind (arith, common_steps)

pub below-all : (old now : List ℕ) (all rest : List (Vec (String Global) Global)) →
    now ++ lines_below (blocks_text rest) ≡ old ++ lines_below (blocks_text all) → length rest ≡ 0 →
    now ≡ old ++ lines_below (blocks_text all)
unfolding lines_below
below-all old now all [] h e = sym (append-nil now) ∙ h
below-all old now all (x ∷ rest) h e = absurd (omega (e, arith))

-- ---- room
-- one block less, by its width
pub end-step : (at w : ℕ) (rest after : List (Vec (String Global) Global)) (block : Vec (String Global) Global)
    (lines : List (String Global)) → rest ≡ block ∷ after → lines ≡ block.items →
    w ≡ widest (map string_bytes lines) →
    end_of at (blocks_text rest) ≡ end_of (at + (w + 3)) (blocks_text after)
end-step at w rest after block lines e same is =
    end-next (end_of at (blocks_text rest)) at rest after block refl e
    ∙ ap (λ (n : ℕ). end_of (at + (n + 3)) (blocks_text after))
    (sym (is ∙ ap (λ (l : List (String Global)). widest (map string_bytes l)) same))

-- so the place behind it is no further than the end
pub end-bound : (at w end : ℕ) (after : List (Vec (String Global) Global)) →
    end ≡ end_of (at + (w + 3)) (blocks_text after) → at + (w + 3) ≤ end
end-bound at w end after is = let more = end-above (at + (w + 3)) (blocks_text after) in omega (more, is, arith)

count-blocks : (blocks : List (Vec (String Global) Global)) → length (blocks_text blocks) ≡ length blocks
count-blocks blocks = search (length-map, rules)

-- few blocks, all of which end soon
pub room-from : (blocks : List (Vec (String Global) Global)) (at : ℕ) → length blocks ≤ 3 →
    end_of 2 (blocks_text blocks) ≡ at → at ≤ 103 → HaveRoom (blocks_text blocks)
room-from blocks at few end low =
    let count = count-blocks blocks in record { few = omega (count, few, arith); narrow = omega (end, low, arith) }

-- many have none
pub room-few : (blocks : List (Vec (String Global) Global)) → HaveRoom (blocks_text blocks) → length blocks ≤ 3
room-few blocks room = let count = count-blocks blocks in let few = room.few in omega (count, few, arith)

-- a line, with the text of one block more
pub across-step : (n at w : ℕ) (rest after : List (Vec (String Global) Global)) (block : Vec (String Global) Global)
    (lines front : List (String Global)) (whole now next text : List ℕ) →
    whole ≡ line_across n at (blocks_text rest) now → rest ≡ block ∷ after → lines ≡ block.items →
    w ≡ widest (map string_bytes lines) → front ≡ block.items →
    text ≡ slice_index_or (map string_bytes front) n [] → next ≡ put at text now →
    whole ≡ line_across n (at + (w + 3)) (blocks_text after) next
across-step n at w rest after block lines front whole now next text h e same is ahead t p =
    across-next n at rest after block whole now next text h e
    (t ∙ ap (λ (l : List (String Global)). slice_index_or (map string_bytes l) n []) ahead) p
    ∙ ap (λ (k : ℕ). line_across n (at + (k + 3)) (blocks_text after) next)
    (sym (is ∙ ap (λ (l : List (String Global)). widest (map string_bytes l)) same))

-- ---- where blocks are placed
-- where they have room, beside one another
pub placed-beside : (blocks : List (List (List ℕ))) → HaveRoom blocks →
    placed blocks ≡ lines_beside (tallest blocks) blocks ++ codes "\n"
placed-beside blocks room =
    rw (le-leb (length blocks) 3 room.few, le-leb (end_of 2 blocks) 103 room.narrow) refl

-- else below one another
pub placed-below : (blocks : List (List (List ℕ))) → (HaveRoom blocks → ⊥) → placed blocks ≡ lines_below blocks
placed-below blocks none = go (nat_le (length blocks) 3) (nat_le (end_of 2 blocks) 103) refl refl
  where
    go : (few narrow : Bool) → nat_le (length blocks) 3 ≡ few → nat_le (end_of 2 blocks) 103 ≡ narrow →
        placed blocks ≡ lines_below blocks
    go true true f n =
        absurd (none (record { few = leb-true (length blocks) 3 f; narrow = leb-true (end_of 2 blocks) 103 n }))
    go true false f n = rw (f, n) refl
    go false narrow f n = rw f refl

-- what was added in two pieces
pub two-pieces : (old one next first second : List ℕ) → one ≡ old ++ first → next ≡ one ++ second →
    next ≡ old ++ (first ++ second)
two-pieces old one next first second o n = n ∙ ap (λ (t : List ℕ). t ++ second) o ∙ append_assoc old first second
