-- Texts that are written in pieces.
use Rattle.std.proofs.lemmas.Grind.{common_steps}
use Rattle.std.proofs.Common.{◌≡◌, ◌+◌, ◌-◌, ◌≤◌, ℕ, List, ◌++◌, Option, take, drop, length, sym, arith}
use Rattle.std.proofs.Common.{length-drop}
use Rattle.std.proofs.lemmas.List.{take_all}
use Rattle.std.proofs.Math.Seq.{take-add}
use Rattle.std.specs.Io.KnownBytes.{Appends}

-- a text and one behind it
pub Appends-trans : (a b c : Option (List ℕ)) (xs ys zs : List ℕ)
    → Appends a b xs → Appends b c ys → xs ++ ys ≡ zs → Appends a c zs
Appends-trans a b c xs ys zs h l e = grind (arith, common_steps)

rest_whole : (text : List ℕ) (at : ℕ) → take (length text - at) (drop at text) ≡ drop at text
rest_whole text at = let l = length-drop at text in take_all (length text - at) (drop at text) (omega arith)

-- a piece of a text ends inside it
pub piece_bound : (text : List ℕ) (at count : ℕ)
    → at ≤ length text → count ≤ length (take (length text - at) (drop at text)) → at + count ≤ length text
piece_bound text at count h k = grind (arith, common_steps)

-- one piece more
pub piece_more : (text : List ℕ) (at count : ℕ)
    → take at text ++ take count (take (length text - at) (drop at text)) ≡ take (at + count) text
piece_more text at count = rw (rest_whole text at) (sym (take-add at count text))
