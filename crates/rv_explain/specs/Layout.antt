-- Texts in columns. The format is this project's own.
use Rattle.std.specs.Prelude.{ℕ, zero, suc, ◌+◌, ◌-◌, ◌≤◌, ◌++◌, List, [], ◌∷◌, codes, length, replicate}
use Rattle.std.specs.Prelude.{slice_index_or}
use Rattle.std.specs.Prelude.{Bool, ◌&&◌, nat_le, String, Vec, map, string_bytes, if◌then◌else◌}
use Rattle.std.specs.Global.{Global}
use Rattle.rv_event.specs.Texts.{◌⋯◌}

-- with spaces behind it up to this width
abbrev pub padded : ℕ → List ℕ → List ℕ
padded width text = text ++ replicate (width - length text) 32

-- the lines of blocks
abbrev pub blocks_text : List (Vec (String Global) Global) → List (List (List ℕ))
blocks_text blocks = map (λ block. map string_bytes block.items) blocks

-- the greater of two numbers
abbrev pub greater : ℕ → ℕ → ℕ
greater m n = n + (m - n)

-- the width of the widest of these texts
unfoldable pub widest : List (List ℕ) → ℕ
widest [] = 0
widest (text ∷ texts) = greater (length text) (widest texts)

-- the number of lines of the tallest of these blocks
unfoldable pub tallest : List (List (List ℕ)) → ℕ
tallest [] = 0
tallest (block ∷ blocks) = greater (length block) (tallest blocks)

-- where the last of these blocks ends, beside one another from a column on, with three spaces behind each
unfoldable pub end_of : ℕ → List (List (List ℕ)) → ℕ
end_of at [] = at
end_of at (block ∷ blocks) = end_of (at + (widest block + 3)) blocks

-- a line with a text that begins at a column; one without text stays as it is
abbrev pub put : ℕ → List ℕ → List ℕ → List ℕ
put at [] line = line
put at (x ∷ xs) line = padded at line ++ x ∷ xs

-- a line of all blocks
unfoldable pub line_across : ℕ → ℕ → List (List (List ℕ)) → List ℕ → List ℕ
line_across n at [] line = line
line_across n at (block ∷ blocks) line =
    line_across n (at + (widest block + 3)) blocks (put at (slice_index_or block n []) line)

-- the first lines of blocks that stand beside one another
unfoldable pub lines_beside : ℕ → List (List (List ℕ)) → List ℕ
lines_beside zero blocks = []
lines_beside (suc n) blocks = lines_beside n blocks ++ line_across n 2 blocks [] ++ codes "\n"

-- the lines of a block that stands alone
unfoldable pub lines_alone : List (List ℕ) → List ℕ
lines_alone [] = []
lines_alone (line ∷ lines) = codes "  " ⋯ line ⋯ codes "\n" ⋯ lines_alone lines

-- blocks below one another, with an empty line behind each
unfoldable pub lines_below : List (List (List ℕ)) → List ℕ
lines_below [] = []
lines_below (block ∷ blocks) = lines_alone block ⋯ codes "\n" ⋯ lines_below blocks

-- up to three blocks have room beside one another where their lines end by column 100
pub record HaveRoom (blocks : List (List (List ℕ))) : Type 0 where
  pub few : length blocks ≤ 3
  pub narrow : end_of 2 blocks ≤ 103

-- whether they have room
abbrev pub have_room : List (List (List ℕ)) → Bool
have_room blocks = nat_le (length blocks) 3 && nat_le (end_of 2 blocks) 103

-- beside one another where they have room, with an empty line behind all, else below one another
abbrev pub placed : List (List (List ℕ)) → List ℕ
placed blocks = if have_room blocks then lines_beside (tallest blocks) blocks ++ codes "\n" else lines_below blocks
