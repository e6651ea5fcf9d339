-- Lines of text within a picture, and its frame, byte by byte.
use Rattle.std.specs.Prelude.{ℕ, ◌+◌, ◌*◌, List, codes, decimal}
use Rattle.rv_event.specs.Texts.{◌⋯◌}

-- a line by its number: the first stands 32 below the top, and each other 18 below the one before
abbrev pub line_text : ℕ → List ℕ → List ℕ
line_text number line =
    codes "<text x=\"24\" y=\"" ⋯ decimal (32 + 18 * number) ⋯ codes "\">" ⋯ line ⋯ codes "</text>\n"

-- the beginning of a picture: a white ground, and how arrows end
abbrev pub head_text : ℕ → ℕ → List ℕ
head_text width height =
    codes "<svg xmlns=\"http://www.w3.org/2000/svg\" width=\"" ⋯ decimal width ⋯ codes "\" height=\"" ⋯ decimal height
    ⋯ codes "\" viewBox=\"0 0 " ⋯ decimal width ⋯ codes " " ⋯ decimal height
    ⋯ codes "\" font-family=\"sans-serif\" font-size=\"12\">\n<defs><marker id=\"head\" viewBox=\"0 0 10 10\" "
    ⋯ codes "refX=\"10\" refY=\"5\" markerWidth=\"8\" markerHeight=\"8\" orient=\"auto\"><path d=\"M0 0L10 5L0 10z\"/>"
    ⋯ codes "</marker></defs>\n<rect width=\"100%\" height=\"100%\" fill=\"white\"/>\n"
