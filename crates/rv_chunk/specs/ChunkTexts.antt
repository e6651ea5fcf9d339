-- The laws of chunk texts.
use Rattle.std.specs.Prelude.{ℕ, ◌≡◌, ◌↔◌, List, IsTrue}
use Rattle.rv_event.specs.declared.event.Event.{Event}
use Rattle.rv_chunk.specs.Chunks.{chunk_text, is_chunk_text, IsInRange, IsChunkText}

-- the test holds of the texts of something in range and of nothing else
abbrev pub TestTells : Type 0
TestTells = (words : List ℕ) → IsTrue (is_chunk_text words) ↔ IsChunkText words

-- no two have the same text
abbrev pub TextsDiffer : Type 0
TextsDiffer = (s t n m : ℕ) (es fs : List Event) → IsInRange s n es → IsInRange t m fs →
    chunk_text s n es ≡ chunk_text t m fs → (s ≡ t) × (n ≡ m) × (es ≡ fs)
