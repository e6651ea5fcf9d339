-- The test holds of the chunk texts and of nothing else.
use Rattle.std.proofs.Common.{◌≡◌, ℕ, zero, suc, ◌^◌, ◌<◌, ◌≤◌, Bool, true, false, ◌&&◌, ◌==◌, List, [], ◌∷◌}
use Rattle.std.proofs.Common.{length, drop, sym, refl, ap, subst, arith}
use Rattle.std.proofs.lemmas.Bool.{leb-true, le-leb}
use Rattle.std.specs.Prelude.{slice_index, All, IsTrue, nat_eq, nat_le, if◌then◌else◌}
use Rattle.std.specs.Cmp.Lexicographic.{pointwise, same_text}
use Rattle.std.proofs.lemmas.Cmp.{nat_list_eq_equiv}
use Rattle.std.proofs.lemmas.List.Elements.{All-nil, All-cons}
use Rattle.std.proofs.lemmas.Grind.{common_steps}
use Rattle.rv_event.specs.declared.event.Event.{Event}
use Rattle.rv_event.specs.declared.event.Dep.{Dep}
use Rattle.rv_chunk.specs.Chunks.{chunk_text, IsPackable, IsTyped, IsInRange, IsChunkText, bits, dep_of, deps_of}
use Rattle.rv_chunk.specs.Chunks.{halves, event_of, events_from, source_of, number_of, count_of, events_of}
use Rattle.rv_chunk.specs.Chunks.{rewritten, is_chunk_text}
use Rattle.rv_chunk.specs.Packing.{content_of}
use Rattle.rv_chunk.proofs.ChunkBack.{rewritten_back, count_back, source_back, number_back, text_back}

seq_small : (n : ℕ) → bits n 0 30 < 2 ^ 30
seq_small n = omega arith

abbrev IsSmall : Dep → Type 0
IsSmall d = d.seq < 2 ^ 30

small_if : (b : Bool) (d : Dep) (ds : List Dep) → IsSmall d → All IsSmall ds → All IsSmall (if b then [] else (d ∷ ds))
small_if true d ds h hs = All-nil IsSmall
small_if false d ds h hs = All-cons IsSmall d ds h hs

few_if : (b : Bool) (d : Dep) (ds : List Dep) (n : ℕ) → length ds ≤ n →
    length (if◌then◌else◌ {A = List Dep} b [] (d ∷ ds)) ≤ suc n
few_if true d ds n h = omega arith
few_if false d ds n h = omega arith

-- what is read is in range, whatever the words
deps_small : (ns : List ℕ) → All IsSmall (deps_of ns)
deps_small [] = All-nil IsSmall
deps_small (n ∷ ns) = small_if (n == 0) (dep_of n) (deps_of ns) (seq_small n) (deps_small ns)

deps_few : (ns : List ℕ) → length (deps_of ns) ≤ length ns
deps_few [] = omega arith
deps_few (n ∷ ns) = few_if (n == 0) (dep_of n) (deps_of ns) (length ns) (deps_few ns)

-- what is read can be packed
pub read_packable : (ws : List ℕ) → IsPackable (event_of ws)
read_packable ws = let ns : List ℕ = halves (slice_index ws 3 ∷ slice_index ws 4 ∷ slice_index ws 5 ∷
    slice_index ws 6 ∷ []) in record { few = deps_few ns; small = deps_small ns }

high_half : (w : ℕ) → bits w 32 32 < 2 ^ 32
high_half w = omega arith

-- and has fields in their ranges
pub read_typed : (ws : List ℕ) → IsTyped (event_of ws)
read_typed ws = grind (arith, common_steps)

-- so many events are read
pub length_read : (k : ℕ) (ws : List ℕ) → length (events_from k ws) ≡ k
length_read zero ws = refl
length_read (suc k) ws = ap suc (length_read k (drop 7 ws))

all_packable : (k : ℕ) (ws : List ℕ) → All IsPackable (events_from k ws)
all_packable zero ws = All-nil _
all_packable (suc k) ws = All-cons IsPackable (event_of ws) (events_from k (drop 7 ws)) (read_packable ws)
    (all_packable k (drop 7 ws))

all_typed : (k : ℕ) (ws : List ℕ) → All IsTyped (events_from k ws)
all_typed zero ws = All-nil _
all_typed (suc k) ws = All-cons IsTyped (event_of ws) (events_from k (drop 7 ws)) (read_typed ws)
    (all_typed k (drop 7 ws))

low_three : (w : ℕ) → bits w 0 3 < 8
low_three w = omega arith

-- what is read of words is in range
pub read_in_range : (ws : List ℕ) → 1 ≤ count_of ws → count_of ws ≤ 8 → IsInRange (source_of ws) (number_of ws)
    (events_of ws)
read_in_range ws some few = search (length_read, low_three, high_half, all_packable, all_typed)

both_true : (a b : Bool) → a && b ≡ true → (a ≡ true) × (b ≡ true)
both_true a b e = grind (arith, common_steps)

and_true : (a b : Bool) → a ≡ true → b ≡ true → a && b ≡ true
and_true a b h k = cc

-- the test as facts
pub told : (ws : List ℕ) → IsTrue (is_chunk_text ws) → (1 ≤ count_of ws) × (count_of ws ≤ 8) × (ws ≡ rewritten ws)
told ws h = let a = both_true _ _ h in let b = both_true _ _ a.1 in
    (leb-true 1 (count_of ws) a.0, leb-true (count_of ws) 8 b.0, same_text ws (rewritten ws) (sym b.1))

-- words that are rewritten as they are pass the test
pub tells : (ws : List ℕ) → 1 ≤ count_of ws → count_of ws ≤ 8 → ws ≡ rewritten ws → IsTrue (is_chunk_text ws)
tells ws a b c = and_true (nat_le 1 (count_of ws)) (nat_le (count_of ws) 8 && pointwise nat_eq ws (rewritten ws))
    (le-leb 1 (count_of ws) a)
    (and_true (nat_le (count_of ws) 8) (pointwise nat_eq ws (rewritten ws)) (le-leb (count_of ws) 8 b)
    (subst (λ (x : List ℕ). pointwise nat_eq ws x ≡ true) c (nat_list_eq_equiv.refl ws)))

-- words that pass the test are a chunk text
pub chunk_text_from_test : (ws : List ℕ) → IsTrue (is_chunk_text ws) → IsChunkText ws
chunk_text_from_test ws h = grind (arith, common_steps, told, read_in_range)

-- a chunk text passes the test
pub tests_text : (s n : ℕ) (es : List Event) → IsInRange s n es → IsTrue (is_chunk_text (chunk_text s n es))
tests_text s n es r = let c = count_back s n es r in tells (chunk_text s n es) (rw c r.some) (rw c r.few)
    (sym (rewritten_back s n es r))

-- and so do words that are one
pub test_from_chunk_text : (ws : List ℕ) → IsChunkText ws → IsTrue (is_chunk_text ws)
test_from_chunk_text ws t = rw t.text (tests_text t.source t.number t.events t.in_range)

-- a text's content is what it was written from
pub content_back : (s n : ℕ) (es : List Event) → IsInRange s n es →
    content_of (chunk_text s n es) ≡ record { source = s; number = n; events = es }
content_back s n es r = search (source_back, number_back, text_back)
