-- How words are filled block by block.
use Rattle.std.proofs.Common.{◌≡◌, ℕ, zero, suc, ◌+◌, ◌-◌, ◌*◌, ◌<◌, ◌≤◌, List, [], ◌∷◌, ◌++◌, length, get_or}
use Rattle.std.proofs.Common.{drop, take, replicate, sym, refl, ap, ◌∙◌, arith}
use Rattle.std.specs.List.{flat_map}
use Rattle.std.proofs.Math.Seq.{take-append_seam, drop-append-add}
use Rattle.std.proofs.lemmas.List.{drop-replicate, drop-drop, take_more, take_all, length-drop}
use Rattle.std.proofs.lemmas.List.Concat.{flat_map-append}
use Rattle.std.proofs.Common.{rules}
use Rattle.rv_event.specs.declared.event.Event.{Event}
use Rattle.rv_chunk.specs.Chunks.{event_words, event_of, events_from, source_of, number_of, count_of, rewritten, two}
use Rattle.rv_chunk.proofs.ChunkTest.{length_read}

-- a text of which k blocks are written
abbrev pub filled : ℕ → ℕ → List ℕ → ℕ → List ℕ
filled a b xs k = a ∷ b ∷ (xs ++ replicate (56 - 7 * k) 0)

front : (a b : ℕ) (xs zs : List ℕ) (n : ℕ) → n ≡ suc (suc (length xs)) → take n (a ∷ b ∷ (xs ++ zs)) ≡ a ∷ b ∷ xs
front a b xs zs n e = rw e (ap (λ (ys : List ℕ). a ∷ b ∷ ys) (take-append_seam xs zs))

back : (a b : ℕ) (xs zs : List ℕ) (n : ℕ) → n ≡ suc (suc (length xs + 7)) → drop n (a ∷ b ∷ (xs ++ zs)) ≡ drop 7 zs
back a b xs zs n e = rw e (drop-append-add xs zs 7)

-- one event more in its place
pub put : (a b : ℕ) (xs block : List ℕ) (k : ℕ) → k < 8 → length xs ≡ 7 * k →
    take (2 + 7 * k) (filled a b xs k) ++ block ++ drop (9 + 7 * k) (filled a b xs k) ≡ filled a b (xs ++ block) (k + 1)
put a b xs block k h e =
    let zs : List ℕ = replicate (56 - 7 * k) 0 in
    let f = front a b xs zs (2 + 7 * k) (omega arith) in
    let g = back a b xs zs (9 + 7 * k) (omega arith) ∙ (drop-replicate 7 (56 - 7 * k) 0 ∙
    ap (λ (n : ℕ). replicate n 0) (let q : 56 - 7 * k - 7 ≡ 56 - 7 * (k + 1) = omega arith in q)) in
    rw (f, g) refl

-- each event has seven words
pub length_words : (es : List Event) → length (flat_map event_words es) ≡ 7 * length es
length_words [] = refl
length_words (e ∷ es) = let i = length_words es in omega arith

-- one event more
pub one_more : (es : List Event) (e : Event) → flat_map event_words (es ++ e ∷ []) ≡ flat_map event_words es ++
    event_words e
one_more es e = flat_map-append event_words es (e ∷ [])

-- one event more is read
pub read_more : (k : ℕ) (ws : List ℕ) → events_from (k + 1) ws ≡ events_from k ws ++ event_of (drop (7 * k) ws) ∷ []
read_more zero ws = refl
read_more (suc k) ws =
    let q : suc k + 1 ≡ suc (k + 1) = omega arith in
    let r : 7 + 7 * k ≡ 7 * suc k = omega arith in
    ap (λ (n : ℕ). events_from n ws) q
    ∙ ap (λ (es : List Event). event_of ws ∷ es)
    (read_more k (drop 7 ws) ∙ ap (λ (v : List ℕ). events_from k (drop 7 ws) ++ event_of v ∷ [])
    (drop-drop (7 * k) 7 ws ∙ ap (λ (n : ℕ). drop n ws) r))

-- a block is written: the text has one event more
pub fill_step : (a b : ℕ) (es : List Event) (e : Event) (k : ℕ) (new old block : List ℕ) → k < 8 → length es ≡ k →
    old ≡ filled a b (flat_map event_words es) k → block ≡ event_words e → new ≡ take (2 + 7 * k) old ++ block ++
    drop (9 + 7 * k) old → new ≡ filled a b (flat_map event_words (es ++ e ∷ [])) (k + 1)
fill_step a b es e k new old block h n o w is =
    let long : length (flat_map event_words es) ≡ 7 * k = length_words es ∙ ap (λ (m : ℕ). 7 * m) n in
    is ∙ (rw (o, w) (put a b (flat_map event_words es) (event_words e) k h long) ∙
    ap (λ (xs : List ℕ). filled a b xs (k + 1)) (sym (one_more es e)))

-- the next event is read
pub read_next : (ws : List ℕ) (k : ℕ) → events_from (k + 1) (drop 2 ws) ≡ events_from k (drop 2 ws) ++
    event_of (drop (2 + 7 * k) ws) ∷ []
read_next ws k = read_more k (drop 2 ws) ∙ ap (λ (v : List ℕ). events_from k (drop 2 ws) ++ event_of v ∷ [])
    (drop-drop (7 * k) 2 ws)

-- one element more is taken
pub take_next : (es : List Event) (k : ℕ) (e : Event) → k < length es → e ≡ get_or es k e →
    take (k + 1) es ≡ take k es ++ e ∷ []
take_next es k e h is = take_more es k e h ∙ ap (λ (x : Event). take k es ++ x ∷ []) (sym is)

-- the rest of an array, as the code cuts it
pub rest_is : (ws : List ℕ) (n : ℕ) → length ws ≡ 58 → take (58 - n) (drop n ws) ≡ drop n ws
rest_is ws n h = take_all (58 - n) (drop n ws)
    (let q : length (drop n ws) ≤ 58 - n = omega (arith, length-drop n ws) in q)

-- all blocks are written
pub all_read : (ws : List ℕ) (k : ℕ) (again : List ℕ) → k ≡ count_of ws →
    again ≡ filled (two (source_of ws) (number_of ws)) (count_of ws) (flat_map event_words (events_from k (drop 2 ws)))
    k → again ≡ rewritten ws
all_read ws k again h is = search (length_read, rules)
