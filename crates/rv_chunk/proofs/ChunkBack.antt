-- What a chunk text says is what it was written from.
use Rattle.std.proofs.Common.{◌≡◌, ℕ, zero, suc, ◌+◌, ◌-◌, ◌*◌, ◌^◌, ◌<◌, ◌≤◌, Bool, true, false, ◌==◌, List, []}
use Rattle.std.proofs.Common.{◌∷◌, ◌++◌, length, map, replicate, sym, refl, ap, ◌∙◌, arith}
use Rattle.std.specs.Prelude.{slice_index, All}
use Rattle.std.specs.List.{flat_map}
use Rattle.std.proofs.lemmas.List.Elements.{All-head, All-tail}
use Rattle.std.proofs.lemmas.Grind.{common_steps}
use Rattle.rv_event.specs.declared.event.Event.{Event}
use Rattle.rv_event.specs.declared.event.Op.{Op}
use Rattle.rv_event.specs.declared.event.Op.TheVariants.{Load, Store, Lr, Sc, ScFailed, Amo, Branch, Carrier}
use Rattle.rv_event.specs.declared.event.Op.TheVariants.{Fence, FenceTso}
use Rattle.rv_event.specs.declared.event.Set.{Set}
use Rattle.rv_event.specs.declared.event.Dep.{Dep}
use Rattle.rv_event.specs.declared.event.DepKind.{DepKind}
use Rattle.rv_chunk.specs.Chunks.{set_code, op_code, pred_code, succ_code, kind_code, flag_code, two, head_word}
use Rattle.rv_chunk.specs.Chunks.{dep_code, dep_at, event_words, chunk_text, IsPackable, IsTyped, IsInRange, bits}
use Rattle.rv_chunk.specs.Chunks.{set_of, op_of, dep_of, deps_of, halves, head_op, event_of, events_from, source_of}
use Rattle.rv_chunk.specs.Chunks.{number_of, count_of, events_of, rewritten}

-- ---- two halves
pub two_low : (a b : ℕ) → a < 2 ^ 32 → bits (two a b) 0 32 ≡ a
two_low a b h = omega arith

-- the high half of two halves
pub two_high : (a b : ℕ) → a < 2 ^ 32 → b < 2 ^ 32 → bits (two a b) 32 32 ≡ b
two_high a b h k = omega arith

-- ---- one dependency
kind_small : (k : DepKind) → kind_code k < 4
kind_small k = grind (arith, common_steps)

kind_some : (k : DepKind) → 0 < kind_code k
kind_some k = grind (arith, common_steps)

below_word : (s k : ℕ) → s < 2 ^ 30 → k < 4 → s + k * 2 ^ 30 < 2 ^ 32
below_word s k h l = omega arith

-- the code of a dependency fits half a word
pub dep_small : (d : Dep) → d.seq < 2 ^ 30 → dep_code d < 2 ^ 32
dep_small d h = below_word d.seq (kind_code d.kind) h (kind_small d.kind)

above_zero : (s k : ℕ) → 0 < k → (s + k * 2 ^ 30 == 0) ≡ false
above_zero s k h = grind arith

-- a dependency is read back
pub dep_back : (d : Dep) → d.seq < 2 ^ 30 → dep_of (dep_code d) ≡ d
dep_back d h = grind (arith, common_steps)

-- its code is not 0
pub dep_some : (d : Dep) → (dep_code d == 0) ≡ false
dep_some d = above_zero d.seq (kind_code d.kind) (kind_some d.kind)

deps_none : (k : ℕ) → deps_of (replicate k 0) ≡ []
deps_none zero = refl
deps_none (suc k) = refl

deps_step : (d : Dep) (ns : List ℕ) → d.seq < 2 ^ 30 → deps_of (dep_code d ∷ ns) ≡ d ∷ deps_of ns
deps_step d ns h = rw (dep_some d) (ap (λ (x : Dep). x ∷ deps_of ns) (dep_back d h))

deps_back : (ds : List Dep) (k : ℕ) → All (λ d. d.seq < 2 ^ 30) ds → deps_of (map dep_code ds ++ replicate k 0) ≡ ds
deps_back [] k h = deps_none k
deps_back (d ∷ ds) k h = deps_step d (map dep_code ds ++ replicate k 0) (All-head (λ (x : Dep). x.seq < 2 ^ 30) d ds h)
    ∙ ap (λ (x : List Dep). d ∷ x) (deps_back ds k (All-tail (λ (x : Dep). x.seq < 2 ^ 30) d ds h))

-- ---- four words of eight halves
abbrev two_each : List ℕ → List ℕ
two_each ns = two (slice_index ns 0) (slice_index ns 1) ∷ two (slice_index ns 2) (slice_index ns 3) ∷
    two (slice_index ns 4) (slice_index ns 5) ∷ two (slice_index ns 6) (slice_index ns 7) ∷ []

-- the codes of the dependencies, and zeros up to eight
abbrev codes : List Dep → List ℕ
codes ds = dep_at ds 0 ∷ dep_at ds 1 ∷ dep_at ds 2 ∷ dep_at ds 3 ∷ dep_at ds 4 ∷ dep_at ds 5 ∷ dep_at ds 6 ∷
    dep_at ds 7 ∷ []

codes_are : (ds : List Dep) → length ds ≤ 8 → codes ds ≡ map dep_code ds ++ replicate (8 - length ds) 0
codes_are [] h = refl
codes_are (a ∷ []) h = refl
codes_are (a ∷ b ∷ []) h = refl
codes_are (a ∷ b ∷ c ∷ []) h = refl
codes_are (a ∷ b ∷ c ∷ d ∷ []) h = refl
codes_are (a ∷ b ∷ c ∷ d ∷ e ∷ []) h = refl
codes_are (a ∷ b ∷ c ∷ d ∷ e ∷ f ∷ []) h = refl
codes_are (a ∷ b ∷ c ∷ d ∷ e ∷ f ∷ g ∷ []) h = refl
codes_are (a ∷ b ∷ c ∷ d ∷ e ∷ f ∷ g ∷ i ∷ []) h = refl
codes_are (a ∷ b ∷ c ∷ d ∷ e ∷ f ∷ g ∷ i ∷ j ∷ ds) h = absurd (omega arith)

code_small : (ds : List Dep) (i : ℕ) → All (λ d. d.seq < 2 ^ 30) ds → dep_at ds i < 2 ^ 32
code_small [] i h = omega arith
code_small (d ∷ ds) zero h = dep_small d (All-head (λ (x : Dep). x.seq < 2 ^ 30) d ds h)
code_small (d ∷ ds) (suc i) h = code_small ds i (All-tail (λ (x : Dep). x.seq < 2 ^ 30) d ds h)

halves_of : (a b c d e f g i : ℕ) → a < 2 ^ 32 → b < 2 ^ 32 → c < 2 ^ 32 → d < 2 ^ 32 → e < 2 ^ 32 → f < 2 ^ 32 →
    g < 2 ^ 32 → i < 2 ^ 32 →
    halves (two a b ∷ two c d ∷ two e f ∷ two g i ∷ []) ≡ a ∷ b ∷ c ∷ d ∷ e ∷ f ∷ g ∷ i ∷ []
halves_of a b c d e f g i ha hb hc hd he hf hg hi = grind (arith, common_steps)

halves_back : (ds : List Dep) → All (λ d. d.seq < 2 ^ 30) ds → halves (two_each (codes ds)) ≡ codes ds
halves_back ds h = search (code_small, halves_of)

-- dependencies are read back
pub deps_back_words : (ds : List Dep) → length ds ≤ 8 → All (λ d. d.seq < 2 ^ 30) ds →
    deps_of (halves (two_each (codes ds))) ≡ ds
deps_back_words ds n h = ap deps_of (halves_back ds h ∙ codes_are ds n) ∙ deps_back ds (8 - length ds) h

op_small : (o : Op) → op_code o < 16
op_small o = grind (arith, common_steps)

pred_small : (o : Op) → pred_code o < 4
pred_small o = grind (arith, common_steps)

succ_small : (o : Op) → succ_code o < 4
succ_small o = grind (arith, common_steps)

flag_small : (b : Bool) → flag_code b < 2
flag_small true = omega arith
flag_small false = omega arith

record HeadBits (w h o p q a r : ℕ) : Type 0 where
  hart : bits w 0 8 ≡ h
  op : bits w 8 4 ≡ o
  pred : bits w 12 2 ≡ p
  succ : bits w 14 2 ≡ q
  acquire : bits w 16 1 ≡ a
  release : bits w 17 1 ≡ r

head_bits : (h o p q a r : ℕ) → h < 256 → o < 16 → p < 4 → q < 4 → a < 2 → r < 2 →
    HeadBits (h + o * 2 ^ 8 + p * 2 ^ 12 + q * 2 ^ 14 + a * 2 ^ 16 + r * 2 ^ 17) h o p q a r
head_bits h o p q a r _1 _2 _3 _4 _5 _6 = grind (arith, common_steps)

set_back : (x : Set) → set_of (set_code x) ≡ x
set_back x = grind (arith, common_steps)

op_back : (o : Op) → op_of (op_code o) (set_of (pred_code o)) (set_of (succ_code o)) ≡ o
op_back Load = refl
op_back Store = refl
op_back Lr = refl
op_back Sc = refl
op_back ScFailed = refl
op_back Amo = refl
op_back (Fence p q) = let a = set_back p in let b = set_back q in cc
op_back FenceTso = refl
op_back Branch = refl
op_back Carrier = refl

flag_back : (b : Bool) → (flag_code b == 1) ≡ b
flag_back true = refl
flag_back false = refl

head_back : (e : Event) → e.id.hart < 2 ^ 8 → HeadBits (head_word e.id.hart e.op e.acquire e.release) e.id.hart
    (op_code e.op) (pred_code e.op) (succ_code e.op) (flag_code e.acquire) (flag_code e.release)
head_back e h = search (head_bits, op_small, pred_small, succ_small, flag_small)

-- ---- one event
same_event : (a b : Event) → a.id.hart ≡ b.id.hart → a.id.seq ≡ b.id.seq → a.op ≡ b.op → a.word ≡ b.word →
    a.read ≡ b.read → a.wrote ≡ b.wrote →
    a.acquire ≡ b.acquire → a.release ≡ b.release → a.deps ≡ b.deps → a ≡ b
same_event a b h s o w r v q l d = grind (arith, common_steps)

head_op_back : (w : ℕ) (o : Op) → bits w 8 4 ≡ op_code o → bits w 12 2 ≡ pred_code o → bits w 14 2 ≡ succ_code o →
    head_op w ≡ o
head_op_back w o a b c = rw (a, b, c) (op_back o)

flag_of : (n : ℕ) (b : Bool) → n ≡ flag_code b → (n == 1) ≡ b
flag_of n b e = rw e (flag_back b)

-- an event is read back
pub event_back : (e : Event) (rest : List ℕ) → IsPackable e → IsTyped e → event_of (event_words e ++ rest) ≡ e
event_back e rest p t = let h = head_back e t.hart in
    same_event (event_of (event_words e ++ rest)) e h.hart (two_low e.id.seq e.word t.seq)
    (head_op_back (head_word e.id.hart e.op e.acquire e.release) e.op h.op h.pred h.succ)
    (two_high e.id.seq e.word t.seq t.word) (two_low e.read e.wrote t.read) (two_high e.read e.wrote t.read t.wrote)
    (flag_of _ e.acquire h.acquire) (flag_of _ e.release h.release) (deps_back_words e.deps p.few p.small)

-- ---- a list of events
pub events_back : (es : List Event) (rest : List ℕ) → All IsPackable es → All IsTyped es →
    events_from (length es) (flat_map event_words es ++ rest) ≡ es
events_back [] rest p t = refl
events_back (e ∷ es) rest p t =
    ap (λ (x : Event). x ∷ events_from (length es) (flat_map event_words es ++ rest))
    (event_back e (flat_map event_words es ++ rest) (All-head IsPackable e es p) (All-head IsTyped e es t))
    ∙ ap (λ (x : List Event). e ∷ x) (events_back es rest (All-tail IsPackable e es p) (All-tail IsTyped e es t))

-- ---- the whole text
source_low : (s n : ℕ) → s < 8 → bits (two s n) 0 3 ≡ s
source_low s n h = omega arith

two_high_low : (s n : ℕ) → s < 8 → n < 2 ^ 32 → bits (two s n) 32 32 ≡ n
two_high_low s n h k = omega arith

count_low : (n : ℕ) → n ≤ 8 → bits n 0 4 ≡ n
count_low n h = omega arith

-- a chunk text tells its source
pub source_back : (s n : ℕ) (es : List Event) → IsInRange s n es → source_of (chunk_text s n es) ≡ s
source_back s n es r = source_low s n r.source_low

-- and its number
pub number_back : (s n : ℕ) (es : List Event) → IsInRange s n es → number_of (chunk_text s n es) ≡ n
number_back s n es r = two_high_low s n r.source_low r.number_low

-- and how many events it has
pub count_back : (s n : ℕ) (es : List Event) → IsInRange s n es → count_of (chunk_text s n es) ≡ length es
count_back s n es r = count_low (length es) r.few

-- and the events
pub text_back : (s n : ℕ) (es : List Event) → IsInRange s n es → events_of (chunk_text s n es) ≡ es
text_back s n es r = rw (count_back s n es r) (events_back es (replicate (56 - 7 * length es) 0) r.packable r.typed)

-- a chunk text is rewritten as it is
pub rewritten_back : (s n : ℕ) (es : List Event) → IsInRange s n es → rewritten (chunk_text s n es) ≡ chunk_text s n es
rewritten_back s n es r = let a = source_back s n es r in let b = number_back s n es r in
    let c = text_back s n es r in cc

-- no two have the same text
pub same_text : (s t n m : ℕ) (es fs : List Event) → IsInRange s n es → IsInRange t m fs →
    chunk_text s n es ≡ chunk_text t m fs → (s ≡ t) × (n ≡ m) × (es ≡ fs)
same_text s t n m es fs r q e = (
  sym (source_back s n es r) ∙ (ap source_of e ∙ source_back t m fs q),
  sym (number_back s n es r) ∙ (ap number_of e ∙ number_back t m fs q),
  sym (text_back s n es r) ∙ (ap events_of e ∙ text_back t m fs q),
)
