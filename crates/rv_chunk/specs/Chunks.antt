-- Chunk texts: the 58 words that carry a list of 1 to 8 events, by fields and bit places. The
-- format is this project's own.
use Rattle.std.specs.Prelude.{ℕ, zero, suc, Bool, true, false, ◌&&◌, ◌==◌, nat_le, if◌then◌else◌, ◌≡◌, ◌+◌}
use Rattle.std.specs.Prelude.{◌-◌, ◌*◌, ◌/◌, ◌%◌, ◌^◌, ◌<◌, ◌≤◌, List, [], ◌∷◌, ◌++◌, length, map, drop}
use Rattle.std.specs.Prelude.{replicate, slice_index, All}
use Rattle.std.specs.List.{flat_map}
use Rattle.std.specs.Cmp.Lexicographic.{pointwise}
use Rattle.std.specs.Prelude.{nat_eq}
use Rattle.rv_event.specs.declared.event.Event.{Event}
use Rattle.rv_event.specs.declared.event.Op.{Op}
use Rattle.rv_event.specs.declared.event.Op.TheVariants.{Load, Store, Lr, Sc, ScFailed, Amo, Branch, Carrier}
use Rattle.rv_event.specs.declared.event.Op.TheVariants.{Fence, FenceTso}
use Rattle.rv_event.specs.declared.event.Set.{Set}
use Rattle.rv_event.specs.declared.event.Set.TheVariants.{R, W, Rw}
use Rattle.rv_event.specs.declared.event.Dep.{Dep}
use Rattle.rv_event.specs.declared.event.DepKind.{DepKind}
use Rattle.rv_event.specs.declared.event.DepKind.TheVariants.{Addr, DataOf, Ctrl}

-- ---- the codes of the kinds
abbrev pub set_code : Set → ℕ
set_code R = 1
set_code W = 2
set_code Rw = 3

abbrev pub op_code : Op → ℕ
op_code Load = 1
op_code Store = 2
op_code Lr = 3
op_code Sc = 4
op_code ScFailed = 5
op_code Amo = 6
op_code (Fence pred succ) = 7
op_code FenceTso = 8
op_code Branch = 9
op_code Carrier = 10

-- the sets of a fence; other operations have none
abbrev pub pred_code : Op → ℕ
pred_code (Fence pred succ) = set_code pred
pred_code _ = 0

abbrev pub succ_code : Op → ℕ
succ_code (Fence pred succ) = set_code succ
succ_code _ = 0

abbrev pub kind_code : DepKind → ℕ
kind_code Addr = 1
kind_code DataOf = 2
kind_code Ctrl = 3

abbrev pub flag_code : Bool → ℕ
flag_code true = 1
flag_code false = 0

-- ---- from events to words
-- two numbers of 32 bits in one word, the first in the low half
abbrev pub two : ℕ → ℕ → ℕ
two low high = low + high * 2 ^ 32

abbrev pub head_word : ℕ → Op → Bool → Bool → ℕ
head_word hart op acquire release =
    hart + op_code op * 2 ^ 8 + pred_code op * 2 ^ 12 + succ_code op * 2 ^ 14
    + flag_code acquire * 2 ^ 16 + flag_code release * 2 ^ 17

abbrev pub dep_code : Dep → ℕ
dep_code d = d.seq + kind_code d.kind * 2 ^ 30

-- the code of dependency i, and 0 where there is none
abbrev pub dep_at : List Dep → ℕ → ℕ
dep_at ds i = slice_index (map dep_code ds) i

abbrev pub event_words : Event → List ℕ
event_words e =
    head_word e.id.hart e.op e.acquire e.release
    ∷ two e.id.seq e.word
    ∷ two e.read e.wrote
    ∷ two (dep_at e.deps 0) (dep_at e.deps 1)
    ∷ two (dep_at e.deps 2) (dep_at e.deps 3)
    ∷ two (dep_at e.deps 4) (dep_at e.deps 5)
    ∷ two (dep_at e.deps 6) (dep_at e.deps 7)
    ∷ []

-- the words of the events, and zeros up to eight of them
abbrev pub blocks : List Event → List ℕ
blocks events = flat_map event_words events ++ replicate (56 - 7 * length events) 0

abbrev pub chunk_text : ℕ → ℕ → List Event → List ℕ
chunk_text source number events = two source number ∷ length events ∷ blocks events

-- ---- what has a chunk text
abbrev pub AreSmall : List Dep → Type 0
AreSmall ds = All (λ d. d.seq < 2 ^ 30) ds

pub record IsPackable (e : Event) : Type 0 where
  pub few : length e.deps ≤ 8
  pub small : AreSmall e.deps

-- the numbers of an event are of their types
pub record IsTyped (e : Event) : Type 0 where
  pub hart : e.id.hart < 2 ^ 8
  pub seq : e.id.seq < 2 ^ 32
  pub word : e.word < 2 ^ 32
  pub read : e.read < 2 ^ 32
  pub wrote : e.wrote < 2 ^ 32

pub record IsInRange (source number : ℕ) (events : List Event) : Type 0 where
  pub source_low : source < 8
  pub number_low : number < 2 ^ 32
  pub some : 1 ≤ length events
  pub few : length events ≤ 8
  pub packable : All IsPackable events
  pub typed : All IsTyped events

-- the words are the chunk text of something
pub record IsChunkText (words : List ℕ) : Type 0 where
  pub source : ℕ
  pub number : ℕ
  pub events : List Event
  pub in_range : IsInRange source number events
  pub text : words ≡ chunk_text source number events

-- ---- from words to events
-- the bits of a word from one place on, so many
abbrev pub bits : ℕ → ℕ → ℕ → ℕ
bits word from count = word / 2 ^ from % 2 ^ count

abbrev pub set_of : ℕ → Set
set_of n = if n == 1 then R else (if n == 2 then W else Rw)

abbrev pub op_of : ℕ → Set → Set → Op
op_of n pred succ =
    if n == 1 then Load else (if n == 2 then Store else (if n == 3 then Lr else (if n == 4 then Sc else (
    if n == 5 then ScFailed else (if n == 6 then Amo else (if n == 7 then Fence pred succ else (
    if n == 8 then FenceTso else (if n == 9 then Branch else Carrier))))))))

abbrev pub kind_of : ℕ → DepKind
kind_of n = if n == 1 then Addr else (if n == 2 then DataOf else Ctrl)

abbrev pub dep_of : ℕ → Dep
dep_of n = record { kind = kind_of (bits n 30 2); seq = bits n 0 30 }

-- the dependencies before the first zero
abbrev pub deps_of : List ℕ → List Dep
deps_of [] = []
deps_of (n ∷ ns) = if n == 0 then [] else (dep_of n ∷ deps_of ns)

-- the eight halves of four words
abbrev pub halves : List ℕ → List ℕ
halves [] = []
halves (w ∷ ws) = bits w 0 32 ∷ bits w 32 32 ∷ halves ws

abbrev pub head_op : ℕ → Op
head_op w = op_of (bits w 8 4) (set_of (bits w 12 2)) (set_of (bits w 14 2))

-- the last four of seven words
abbrev pub dep_halves : List ℕ → List ℕ
dep_halves ws = halves (slice_index ws 3 ∷ slice_index ws 4 ∷ slice_index ws 5 ∷ slice_index ws 6 ∷ [])

-- the event of seven words
abbrev pub event_of : List ℕ → Event
event_of ws = record {
  id = record { hart = bits (slice_index ws 0) 0 8; seq = bits (slice_index ws 1) 0 32 };
  op = head_op (slice_index ws 0);
  word = bits (slice_index ws 1) 32 32;
  read = bits (slice_index ws 2) 0 32;
  wrote = bits (slice_index ws 2) 32 32;
  acquire = bits (slice_index ws 0) 16 1 == 1;
  release = bits (slice_index ws 0) 17 1 == 1;
  deps = deps_of (dep_halves ws);
}

-- the events of so many blocks of seven words
abbrev pub events_from : ℕ → List ℕ → List Event
events_from zero ws = []
events_from (suc k) ws = event_of ws ∷ events_from k (drop 7 ws)

abbrev pub source_of : List ℕ → ℕ
source_of ws = bits (slice_index ws 0) 0 3

abbrev pub number_of : List ℕ → ℕ
number_of ws = bits (slice_index ws 0) 32 32

abbrev pub count_of : List ℕ → ℕ
count_of ws = bits (slice_index ws 1) 0 4

abbrev pub events_of : List ℕ → List Event
events_of ws = events_from (count_of ws) (drop 2 ws)

-- ---- the test: written anew from what it says, a chunk text is the same
abbrev pub rewritten : List ℕ → List ℕ
rewritten ws = chunk_text (source_of ws) (number_of ws) (events_of ws)

abbrev pub is_chunk_text : List ℕ → Bool
is_chunk_text ws = nat_le 1 (count_of ws) && (nat_le (count_of ws) 8 && pointwise nat_eq ws (rewritten ws))
