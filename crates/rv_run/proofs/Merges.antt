-- Entries of several sources, and merges of them.
use Rattle.rv_run.proofs.Common.{common_steps, rules, ◌≡◌, ℕ, suc, zero, ◌+◌, ◌<◌, ◌≤◌, ◌==◌, Bool, false, cond}
use Rattle.rv_run.proofs.Common.{List, [], ◌∷◌, ◌++◌, length, drop, get_or, All, ◌⊎◌, inl, inr, refl, sym, ap}
use Rattle.rv_run.proofs.Common.{◌∙◌, subst, append-nil, arith, eq-eqb, cases_lt, map-append, drop_at}
use Rattle.rv_run.proofs.Common.{filter-append, All-head, All-tail, All-append, All-nil, All-cons, events}
use Rattle.rv_run.proofs.Common.{from_source, SameSources, Event, Entry, given_by, IsPrefix}
use Rattle.rv_book.specs.Chunked.{entries_of}

-- the entries of the sources from a number on, one source after another
abbrev pub together : ℕ → List (List Event) → List Entry
together from [] = []
together from (es ∷ more) = entries_of from es ++ together (suc from) more

-- numbers that differ
pub apart : (a b : ℕ) → (a ≡ b → ⊥) → (a == b) ≡ false
apart a b differ = grind (arith, common_steps)

-- of a source's own entries all are from it, of another's none
own-entries : (source : ℕ) (es : List Event) → from_source source (entries_of source es) ≡ entries_of source es
own-entries source [] = refl
own-entries source (e ∷ es) =
    ap (λ (b : Bool). cond b (record { source = source; event = e } ∷ from_source source (entries_of source es))
    (from_source source (entries_of source es))) (eq-eqb source source refl)
    ∙ ap (λ (l : List Entry). record { source = source; event = e } ∷ l) (own-entries source es)

pub other-entries : (source other : ℕ) (es : List Event) → (source ≡ other → ⊥) →
    from_source source (entries_of other es) ≡ []
other-entries source other [] differ = refl
other-entries source other (e ∷ es) differ =
    ap (λ (b : Bool). cond b (record { source = other; event = e } ∷ from_source source (entries_of other es))
    (from_source source (entries_of other es))) (apart source other differ)
    ∙ other-entries source other es differ

given-one : (source : ℕ) (x : Entry) (log : List Entry) (b : Bool) → (source == x.source) ≡ b →
    from_source source log ≡ entries_of source (given_by source log) →
    cond b (x ∷ from_source source log) (from_source source log) ≡ entries_of source
    (events (cond b (x ∷ from_source source log) (from_source source log)))
given-one source x log b h l = grind (arith, common_steps)

-- the entries from a source are those of its events
pub from-given : (source : ℕ) (log : List Entry) → from_source source log ≡ entries_of source (given_by source log)
from-given source [] = refl
from-given source (x ∷ log) = given-one source x log (source == x.source) refl (from-given source log)

-- a source below the first has none, nor has one behind the last
pub before-together : (source from : ℕ) (ess : List (List Event)) → source < from →
    from_source source (together from ess) ≡ []
before-together source from [] low = refl
before-together source from (es ∷ more) low =
    filter-append (λ (x : Entry). source == x.source) (entries_of from es) (together (suc from) more)
    ∙ ap (λ (l : List Entry). l ++ from_source source (together (suc from) more))
    (other-entries source from es (λ same. absurd (omega (arith, same, low))))
    ∙ before-together source (suc from) more (omega (arith, low))

-- a source behind all others has given nothing
pub behind-together : (source from : ℕ) (ess : List (List Event)) → from + length ess ≤ source →
    from_source source (together from ess) ≡ []
behind-together source from [] high = refl
behind-together source from (es ∷ more) high =
    filter-append (λ (x : Entry). source == x.source) (entries_of from es) (together (suc from) more)
    ∙ ap (λ (l : List Entry). l ++ from_source source (together (suc from) more))
    (other-entries source from es (λ same. absurd (omega (arith, same, high))))
    ∙ behind-together source (suc from) more (omega (arith, high))

-- and one of them has its own
pub in-together : (k from : ℕ) (ess : List (List Event)) → k < length ess →
    from_source (from + k) (together from ess) ≡ entries_of (from + k) (get_or ess k [])
in-together k from [] low = absurd (omega (arith, low))
in-together zero from (es ∷ more) low =
    let same : from ≡ from + 0 = omega arith in
    subst (λ (n : ℕ). from_source n (together from (es ∷ more)) ≡ entries_of n es) same
    (filter-append (λ (x : Entry). from == x.source) (entries_of from es) (together (suc from) more)
    ∙ ap (λ (l : List Entry). l ++ from_source from (together (suc from) more)) (own-entries from es)
    ∙ ap (λ (l : List Entry). entries_of from es ++ l) (before-together from (suc from) more (omega arith)) ∙
    append-nil (entries_of from es))
in-together (suc k) from (es ∷ more) low =
    let same : suc from + k ≡ from + suc k = omega arith in
    subst (λ (n : ℕ). from_source n (together from (es ∷ more)) ≡ entries_of n (get_or more k [])) same
    (filter-append (λ (x : Entry). (suc from + k) == x.source) (entries_of from es) (together (suc from) more)
    ∙ ap (λ (l : List Entry). l ++ from_source (suc from + k) (together (suc from) more))
    (other-entries (suc from + k) from es (λ same. absurd (omega (arith, same))))
    ∙ in-together k (suc from) more (omega (arith, low)))

-- a log of such sources has no entry from a later one
pub none-behind : (source count : ℕ) (log : List Entry) → All (λ x. x.source < count) log → count ≤ source →
    from_source source log ≡ []
none-behind source count [] all high = refl
none-behind source count (x ∷ log) all high =
    ap (λ (b : Bool). cond b (x ∷ from_source source log) (from_source source log))
    (apart source x.source (λ same. absurd
    (omega (arith, same, All-head (λ (y : Entry). y.source < count) x log all, high))))
    ∙ none-behind source count log (All-tail (λ (y : Entry). y.source < count) x log all) high

-- a log that has the events of each of these sources, and no others, is a merge of them
pub merge-of : (log : List Entry) (ess : List (List Event)) → All (λ x. x.source < length ess) log →
    ((i : ℕ) → i < length ess → given_by i log ≡ get_or ess i []) → SameSources log (together 0 ess)
merge-of log ess all each source = elim (cases_lt source (length ess)) [
  | inl low ↦ (let same : 0 + source ≡ source = omega arith in
      from-given source log ∙ ap (entries_of source) (each source low) ∙
      sym (subst (λ (n : ℕ). from_source n (together 0 ess) ≡ entries_of n (get_or ess source [])) same
      (in-together source 0 ess low)))
  | inr high ↦ none-behind source (length ess) log all high ∙ sym (behind-together source 0 ess (omega (arith, high)))
]

-- what is left of each source behind a log
abbrev lefts : ℕ → List Entry → List (List Event) → List (List Event)
lefts from log [] = []
lefts from log (es ∷ more) = drop (length (given_by from log)) es ∷ lefts (suc from) log more

length-lefts : (from : ℕ) (log : List Entry) (ess : List (List Event)) → length (lefts from log ess) ≡ length ess
length-lefts from log [] = refl
length-lefts from log (es ∷ more) = ap suc (length-lefts (suc from) log more)

lefts-at : (k from : ℕ) (log : List Entry) (ess : List (List Event)) → k < length ess →
    get_or (lefts from log ess) k [] ≡ drop (length (given_by (from + k) log)) (get_or ess k [])
lefts-at k from log [] low = absurd (omega (arith, low))
lefts-at zero from log (es ∷ more) low = let same : from ≡ from + 0 = omega arith in
    ap (λ (n : ℕ). drop (length (given_by n log)) es) same
lefts-at (suc k) from log (es ∷ more) low =
    let same : suc from + k ≡ from + suc k = omega arith in
    lefts-at k (suc from) log more (omega (arith, low)) ∙
    ap (λ (n : ℕ). drop (length (given_by n log)) (get_or more k [])) same

-- a log that has the first events of each of these sources, and no others, goes on to a merge of
-- them
pub record GoesOn (log : List Entry) (ess : List (List Event)) : Type 0 where
  pub more : List Entry
  pub merge : SameSources (log ++ more) (together 0 ess)

in-all : (k : ℕ) (ess : List (List Event)) → k < length ess → from_source k (together 0 ess) ≡ entries_of k
    (get_or ess k [])
in-all k ess low = grind (arith, common_steps, in-together)

left-all : (k : ℕ) (log : List Entry) (ess : List (List Event)) → k < length ess → get_or (lefts 0 log ess) k [] ≡ drop
    (length (given_by k log)) (get_or ess k [])
left-all k log ess low = search (lefts-at, rules)

-- merges of longer sources continue merges of their beginnings
pub goes-on : (log : List Entry) (ess : List (List Event)) → All (λ x. x.source < length ess) log →
    ((i : ℕ) → i < length ess → IsPrefix (given_by i log) (get_or ess i [])) → GoesOn log ess
goes-on log ess all each = record {
  more = together 0 (lefts 0 log ess);
  merge = λ source. filter-append (λ (x : Entry). source == x.source) log (together 0 (lefts 0 log ess)) ∙
      at source (cases_lt source (length ess));
}
  where
    at : (source : ℕ) → (source < length ess) ⊎ (length ess ≤ source) → from_source source log ++
        from_source source (together 0 (lefts 0 log ess)) ≡ from_source source (together 0 ess)
    at source (inl low) =
        let given = given_by source log in
        let prefix = each source low in
        ap (λ (l : List Entry). l ++ from_source source (together 0 (lefts 0 log ess))) (from-given source log)
        ∙ ap (λ (l : List Entry). entries_of source given ++ l)
        (in-all source (lefts 0 log ess) (omega (arith, low, length-lefts 0 log ess))
        ∙ ap (entries_of source) (left-all source log ess low ∙ ap (drop (length given)) prefix.1 ∙
        drop_at given prefix.0 (length given) refl))
        ∙ sym (map-append (λ (e : Event). record { source = source; event = e }) given prefix.0)
        ∙ ap (entries_of source) (sym prefix.1) ∙ sym (in-all source ess low)
    at source (inr high) =
        ap (λ (l : List Entry). l ++ from_source source (together 0 (lefts 0 log ess)))
        (none-behind source (length ess) log all high)
        ∙ behind-together source 0 (lefts 0 log ess) (omega (arith, high, length-lefts 0 log ess)) ∙
        sym (behind-together source 0 ess (omega (arith, high)))

pub low-entries : (source n : ℕ) (es : List Event) → source < n → All (λ x. x.source < n) (entries_of source es)
low-entries source n [] low = All-nil (λ (x : Entry). x.source < n)
low-entries source n (e ∷ es) low = All-cons (λ (x : Entry). x.source < n) (record { source = source; event = e })
    (entries_of source es) low (low-entries source n es low)

-- each of their entries is of one of them
pub low-together : (from n : ℕ) (ess : List (List Event)) → from + length ess ≤ n →
    All (λ x. x.source < n) (together from ess)
low-together from n [] few = All-nil (λ (x : Entry). x.source < n)
low-together from n (es ∷ more) few =
    All-append (λ (x : Entry). x.source < n) (entries_of from es) (together (suc from) more)
    (low-entries from n es (omega (arith, few)))
    (low-together (suc from) n more (omega (arith, few)))
