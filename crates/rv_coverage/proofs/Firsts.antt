-- Lists of loads that wait, as they grow with the entries and the harts.
use Rattle.std.proofs.Common.{◌≡◌, ℕ, ◌+◌, ◌<◌, List, [], ◌∷◌, ◌++◌, Bool, true, false, length, take, map}
use Rattle.std.proofs.Common.{filter, get_or, ap, sym, ◌∙◌, arith}
use Rattle.std.specs.List.{flat_map}
use Rattle.std.proofs.lemmas.Grind.{common_steps, flat_map-append}
use Rattle.std.proofs.lemmas.List.{take_more}
use Rattle.rv_event.specs.declared.event.Entry.{Entry}
use Rattle.rv_coverage.specs.Waits.{wait_of}
use Rattle.rv_coverage.specs.declared.waiting.Wait.{Wait}

abbrev found : (Entry → Bool) → List Entry → List Wait
found p log = map (λ x. wait_of x.event) (filter p log)

-- an entry more is found where it is one of them
found-push : (p : Entry → Bool) (log : List Entry) (x : Entry) → p x ≡ true →
    found p (log ++ x ∷ []) ≡ found p log ++ wait_of x.event ∷ []
found-push p [] x is_one = grind (arith, common_steps)
found-push p (y ∷ log) x is_one = grind (arith, common_steps, found-push p log x is_one)

-- and else not
found-skip : (p : Entry → Bool) (log : List Entry) (x : Entry) → p x ≡ false →
    found p (log ++ x ∷ []) ≡ found p log
found-skip p [] x is_none = grind (arith, common_steps)
found-skip p (y ∷ log) x is_none = grind (arith, common_steps, found-skip p log x is_none)

-- the entries of a log so far, with the next one
next : (log : List Entry) (i : ℕ) (x : Entry) → i < length log → x ≡ get_or log i x →
    take (i + 1) log ≡ take i log ++ x ∷ []
next log i x low is = take_more log i x low ∙ ap (λ (y : Entry). take i log ++ y ∷ []) (sym is)

pub grows-yes : (p : Entry → Bool) (log : List Entry) (i : ℕ) (x : Entry) (start now more : List Wait) →
    i < length log → x ≡ get_or log i x → p x ≡ true → now ≡ start ++ found p (take i log) →
    more ≡ now ++ wait_of x.event ∷ [] → more ≡ start ++ found p (take (i + 1) log)
grows-yes p log i x start now more low is is_one before pushed =
    grind (arith, common_steps, next log i x low is, found-push p (take i log) x is_one)

pub grows-no : (p : Entry → Bool) (log : List Entry) (i : ℕ) (x : Entry) (start now : List Wait) →
    i < length log → x ≡ get_or log i x → p x ≡ false → now ≡ start ++ found p (take i log) →
    now ≡ start ++ found p (take (i + 1) log)
grows-no p log i x start now low is is_none before =
    grind (arith, common_steps, next log i x low is, found-skip p (take i log) x is_none)

-- a hart's stand behind those of the harts before it
pub harts-more : (f : ℕ → List Wait) (harts : List ℕ) (i h d : ℕ) (now more : List Wait) → i < length harts →
    h ≡ get_or harts i d → now ≡ flat_map f (take i harts) → more ≡ now ++ f h →
    more ≡ flat_map f (take (i + 1) harts)
harts-more f harts i h d now more low is before pushed =
    grind (arith, common_steps, take_more harts i d low, flat_map-append f (take i harts) (h ∷ []))
