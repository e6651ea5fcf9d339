-- The parts of a line, one after another.
use Rattle.std.proofs.Common.{◌≡◌, ◌<◌, ◌≤◌, ◌+◌, ◌∙◌, ℕ, List, [], ◌∷◌, ◌++◌, All, String, ap, get_or, length, map}
use Rattle.std.proofs.Common.{string_bytes, subst, sym, take}
use Rattle.std.specs.Global.{Global}
use Rattle.std.specs.List.{Contains}
use Rattle.std.proofs.lemmas.List.{map-append, take_all, take_more}
use Rattle.std.proofs.lemmas.List.Elements.{All-append, All-cons, All-nil}
use Rattle.rv_list.specs.Names.{AreNames, IsName, IsNameFault, IsNamesFault, parts}
use Rattle.rv_list.specs.declared.names.NamesFault.{NamesFault}
use Rattle.rv_list.specs.declared.names.NamesFault.TheVariants as fault

-- the part at a place
abbrev pub IsPart : List (List ℕ) → ℕ → List ℕ → Type 0
IsPart ps i p = (i < length ps) × (p ≡ get_or ps i p)

grown : (names new : List (String Global)) (name : String Global) (part : List ℕ) → new ≡ names ++ name ∷ [] →
    string_bytes name ≡ part → map string_bytes new ≡ map string_bytes names ++ part ∷ []
grown names new name part is same =
    ap (map string_bytes) is ∙ map-append string_bytes names (name ∷ [])
    ∙ ap (λ (p : List ℕ). map string_bytes names ++ p ∷ []) same

-- a name more
pub names-more : (ps : List (List ℕ)) (names new : List (String Global)) (name : String Global) (k m : ℕ)
    (part : List ℕ) → map string_bytes names ≡ take k ps → IsPart ps k part → new ≡ names ++ name ∷ [] →
    string_bytes name ≡ part → m ≡ k + 1 → map string_bytes new ≡ take m ps
names-more ps names new name k m part so_far at is same next =
    grown names new name part is same ∙ ap (λ (l : List (List ℕ)). l ++ part ∷ []) so_far
    ∙ sym (ap (λ (n : ℕ). take n ps) next ∙ take_more ps k part at.0
    ∙ ap (λ (p : List ℕ). take k ps ++ p ∷ []) (sym at.1))

pub names-good : (names new : List (String Global)) (name : String Global) (part : List ℕ) →
    All IsName (map string_bytes names) → new ≡ names ++ name ∷ [] → string_bytes name ≡ part → IsName part →
    All IsName (map string_bytes new)
names-good names new name part all is same good =
    subst (All IsName) (sym (grown names new name part is same))
    (All-append IsName (map string_bytes names) (part ∷ []) all (All-cons IsName part [] good (All-nil IsName)))

-- a part that is no name
pub part-fault : (line part : List ℕ) (k : ℕ) (f : NamesFault) → IsPart (parts line) k part → IsNameFault part f →
    IsNamesFault line f
part-fault line part k fault.NotText at bad = (part, (k, at.0, sym at.1), bad)
part-fault line part k fault.Empty at bad = subst (Contains (parts line)) bad (k, at.0, sym at.1)
part-fault line part k fault.TooMany at bad = absurd bad
part-fault line part k fault.NoMemory at bad = tt

-- all parts are names
pub names-all : (line : List ℕ) (names : List (String Global)) (k : ℕ) →
    map string_bytes names ≡ take k (parts line) → length (parts line) ≤ k → All IsName (map string_bytes names) →
    length (map string_bytes names) ≤ 8 → AreNames line (map string_bytes names)
names-all line names k are end all few = (are ∙ take_all k (parts line) end, few, all)
