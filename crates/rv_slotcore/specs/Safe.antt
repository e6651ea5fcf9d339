-- Safety, and the law over every list of steps.
use Rattle.std.specs.Prelude.{◌≡◌, ℕ, ◌≤◌, true, List, Contains}
use Rattle.rv_slotcore.specs.Places.{seats_at_most}
use Rattle.rv_slotcore.specs.Machine.{Pinned, Record}
use Rattle.rv_slotcore.specs.Machine.{Core, Step, start, run}

-- while a seat is pinned, its slot is full, of the pinned generation, with the pinned content
abbrev pub Protected : Core → Type 0
Protected c = (s i g : ℕ) (w : List ℕ) → (c.seats s).state ≡ Pinned i g w →
    ((c.slots i).full ≡ true) × ((c.slots i).generation ≡ g) × ((c.slots i).content ≡ w)

-- two records of one slot and generation have one content
abbrev pub Agreeing : Core → Type 0
Agreeing c = (s t : ℕ) (r q : Record)
    → Contains (c.seats s).records r → Contains (c.seats t).records q
    → r.slot ≡ q.slot → r.generation ≡ q.generation → r.content ≡ q.content

-- no record of a slot is of a generation above the slot's own
abbrev pub Dated : Core → Type 0
Dated c = (s : ℕ) (r : Record)
    → Contains (c.seats s).records r → r.generation ≤ (c.slots r.slot).generation

abbrev pub IsSafe : Core → Type 0
IsSafe c = Protected c × Agreeing c × Dated c

-- every list of steps leads from the start, over any number of slots, to a safe state
abbrev pub SlotsAreSafe : Type 0
SlotsAreSafe = (n m : ℕ) (steps : List Step) → m ≤ seats_at_most → IsSafe (run steps (start n m))
