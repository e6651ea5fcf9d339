-- What every step keeps.
use Rattle.rv_slotcore.proofs.Common.{seats_at_most, ◌≡◌, ℕ, suc, ◌<◌, ◌≤◌, Bool, true, false, ◌==◌, List, [], ◌∷◌}
use Rattle.rv_slotcore.proofs.Common.{length, get_or, replicate, Option, Some, None, Contains, sym, refl, ap, ◌∙◌}
use Rattle.rv_slotcore.proofs.Common.{arith, common_steps, Slot, SeatState, Idle, Filling, Pinned, Stray, Seat}
use Rattle.rv_slotcore.proofs.Common.{Core, put_at, all_put, put_words}
use Rattle.rv_slotcore.specs.Machine.{Record}

-- the seat's own bit is set on this slot
abbrev pub on : SeatState → ℕ → Bool
on Idle i = false
on (Filling k p) i = false
on (Pinned k g w) i = i == k
on (Stray k) i = i == k

-- the words that were put stand in the content
abbrev pub PutIn : List (Option ℕ) → List ℕ → Type 0
PutIn p c = (j w : ℕ) → get_or p j None ≡ Some w → get_or c j 0 ≡ w

-- a full slot is claimed, and a done one is full
pub record Flags (claimed full done : ℕ → Bool) : Type 0 where
  pub order : (i : ℕ) → full i ≡ true → claimed i ≡ true
  pub ended : (i : ℕ) → done i ≡ true → full i ≡ true

-- a slot's pins are the seats that stand on it
pub record PinsAre (m : ℕ) (pins : ℕ → ℕ → Bool) (state : ℕ → SeatState) : Type 0 where
  pub each : (i s : ℕ) → pins i s ≡ on (state s) i
  pub rest : (s : ℕ) → m ≤ s → state s ≡ Idle
  pub few : m ≤ seats_at_most

-- a slot that is being filled is claimed and not full, with the words that were put
pub record Fills (m : ℕ) (claimed full : ℕ → Bool) (content : ℕ → List ℕ)
    (state : ℕ → SeatState) : Type 0 where
  pub fills : (s i : ℕ) (p : List (Option ℕ)) → state s ≡ Filling i p → (claimed i ≡ true) ×
      (full i ≡ false) × (length p ≡ 58) × PutIn p (content i)
  pub one : (s t i : ℕ) (p q : List (Option ℕ)) → state s ≡ Filling i p → state t ≡ Filling i q → s
      ≡ t
  pub filled : (i : ℕ) → claimed i ≡ true → full i ≡ false → (s : ℕ) × (p : List (Option ℕ)) ×
      (s < m) × (state s ≡ Filling i p)
  pub long : (i : ℕ) → length (content i) ≡ 58

-- a pinned slot is full, as its seat knows it
pub record Holds (full : ℕ → Bool) (generation : ℕ → ℕ) (content : ℕ → List ℕ)
    (state : ℕ → SeatState) (records : ℕ → List Record) : Type 0 where
  pub pinned : (s i g : ℕ) (w : List ℕ) → state s ≡ Pinned i g w
      → (full i ≡ true) × (generation i ≡ g) × (content i ≡ w) × (rest : List Record) ×
      (records s ≡ record { slot = i; generation = g; content = w } ∷ rest)

-- records of one fill agree, and are of no later generation
pub record Recorded (m : ℕ) (full : ℕ → Bool) (generation : ℕ → ℕ) (content : ℕ → List ℕ)
    (records : ℕ → List Record) : Type 0 where
  pub dated : (s : ℕ) (r : Record) → Contains (records s) r → (r.generation ≤ generation r.slot) ×
      (r.generation ≡ generation r.slot → (full r.slot ≡ true) × (content r.slot ≡ r.content))
  pub agree : (s t : ℕ) (r q : Record) → Contains (records s) r → Contains (records t) q → r.slot
      ≡ q.slot → r.generation ≡ q.generation → r.content ≡ q.content
  pub kept : (i : ℕ) → full i ≡ true → (s : ℕ) × (r : Record) × (s < m) × Contains (records s) r ×
      (r.slot ≡ i) × (r.generation ≡ generation i)

module _ (m : ℕ) (slots : ℕ → Slot) (seats : ℕ → Seat) where
  -- the slots' flags agree
  abbrev pub FlagsOf : Type 0
  FlagsOf = Flags (λ i. (slots i).claimed) (λ i. (slots i).full) (λ i. (slots i).done)

  -- the slots' pins are those that the seats hold
  abbrev pub PinsOf : Type 0
  PinsOf = PinsAre m (λ i. (slots i).pins) (λ s. (seats s).state)

  -- a slot that is being filled has the words that its seat has put
  abbrev pub FillsOf : Type 0
  FillsOf = Fills m (λ i. (slots i).claimed) (λ i. (slots i).full) (λ i. (slots i).content)
      (λ s. (seats s).state)

  -- a seat's records are those of the slot that it holds
  abbrev pub HoldsOf : Type 0
  HoldsOf = Holds (λ i. (slots i).full) (λ i. (slots i).generation) (λ i. (slots i).content)
      (λ s. (seats s).state) (λ s. (seats s).records)

  -- what the seats have recorded agrees with the slots
  abbrev pub RecordedOf : Type 0
  RecordedOf = Recorded m (λ i. (slots i).full) (λ i. (slots i).generation) (λ i. (slots i).content)
      (λ s. (seats s).records)

  -- all of these
  pub record SafeOf : Type 0 where
    pub flags : FlagsOf
    pub pins : PinsOf
    pub filling : FillsOf
    pub holding : HoldsOf
    pub records : RecordedOf

-- the core is safe
abbrev pub Safe : Core → Type 0
Safe c = SafeOf c.seat_count c.slots c.seats

-- ---- lists
pub in_head : (r : Record) (rs : List Record) → Contains (r ∷ rs) r
in_head r rs = (0, omega arith, refl)

-- what the rest contains the list contains
pub in_tail : (x r : Record) (rs : List Record) → Contains rs r → Contains (x ∷ rs) r
in_tail x r rs c = let h = c.1 in (suc c.0, omega arith, c.2)

-- so many words that were not put
abbrev pub nothing : ℕ → List (Option ℕ)
nothing n = replicate n None

-- where nothing was put no word is there
pub none_put : (n j w : ℕ) → get_or (nothing n) j None ≡ Some w → ⊥
none_put n j w e = grind (arith, common_steps)

-- words that are all put, and are the content's, are the content
pub whole_is : (p : List (Option ℕ)) (c : List ℕ) → all_put p ≡ true → length p ≡ length c
    → PutIn p c → put_words p ≡ c
whole_is [] [] a l h = refl
whole_is [] (x ∷ c) a l h = absurd (omega arith)
whole_is (o ∷ p) [] a l h = absurd (omega arith)
whole_is (None ∷ p) (x ∷ c) a l h = absurd (cc)
whole_is (Some w ∷ p) (x ∷ c) a l h = λ i. sym (h 0 w refl) i ∷ whole_is p c a (omega arith)
    (λ j v. h (suc j) v) i

-- ---- what a change of one slot or one seat leaves
module _ {A B : Type 0} (F : A → B) (f : ℕ → A) (i : ℕ) (x : A) (e : F x ≡ F (f i)) where
  -- a value that the write leaves, at one place
  pub same_at : (k : ℕ) → F (f k) ≡ F (put_at f i x k)
  same_at k = Rattle.rv_slotcore.proofs.Updates.put_cases (λ z. F (f k) ≡ F z) f i k x
      (λ d. ap (λ (u : ℕ). F (f u)) d ∙ sym e) (λ _. refl)

  -- and at all
  pub same_map : ◌≡◌ {A = ℕ → B} (λ k. F (f k)) (λ k. F (put_at f i x k))
  same_map = λ j k. same_at k j
