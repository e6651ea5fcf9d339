-- Rows of a table that grow at their ends.
use Rattle.rv_rank.proofs.Common.{rules, ◌≡◌, ◌≢◌, ℕ, ◌+◌, ◌-◌, ◌<◌, ◌≤◌, List, [], ◌∷◌, ◌++◌, length, get_or}
use Rattle.rv_rank.proofs.Common.{set, take, map, inl, inr, refl, sym, ◌∙◌, arith, ap, subst, All, Contains}
use Rattle.rv_rank.proofs.Common.{get_or-set_same, get_or-set_other, length-set, map-set, set-get_or, get_or-map}
use Rattle.rv_rank.proofs.Common.{length-map, All-more, All-weaker, cases_eq, common_steps, Neighbours}
use Rattle.rv_rank.proofs.Common.{outgoing_of, incoming_of, rooms_of, degree, HasRoom, KeepsRoom, IsAppended}
use Rattle.rv_rank.proofs.Common.{EndsIn, row_of, rows_of, other, Side, Incoming, Outgoing}
use Rattle.rv_rank.proofs.Lists.{Contains-take_more, Contains-take_kept, Contains-take_last, contains_cases}

-- a write that leaves what f reads
pub map_set_same : {X Y : Type 0} (f : X → Y) (xs : List X) (i : ℕ) (v d : X) (e : Y) → i < length xs →
    f v ≡ f (get_or xs i d) → map f (set xs i v) ≡ map f xs
map_set_same f xs i v d e l q =
    map-set f xs i v ∙ ap (λ y. set (map f xs) i y) (q ∙ sym (get_or-map f xs i d e l)) ∙ set-get_or (map f xs) i e

-- a row that was lengthened
pub IsAppended-more : (old new : List (List ℕ)) (places : List ℕ) (item i : ℕ) →
    IsAppended old new (take i places) item → i < length places → get_or places i 0 < length new →
    (Contains (take i places) (get_or places i 0) → ⊥) →
    IsAppended old (set new (get_or places i 0) (get_or new (get_or places i 0) [] ++ item ∷ []))
    (take (i + 1) places) item
IsAppended-more old new places item i h l b n =
    let p = get_or places i 0 in
    let row = get_or new p [] ++ item ∷ [] in
    let same = get_or-set_same new p row [] b in
    let other : (a : ℕ) → a ≢ p → get_or (set new p row) a [] ≡ get_or new a [] =
    λ a m. get_or-set_other new p a row [] m in
    record {
      long = length-set new p row ∙ h.long;
      here = λ a k w. elim (Contains-take_more places i a l w) [
        | inl v ↦ let m : a ≢ p = λ e. n (rw e at v) in other a m ∙ h.here a k v
        | inr e ↦ ap (λ x. get_or (set new p row) x []) (sym e) ∙ same ∙ ap (λ r. r ++ item ∷ []) (h.other p n ∙
            ap (λ x. get_or old x []) e)
      ];
      other = λ a m.
          let apart : a ≢ p = λ e. m (rw e (Contains-take_last places i l)) in
          other a apart ∙ h.other a (λ v. m (Contains-take_kept places i a l v));
    }

-- a row that was lengthened before
pub IsAppended-skip : (old new : List (List ℕ)) (places : List ℕ) (item i : ℕ) →
    IsAppended old new (take i places) item → i < length places → Contains (take i places) (get_or places i 0) →
    IsAppended old new (take (i + 1) places) item
IsAppended-skip old new places item i h l v = record {
  long = h.long;
  here = λ a k w. elim (Contains-take_more places i a l w) [
    | inl u ↦ h.here a k u
    | inr e ↦ h.here a k (subst (Contains (take i places)) e v)
  ];
  other = λ a m. h.other a (λ u. m (Contains-take_kept places i a l u));
}

-- a row ends in what was appended
pub EndsIn-append : (row : List ℕ) (item : ℕ) → EndsIn (row ++ item ∷ []) item
EndsIn-append row item = grind (arith, common_steps)

-- a row of smaller numbers doesn't end in the item
pub not_EndsIn : (row : List ℕ) (item : ℕ) → All (λ a. a < item) row → EndsIn row item → ⊥
not_EndsIn row item h e = let b = h (length row - 1) 0 (omega (arith, e.0)) in omega (arith, e.1)

-- a write that leaves the room
pub KeepsRoom-set : (old rows : List Neighbours) (p : ℕ) (v d : Neighbours) → KeepsRoom old rows →
    p < length rows → (get_or rows p d).room ≤ v.room → KeepsRoom old (set rows p v)
KeepsRoom-set old rows p v d h l m a =
    grind (
      arith,
      common_steps,
      map-set,
      cases_eq,
      get_or-set_same,
      length-map,
      get_or-map,
      get_or-set_other,
    )

-- room where it was made
pub HasRoom-set : (rows : List Neighbours) (p more : ℕ) (v : Neighbours) → p < length rows →
    degree v + more ≤ v.room → HasRoom (set rows p v) more p
HasRoom-set rows p more v l h =
    let f : Neighbours → List ℕ = λ n. n.incoming in
    let g : Neighbours → List ℕ = λ n. n.outgoing in
    let r : Neighbours → ℕ = λ n. n.room in
    let at = get_or-set_same rows p v v l in
    let within : p < length (set rows p v) = omega (arith, length-set rows p v) in
    let i : get_or (map f (set rows p v)) p [] ≡ v.incoming =
    get_or-map f (set rows p v) p v [] within ∙ ap f at in
    let o : get_or (map g (set rows p v)) p [] ≡ v.outgoing =
    get_or-map g (set rows p v) p v [] within ∙ ap g at in
    let k : get_or (map r (set rows p v)) p 0 ≡ v.room =
    get_or-map r (set rows p v) p v 0 within ∙ ap r at in
    rw (i, o, k) h

-- there is still room for one in the other row
pub HasRoom-less : (old new : List Neighbours) (places : List ℕ) (item a : ℕ) →
    IsAppended (outgoing_of old) (outgoing_of new) places item → incoming_of new ≡ incoming_of old →
    get_or (rooms_of old) a 0 ≤ get_or (rooms_of new) a 0 → a < length old → HasRoom old 2 a → HasRoom new 1 a
HasRoom-less old new places item a h i k l room = grind (arith, common_steps)

-- room is the same from either side
pub room_by_side : (side : Side) (nodes : List Neighbours) (a : ℕ) → HasRoom nodes 1 a →
    (length (get_or (rows_of side nodes) a []) + length (get_or (rows_of (other side) nodes) a [])) + 1
    ≤ get_or (rooms_of nodes) a 0
room_by_side Incoming nodes a h = h
room_by_side Outgoing nodes a h = omega (arith, h)

-- and so is how many neighbours a node has
pub degree_by_side : (side : Side) (n : Neighbours) →
    length (row_of side n) + length (row_of (other side) n) ≡ degree n
degree_by_side Incoming n = refl
degree_by_side Outgoing n = omega arith

-- the nodes at the first i places have room for so many neighbours more
pub record IsRoomy (old rows : List Neighbours) (places : List ℕ) (more i : ℕ) : Type 0 where
  pub outgoing : outgoing_of rows ≡ outgoing_of old
  pub incoming : incoming_of rows ≡ incoming_of old
  pub kept : KeepsRoom old rows
  pub room : All (HasRoom rows more) (take i places)

-- a node that was given room
pub IsRoomy-set : (old rows : List Neighbours) (places : List ℕ) (more i p : ℕ) (v d : Neighbours) →
    IsRoomy old rows places more i → p < length rows → v.outgoing ≡ (get_or rows p d).outgoing →
    v.incoming ≡ (get_or rows p d).incoming → (get_or rows p d).room ≤ v.room →
    IsRoomy old (set rows p v) places more i
IsRoomy-set old rows places more i p v d h l o n k =
    search (map_set_same, KeepsRoom-set, All-weaker, rules)

-- one place more has room
pub IsRoomy-more : (old rows : List Neighbours) (places : List ℕ) (more i : ℕ) (v d : Neighbours) →
    IsRoomy old rows places more i → i < length places → get_or places i 0 < length rows →
    v.outgoing ≡ (get_or rows (get_or places i 0) d).outgoing →
    v.incoming ≡ (get_or rows (get_or places i 0) d).incoming →
    (get_or rows (get_or places i 0) d).room ≤ v.room → degree v + more ≤ v.room →
    IsRoomy old (set rows (get_or places i 0) v) places more (i + 1)
IsRoomy-more old rows places more i v d h m l o n k r =
    let p = get_or places i 0 in
    let s = IsRoomy-set old rows places more i p v d h l o n k in
    record {
      outgoing = s.outgoing;
      incoming = s.incoming;
      kept = s.kept;
      room = All-more (HasRoom (set rows p v) more) places i 0 m s.room (HasRoom-set rows p more v l r);
    }

-- f's rows at the first i places have been lengthened, and g's rows are as they were
pub record IsFilling (f g : Neighbours → List ℕ) (old rows : List Neighbours) (places : List ℕ) (item i : ℕ) :
    Type 0 where
  pub appended : IsAppended (map f old) (map f rows) (take i places) item
  pub same : map g rows ≡ map g old
  pub kept : KeepsRoom old rows

module _
    (f g : Neighbours → List ℕ) (old rows : List Neighbours) (places : List ℕ) (item i : ℕ) (d : Neighbours)
    (filling : IsFilling f g old rows places item i) (within : get_or places i 0 < length rows) where
  row_at : get_or (map f rows) (get_or places i 0) [] ≡ f (get_or rows (get_or places i 0) d)
  row_at = get_or-map f rows (get_or places i 0) d [] within

  -- a row that does not end in the item was not lengthened
  pub not_yet : (EndsIn (f (get_or rows (get_or places i 0) d)) item → ⊥) →
      Contains (take i places) (get_or places i 0) → ⊥
  not_yet n w =
      let p = get_or places i 0 in
      let q = sym row_at ∙ filling.appended.here p
      (omega (arith, length-map rows f, filling.appended.long, within)) w in
      n (rw q (EndsIn-append (get_or (map f old) p []) item))

  -- so it has the room that it had
  pub room_at : (Contains (take i places) (get_or places i 0) → ⊥) →
      (length (get_or (map f old) (get_or places i 0) []) + length (get_or (map g old) (get_or places i 0) []))
      + 1 ≤ get_or (rooms_of old) (get_or places i 0) 0 →
      length (f (get_or rows (get_or places i 0) d)) + length (g (get_or rows (get_or places i 0) d))
      < (get_or rows (get_or places i 0) d).room
  room_at n room = grind (arith, common_steps)

  -- one row more
  pub Filling-more : (v : Neighbours) → i < length places →
      f v ≡ f (get_or rows (get_or places i 0) d) ++ item ∷ [] →
      g v ≡ g (get_or rows (get_or places i 0) d) → (get_or rows (get_or places i 0) d).room ≤ v.room →
      (Contains (take i places) (get_or places i 0) → ⊥) →
      IsFilling f g old (set rows (get_or places i 0) v) places item (i + 1)
  Filling-more v l e s k n =
      let p = get_or places i 0 in
      let q : map f (set rows p v) ≡ set (map f rows) p (get_or (map f rows) p [] ++ item ∷ []) =
      map-set f rows p v ∙ ap (λ x. set (map f rows) p x) (e ∙ ap (λ x. x ++ item ∷ []) (sym row_at)) in
      record {
        appended =
            rw q (IsAppended-more (map f old) (map f rows) places item i filling.appended l
            (omega (arith, length-map rows f, within)) n);
        same = map_set_same g rows p v d [] within s ∙ filling.same;
        kept = KeepsRoom-set old rows p v d filling.kept within k;
      }

  -- a row that was lengthened before
  pub Filling-skip : i < length places → All (λ row. All (λ a. a < item) row) (map f old) →
      EndsIn (f (get_or rows (get_or places i 0) d)) item → IsFilling f g old rows places item (i + 1)
  Filling-skip l fresh ends =
      let p = get_or places i 0 in
      elim (contains_cases (take i places) p) [
        | inl w ↦ record {
          appended = IsAppended-skip (map f old) (map f rows) places item i filling.appended l w;
          same = filling.same;
          kept = filling.kept;
        }
        | inr n ↦
            let here : f (get_or rows p d) ≡ get_or (map f old) p [] =
            sym row_at ∙ filling.appended.other p n in
            let below = fresh p []
            (omega (arith, length-map rows f, filling.appended.long, within)) in
            absurd (not_EndsIn (get_or (map f old) p []) item below (rw here at ends))
      ]
