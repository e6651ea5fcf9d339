-- How `new` and `meet` move seats between views.
use Rattle.rv_slots.proofs.Common.{last_seat, seats_at_most, slot_words, ◌≡◌, ◌≢◌, ◌⊎◌, ℕ, zero, suc, ◌+◌, ◌*◌}
use Rattle.rv_slots.proofs.Common.{◌<◌, ◌≤◌, List, [], ◌∷◌, ◌++◌}
use Rattle.rv_slots.proofs.Common.{length, get_or, set, Contains, sym, refl, ap, ◌∙◌}
use Rattle.rv_slots.proofs.Common.{subst, arith, inl, inr, ⊎_elim, some, none, get_elem?, Me, step}
use Rattle.rv_slots.proofs.Common.{Allows, keeps, put_at}
use Rattle.rv_slots.proofs.Common.{after, put_here, put_else, View}
use Rattle.rv_slots.proofs.Common.{SeatView, At, Kept, RecordsFit, ◌-◌, pred}
use Rattle.rv_slots.proofs.Common.{◌==◌, if◌then◌else◌, eq-eqb, ne_eqb, replicate, cases_eq, common_steps, rules}
use Rattle.rv_slots.proofs.Common.{some-injective, some-ne-none, dite, ℕ_discrete, Splits, Joins, opening, at_set}
use Rattle.rv_slots.proofs.Common.{set_here, set_else, set_again, at_longer, at_last, IsSeated, opening_view}
use Rattle.rv_slots.proofs.Common.{the_view, cut_left, cut_right, joined, spent, fresh, fresh_seats, Meet}
use Rattle.rv_slots.proofs.Common.{meet_told}
use Rattle.rv_slots.proofs.Knowing.{safe_of, in_head, in_tail, fit_there}
use Rattle.rv_slots.proofs.Seating.{one, seat_is, there_below, at_one, only_first}
use Rattle.rv_slotcore.specs.Machine as core

-- the list is longer by one: where an element of it stands
pub in_longer : {A : Type 0} (l : List A) (a b : A) (k : ℕ) → get_elem? (l ++ a ∷ []) k ≡ some b →
    ((k ≡ length l) × (a ≡ b)) ⊎ ((k < length l) × (get_elem? l k ≡ some b))
in_longer [] a b zero e = inl (refl, some-injective a b e)
in_longer [] a b (suc k) e = absurd (some-ne-none b (sym e))
in_longer (x ∷ l) a b zero e = inr (omega arith, e)
in_longer (x ∷ l) a b (suc k) e = ⊎_elim (λ h. let n = h.0 in inl (omega arith, h.1))
    (λ h. let n = h.0 in inr (omega arith, h.1)) (in_longer l a b k e)

abbrev first_or : ℕ → ℕ → ℕ → ℕ
first_or zero a b = a
first_or (suc m) a b = b

-- ---- a view is cut behind its first seat
module _ (views : List View) (seat : ℕ → SeatView) (row column : ℕ → ℕ)
    (d : IsSeated views seat row column) (id : ℕ) (x : SeatView) (xs : List SeatView)
    (here : get_elem? views id ≡ some (record { seats = x ∷ xs })) where
  abbrev cut_row : ℕ → ℕ
  cut_row t = if row t == id then first_or (column t) id (length views) else row t

  abbrev cut_column : ℕ → ℕ
  cut_column t = if row t == id then pred (column t) else column t

  abbrev after_cut : List View
  after_cut = set views id (one x) ++ record { seats = xs } ∷ []

  same_length : length (set views id (one x)) ≡ length views
  same_length = Rattle.std.proofs.Common.length-set views id (one x)

  in_first : At after_cut id 0 x
  in_first = (
    one x,
    at_longer (set views id (one x)) (record { seats = xs } ∷ []) id (one x)
        (set_here views id (one x) (there_below views id (record { seats = x ∷ xs }) here)),
    refl,
  )

  in_rest : (m : ℕ) (p : SeatView) → get_elem? xs m ≡ some p → At after_cut (length views) m p
  in_rest m p e = (
    record { seats = xs },
    at_last (set views id (one x)) (record { seats = xs })
        (length views) same_length,
    e,
  )

  in_others : (k m : ℕ) (p : SeatView) → k ≢ id → At views k m p → At after_cut k m p
  in_others k m p n a = search (at_longer, one, set_else)

  -- a place in the row that is cut
  at_here : (m : ℕ) (p : SeatView) → At views id m p → get_elem? (x ∷ xs) m ≡ some p
  at_here m p a = grind (arith, common_steps)

  split_here : (m : ℕ) (p : SeatView) → get_elem? (x ∷ xs) m ≡ some p → At after_cut
      (first_or m id (length views)) (pred m) p
  split_here zero p e = subst (λ (z : SeatView). At after_cut id 0 z)
      (some-injective x p e) in_first
  split_here (suc m) p e = in_rest m p e

  -- the seats after a split are seated
  pub cut_seated : IsSeated after_cut seat cut_row cut_column
  cut_seated = record {
    there = λ t h. let a = d.there t h in dite (ℕ_discrete (row t) id)
        (λ e. subst (λ (z : ℕ × ℕ). At after_cut z.0 z.1 (seat t))
        (λ j. (
          if sym (eq-eqb (row t) id e) j then first_or (column t) id
              (length views) else row t,
          if sym (eq-eqb (row t) id e) j then pred
              (column t) else column t,
        ))
        (split_here (column t) (seat t) (at_here (column t) (seat t)
        (subst (λ (z : ℕ). At views z (column t) (seat t)) e a))))
        (λ n. subst (λ (z : ℕ × ℕ). At after_cut z.0 z.1 (seat t))
        (λ j. (
          if sym (ne_eqb (row t) id n) j then first_or (column t) id
              (length views) else row t,
          if sym (ne_eqb (row t) id n) j then pred
              (column t) else column t,
        ))
        (in_others (row t) (column t) (seat t) n a));
    named = d.named;
    only = λ k m p a. ⊎_elim (λ last. let e = ap (λ (v : View). get_elem? v.seats m) last.1 ∙ a.2 in
        let old = d.only id (suc m) p (record { seats = x ∷ xs }, here, e) in (
          old.0,
          (λ j. if eq-eqb (row p.number) id old.1 j then first_or (old.2 j) id
              (length views) else row p.number) ∙ sym (last.0 ∙ same_length),
          (λ j. if eq-eqb (row p.number) id old.1 j then pred
              (old.2 j) else column p.number),
        ))
        (λ early. ⊎_elim
        (λ new. let f = only_first x p m (ap (λ (v : View). get_elem? v.seats m) new.1 ∙ a.2) in
        let old = d.only id 0 p (record { seats = x ∷ xs }, here, ap some f.1) in (
          old.0,
          (λ j. if eq-eqb (row p.number) id old.1 j then first_or (old.2 j) id
              (length views) else row p.number) ∙ sym new.0,
          (λ j. if eq-eqb (row p.number) id old.1 j then pred
              (old.2 j) else column p.number) ∙ sym f.0,
        ))
        (λ was. let old = d.only k m p (a.0, was.1, a.2) in let n : row p.number ≢ id =
        (λ e. was.0 (sym old.1 ∙ e)) in (
          old.0,
          (λ j. if ne_eqb (row p.number) id n j then first_or (column p.number) id
              (length views) else row p.number) ∙ old.1,
          (λ j. if ne_eqb (row p.number) id n j then pred
              (column p.number) else column p.number) ∙ old.2,
        ))
        (at_set views id k (one x) a.0 early.1))
        (in_longer (set views id (one x)) (record { seats = xs }) a.0 k a.1);
  }

-- so a place may be split
pub cuts : (n id : ℕ) (v : View) (x : SeatView) (xs : List SeatView) → v
    ≡ record { seats = x ∷ xs } → Splits (Kept n) id v (cut_left v) (cut_right v)
cuts n id v x xs is s k at = let here : get_elem? s.views id ≡ some (record { seats = x ∷ xs }) =
    at ∙ ap some is in
    subst (λ (z : View). Kept n
    (record {
      words = s.words;
      homes = s.homes;
      views = set s.views id (cut_left z)
          ++ cut_right z ∷ [];
    })) (sym is)
    (record {
      core = k.core;
      reached = k.reached;
      counts = k.counts;
      table = k.table;
      seat = k.seat;
      row = cut_row s.views k.seat k.row k.column k.seated id x xs here;
      column = cut_column s.views k.seat k.row k.column k.seated id x xs here;
      seated = cut_seated s.views k.seat k.row k.column k.seated id x xs here;
      fits = k.fits;
      marked = k.marked;
      whole = k.whole;
    })

-- ---- two views of one seat are made one
module _ (views : List View) (seat : ℕ → SeatView) (row column : ℕ → ℕ)
    (d : IsSeated views seat row column) (id other : ℕ) (p q : SeatView)
    (here : get_elem? views id ≡ some (one p)) (apart : other ≢ id)
    (there : get_elem? views other ≡ some (one q)) where
  abbrev pair : View
  pair = record { seats = p ∷ q ∷ [] }

  abbrev after_glue : List View
  after_glue = set (set views id pair) other spent

  first : (p.number < seats_at_most) × (row p.number ≡ id) × (column p.number ≡ 0) ×
      (seat p.number ≡ p)
  first = seat_is views seat row column d id p here

  second : (q.number < seats_at_most) × (row q.number ≡ other) × (column q.number ≡ 0) ×
      (seat q.number ≡ q)
  second = seat_is views seat row column d other q there

  pair_at : get_elem? after_glue id ≡ some pair
  pair_at = set_else (set views id pair) other id spent (λ e. apart (sym e))
      ∙ set_here views id pair (there_below views id (one p) here)

  single : (k m : ℕ) (z w : SeatView) → get_elem? views k ≡ some (one w) → At views k m z →
      (m ≡ 0) × (w ≡ z)
  single k m z w e a = let same : a.0 ≡ one w = some-injective a.0 (one w) (sym a.1 ∙ e) in
      only_first w z m (ap (λ (v : View). get_elem? v.seats m) (sym same) ∙ a.2)

  kept_place : (t : ℕ) → t < seats_at_most → t ≢ q.number → At after_glue (row t) (column t)
      (seat t)
  kept_place t h n = let a = d.there t h in ⊎_elim
      (λ e. let f = single id (column t) (seat t) p here
      (subst (λ (z : ℕ). At views z (column t) (seat t)) e a) in
      subst (λ (z : ℕ × ℕ × SeatView). At after_glue z.0 z.1 z.2)
      (λ j. (sym e j, sym f.0 j, f.1 j)) (pair, pair_at, refl)) (λ ne. ⊎_elim
      (λ e. let f = single other (column t) (seat t) q there
      (subst (λ (z : ℕ). At views z (column t) (seat t)) e a) in absurd
      (n (sym (d.named t h) ∙ sym (ap (λ (z : SeatView). z.number) f.1))))
      (λ no_other. (
        a.0,
        set_else (set views id pair) other (row t) spent no_other ∙
            (set_else views id (row t) pair ne ∙ a.1),
        a.2,
      ))
      (cases_eq (row t) other)) (cases_eq (row t) id)

  two_there : (k m : ℕ) (z : SeatView) → k ≡ id → get_elem? (p ∷ q ∷ []) m ≡ some z →
      (z.number < seats_at_most) × (put_at row q.number id z.number ≡ k) ×
      (put_at column q.number 1 z.number ≡ m)
  two_there k zero z e f = grind (arith, common_steps, some-injective, first, second, put_else)
  two_there k (suc zero) z e f = grind (arith, common_steps, some-injective, second, put_here)
  two_there k (suc (suc m)) z e f = absurd (some-ne-none z (sym f))

  -- the seats after a join are seated
  pub glue_seated : IsSeated after_glue seat (put_at row q.number id) (put_at column q.number 1)
  glue_seated = record {
    there = λ t h. dite (ℕ_discrete t q.number)
        (λ e. subst (λ (z : ℕ × ℕ × SeatView). At after_glue z.0 z.1 z.2)
        (λ j. (
          (sym (put_here row q.number id) ∙ ap (put_at row q.number id) (sym e)) j,
          (sym (put_here column q.number 1) ∙ ap (put_at column q.number 1) (sym e)) j,
          (sym second.3 ∙ ap seat (sym e)) j,
        )) (pair, pair_at, refl))
        (λ n. subst (λ (z : ℕ × ℕ). At after_glue z.0 z.1 (seat t))
        (λ j. (sym (put_else row q.number t id n) j, sym (put_else column q.number t 1 n) j))
        (kept_place t h n));
    named = d.named;
    only = λ k m z a. ⊎_elim (λ gone. absurd
        (some-ne-none z (sym (ap (λ (v : View). get_elem? v.seats m) gone.1 ∙ a.2)))) (λ was. ⊎_elim
        (λ new. two_there k m z new.0 (ap (λ (v : View). get_elem? v.seats m) new.1 ∙ a.2))
        (λ old. let o = d.only k m z (a.0, old.1, a.2) in let n : z.number ≢ q.number =
        (λ g. was.0 (sym o.1 ∙ (ap row g ∙ second.1))) in (
          o.0,
          put_else row q.number z.number id n ∙ o.1,
          put_else column q.number z.number 1 n
              ∙ o.2,
        ))
        (at_set views id k pair a.0 was.1))
        (at_set (set views id pair) other k spent a.0 a.1);
  }

-- so two places may be joined
pub glues : (n id other : ℕ) (v w : View) (p q : SeatView) → v ≡ one p → w ≡ one q → Joins
    (Kept n) id v other w (joined v w) spent
glues n id other v w p q is its s k at apart there' =
    let here : get_elem? s.views id ≡ some (one p) = at ∙ ap some is in
    let there : get_elem? s.views other ≡ some (one q) =
    grind (arith, common_steps, set_else, some) in
    subst (λ (z : View × View). Kept n
    (record {
      words = s.words;
      homes = s.homes;
      views = set
          (set s.views id (joined z.0 z.1)) other spent;
    })) (λ j. (sym is j, sym its j))
    (record {
      core = k.core;
      reached = k.reached;
      counts = k.counts;
      table = k.table;
      seat = k.seat;
      row = put_at k.row q.number id;
      column = put_at k.column q.number 1;
      seated = glue_seated s.views k.seat k.row k.column k.seated id other p q here apart there;
      fits = k.fits;
      marked = k.marked;
      whole = k.whole;
    })

-- ---- what a view of several seats knows
contains_at : {A : Type 0} (l : List A) (a : A) → Contains l a → (k : ℕ) × (get_elem? l k ≡ some a)
contains_at l a c = (c.0, Rattle.atomic_table.proofs.Lists.at_index l c.0 a c.1 (sym c.2))

-- an exchange on two seats tells that their records agree
pub learns : (n slots id : ℕ) (me : Me (Unit {0}) View) → Allows (Kept n) slots id me 0 (λ w. w)
    (meet_told (step slots 0 0 0 none) me)
learns n slots id me s k homes at small = let safe = safe_of n s k in (
  me.0,
  keeps,
  tt,
  subst (λ (z : List ℕ × List View). Kept n (record { words = z.0; homes = s.homes; views = z.1 }))
      (λ j. (
        sym (Rattle.std.proofs.lemmas.List.set-get_or s.words 0 0) j,
        sym
            (set_again s.views id me.0 at) j,
      )) k,
  (
    refl,
    λ p q inp inq r r' c c' slot gen j a b e e'.
        let kp = contains_at me.0.seats p inp in let kq = contains_at me.0.seats q inq in
        let ap' : At s.views id kp.0 p = (me.0, at, kp.1) in let aq : At s.views id kq.0 q =
        (me.0, at, kq.1) in
        let op = k.seated.only id kp.0 p ap' in let oq = k.seated.only id kq.0 q aq in
        let isp : k.seat p.number ≡ p = at_one s.views id kp.0 (k.seat p.number) p
        (subst (λ (z : ℕ × ℕ). At s.views z.0 z.1 (k.seat p.number)) (λ i. (op.1 i, op.2 i))
        (k.seated.there p.number op.0)) ap' in
        let isq : k.seat q.number ≡ q = at_one s.views id kq.0 (k.seat q.number) q
        (subst (λ (z : ℕ × ℕ). At s.views z.0 z.1 (k.seat q.number)) (λ i. (oq.1 i, oq.2 i))
        (k.seated.there q.number oq.0)) aq in
        let fp = fit_there p.records (k.core.seats p.number).records r
        (subst (λ (z : SeatView). RecordsFit z.records (k.core.seats p.number).records) isp
        (k.fits p.number op.0).records) c in
        let fq = fit_there q.records (k.core.seats q.number).records r'
        (subst (λ (z : SeatView). RecordsFit z.records (k.core.seats q.number).records) isq
        (k.fits q.number oq.0).records) c' in
        let same = safe.records.agree p.number q.number fp.0 fq.0 fp.1 fq.1
        (sym fp.2.slot ∙ (slot ∙ fq.2.slot)) (sym fp.2.generation ∙ (gen ∙ fq.2.generation)) in
        sym (fp.2.words j a e) ∙ (ap (λ (l : List ℕ). get_or l j 0) same ∙ fq.2.words j b e'),
  ),
)

-- ---- the table at the start
fresh_at : (k t : ℕ) → t < k → k ≤ seats_at_most → get_elem? (fresh_seats k) t ≡ some
    (fresh (seats_at_most - k + t))
fresh_at zero t h l = absurd (omega arith)
fresh_at (suc k) zero h l = let e : last_seat - k ≡ seats_at_most - suc k + 0 = omega arith in ap
    (λ (z : ℕ). some (fresh z)) e
fresh_at (suc k) (suc t) h l = let r = fresh_at k t (omega arith) (omega arith) in
    let e : seats_at_most - k + t ≡ seats_at_most - suc k + suc t = omega arith in r ∙ ap
    (λ (z : ℕ). some (fresh z)) e

fresh_only : (k t : ℕ) (p : SeatView) → k ≤ seats_at_most → get_elem? (fresh_seats k) t ≡ some p →
    (t < k) × (p ≡ fresh (seats_at_most - k + t))
fresh_only zero t p l e = absurd (some-ne-none p (sym e))
fresh_only (suc k) zero p l e = let n : last_seat - k ≡ seats_at_most - suc k + 0 = omega arith in
    (omega arith, sym (some-injective (fresh (last_seat - k)) p e) ∙ ap fresh n)
fresh_only (suc k) (suc t) p l e = let r = fresh_only k t p (omega arith) e in let h = r.0 in
    let n : seats_at_most - k + t ≡ seats_at_most - suc k + suc t = omega arith in
    (omega arith, r.1 ∙ ap fresh n)

opening_only : (k m : ℕ) (p : SeatView) → At (opening_view ∷ []) k m p →
    (p.number < seats_at_most) × (0 ≡ k) × (p.number ≡ m)
opening_only zero m p a = let same : opening_view ≡ a.0 = some-injective opening_view a.0 a.1 in
    let r = fresh_only seats_at_most m p (omega arith)
    (ap (λ (v : View). get_elem? v.seats m) same ∙ a.2) in
    let h = r.0 in let n : p.number ≡ m = grind (arith, common_steps) in
    (omega arith, refl, n)
opening_only (suc k) m p a = absurd (some-ne-none a.0 (sym a.1))

abbrev zeros : ℕ → List ℕ
zeros m = replicate m 0

zero_word : (m k : ℕ) → get_or (zeros m) k 0 ≡ 0
zero_word zero k = refl
zero_word (suc m) zero = refl
zero_word (suc m) (suc k) = zero_word m k

-- a new table keeps the rule
pub opens : (n : ℕ) → Kept n (opening (replicate (slot_words * n) 0) [] opening_view)
opens n = record {
  core = core.start n seats_at_most;
  reached = ([], refl);
  counts = (refl, refl);
  table = record {
    sized = Rattle.std.proofs.lemmas.List.length-replicate (slot_words * n) 0;
    states = grind (arith, common_steps);
    contents = search (zero_word, rules);
    long = λ i h. refl;
  };
  seat = fresh;
  row = λ t. 0;
  column = λ t. t;
  seated = record {
    there = λ t h. (
      opening_view,
      refl,
      fresh_at seats_at_most t h (omega arith) ∙
          (let e : seats_at_most - seats_at_most + t ≡ t = omega arith in ap
          (λ (z : ℕ). some (fresh z)) e),
    );
    named = λ t h. refl;
    only = λ k m p a. opening_only k m p a;
  };
  fits = λ t h. record { state = refl; records = tt };
  marked = grind (arith, common_steps);
  whole = grind (arith, common_steps);
}

-- ---- what `meet` goes through
abbrev pub two : Me (Unit {0}) View → Me (Unit {0}) View → View
two m w = record { seats = the_view m.0 ∷ the_view w.0 ∷ [] }

-- two seats joined
pub joined_is : (q t : ℕ) (m w : Me (Unit {0}) View) → Rattle.rv_slots.specs.Knows.IsAlone q m
    → Rattle.rv_slots.specs.Knows.IsAlone t w → joined m.0 w.0 ≡ two m w
joined_is q t m w a b = λ j. joined (a.one j).0 (b.one j).0

-- and still joined after they met
pub met_is : (q t : ℕ) (m w joint after : Me (Unit {0}) View)
    → Rattle.rv_slots.specs.Knows.IsAlone q m → Rattle.rv_slots.specs.Knows.IsAlone t w → joint ≡
    (joined m.0 w.0, m.1) → after ≡ joint → after ≡ (two m w, [])
met_is q t m w joint after a b e f = f ∙ (e ∙ (λ j. (joined_is q t m w a b j, (a.one j).1)))

-- they agree
pub met : (q t : ℕ) (m w joint : Me (Unit {0}) View) → Rattle.rv_slots.specs.Knows.IsAlone q m
    → Rattle.rv_slots.specs.Knows.IsAlone t w → joint ≡ (joined m.0 w.0, m.1)
    → ((x y : SeatView) → Contains joint.0.seats x → Contains joint.0.seats y
    → Meet x.records y.records) → Meet (the_view m.0).records (the_view w.0).records
met q t m w joint a b e f = let is : joint.0.seats ≡ the_view m.0 ∷ the_view w.0 ∷ [] =
    grind (arith, common_steps) in
    f (the_view m.0) (the_view w.0) (subst (λ (l : List SeatView). Contains l (the_view m.0))
    (sym is) (in_head (the_view m.0) (the_view w.0 ∷ [])))
    (subst (λ (l : List SeatView). Contains l (the_view w.0)) (sym is)
    (in_tail (the_view m.0) (the_view w.0) (the_view w.0 ∷ []) (in_head (the_view w.0) [])))

-- the first seat, split off again
pub first_again : (q t : ℕ) (m w x y : Me (Unit {0}) View)
    → Rattle.rv_slots.specs.Knows.IsAlone q m → x ≡ (two m w, []) → y ≡ (cut_left x.0, x.1) → y ≡ m
first_again q t m w x y a e f = f ∙ ((λ j. (cut_left (e j).0, (e j).1)) ∙ sym a.one)

-- and the second
pub second_again : (q t : ℕ) (m w x y : Me (Unit {0}) View)
    → Rattle.rv_slots.specs.Knows.IsAlone t w → x ≡ (two m w, []) → y ≡ (cut_right x.0, []) → y ≡ w
second_again q t m w x y a e f = f ∙ ((λ j. (cut_right (e j).0, [])) ∙ sym a.one)
