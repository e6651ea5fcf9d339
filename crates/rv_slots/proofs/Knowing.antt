-- What the rule says of the seat that steps.
use Rattle.rv_slots.proofs.Common.{seats_at_most, ◌≡◌, ◌⊎◌, ℕ, zero, suc, ◌<◌, List, [], ◌∷◌, length}
use Rattle.rv_slots.proofs.Common.{slice_index_or, Contains, Option, refl, ap, subst, arith, inl, inr, ⊎_elim}
use Rattle.rv_slots.proofs.Common.{common_steps, some, get_elem?, State, Me, start, Safe, run_keeps}
use Rattle.rv_slots.proofs.Common.{start_safe, View, Record, SeatView, Filling, Stray, the_view, IsAlone}
use Rattle.rv_slots.proofs.Common.{Fits, Kept, RecordFits, RecordsFit, shown}
use Rattle.rv_slots.specs.declared.views.SeatState.TheVariants.{Pinned}
use Rattle.rv_slots.proofs.Seating.{one, seat_is}
use Rattle.rv_slotcore.specs.Machine as core

-- what the rule says of the seat that steps
pub record Knows {n : ℕ} {s : State (Unit {0}) View} (k : Kept n s) (id : ℕ)
    (p : SeatView) : Type 0 where
  pub here : get_elem? s.views id ≡ some (one p)
  pub small : p.number < seats_at_most
  pub is : k.seat p.number ≡ p
  pub fits : Fits p (k.core.seats p.number)

-- a seat alone knows its place in the machine
pub knows : (n : ℕ) (s : State (Unit {0}) View) (k : Kept n s) (id q : ℕ)
    (me : Me (Unit {0}) View) → IsAlone q me → get_elem? s.views id ≡ some me.0 → Knows k id
    (the_view me.0)
knows n s k id q me a at = grind (arith, common_steps, get_elem?, some, one, seat_is)

-- who is shown as pinned is pinned
pub shown_pinned : (st : core.SeatState) (i g : ℕ) → Pinned i g ≡ shown st → (w : List ℕ) ×
    (st ≡ core.Pinned i g w)
shown_pinned core.Idle i g e = absurd (cc)
shown_pinned (core.Filling k p) i g e = absurd (cc)
shown_pinned (core.Pinned k h w) i g e = let a : k ≡ i = cc in let b : h ≡ g = cc in
    (w, λ j. core.Pinned (a j) (b j) w)
shown_pinned (core.Stray k) i g e = absurd (cc)

-- who is shown as stray is stray
pub shown_stray : (st : core.SeatState) (i : ℕ) → Stray i ≡ shown st → st ≡ core.Stray i
shown_stray core.Idle i e = absurd (cc)
shown_stray (core.Filling k p) i e = absurd (cc)
shown_stray (core.Pinned k h w) i e = absurd (cc)
shown_stray (core.Stray k) i e = let a : k ≡ i = cc in ap core.Stray a

-- who is shown as filling is filling
pub shown_filling : (st : core.SeatState) (i : ℕ) (p : List (Option ℕ)) → Filling i p ≡ shown st
    → st ≡ core.Filling i p
shown_filling core.Idle i p e = absurd (cc)
shown_filling (core.Filling k r) i p e = let a : k ≡ i = cc in let b : r ≡ p = cc in
    (λ j. core.Filling (a j) (b j))
shown_filling (core.Pinned k h w) i p e = absurd (cc)
shown_filling (core.Stray k) i p e = absurd (cc)

-- what the law says of the machine's state
pub safe_of : (n : ℕ) (s : State (Unit {0}) View) (k : Kept n s) → Safe k.core
safe_of n s k = subst Safe k.reached.1
    (run_keeps k.reached.0 (start n seats_at_most) (start_safe n seats_at_most (omega arith)))

-- ---- lists
module _ {A : Type 0} where
  -- the first is contained
  pub in_head : (r : A) (rs : List A) → Contains (r ∷ rs) r
  in_head r rs = (0, omega arith, refl)

  -- what the rest contains the list contains
  pub in_tail : (x r : A) (rs : List A) → Contains rs r → Contains (x ∷ rs) r
  in_tail x r rs c = let h = c.1 in (suc c.0, omega arith, c.2)

  in_cons_at : (x r : A) (rs : List A) (k : ℕ) → k < length (x ∷ rs) → slice_index_or (x ∷ rs) k r
      ≡ r → (x ≡ r) ⊎ Contains rs r
  in_cons_at x r rs zero h e = inl e
  in_cons_at x r rs (suc k) h e = inr (k, omega arith, e)

  -- an element is the first or one of the rest
  pub in_cons : (x r : A) (rs : List A) → Contains (x ∷ rs) r → (x ≡ r) ⊎ Contains rs r
  in_cons x r rs c = in_cons_at x r rs c.0 c.1 c.2

-- a record of the machine's seat stands in the view, and the other way round
pub fit_back : (rs : List Record) (qs : List core.Record) (q : core.Record) → RecordsFit rs qs
    → Contains qs q → (r : Record) × Contains rs r × RecordFits r q
fit_back [] [] q f c = let l = c.1 in absurd (omega arith)
fit_back [] (y ∷ qs) q f c = absurd f
fit_back (x ∷ rs) [] q f c = absurd f
fit_back (x ∷ rs) (y ∷ qs) q f c = ⊎_elim
    (λ e. (x, in_head x rs, subst (λ z. RecordFits x z) e f.0))
    (λ d. let o = fit_back rs qs q f.1 d in (o.0, in_tail x o.0 rs o.1, o.2)) (in_cons y q qs c)

-- a record that fits has its counterpart
pub fit_there : (rs : List Record) (qs : List core.Record) (r : Record) → RecordsFit rs qs
    → Contains rs r → (q : core.Record) × Contains qs q × RecordFits r q
fit_there [] [] r f c = let l = c.1 in absurd (omega arith)
fit_there [] (y ∷ qs) r f c = absurd f
fit_there (x ∷ rs) [] r f c = absurd f
fit_there (x ∷ rs) (y ∷ qs) r f c = ⊎_elim
    (λ e. (y, in_head y qs, subst (λ z. RecordFits z y) e f.0))
    (λ d. let o = fit_there rs qs r f.1 d in (o.0, in_tail y o.0 qs o.1, o.2)) (in_cons x r rs c)
