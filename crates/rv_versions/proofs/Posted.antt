-- What was put in and taken out, one after another.
use Rattle.rv_versions.proofs.Common.{◌≡◌, true, false, List, Contains, Option, Some, None, Result, Ok, Err, OnOk}
use Rattle.rv_versions.proofs.Common.{OnErr, inl, inr, sym, is_err, false≢true, none-some, arith, common_steps}
use Rattle.rv_versions.proofs.Common.{Event, postings_of, own_postings, pair_postings, IsInserted, IsRemoved}
use Rattle.rv_versions.proofs.Common.{IsSame, AreInserted, AreRemoved, AreSame, AreAbsent, Access, Accesses}
use Rattle.rv_versions.proofs.Common.{Postings, Reservation}

-- what an error says
pub failed : {X E : Type 0} (r : Result X E) (P : Type 0) → is_err r ≡ true → OnErr r P → P
failed (Ok x) P e h = absurd (false≢true e)
failed (Err x) P e h = h

-- what its absence says
pub went : {X E : Type 0} (r : Result X E) (P : Type 0) → is_err r ≡ false → OnOk r P → P
went (Ok x) P e h = h
went (Err x) P e h = absurd (false≢true (sym e))

-- a list has what it has
pub same_itself : (xs ys : List Access) → ys ≡ xs → IsSame xs ys
same_itself xs ys e x = grind (arith, common_steps)

-- what was put in and taken out again
pub same_again :
    (xs ys zs : List Access) (o : Option Access) → ((x : Access) → o ≡ Some x → Contains xs x → ⊥) →
    IsInserted xs o ys → IsRemoved ys o zs → IsSame xs zs
same_again xs ys zs o absent put taken x = (to, from)
  where
    to : Contains zs x → Contains xs x
    to c = let h = (taken x).0 c in elim ((put x).0 h.0) [ inl old ↦ old | inr e ↦ absurd (h.1 e) ]

    from : Contains xs x → Contains zs x
    from c = (taken x).1 ((put x).1 (inl c), λ e. absent x e c)

-- a fact where there is an error
pub on_err : {X E : Type 0} (r : Result X E) (P : Type 0) → P → OnErr r P
on_err (Ok x) P h = tt
on_err (Err x) P h = h

-- ---- one list

-- with no posting the accesses stay the same
pub put_none : (xs ys : List Access) → IsInserted xs None ys → IsSame xs ys
put_none xs ys put x = (
  λ c. elim ((put x).0 c) [ inl d ↦ d | inr e ↦ absurd (none-some x e) ],
  λ c. (put x).1 (inl c),
)

-- nothing was put in
pub none_put : (xs ys : List Access) → IsSame xs ys → IsInserted xs None ys
none_put xs ys same x = (
  λ c. inl ((same x).0 c),
  λ h. elim h [ inl c ↦ (same x).1 c | inr e ↦ absurd (none-some x e) ],
)

taken_none : (xs ys : List Access) → IsRemoved xs None ys → IsSame xs ys
taken_none xs ys taken x = (λ c. ((taken x).0 c).0, λ c. (taken x).1 (c, λ e. none-some x e))

put_then : (xs ys zs : List Access) (o : Option Access) → IsInserted xs o ys → IsSame ys zs → IsInserted xs o zs
put_then xs ys zs o put same x = (λ c. (put x).0 ((same x).0 c), λ h. (same x).1 ((put x).1 h))

then_put : (xs ys zs : List Access) (o : Option Access) → IsSame xs ys → IsInserted ys o zs → IsInserted xs o zs
then_put xs ys zs o same put x = (
  λ c. elim ((put x).0 c) [ inl d ↦ inl ((same x).0 d) | inr e ↦ inr e ],
  λ h. (put x).1 (elim h [ inl d ↦ inl ((same x).1 d) | inr e ↦ inr e ]),
)

taken_then : (xs ys zs : List Access) (o : Option Access) → IsRemoved xs o ys → IsSame ys zs → IsRemoved xs o zs
taken_then xs ys zs o taken same x = (λ c. (taken x).0 ((same x).0 c), λ h. (same x).1 ((taken x).1 h))

then_taken : (xs ys zs : List Access) (o : Option Access) → IsSame xs ys → IsRemoved ys o zs → IsRemoved xs o zs
then_taken xs ys zs o same taken x = (
  λ c. (let h = (taken x).0 c in ((same x).0 h.0, h.1)),
  λ h. (taken x).1 ((same x).1 h.0, h.1),
)

-- ---- stores, loads and pairs

-- nothing changed
pub all_same : (old new : Accesses) (p : Postings) → new ≡ old → AreSame old p new
all_same old new p e = grind (arith, common_steps)

-- the event's own accesses went in, and then what its LR returned
module _ (e : Event) (r : Reservation) (old mid : Accesses) (put : AreInserted old (own_postings e) mid)
    (absent : AreAbsent old (postings_of e (Some r))) where
  -- the pair is not there yet
  pub absent_pair : AreAbsent mid (pair_postings e.id r)
  absent_pair = record {
    stores = λ x q. absurd (none-some x q);
    loads = λ x q. absurd (none-some x q);
    pairs = λ x q c. absent.pairs x q ((put_none old.pairs mid.pairs put.pairs x).0 c);
  }

  -- an event's accesses and its pair
  pub both_inserted : (new : Accesses) → AreInserted mid (pair_postings e.id r) new →
      AreInserted old (postings_of e (Some r)) new
  both_inserted new more = search (put_then, put_none, then_put)

  -- its own went in and out again, since what its LR returned did not go in
  pub undone :
      (back new : Accesses) → AreSame mid (pair_postings e.id r) back → AreRemoved back (own_postings e) new →
      AreSame old (postings_of e (Some r)) new
  undone back new same taken = search (same_again, put_then, none-some)

-- likewise taken out
pub both_removed :
    (e : Event) (r : Reservation) (old mid new : Accesses) → AreRemoved old (own_postings e) mid →
    AreRemoved mid (pair_postings e.id r) new → AreRemoved old (postings_of e (Some r)) new
both_removed e r old mid new taken more = search (taken_then, taken_none, then_taken)
