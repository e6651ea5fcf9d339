-- What the indexes have after an event joined a log, and after the last one left it.
use Rattle.rv_versions.proofs.Common.{◌≡◌, ◌≢◌, ◌+◌, List, [], ◌∷◌, ◌++◌, length, Contains, Option, Some, None}
use Rattle.rv_versions.proofs.Common.{inl, inr, refl, sym, ap, ◌∙◌, arith, subst, length-append, same_Some}
use Rattle.rv_versions.proofs.Common.{none-some, Contains-append_left, Contains-push, Contains-push_cases, rules}
use Rattle.rv_versions.proofs.Common.{common_steps, indexed_from_events, Indexed, Sound, sound_of, split_push}
use Rattle.rv_versions.proofs.Common.{event_fault, WellFormedEvents, Event, access, IsReserved, store_of, load_of}
use Rattle.rv_versions.proofs.Common.{pair_of, postings_of, IsInserted, IsRemoved, IsSame, AreInserted}
use Rattle.rv_versions.proofs.Common.{AreRemoved, AreSame, AreAbsent, IsIndex, IsReservation, beside, AreIndexes}
use Rattle.rv_versions.proofs.Common.{Access, Accesses, Reservation, id_of}
use Rattle.rv_versions.proofs.Beside.{beside-push, beside_left}
use Rattle.rv_versions.proofs.Paired.{is_new, reservation_grows, reservation_settled, reservation_new}
use Rattle.rv_versions.proofs.Members.{Contains-none}

module _ {X : Type 0} (post : X → Option Access) (items : List X) (i : X) (xs ys : List Access) where
  -- an index with one item more
  pub index_push : IsIndex post items xs → IsInserted xs (post i) ys → IsIndex post (items ++ i ∷ []) ys
  index_push is put x = (to, from)
    where
      to : Contains ys x → (j : X) × Contains (items ++ i ∷ []) j × (post j ≡ Some x)
      to c = elim ((put x).0 c) [
        | inl old ↦ let h = (is x).0 old in (h.0, Contains-append_left items (i ∷ []) h.0 h.1, h.2)
        | inr e ↦ (i, Contains-push items i, e)
      ]

      from : (j : X) × Contains (items ++ i ∷ []) j × (post j ≡ Some x) → Contains ys x
      from (j, c, e) = elim (Contains-push_cases items i j c) [
        | inl old ↦ (put x).1 (inl ((is x).1 (j, old, e)))
        | inr same ↦ (put x).1 (inr (ap post same ∙ e))
      ]

  -- and with one less
  pub index_pop : IsIndex post (items ++ i ∷ []) xs → IsRemoved xs (post i) ys → ((j : X) (x : Access) →
      Contains items j → post j ≡ Some x → post i ≢ Some x) → IsIndex post items ys
  index_pop is taken apart x = (to, from)
    where
      to : Contains ys x → (j : X) × Contains items j × (post j ≡ Some x)
      to c =
          let h = (taken x).0 c in
          let g = (is x).0 h.0 in
          elim (Contains-push_cases items i g.0 g.1) [
            | inl old ↦ (g.0, old, g.2)
            | inr same ↦ absurd (h.1 (ap post same ∙ g.2))
          ]

      from : (j : X) × Contains items j × (post j ≡ Some x) → Contains ys x
      from (j, c, e) = (taken x).1 ((is x).1 (j, Contains-append_left items (i ∷ []) j c, e), apart j x c e)

-- an index with the same accesses
pub index_same : {X : Type 0} (post : X → Option Access) (items : List X) (xs ys : List Access) →
    IsIndex post items xs → IsSame xs ys → IsIndex post items ys
index_same post items xs ys is same x = (λ c. (is x).0 ((same x).0 c), λ h. (same x).1 ((is x).1 h))

-- a posting names its event
pub store_id : (e : Event) (x : Access) → store_of e ≡ Some x → id_of x ≡ e.id
store_id e x h = grind (arith, common_steps)

-- a load's access names it
pub load_id : (e : Event) (x : Access) → load_of e ≡ Some x → id_of x ≡ e.id
load_id e x h = grind (arith, common_steps)

-- and so does a pair's
pub pair_id : (e : Event) (r : Option Reservation) (x : Access) → pair_of e r ≡ Some x → id_of x ≡ e.id
pair_id e None x h = absurd (none-some x h)
pair_id e (Some r) x h = ap id_of (sym (same_Some (access r.word r.version e.id) x h))

-- ---- logs without a fault

-- no events are well formed
pub well_formed-nil : WellFormedEvents []
well_formed-nil before after e is = absurd (omega (arith, ap length is, length-append before (e ∷ after)))

-- they stay so with one that has no fault
pub well_formed-push : (log : List Event) (e : Event) → WellFormedEvents log → event_fault log e ≡ None →
    WellFormedEvents (log ++ e ∷ [])
well_formed-push log e ok none before after y is = search (split_push, rules)

-- and so is their beginning
pub well_formed-front : (log more : List Event) → WellFormedEvents (log ++ more) → WellFormedEvents log
well_formed-front log more ok before after e is = grind (arith, common_steps)

-- ---- all together

-- no events have no accesses
pub indexes-nil : AreIndexes [] [] (record { stores = []; loads = []; pairs = [] })
indexes-nil = grind (arith, common_steps, well_formed-nil, Contains-none)

module _ (log : List Event) (rs : List (Option Reservation)) (ix : Accesses) (e : Event) (r : Option Reservation)
    (known : AreIndexes log rs ix) (sound : event_fault log e ≡ None) where
  old : Indexed log
  old = indexed_from_events log known.well_formed

  fresh : (a : Event) → Contains log a → a.id ≢ e.id
  fresh = is_new log e old (sound_of log e sound)

  -- a new event has no access yet
  pub absent : AreAbsent ix (postings_of e r)
  absent = record {
    stores = λ x p c. let h = (known.stores x).0 c in fresh h.0 h.1 (sym (store_id h.0 x h.2) ∙ store_id e x p);
    loads = λ x p c. let h = (known.loads x).0 c in fresh h.0 h.1 (sym (load_id h.0 x h.2) ∙ load_id e x p);
    pairs = λ x p c. let h = (known.pairs x).0 c in fresh h.0.0 (beside_left log rs h.0 h.1) (sym
        (pair_id h.0.0 h.0.1 x h.2) ∙ pair_id e r x p);
  }

  -- its accesses are put in
  pub indexes_push : (new : Accesses) → IsReserved log e r → AreInserted ix (postings_of e r) new →
      AreIndexes (log ++ e ∷ []) (rs ++ r ∷ []) new
  indexes_push new is put = record {
    well_formed = well_formed-push log e known.well_formed sound;
    as_long = length-append log (e ∷ []) ∙ ap (λ n. n + 1) known.as_long ∙ sym (length-append rs (r ∷ []));
    reservations = λ s q c. elim (Contains-push_cases (beside log rs) (e, r) (s, q) (subst (λ l. Contains l
        (s, q)) pushed c)) [
          | inl was ↦ reservation_grows log e old (sound_of log e sound) s q (beside_left log rs (s, q) was)
              (known.reservations s q was)
          | inr same ↦ subst (λ (p : Event × Option Reservation). IsReservation (log ++ e ∷ []) p.0 p.1) same
              (reservation_new log e old (sound_of log e sound) r is)
        ];
    stores = index_push store_of log e ix.stores new.stores known.stores put.stores;
    loads = index_push load_of log e ix.loads new.loads known.loads put.loads;
    pairs = subst (λ l. IsIndex pair_posting l new.pairs) (sym pushed) (index_push pair_posting (beside log rs)
        (e, r) ix.pairs new.pairs known.pairs put.pairs);
  }
    where
      pair_posting : Event × Option Reservation → Option Access
      pair_posting p = pair_of p.0 p.1

      pushed : beside (log ++ e ∷ []) (rs ++ r ∷ []) ≡ beside log rs ++ (e, r) ∷ []
      pushed = beside-push log rs e r known.as_long

  -- the same accesses are indexes still
  pub indexes_same : (new : Accesses) → AreSame ix (postings_of e r) new → AreIndexes log rs new
  indexes_same new same = search (index_same, rules)

module _ (log : List Event) (rs : List (Option Reservation)) (ix new : Accesses) (e : Event) (r : Option Reservation)
    (known : AreIndexes (log ++ e ∷ []) (rs ++ r ∷ []) ix) (taken : AreRemoved ix (postings_of e r) new) where
  front : WellFormedEvents log
  front = well_formed-front log (e ∷ []) known.well_formed

  last : Sound log e
  last = sound_of log e (known.well_formed log [] e refl)

  before : Indexed log
  before = indexed_from_events log front

  other : (a : Event) → Contains log a → a.id ≢ e.id
  other = is_new log e before last

  lengths : length log ≡ length rs
  lengths = omega (arith, known.as_long, length-append log (e ∷ []), length-append rs (r ∷ []))

  cut : beside (log ++ e ∷ []) (rs ++ r ∷ []) ≡ beside log rs ++ (e, r) ∷ []
  cut = beside-push log rs e r lengths

  -- the last event's accesses are taken out
  pub indexes_pop : AreIndexes log rs new
  indexes_pop = record {
    well_formed = front;
    as_long = lengths;
    reservations = λ s q c. reservation_settled log e before last s q (beside_left log rs (s, q) c)
        (known.reservations s q (subst (λ l. Contains l (s, q)) (sym cut) (Contains-append_left (beside log rs)
        ((e, r) ∷ []) (s, q) c)));
    stores = index_pop store_of log e ix.stores new.stores known.stores taken.stores (λ a x c p q. other a c (sym
        (store_id a x p) ∙ store_id e x q));
    loads = index_pop load_of log e ix.loads new.loads known.loads taken.loads (λ a x c p q. other a c (sym
        (load_id a x p) ∙ load_id e x q));
    pairs = index_pop pair_posting (beside log rs) (e, r) ix.pairs new.pairs (subst
        (λ l. IsIndex pair_posting l ix.pairs) cut known.pairs) taken.pairs
        (λ j x c p q. other j.0 (beside_left log rs j c) (sym (pair_id j.0 j.1 x p) ∙ pair_id e r x q));
  }
    where
      pair_posting : Event × Option Reservation → Option Access
      pair_posting p = pair_of p.0 p.1
