-- Entries, reservations and indexes change together.
use Rattle.rv_versions.proofs.Common.{arith, common_steps, ◌≡◌, List, [], ◌∷◌, ◌++◌, Option, None, sym, ap, ◌∙◌}
use Rattle.rv_versions.proofs.Common.{subst, map-append, event_fault, events, Entry, Event, postings_of}
use Rattle.rv_versions.proofs.Common.{AreInserted, AreRemoved, AreIndexes, IsReserved, Accesses, Reservation}
use Rattle.rv_versions.proofs.Indexing.{indexes_push, indexes_pop}

-- indexes of equal logs
pub indexes_are :
    (log log' : List Event) (rs rs' : List (Option Reservation)) (ix : Accesses) → log ≡ log' → rs ≡ rs' →
    AreIndexes log rs ix → AreIndexes log' rs' ix
indexes_are log log' rs rs' ix p q known = subst (λ l. AreIndexes l rs' ix) p (subst (λ r. AreIndexes log r ix) q known)

events-push : (xs ys : List Entry) (x : Entry) (e : Event) → ys ≡ xs ++ x ∷ [] → x.event ≡ e →
    events ys ≡ events xs ++ e ∷ []
events-push xs ys x e is same = grind (arith, common_steps)

-- the log and its indexes with one entry more
pub pushed :
    (xs ys : List Entry) (rs qs : List (Option Reservation)) (ix new : Accesses) (x : Entry) (e : Event)
    (r : Option Reservation) →
    AreIndexes (events xs) rs ix → event_fault (events xs) e ≡ None → IsReserved (events xs) e r →
    AreInserted ix (postings_of e r) new →
    ys ≡ xs ++ x ∷ [] → x.event ≡ e → qs ≡ rs ++ r ∷ [] → AreIndexes (events ys) qs new
pushed xs ys rs qs ix new x e r known sound is put entries same reserved =
    indexes_are (events xs ++ e ∷ []) (events ys) (rs ++ r ∷ []) qs new (sym (events-push xs ys x e entries same))
    (sym reserved) (indexes_push (events xs) rs ix e r known sound new is put)

-- and with one less
pub popped :
    (xs ys : List Entry) (rs qs : List (Option Reservation)) (ix new : Accesses) (x : Entry)
    (r : Option Reservation) →
    AreIndexes (events xs) rs ix → xs ≡ ys ++ x ∷ [] → rs ≡ qs ++ r ∷ [] → AreRemoved ix (postings_of x.event r) new →
    AreIndexes (events ys) qs new
popped xs ys rs qs ix new x r known entries reserved taken =
    indexes_pop (events ys) qs ix new x.event r
    (indexes_are (events xs) (events ys ++ x.event ∷ []) rs (qs ++ r ∷ []) ix (ap events entries ∙
    map-append (λ (y : Entry). y.event) ys (x ∷ [])) reserved known) taken
