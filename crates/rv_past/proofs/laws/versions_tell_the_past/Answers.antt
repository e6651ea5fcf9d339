use Rattle.std.proofs.Common.{◌≡◌, Contains, None, Option, Some, ap, subst, sym}
use Rattle.std.proofs.lemmas.Option.{none-some, same_Some}
use Rattle.std.proofs.lemmas.Bool.{or_left, or_right}
use Rattle.rv_event.specs.Operations.{is_load, is_store}
use Rattle.rv_event.specs.Relations.{Paired}
use Rattle.rv_event.specs.declared.event.Event.{Event}
use Rattle.rv_past.specs.Before as gone
use Rattle.rv_past.specs.Laws.{IsPartner}
use Rattle.rv_settle.specs.Past as settle
use Rattle.rv_past.proofs.laws.versions_tell_the_past.Goals as goal

pub returns : goal.returns
returns c log past events lr e are partner = (to, from)
  where
    -- a partner that is told is one of the log
    told : (o : Option Event) → IsPartner log e o → (r : Event) → o ≡ Some r → Contains log r × Paired log r e
    told None none r is = absurd (none-some r is)
    told (Some s) of r is =
        let same : s ≡ r = same_Some s r is in
        subst (λ (x : Event). Contains log x × Paired log x e) same (of.0, of.1)

    -- one of the log is the one that is told
    found : (o : Option Event) → IsPartner log e o → (r : Event) → Contains log r → Paired log r e → o ≡ Some r
    found None none r c paired = absurd (none r c paired)
    found (Some s) of r c paired = ap Some (sym (of.2 r c paired))

    to : gone.ComesBefore events lr e → settle.ComesBeforePast log past e
    to (gone.loads_below p c s load word less) = settle.loads_below p ((are p).0 c).0 s load word less
    to (gone.stores_below p c s store word less) = settle.stores_below p ((are p).0 c).0 s store word less
    to (gone.stores_what_was_returned p c l store word read) =
        settle.stores_what_was_returned p ((are p).0 c).0 l store word read
    to (gone.stores_too_late r p is c s word apart less) =
        let there = told lr partner r is in
        settle.stores_too_late r p there.0 there.1 ((are p).0 c).0 s word apart less

    from : settle.ComesBeforePast log past e → gone.ComesBefore events lr e
    from (settle.loads_below p past-p s load word less) =
        gone.loads_below p ((are p).1 (past-p, or_right (is_load p.op) (is_store p.op) s)) s load word less
    from (settle.stores_below p past-p s store word less) =
        gone.stores_below p ((are p).1 (past-p, or_right (is_load p.op) (is_store p.op) s)) s store word less
    from (settle.stores_what_was_returned p past-p l store word read) =
        gone.stores_what_was_returned p ((are p).1 (past-p, or_left (is_load p.op) (is_store p.op) l)) l store word
        read
    from (settle.stores_too_late r p c paired past-p s word apart less) =
        gone.stores_too_late r p (found lr partner r c paired)
        ((are p).1 (past-p, or_right (is_load p.op) (is_store p.op) s)) s word apart less
