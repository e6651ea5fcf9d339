-- A new event changes no pair of old ones, and an SC is paired with one LR alone.
use Rattle.rv_versions.proofs.Common.{◌≡◌, ◌≢◌, List, [], ◌∷◌, ◌++◌, Contains, Option, Some, None, IsFalse, inl}
use Rattle.rv_versions.proofs.Common.{inr, sym, ap, ◌∙◌, arith, subst, same_Some, All-contains}
use Rattle.rv_versions.proofs.Common.{Contains-append_left, Contains-push_cases, common_steps, All-from_contains}
use Rattle.rv_versions.proofs.Common.{Paired-grows, Indexed, Sound, indexed-push, grows-push, is_exclusive, Earlier}
use Rattle.rv_versions.proofs.Common.{Between, Paired, Event, Rvwmo, IsPair, IsReservation, IsPartner, IsReserved}
use Rattle.rv_versions.proofs.Common.{Reservation}
use Rattle.rv_event.specs.Log.{named}

-- one id, one event
pub same_event : (log : List Event) → Indexed log → (a b : Event) → Contains log a → Contains log b → a.id ≡ b.id →
    a ≡ b
same_event log known a b ca cb same = same_Some a b (sym (known.own a ca) ∙ ap (named log) same ∙ known.own b cb)

-- an SC has one partner
pub one_partner : (log : List Event) → Indexed log → (a b sc : Event) → IsPair log a sc → IsPair log b sc → a ≡ b
one_partner log known a b sc p q = same_event log known a b p.of_log q.of_log same
  where
    seqs : a.id.seq ≡ b.id.seq
    seqs = grind (arith, common_steps)

    harts : a.id.hart ≡ b.id.hart
    harts = p.paired.earlier.hart ∙ sym q.paired.earlier.hart

    same : a.id ≡ b.id
    same i = record { hart = harts i; seq = seqs i }

module _ (log : List Event) (e : Event) (known : Indexed log) (sound : Sound log e) where
  abbrev new : List Event
  new = log ++ e ∷ []

  -- no old event has the new id
  pub is_new : (a : Event) → Contains log a → a.id ≢ e.id
  is_new a c same = grind (arith, common_steps)

  -- an old event is one of the new log
  pub in_new : (a : Event) → Contains log a → Contains new a
  in_new a c = Contains-append_left log (e ∷ []) a c

  -- the new event is not earlier than an old one
  pub none_after : (b : Event) → Contains log b → Earlier e b → ⊥
  none_after b c earlier = grind (arith, common_steps)

  -- a pair of old events was one before
  pub settled : (lr sc : Event) → Paired new lr sc → Paired log lr sc
  settled lr sc p = record {
    is_lr = p.is_lr;
    is_sc = p.is_sc;
    earlier = p.earlier;
    none_between = All-from_contains (λ m. Between lr m sc → IsFalse (is_exclusive m.op)) log
        (λ m c. All-contains (λ m. Between lr m sc → IsFalse (is_exclusive m.op)) new m p.none_between (in_new m c));
  }

  -- a pair stays one
  pub grown : (lr sc : Event) → Contains log sc → Paired log lr sc → Paired new lr sc
  grown lr sc c p = Paired-grows Rvwmo log new (grows-push log e) known (indexed-push log e known sound) lr sc c p

  -- an LR's pair stays one
  pub pair_grows : (lr sc : Event) → Contains log sc → IsPair log lr sc → IsPair new lr sc
  pair_grows lr sc c p = record { of_log = in_new lr p.of_log; paired = grown lr sc c p.paired }

  -- an LR that is paired with an old SC is old
  pub pair_settled : (lr sc : Event) → Contains log sc → IsPair new lr sc → IsPair log lr sc
  pair_settled lr sc c p = elim (Contains-push_cases log e lr p.of_log) [
    | inl old ↦ record { of_log = old; paired = settled lr sc p.paired }
    | inr is ↦ absurd (none_after sc c (subst (λ (x : Event). Earlier x sc) (sym is) p.paired.earlier))
  ]

  -- so is one that is paired with the new event
  pub partner_of : (lr : Event) → IsPair new lr e → IsPartner log e lr
  partner_of lr p = grind (arith, common_steps)

  -- the event's partner is its pair
  pub pair_of_partner : (lr : Event) → IsPartner log e lr → IsPair new lr e
  pair_of_partner lr p = record { of_log = in_new lr p.of_log; paired = p.paired }

  -- a reservation stays
  pub reservation_grows : (sc : Event) (r : Option Reservation) → Contains log sc → IsReservation log sc r →
      IsReservation new sc r
  reservation_grows sc (Some r) c h = (h.0, pair_grows h.0 sc c h.1, h.2, h.3)
  reservation_grows sc None c h = λ lr p. h lr (pair_settled lr sc c p)

  -- and was one before
  pub reservation_settled : (sc : Event) (r : Option Reservation) → Contains log sc → IsReservation new sc r →
      IsReservation log sc r
  reservation_settled sc (Some r) c h = (h.0, pair_settled h.0 sc c h.1, h.2, h.3)
  reservation_settled sc None c h = λ lr p. h lr (pair_grows lr sc c p)

  -- the event's own
  pub reservation_new : (r : Option Reservation) → IsReserved log e r → IsReservation new e r
  reservation_new (Some r) h = (h.0, pair_of_partner h.0 h.1, h.2, h.3)
  reservation_new None h = λ lr p. h lr (partner_of lr p)
