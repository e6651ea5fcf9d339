-- The links of a history as pairs of ids.
use Rattle.std.proofs.Common.{map}
use Rattle.std.proofs.lemmas.List.{drop-drop, drop_all, drop_more}
use Rattle.rv_event.proofs.Growing.{Any-contains}
use Rattle.rv_event.proofs.Names.{Contains-cons, Contains-map, Contains-mapped}
use Rattle.rv_edges.proofs.Common.{Any-from_contains, Contains, Contains-append_cases, Contains-append_left}
use Rattle.rv_edges.proofs.Common.{Contains-append_right, Contains-here, Contains-there, Entry, Event, Id}
use Rattle.rv_edges.proofs.Common.{IsCarried, IsTied, Joins, Kept, Link, List, MemoryModel, Reason, Sides}
use Rattle.rv_edges.proofs.Common.{ap, append-nil, append_assoc, arith, drop, events, get_or, happened, inl, inr}
use Rattle.rv_edges.proofs.Common.{kept_from, length, length-drop, own_from, path-map, refl, subst, sym, take}
use Rattle.rv_edges.proofs.Common.{total, ℕ, [], ◌++◌, ◌+◌, ◌<◌, ◌∙◌, ◌∷◌, ◌≡◌, ◌≤◌}
use Rattle.rv_edges.specs.Ties.{AreTiesOf, ties_around, ties_of}
use Rattle.rv_edges.specs.declared.ties.Tie.{Tie}

-- nothing is kept where there are no links
kept_from-none : (log : List Event) → kept_from log [] ≡ []
kept_from-none [] = refl
kept_from-none (e ∷ log) = refl

-- at the end the ties are all there
pub ties-done :
    (log : List Entry) (sides : List Sides) (k : ℕ) (rest : List Link) (ties all : List Tie) → length sides ≤ k →
    ties ++ ties_of (kept_from (events (drop k log)) (own_from rest (drop k sides))) ≡ all → ties ≡ all
ties-done log sides k rest ties all end same =
    sym (append-nil ties)
    ∙ sym (ap (λ (ks : List Kept). ties ++ ties_of ks) (kept_from-none (events (drop k log))))
    ∙ sym (ap (λ (ss : List Sides). ties ++ ties_of (kept_from (events (drop k log)) (own_from rest ss)))
    (drop_all k sides end))
    ∙ same

-- the ties so far, with those of one event more
module _ (log : List Entry) (sides : List Sides) (k : ℕ) (s : Sides) (x : Entry) (few : k < length sides)
    (long : k < length log) (rest : List Link) where
  abbrev own : Sides
  own = get_or sides k s

  abbrev id : Id
  id = (get_or log k x).event.id

  sides_at : drop k sides ≡ get_or sides k s ∷ drop (k + 1) sides
  sides_at = drop_more sides k s few

  log_at : drop k log ≡ get_or log k x ∷ drop (k + 1) log
  log_at = drop_more log k x long

  -- what is left has the links of the events that are left
  pub total-more : total (drop k sides) ≡ length rest →
      total (drop (k + 1) sides) ≡ length (drop own.after (drop own.before rest))
  total-more same =
      omega (
        arith,
        same,
        ap total sides_at,
        length-drop own.after (drop own.before rest),
        length-drop own.before rest,
      )

  abbrev own_ties : List Tie
  own_ties = ties_around id (take own.before rest) (take own.after (drop own.before rest))

  -- the ties of the events behind this one, whose links these are
  abbrev later_ties : List Link → List Tie
  later_ties links = ties_of (kept_from (events (drop (k + 1) log)) (own_from links (drop (k + 1) sides)))

  -- the ties of this event are the next ones
  pub ties-more : (ties all : List Tie) →
      ties ++ ties_of (kept_from (events (drop k log)) (own_from rest (drop k sides))) ≡ all →
      (ties ++ own_ties) ++ later_ties (drop own.after (drop own.before rest)) ≡ all
  ties-more ties all same =
      ap (λ (ls : List Link). (ties ++ own_ties) ++ later_ties ls) (drop-drop own.after own.before rest)
      ∙ append_assoc ties own_ties (later_ties (drop (own.before + own.after) rest))
      ∙ sym (ap (λ (ss : List Sides). ties ++ ties_of (kept_from (events (get_or log k x ∷ drop (k + 1) log))
      (own_from rest ss))) sides_at)
      ∙ sym (ap (λ (xs : List Entry). ties ++ ties_of (kept_from (events xs) (own_from rest (drop k sides)))) log_at)
      ∙ same

-- the tie of a link from an event before, and of one to an event before
abbrev pub into : Id → Link → Tie
into id l = record { from = l.id; to = id }

abbrev pub out_of : Id → Link → Tie
out_of id l = record { from = id; to = l.id }

-- the ties from events before one, and to events before it
abbrev ties_into : Kept → List Tie
ties_into k = map (into k.event.id) k.before

abbrev ties_out_of : Kept → List Tie
ties_out_of k = map (out_of k.event.id) k.after

-- a tie of an event is one of its links
joined-of : (k : Kept) (t : Tie) → Contains (ties_around k.event.id k.before k.after) t →
    (r : Reason) × Joins k t.from r t.to
joined-of k t c = elim (Contains-append_cases (ties_into k) (ties_out_of k) t c) [
  | inl is ↦
      let l = Contains-map (into k.event.id) k.before t is in
      let from = ap (λ (x : Tie). x.from) l.2 in (
        l.0.reason,
        inl (
          sym (ap (λ (x : Tie). x.to) l.2),
          subst (λ (i : Id). Contains k.before (record { id = i; reason = l.0.reason })) from l.1,
        ),
      )
  | inr is ↦
      let l = Contains-map (out_of k.event.id) k.after t is in
      let to = ap (λ (x : Tie). x.to) l.2 in (
        l.0.reason,
        inr (
          sym (ap (λ (x : Tie). x.from) l.2),
          subst (λ (i : Id). Contains k.after (record { id = i; reason = l.0.reason })) to l.1,
        ),
      )
]

-- and each of its links is a tie
joined-into : (k : Kept) (i j : Id) (r : Reason) → Joins k i r j →
    Contains (ties_around k.event.id k.before k.after) (record { from = i; to = j })
joined-into k i j r (inl (e, c)) =
    Contains-append_left (ties_into k) (ties_out_of k) (record { from = i; to = j })
    (subst (λ (x : Id). Contains (ties_into k) (record { from = i; to = x })) (sym e)
    (Contains-mapped (into k.event.id) k.before (record { id = i; reason = r }) c))
joined-into k i j r (inr (e, c)) =
    Contains-append_right (ties_into k) (ties_out_of k) (record { from = i; to = j })
    (subst (λ (x : Id). Contains (ties_out_of k) (record { from = x; to = j })) (sym e)
    (Contains-mapped (out_of k.event.id) k.after (record { id = j; reason = r }) c))

-- a tie of a history is one of its links
tied-of : (kept : List Kept) (t : Tie) → Contains (ties_of kept) t → IsTied kept t.from t.to
tied-of [] t (k, l, e) = absurd (omega (arith, l))
tied-of (k ∷ kept) t c =
    elim (Contains-append_cases (ties_around k.event.id k.before k.after) (ties_of kept) t c) [
      | inl is ↦
          let j = joined-of k t is in
          (j.0, Any-from_contains (λ x. Joins x t.from j.0 t.to) (k ∷ kept) k (Contains-here k kept k refl) j.1)
      | inr is ↦
          let more = tied-of kept t is in
          let any = Any-contains (λ x. Joins x t.from more.0 t.to) kept more.1 in (
            more.0,
            Any-from_contains (λ x. Joins x t.from more.0 t.to) (k ∷ kept) any.0
                (Contains-there k kept any.0 any.1) any.2,
          )
    ]

-- a link of some event of a history is one of its ties
contained-tie : (kept : List Kept) (k : Kept) (i j : Id) (r : Reason) → Contains kept k → Joins k i r j →
    Contains (ties_of kept) (record { from = i; to = j })
contained-tie [] k i j r (n, l, e) joins = absurd (omega (arith, l))
contained-tie (x ∷ kept) k i j r c joins = elim (Contains-cons x kept k c) [
  | inl is ↦ Contains-append_left (ties_around x.event.id x.before x.after) (ties_of kept)
      (record { from = i; to = j })
      (subst (λ (y : Kept). Contains (ties_around y.event.id y.before y.after) (record { from = i; to = j })) (sym is)
      (joined-into k i j r joins))
  | inr is ↦ Contains-append_right (ties_around x.event.id x.before x.after) (ties_of kept)
      (record { from = i; to = j }) (contained-tie kept k i j r is joins)
]

-- each link of a history is one of its ties
tied-into : (kept : List Kept) (i j : Id) → IsTied kept i j → Contains (ties_of kept) (record { from = i; to = j })
tied-into kept i j (r, any) =
    let k = Any-contains (λ x. Joins x i r j) kept any in contained-tie kept k.0 i j r k.1 k.2

-- links that are edges and cover every edge are so as ties
pub are_ties : (model : MemoryModel) (kept : List Kept) → IsCarried model kept →
    AreTiesOf model (happened kept) (ties_of kept)
are_ties model kept carried = record {
  each = λ t c. let is = tied-of kept t c in (is.0, carried.true_edges t.from t.to is.0 is.1);
  covered = λ i j r other edge.
      path-map Id (IsTied kept) (λ a b. Contains (ties_of kept) (record { from = a; to = b })) (tied-into kept) i j
      (carried.covered i j r other edge);
}
