-- What the two searches find together.
use Rattle.rv_rank.proofs.Common.{◌≡◌, ℕ, ◌<◌, ◌≤◌, ◌&&◌, true, false, not, List, [], ◌++◌, length, get_or, reverse}
use Rattle.rv_rank.proofs.Common.{inl, inr}
use Rattle.rv_rank.proofs.Common.{sym, ◌∙◌, arith, ap, All, Contains, All-contains, filter_passes, common_steps}
use Rattle.rv_rank.proofs.Common.{and_parts, cases_lt, lt-ltb, le-ltb, false≢true, nat_lt, IsCircle, IsTrail}
use Rattle.rv_rank.proofs.Common.{IsOrder, Ordering, IsSearched, IsTraced, IsFound, found_ahead, found_behind, Found}
use Rattle.rv_rank.proofs.Common.{is_traced, is_behind_in, IsAhead, IsInverse, OnlyAffected}
use Rattle.rv_rank.proofs.Common.{OnlyAhead, AreAdded, AreRanks, Has, has_bit, has_slot, is_ahead_in, ◌||◌}
use Rattle.rv_rank.proofs.Common.{Bool, refl, filter, filter_agree}
use Rattle.rv_rank.proofs.Listing.{filter_none}
use Rattle.rv_rank.proofs.Sets.{has_slot-at, has_slot-below, has_slot-none, has_slot-of, has_slot-past}
use Rattle.std.proofs.Math.Bool.{and-true}
use Rattle.std.proofs.lemmas.Bool.{false_from_ne_true}
use Rattle.rv_rank.proofs.Searching.{reached_found}
use Rattle.rv_rank.proofs.Tracing.{reaching_found}

-- a trail from a successor to a predecessor is a circle
pub circle_from_trail : (edges : List (List ℕ)) (succs preds : List ℕ) (end : ℕ) (path : List ℕ) →
    IsTrail edges succs end path → Contains preds end → IsCircle edges preds succs path
circle_from_trail edges succs preds end path h w = grind (arith, common_steps)

-- a node that was found backward and is affected is in the set, and of rank `low` or above
pub traced_is : (low : ℕ) (ranks behind : List ℕ) (a : ℕ) → is_traced low ranks behind a ≡ true →
    Has behind a × (low ≤ get_or ranks a 0)
traced_is low ranks behind a e =
    let both = and_parts (has_bit behind a) (not (nat_lt (get_or ranks a 0) low)) e in (
      both.0,
      elim (cases_lt (get_or ranks a 0) low) [
        | inl under ↦ absurd (false≢true (sym (ap not (lt-ltb _ low under)) ∙ both.1))
        | inr over ↦ over
      ],
    )

-- and one that is both is affected
pub is_traced-from : (low : ℕ) (ranks behind : List ℕ) (a : ℕ) → Has behind a → low ≤ get_or ranks a 0 →
    is_traced low ranks behind a ≡ true
is_traced-from low ranks behind a m up = ap (λ x. x && not (nat_lt (get_or ranks a 0) low)) m ∙ ap not (le-ltb _ low up)

-- the visits forward are of nodes found forward
pub only_ahead : (edges : List (List ℕ)) (nodes ranks succs : List ℕ) (low : ℕ) (slots : List ℕ) (r : ℕ)
    (visits : List ℕ) → IsSearched edges ranks succs low (has_slot ranks slots) r →
    visits ≡ filter (has_slot ranks slots) nodes → OnlyAhead edges ranks succs visits
only_ahead edges nodes ranks succs low slots r visits h e a w =
    let test = has_slot ranks slots in
    let f = rw e at w in
    let m = All-contains (λ x. test x ≡ true) (filter test nodes) a (filter_passes test nodes) f in
    (h.found a m, has_slot-below ranks slots a m)

-- and these are affected
pub only_affected : (edges : List (List ℕ)) (ranks preds succs list : List ℕ) → OnlyAhead edges ranks succs list →
    OnlyAffected edges ranks preds succs list
only_affected edges ranks preds succs list h a w = (inl (h a w).0, (h a w).1)

-- without successors nothing is affected
pub found_none : (edges : List (List ℕ)) (order : Ordering) (preds : List ℕ) (found : Found) →
    found.low ≡ length order.ranks → found.split ≡ 0 → ((a : ℕ) → has_bit found.behind a ≡ false) →
    ((r : ℕ) → has_bit found.slots r ≡ false) → IsFound edges order preds [] found []
found_none edges order preds found at none behind slots =
    let ahead : (a : ℕ) → is_ahead_in found order.ranks a ≡ false =
    λ a. ap (λ x. x && not (is_behind_in found order.ranks a)) (has_slot-none order.ranks found.slots a slots) in
    let no_ahead : found_ahead found order ≡ [] =
    filter_none (is_ahead_in found order.ranks) order.nodes (λ k l. ahead (get_or order.nodes k 0)) in
    let lacks : (a : ℕ) → is_behind_in found order.ranks a ≡ false =
    λ a. ap (λ x. x && not (nat_lt (get_or order.ranks a 0) found.low)) (behind a) in
    let no_behind : found_behind found.low order found.behind ≡ [] =
    filter_none (is_traced found.low order.ranks found.behind) order.nodes (λ k l. lacks (get_or order.nodes k 0)) in
    record {
      few = omega (arith, at);
      lowest = λ l. absurd (omega (arith, at, l));
      free = λ s p w. absurd (omega (arith, w.1));
      within = λ a e. absurd (false≢true (sym (ahead a) ∙ e));
      nodes = λ a e. absurd (false≢true (sym (lacks a) ∙ e));
      ahead = λ a e. absurd (false≢true (sym (ahead a) ∙ e));
      all_ahead = λ a w. absurd (omega (arith, w.1.1));
      behind = λ a e. absurd (false≢true (sym (lacks a) ∙ e));
      all_behind = λ a w. absurd (omega (arith, w.0.1.1));
      visits = sym (ap (λ x. x ++ reverse (found_behind found.low order found.behind)) no_ahead ∙ ap reverse no_behind);
      split = none ∙ sym (ap length no_ahead);
      slots = record {
        each = λ r l.
            let a = get_or order.nodes r 0 in
            slots r ∙ sym (ap (λ x. x || is_ahead_in found order.ranks a) (lacks a) ∙ ahead a);
        within = λ r e. absurd (false≢true (sym (slots r) ∙ e));
      };
    }

-- the slots were those of the nodes found forward, before those of the nodes found backward were added
module _ (edges : List (List ℕ)) (order : Ordering) (preds succs : List ℕ) (found : Found) (slots : List ℕ)
    (o : IsOrder edges order.ranks) (inverse : IsInverse order.nodes order.ranks)
    (h : IsSearched edges order.ranks succs found.low (has_slot order.ranks slots) (length order.ranks))
    (t : IsTraced edges order.ranks preds found.behind found.low)
    (added : AreAdded (is_traced found.low order.ranks found.behind) order.nodes slots found.slots)
    (none : All (λ p. has_slot order.ranks slots p ≡ false) preds) where
  abbrev ahead : ℕ → Bool
  ahead = has_slot order.ranks slots

  abbrev behind : ℕ → Bool
  behind = is_behind_in found order.ranks

  ahead_full : (a : ℕ) → IsAhead edges succs a → ahead a ≡ true
  ahead_full a w = reached_found edges order.ranks succs found.low ahead o h w.0 a w.2 (h.begun w.0 w.1)

  -- what was found backward was not found forward
  found_apart : (a : ℕ) → behind a ≡ true → ahead a ≡ false
  found_apart a e = false_from_ne_true (ahead a) (λ is.
      let p = t.found a (traced_is found.low order.ranks found.behind a e).0 in
      false≢true (sym (All-contains (λ p. ahead p ≡ false) preds p.0 none p.1)
      ∙ reached_found edges order.ranks succs found.low ahead o h a p.0 p.2 is))

  -- of the slots, those that are of no node found backward are of those found forward
  slot_told : (a : ℕ) (x : Bool) → behind a ≡ x → ((x || ahead a) && not x) ≡ ahead a
  slot_told a true e = sym (found_apart a e)
  slot_told a false e = and-true (ahead a)

  ahead_same : (a : ℕ) → is_ahead_in found order.ranks a ≡ ahead a
  ahead_same a = elim (cases_lt a (length order.ranks)) [
    | inl l ↦
        let back = inverse.back a l in
        let put = added.ranks (get_or order.ranks a 0) back.0 in
        let told = rw back.1 at put in
        ap (λ x. x && not (behind a)) (has_slot-of order.ranks found.slots a l ∙ told
        ∙ ap (λ x. behind a || x) (sym (has_slot-of order.ranks slots a l))) ∙ slot_told a (behind a) refl
    | inr p ↦ ap (λ x. x && not (behind a)) (has_slot-past order.ranks found.slots a p)
        ∙ sym (has_slot-past order.ranks slots a p)
  ]

  ahead_is : (a : ℕ) → is_ahead_in found order.ranks a ≡ true → ahead a ≡ true
  ahead_is a e = sym (ahead_same a) ∙ e

  -- what the two searches have found
  pub found_both : (first list : List ℕ) → AreRanks order.ranks slots →
      ((a : ℕ) → Has found.behind a → a < length order.ranks) →
      All (λ s. found.low ≤ get_or order.ranks s 0) succs → found.low ≤ length order.ranks →
      (found.low < length order.ranks → (s : ℕ) × Contains succs s × (get_or order.ranks s 0 ≡ found.low)) →
      found.split ≡ length first → first ≡ filter ahead order.nodes →
      list ≡ first ++ reverse (found_behind found.low order found.behind) →
      IsFound edges order preds succs found list
  found_both first list within backward least few lowest n f e =
      let listed : filter ahead order.nodes ≡ found_ahead found order =
      filter_agree ahead (is_ahead_in found order.ranks) (λ a. sym (ahead_same a)) order.nodes in
      record {
        few = few;
        lowest = lowest;
        free = λ s p w v r. false≢true (sym (All-contains (λ p. ahead p ≡ false) preds p none v)
            ∙ ahead_full p (s, w, r));
        within = λ a m. (has_slot-below order.ranks slots a (ahead_is a m), h.high a (ahead_is a m));
        nodes = λ a m. backward a (traced_is found.low order.ranks found.behind a m).0;
        ahead = λ a m. h.found a (ahead_is a m);
        all_ahead = λ a w. ahead_same a ∙ ahead_full a w;
        behind = λ a m.
            let w = traced_is found.low order.ranks found.behind a m in
            let s = lowest (omega (arith, w.1, o.below a (backward a w.0))) in
            ((s.0, s.1, omega (arith, s.2, w.1)), t.found a w.0);
        all_behind = λ a w.
            let up : found.low ≤ get_or order.ranks a 0 = omega (
              arith,
              w.0.2,
              All-contains (λ s. found.low ≤ get_or order.ranks s 0) succs w.0.0 least w.0.1,
            ) in
            is_traced-from found.low order.ranks found.behind a (reaching_found edges order.ranks preds o found.low
            found.behind t a w.1.0 w.1.2 w.1.1 up) up;
        visits = e ∙ ap (λ x. x ++ reverse (found_behind found.low order found.behind)) (f ∙ listed);
        split = n ∙ ap length (f ∙ listed);
        slots = record {
          each = λ r l.
              let a = get_or order.nodes r 0 in
              added.ranks r l ∙ ap (λ x. behind a || x) (sym (has_slot-at order.nodes order.ranks slots r inverse l)
              ∙ sym (ahead_same a));
          within = λ r e. elim (cases_lt r (length order.nodes)) [
            | inl under ↦ under
            | inr past ↦ absurd (omega (arith, within r (sym (added.beyond r past) ∙ e), inverse.long, past))
          ];
        };
      }
