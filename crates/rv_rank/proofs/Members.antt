-- The members of a placement, as the visits tell them.
use Rattle.rv_rank.proofs.Common.{◌≡◌, ℕ, ◌+◌, ◌<◌, ◌≤◌, Bool, true, false, List, [], ◌∷◌, ◌++◌, length, get_or}
use Rattle.rv_rank.proofs.Common.{set, sym, ◌∙◌, arith, ap, All, filter, get_or_default}
use Rattle.rv_rank.proofs.Common.{common_steps, inl, inr, IsInverse, is_ahead_in}
use Rattle.rv_rank.proofs.Common.{is_behind_in, slot_in, members_of, IsMended, Found, IsPlan, IsRoster, IsLocal}
use Rattle.std.proofs.lemmas.Bool.{false_from_ne_true}
use Rattle.rv_rank.proofs.Finding.{traced_is}
use Rattle.rv_rank.proofs.Counting.{count_to, count_below-count_to}
use Rattle.rv_rank.proofs.Slots.{members_of-long}
use Rattle.rv_rank.proofs.Mending.{either_of, or_cases, members_long, members_apart, members_below, mended_inverse}
use Rattle.rv_rank.proofs.Mending.{mended_local}

module _ (found : Found) (nodes ranks visits : List ℕ) (inverse : IsInverse nodes ranks)
    (plan : IsPlan found nodes ranks visits) where
  abbrev low : ℕ
  low = found.low

  abbrev split : ℕ
  split = found.split

  abbrev b : ℕ → Bool
  b = is_behind_in found ranks

  abbrev f : ℕ → Bool
  f = is_ahead_in found ranks

  -- the new node was not found
  new_b : b (length nodes) ≡ false
  new_b = false_from_ne_true (b (length nodes)) (λ e. omega (arith, plan.behind (length nodes) e))

  new_f : f (length nodes) ≡ false
  new_f = false_from_ne_true (f (length nodes)) (λ e. omega (arith, (plan.ahead (length nodes) e).0))

  above_b : (a : ℕ) → a < length nodes → b a ≡ true → low ≤ get_or ranks a 0
  above_b a l e = (traced_is low ranks found.behind a e).1

  above_f : (a : ℕ) → a < length nodes → f a ≡ true → low ≤ get_or ranks a 0
  above_f a l e = (plan.ahead a e).1

  first_slot : low < length nodes → f (get_or nodes low 0) ≡ true
  first_slot l =
      let s = plan.lowest l in
      ap f (ap (λ k. get_or nodes k 0) (sym s.3) ∙ (inverse.back s.0 (omega (arith, s.1, inverse.long))).1) ∙ s.2

  -- a slot is the rank of an affected node
  slots_within : (r : ℕ) → slot_in found r ≡ true → (low ≤ r) × (r < length nodes)
  slots_within r e =
      let l = plan.slots.within r e in
      let a = get_or nodes r 0 in
      let here = (inverse.there r l).1 in (
        elim (or_cases (b a) (f a) (sym (plan.slots.each r l) ∙ e)) [
          | inl w ↦ omega (arith, above_b a (omega (arith, inverse.there r l, inverse.long)) w, here)
          | inr w ↦ omega (arith, (plan.ahead a w).1, here)
        ],
        l,
      )

  same_members : members_of visits split (length nodes) ≡ filter b nodes ++ length nodes ∷ filter f nodes
  same_members = grind (arith, common_steps)

  split_within : split ≤ length visits
  split_within = grind (arith, common_steps)

  count_listed : length visits ≡ count_to (either_of b f) nodes (length nodes)
  count_listed = omega (
    arith,
    members_of-long visits split (length nodes) split_within,
    ap length same_members,
    members_long b f nodes ranks inverse plan.apart new_b new_f,
  )

  members_placed : All (λ a. a < length nodes + 1) (members_of visits split (length nodes))
  members_placed = rw same_members (λ k d l.
      let e = get_or_default (filter b nodes ++ length nodes ∷ filter f nodes) k d 0 l in
      rw e (members_below b f nodes ranks inverse plan.apart new_b new_f k l))

  -- the members, each with a place
  pub roster : (ranks0 : List ℕ) → length ranks0 ≡ length nodes + 1 → IsRoster found nodes ranks0 visits
  roster ranks0 e = record {
    few = plan.few;
    split = split_within;
    count = count_listed ∙ sym (count_below-count_to (slot_in found) (either_of b f) nodes (length nodes)
        plan.slots.each (omega arith));
    slots = slots_within;
    placed = rw e members_placed;
    apart = λ i j less m. rw same_members (members_apart b f nodes ranks inverse plan.apart new_b new_f i j less
        (omega (arith, m, ap length same_members, members_of-long visits split (length nodes) split_within)));
  }

  module _ (ranks0 nodes1 ranks1 : List ℕ) (last : ℕ) (begun : ranks0 ≡ ranks ++ length nodes ∷ [])
      (is_last : last ≡ get_or (members_of visits split (length nodes)) (length visits) 0)
      (h : IsMended (slot_in found) (members_of visits split (length nodes)) nodes ranks0 nodes1 ranks1
      (length nodes)) where
    last_is : last ≡ get_or (filter b nodes ++ length nodes ∷ filter f nodes)
        (count_to (either_of b f) nodes (length nodes)) 0
    last_is = is_last ∙ ap (λ x. get_or x (length visits) 0) same_members ∙
        ap (λ k. get_or (filter b nodes ++ length nodes ∷ filter f nodes) k 0) count_listed

    -- nodes and ranks stay inverse with the new node at the end
    pub final_inverse : IsInverse (nodes1 ++ last ∷ []) (set ranks1 last (length nodes))
    final_inverse =
        let m = rw same_members at h in
        rw last_is (mended_inverse b f nodes ranks inverse plan.apart new_b new_f (slot_in found) plan.slots.each low
        (omega (arith, plan.few)) first_slot above_b above_f ranks0 nodes1 ranks1 begun m)

    -- and all other ranks stay
    pub final_local : IsLocal b f low ranks (set ranks1 last (length nodes))
    final_local =
        let m = rw same_members at h in
        rw last_is (mended_local b f nodes ranks inverse plan.apart new_b new_f (slot_in found) plan.slots.each low
        (omega (arith, plan.few)) first_slot above_b above_f ranks0 nodes1 ranks1 begun m)
