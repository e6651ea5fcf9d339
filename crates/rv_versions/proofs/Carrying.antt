-- Each edge of the new event is linked, or another event splits it.
use Rattle.rv_versions.proofs.Common.{◌≡◌, ◌≢◌, ◌<◌, List, [], ◌∷◌, ◌++◌, Bool, cond, Contains, Option, Some}
use Rattle.rv_versions.proofs.Common.{None, ◌⊎◌, inl, inr, refl, sym, ap, ◌∙◌, arith, rules, cases_lt, none-some}
use Rattle.rv_versions.proofs.Common.{common_steps, Indexed, Sound, writer-is, IsLoad, IsStore, IsCoherence}
use Rattle.rv_versions.proofs.Common.{IsReadsFrom, IsFromRead, IsAtomicIn, IsAtomicOut, HasReason, Event, Id}
use Rattle.rv_versions.proofs.Common.{MemoryModel, Link, Reason, Preserved, Coherence, ReadsFrom, FromRead}
use Rattle.rv_versions.proofs.Common.{AtomicIn, AtomicOut, IsSplit, Names, access, id_of, IsPair, link, stored}
use Rattle.rv_versions.proofs.Common.{returned, held, ComesBefore, ComesAfter, AreBefore, AreAfter, IsReserved}
use Rattle.rv_versions.proofs.Common.{IsOfVersions, Access, Reservation}
use Rattle.rv_versions.proofs.Around.{reserved_of}
use Rattle.rv_versions.proofs.Found.{store_access, load_access, store_found, FoundStore, store_listed}
use Rattle.rv_versions.proofs.Found.{load_listed, pair_listed}
use Rattle.rv_versions.proofs.Paired.{is_new, pair_settled}

-- two ids are equal or not
same_id_or : (i j : Id) → (i ≡ j) ⊎ (i ≢ j)
same_id_or i j = grind (arith, common_steps)

-- a store has stored what it wrote
pub stored_of : (e : Event) → IsStore e → stored e ≡ Some e.wrote
stored_of e s = ap (λ (b : Bool). cond b (Some e.wrote) None) s

-- a load has returned what it read
pub returned_of : (e : Event) → IsLoad e → returned e ≡ Some e.read
returned_of e s = ap (λ (b : Bool). cond b (Some e.read) None) s

module _ (model : MemoryModel) (log : List Event) (e : Event) (reserved : Option Reservation) (known : Indexed log)
    (sound : Sound log e) (is : IsReserved log e reserved) (links : List Link) where
  -- the log with the event
  abbrev pub new : List Event
  new = log ++ e ∷ []

  abbrev Carried : Reason → Event → Event → Event → Type 0
  Carried reason a b x = Names links x.id ⊎ IsSplit model log new reason a b

  module _ (l : AreBefore log e reserved links) where
    linked : (reason : Reason) (x : Access) (i : Id) →
        ComesBefore l.own l.lr e reserved l.low l.unparted reason x → id_of x ≡ i → Names links i
    linked reason x i p same = (link (id_of x) reason, l.linked.each reason x p, same)

    -- the store at the lower bound
    at_low : IsStore e → 0 < l.low → (x : Access) × FoundStore log e.word x × Contains l.own.stores x
        × (x.version ≡ l.low) × (l.low < e.wrote)
    at_low store some =
        let m = (l.is_low e.wrote (stored_of e store)).some some in
        (m.0, store_found log e.word l.own l.theirs.of_own m.0 m.1, m.1, m.2, m.3)

    coherence_before : (a : Event) → Contains log a → IsCoherence a e → Carried Coherence a e a
    coherence_before a c h = elim (cases_lt a.wrote l.low) [
      | inl under ↦
          let s = at_low h.second (omega arith) in
          inr (record { c = s.1.store; of_log = s.1.of_log; splits = grind (arith, common_steps) })
      | inr over ↦ inl (linked Coherence (store_access a) a.id (
        store_listed log e.word l.own l.theirs.of_own a c h.first h.word,
        (e.wrote, stored_of e h.second, over, h.versions),
      ) refl)
    ]

    reads_from_before : (a : Event) → Contains log a → IsReadsFrom new a e → Carried ReadsFrom a e a
    reads_from_before a c h =
        let w = writer-is new e.word e.read a h.is_writer in
        let other : a.id.hart ≢ e.id.hart = grind (arith, common_steps) in
        inl (linked ReadsFrom (store_access a) a.id (
          store_listed log e.word l.own l.theirs.of_own a c w.store (sym w.word),
          returned_of e h.load ∙ ap Some w.version,
          other,
        ) refl)

    from_read_before : (a : Event) → Contains log a → IsFromRead a e → Carried FromRead a e a
    from_read_before a c h = elim (cases_lt a.read l.low) [
      | inl under ↦
          let s = at_low h.store (omega arith) in
          elim (same_id_or a.id s.1.store.id) [
            | inl own ↦ inl (linked Coherence s.0 a.id
                (s.2, (e.wrote, stored_of e h.store, omega (arith, s.3), omega (arith, s.3, s.4)))
                (s.1.named ∙ sym own))
            | inr other ↦ inr (record { c = s.1.store; of_log = s.1.of_log; splits = grind (arith, common_steps) })
          ]
      | inr over ↦ inl (linked FromRead (load_access a) a.id (
        load_listed log e.word l.own l.theirs.of_own a c h.load (sym h.word),
        (e.wrote, stored_of e h.store, over, h.versions),
      ) refl)
    ]

    atomic_in_before : (a : Event) → Contains log a → IsAtomicIn new a e → Carried AtomicIn a e a
    atomic_in_before a c h =
        let r = reserved_of model log e reserved known sound is h.lr
        (record { of_log = h.of_log; paired = h.paired }) in
        let w = writer-is new h.lr.word h.lr.read a h.is_writer in
        inl (linked AtomicIn (store_access a) a.id (
          store_listed log r.0.word l.lr (l.theirs.of_lr r.0 r.1) a c w.store (sym w.word ∙ r.2),
          grind (arith, common_steps),
        ) refl)

    atomic_out_before : (a : Event) → Contains log a → IsAtomicOut new a e → Carried AtomicOut a e a
    atomic_out_before a c h =
        let pair : IsPair log h.lr a = search (pair_settled, rules) in
        let x : Access = access h.lr.word h.lr.read a.id in
        let in_pairs = pair_listed log e.word l.own l.theirs.of_own a h.lr c pair (sym h.word) in
        let other : a.id.hart ≢ e.id.hart = λ same. h.other_hart (sym same) in
        elim (cases_lt h.lr.read l.unparted) [
          | inl under ↦
              let s = l.is_unparted e.wrote (stored_of e h.store) x in_pairs h.versions under other in
              let f = store_found log e.word l.own l.theirs.of_own s.0 s.1 in
              inr (record { c = f.store; of_log = f.of_log; splits = grind (arith, common_steps) })
          | inr over ↦ inl (linked AtomicOut x a.id
              (in_pairs, (e.wrote, stored_of e h.store, over, h.versions), other) refl)
        ]

    -- each edge into the event is linked or split
    pub carried_before : (reason : Reason) (a : Event) → IsOfVersions reason → Contains log a →
        HasReason model new reason a e → Carried reason a e a
    carried_before (Preserved k) a of c h = absurd (of k refl)
    carried_before Coherence a of c h = coherence_before a c h
    carried_before ReadsFrom a of c h = reads_from_before a c h
    carried_before FromRead a of c h = from_read_before a c h
    carried_before AtomicIn a of c h = atomic_in_before a c h
    carried_before AtomicOut a of c h = atomic_out_before a c h

  module _ (l : AreAfter log e reserved links) where
    linked_out : (reason : Reason) (x : Access) (i : Id) →
        ComesAfter l.own l.lr e reserved l.next l.above l.foreign reason x → id_of x ≡ i → Names links i
    linked_out reason x i p same = (link (id_of x) reason, l.linked.each reason x p, same)

    coherence_after : (b : Event) → Contains log b → IsCoherence e b → Carried Coherence e b b
    coherence_after b c h =
        let y : Access = store_access b in
        let in_stores = store_listed log e.word l.own l.theirs.of_own b c h.second (sym h.word) in
        elim (cases_lt b.wrote l.next) [
          | inl low ↦ inl (linked_out Coherence y b.id
              (in_stores, (e.wrote, stored_of e h.first, h.versions, low)) refl)
          | inr high ↦
              let s = (l.is_next e.wrote (stored_of e h.first)).some y in_stores h.versions (none-some b.id.hart) in
              let f = store_found log e.word l.own l.theirs.of_own s.0 s.1 in
              inr (record { c = f.store; of_log = f.of_log; splits = grind (arith, common_steps) })
        ]

    reads_from_after : (b : Event) → Contains log b → IsReadsFrom new e b → Carried ReadsFrom e b b
    reads_from_after b c h =
        let w = writer-is new b.word b.read e h.is_writer in
        inl (linked_out ReadsFrom (load_access b) b.id (
          load_listed log e.word l.own l.theirs.of_own b c h.load w.word,
          stored_of e w.store ∙ ap Some (sym w.version),
        ) refl)

    from_read_after : (b : Event) → Contains log b → IsFromRead e b → Carried FromRead e b b
    from_read_after b c h =
        let y : Access = store_access b in
        let in_stores = store_listed log e.word l.own l.theirs.of_own b c h.store h.word in
        elim (cases_lt b.wrote l.above) [
          | inl low ↦ inl (linked_out FromRead y b.id
              (in_stores, (e.read, returned_of e h.load, h.versions, low)) refl)
          | inr high ↦
              let s = (l.is_above e.read (returned_of e h.load)).some y in_stores h.versions (none-some b.id.hart) in
              let f = store_found log e.word l.own l.theirs.of_own s.0 s.1 in
              let other : e.id ≢ f.store.id = λ same. is_new log e known sound f.store f.of_log (sym same) in
              inr (record { c = f.store; of_log = f.of_log; splits = grind (arith, common_steps) })
        ]

    atomic_in_after : (b : Event) → Contains log b → IsAtomicIn new e b → Carried AtomicIn e b b
    atomic_in_after b c h =
        let w = writer-is new h.lr.word h.lr.read e h.is_writer in
        let pair : IsPair log h.lr b = search (pair_settled, rules) in
        inl (linked_out AtomicIn (access h.lr.word h.lr.read b.id) b.id (
          pair_listed log e.word l.own l.theirs.of_own b h.lr c pair w.word,
          stored_of e w.store ∙ ap Some (sym w.version),
        ) refl)

    atomic_out_after : (b : Event) → Contains log b → IsAtomicOut new e b → Carried AtomicOut e b b
    atomic_out_after b c h =
        let r = reserved_of model log e reserved known sound is h.lr
        (record { of_log = h.of_log; paired = h.paired }) in
        let y : Access = store_access b in
        let of_lr = l.theirs.of_lr r.0 r.1 in
        let in_stores = store_listed log r.0.word l.lr of_lr b c h.store (h.word ∙ r.2) in
        let holds : held reserved ≡ Some r.0.version = grind (arith, common_steps) in
        let over : r.0.version < b.wrote = grind (arith, common_steps) in
        elim (cases_lt b.wrote l.foreign) [
          | inl low ↦ inl (linked_out AtomicOut y b.id
              (in_stores, (r.0.version, holds, over, low), h.other_hart) refl)
          | inr high ↦
              let s = (l.is_foreign r.0.version holds).some y in_stores over (grind (arith, common_steps)) in
              let f = store_found log r.0.word l.lr of_lr s.0 s.1 in
              inr (record { c = f.store; of_log = f.of_log; splits = grind (arith, common_steps) })
        ]

    -- and each edge out of it
    pub carried_after : (reason : Reason) (b : Event) → IsOfVersions reason → Contains log b →
        HasReason model new reason e b → Carried reason e b b
    carried_after (Preserved k) b of c h = absurd (of k refl)
    carried_after Coherence b of c h = coherence_after b c h
    carried_after ReadsFrom b of c h = reads_from_after b c h
    carried_after FromRead b of c h = from_read_after b c h
    carried_after AtomicIn b of c h = atomic_in_after b c h
    carried_after AtomicOut b of c h = atomic_out_after b c h
