-- Which SC is paired with which LR, and what is kept of them.
use Rattle.std.proofs.Common.{ℕ, ◌++◌, ◌+◌, ◌∷◌, ◌≡◌, ◌⊎◌, ◌∙◌, ◌<◌, ◌≤◌, ◌==◌, [], Bool, Contains}
use Rattle.std.proofs.Common.{List, None, Option, Some, ap, arith, cond, false, filter, find, inl, inr}
use Rattle.std.proofs.Common.{length, option_map, refl, reverse, subst, suc, sym}
use Rattle.std.proofs.Common.{IsFalse, eq-eqb, true, unwrap_or}
use Rattle.std.proofs.lemmas.Bool.{cases_lt, false≢true}
use Rattle.std.proofs.lemmas.List.{reverse-append}
use Rattle.std.proofs.lemmas.List.Elements.{All-contains, filter_passes}
use Rattle.std.proofs.lemmas.List.Folds.{find-append}
use Rattle.std.proofs.lemmas.Option.{same_Some}
use Rattle.std.specs.Option.{option_or}
use Rattle.std.specs.Prelude.{nat_lt}
use Rattle.rv_event.proofs.Beginnings.{numbered_within}
use Rattle.rv_event.proofs.Growing.{All-from_contains}
use Rattle.rv_event.proofs.Indexed.{IndexedWithin, indexed_within}
use Rattle.rv_event.proofs.Merged.{Contains-filter, Contains-unfilter}
use Rattle.rv_event.proofs.Names.{Contains-cons, Contains-here, Contains-none, Contains-there}
use Rattle.rv_event.specs.Faults.{is_lr, is_reserved, is_sc}
use Rattle.rv_event.specs.Log.{Between, Earlier, events, named, of_hart}
use Rattle.rv_event.specs.Operations.{is_exclusive}
use Rattle.rv_event.specs.Relations.{Paired}
use Rattle.rv_event.specs.WellFormed.{WellFormedWithin}
use Rattle.rv_event.specs.declared.event.Entry.{Entry}
use Rattle.rv_event.specs.declared.event.Event.{Event}
use Rattle.rv_event.specs.declared.event.Op.{Op}
use Rattle.rv_event.specs.declared.event.Op.TheVariants.{Amo, Branch, Carrier, Fence, FenceTso, Load, Lr, Sc}
use Rattle.rv_event.specs.declared.event.Op.TheVariants.{ScFailed, Store}
use Rattle.rv_settle.proofs.Counted.{CountsFrom, counts-behind, counts-front, counts-here, counts-rest, ends-renumbered}
use Rattle.rv_settle.proofs.Counted.{ends_reserved, high-true, is_high, is_low, low-high, low-lower, low-true}
use Rattle.rv_settle.proofs.Counted.{of_hart-is, own-forgotten, own-window}
use Rattle.rv_settle.specs.Laws.{PairsAreKept}
use Rattle.rv_settle.specs.Windows.{IsKept, KeepsPair, LeavesReserved, window}

-- the last that passes a test, where there is one
pub LastOf : (Event → Bool) → List Event → Option Event → Type 0
LastOf p es (Some m) =
    Contains es m × (p m ≡ true) × ((z : Event) → Contains es z → p z ≡ true → z.id.seq ≤ m.id.seq)
LastOf p es None = (z : Event) → Contains es z → p z ≡ false

-- a search from the end finds it
last-of : (p : Event → Bool) (s : ℕ) (es : List Event) → CountsFrom s es → LastOf p es (find p (reverse es))
unfolding LastOf
last-of p s [] counts = λ z c. absurd (Contains-none z c)
last-of p s (e ∷ es) counts =
    subst (LastOf p (e ∷ es)) (sym (ap (find p) (reverse-append (e ∷ []) es) ∙ find-append p (reverse es) (e ∷ [])))
    (go (find p (reverse es)) (p e) refl (last-of p (suc s) es (counts-rest s e es counts)))
  where
    above : (z : Event) → Contains es z → s < z.id.seq
    above z (k, low, is) =
        let at = counts-rest s e es counts k z low in
        let same = ap (λ (x : Event). x.id.seq) is in
        omega (arith, at, same)

    go : (o : Option Event) (b : Bool) → p e ≡ b → LastOf p es o →
        LastOf p (e ∷ es) (option_or o (cond b (Some e) None))
    go (Some m) b is found = (
      Contains-there e es m found.0,
      found.1,
      λ z c passes. elim (Contains-cons e es z c) [
        | inl same ↦ (
            let here = counts-here s e es counts in
            let less = above m found.0 in
            let at = ap (λ (x : Event). x.id.seq) same in
            omega (arith, here, less, at))
        | inr there ↦ found.2 z there passes
      ],
    )
    go None true is none = (
      Contains-here e es e refl,
      is,
      λ z c passes. elim (Contains-cons e es z c) [
        | inl same ↦ (let at = ap (λ (x : Event). x.id.seq) same in omega (arith, at))
        | inr there ↦ absurd (false≢true (sym (none z there) ∙ passes))
      ],
    )
    go None false is none = λ z c. elim (Contains-cons e es z c) [
      | inl same ↦ sym (ap p same) ∙ is
      | inr there ↦ none z there
    ]

-- what is an LR, and what is an SC
lr-op : (op : Op) → is_lr op ≡ true → op ≡ Lr
lr-op Lr is = refl
lr-op Load is = absurd (false≢true is)
lr-op Store is = absurd (false≢true is)
lr-op Sc is = absurd (false≢true is)
lr-op ScFailed is = absurd (false≢true is)
lr-op Amo is = absurd (false≢true is)
lr-op (Fence before after) is = absurd (false≢true is)
lr-op FenceTso is = absurd (false≢true is)
lr-op Branch is = absurd (false≢true is)
lr-op Carrier is = absurd (false≢true is)

sc-op : (op : Op) → is_sc op ≡ true → op ≡ Sc
sc-op Sc is = refl
sc-op Load is = absurd (false≢true is)
sc-op Store is = absurd (false≢true is)
sc-op Lr is = absurd (false≢true is)
sc-op ScFailed is = absurd (false≢true is)
sc-op Amo is = absurd (false≢true is)
sc-op (Fence before after) is = absurd (false≢true is)
sc-op FenceTso is = absurd (false≢true is)
sc-op Branch is = absurd (false≢true is)
sc-op Carrier is = absurd (false≢true is)

-- it opens or closes a reservation
abbrev exclusive : Event → Bool
exclusive m = is_exclusive m.op

-- whether what was found is an LR
abbrev pub tells : Option Event → Bool
tells o = unwrap_or (option_map (λ (k : Event). is_lr k.op) o) false

-- where the whole ends with a reservation, and the second part has an LR, SC or failed SC, so does that part
ends-high : (s : ℕ) (xs ys : List Event) → CountsFrom s ys → (m : Event) → Contains ys m → exclusive m ≡ true →
    ends_reserved (xs ++ ys) ≡ true → ends_reserved ys ≡ true
unfolding LastOf
ends-high s xs ys counts m c passes whole = go (find exclusive (reverse ys)) refl (last-of exclusive s ys counts)
  where
    found : find exclusive (reverse (xs ++ ys)) ≡ option_or (find exclusive (reverse ys)) (find exclusive (reverse xs))
    found = ap (find exclusive) (reverse-append xs ys) ∙ find-append exclusive (reverse ys) (reverse xs)

    go : (o : Option Event) → find exclusive (reverse ys) ≡ o → LastOf exclusive ys o → ends_reserved ys ≡ true
    go (Some k) is last =
        ap tells is ∙ sym (ap tells (found ∙ ap (λ (o : Option Event). option_or o (find exclusive (reverse xs))) is))
        ∙ whole
    go None is none = absurd (false≢true (sym (none m c) ∙ passes))

-- An SC is the hart's next event after these, and the last LR, SC or failed SC of them is an LR. They are
-- paired in each list that has no others of the hart before the SC.
pub last-paired : (own all : List Event) (m x : Event) → LastOf exclusive own (Some m) → is_lr m.op ≡ true →
    is_sc x.op ≡ true → Earlier m x →
    ((z : Event) → Contains all z → Earlier z x → Contains own z) → Paired all m x
unfolding LastOf
last-paired own all m x last lr sc earlier inside = record {
  is_lr = lr-op m.op lr;
  is_sc = sc-op x.op sc;
  earlier = earlier;
  none_between = All-from_contains (λ z. Between m z x → IsFalse (is_exclusive z.op)) all
      (λ z c between. none z c between (exclusive z) refl);
}
  where
    none : (z : Event) → Contains all z → Between m z x → (b : Bool) → exclusive z ≡ b → exclusive z ≡ false
    none z c between false is = is
    none z c between true is =
        let most = last.2 z (inside z c between.before) is in
        let less = between.after.seq in
        absurd (omega (arith, most, less))

module _ (limit : ℕ) (log : List Entry) (first : ℕ → ℕ) (ok : WellFormedWithin limit log) (h : ℕ) where
  abbrev own : List Event
  own = of_hart h (events log)

  own-counts : CountsFrom 0 own
  own-counts k d less = let at = numbered_within limit log ok h k d less in omega (arith, at)

  of-own : (m : Event) → Contains own m → Contains (events log) m × (m.id.hart ≡ h) × (m.id.seq < length own)
  of-own m (k, low, is) =
      let at = own-counts k m low in
      let same = ap (λ (e : Event). e.id.seq) is in (
        Contains-unfilter (λ (e : Event). h == e.id.hart) (events log) m (k, low, is),
        of_hart-is h (events log) m (k, low, is),
        omega (arith, at, same, low),
      )

  -- Where the log leaves its hart with a reservation, and the LR of it is kept wherever it is paired with an
  -- SC that comes next, the window leaves it with one.
  pub reserved-window : (all : List Event) (x : Event) → x.id.hart ≡ h → x.id.seq ≡ length own →
      is_sc x.op ≡ true →
      ((m : Event) → Contains (events log) m → Contains all m) →
      ((z : Event) → Contains all z → Earlier z x → Contains own z) →
      KeepsPair first all x → ends_reserved own ≡ true → is_reserved (events (window first log)) h ≡ true
  unfolding LastOf
  reserved-window all x mine next sc into inside keeps whole =
      go (find exclusive (reverse own)) refl (last-of exclusive 0 own own-counts)
    where
      parts : own ≡ filter (is_low (first h)) own ++ filter (is_high (first h)) own
      parts = low-high (first h) 0 own own-counts

      high-counts : CountsFrom (0 + length (filter (is_low (first h)) own)) (filter (is_high (first h)) own)
      high-counts = counts-behind 0 (filter (is_low (first h)) own) (filter (is_high (first h)) own)
          (subst (CountsFrom 0) parts own-counts)

      go : (o : Option Event) → find exclusive (reverse own) ≡ o → LastOf exclusive own o →
          is_reserved (events (window first log)) h ≡ true
      go None is none = absurd (false≢true (sym (ap tells is) ∙ whole))
      go (Some m) is last =
          let there = of-own m last.0 in
          let lr : is_lr m.op ≡ true = sym (ap tells is) ∙ whole in
          let earlier : Earlier m x =
          record { hart = there.1 ∙ sym mine; seq = (let less = there.2 in omega (arith, less, next)) } in
          let paired = last-paired own all m x last lr sc earlier inside in
          let kept : first h ≤ m.id.seq =
          subst (λ (k : ℕ). first k ≤ m.id.seq) there.1 (keeps m (into m there.0) paired) in
          let high : Contains (filter (is_high (first h)) own) m =
          Contains-filter (is_high (first h)) own m last.0 (high-true (first h) m kept) in
          ap ends_reserved (own-window first h log) ∙ ends-renumbered first (filter (is_high (first h)) own)
          ∙ ends-high (0 + length (filter (is_low (first h)) own)) (filter (is_low (first h)) own)
          (filter (is_high (first h)) own) high-counts m high last.1 (ap ends_reserved (sym parts) ∙ whole)

-- where what is forgotten leaves a hart with a reservation only if it has each LR, SC and failed SC of the
-- hart, an SC that is kept is paired with an LR that is kept
pub pairs-kept : PairsAreKept
unfolding LastOf
pairs-kept limit log first ok leaves sc c-sc kept lr c paired = go (cases_lt lr.id.seq (first lr.id.hart))
  where
    h : ℕ
    h = lr.id.hart

    known : IndexedWithin limit (events log)
    known = indexed_within limit log ok

    low : List Event
    low = filter (is_low (first h)) (of_hart h (events log))

    low-counts : CountsFrom 0 low
    low-counts =
        counts-front 0 low (filter (is_high (first h)) (of_hart h (events log)))
        (subst (CountsFrom 0) (low-high (first h) 0 (of_hart h (events log)) (own-counts limit log first ok h))
        (own-counts limit log first ok h))

    in-low : lr.id.seq < first lr.id.hart → Contains low lr
    in-low less =
        Contains-filter (is_low (first h)) (of_hart h (events log)) lr
        (Contains-filter (λ (e : Event). h == e.id.hart) (events log) lr c (eq-eqb h h refl))
        (low-true (first h) lr less)

    of-low : (m : Event) → Contains low m → Contains (events log) m × (m.id.hart ≡ lr.id.hart) ×
        (m.id.seq < first lr.id.hart)
    of-low m there =
        let mine = Contains-unfilter (is_low (first h)) (of_hart h (events log)) m there in
        let passes = All-contains (λ (e : Event). is_low (first h) e ≡ true) low m
        (filter_passes (is_low (first h)) (of_hart h (events log))) there in (
          Contains-unfilter (λ (e : Event). h == e.id.hart) (events log) m mine,
          of_hart-is h (events log) m mine,
          low-lower (first h) m passes,
        )

    go : (lr.id.seq < first lr.id.hart) ⊎ (first lr.id.hart ≤ lr.id.seq) → IsKept first lr
    go (inr least) = least
    go (inl less) = absurd (found (find exclusive (reverse low)) refl (last-of exclusive 0 low low-counts))
      where
        lr-passes : exclusive lr ≡ true
        lr-passes = ap is_exclusive paired.is_lr

        -- the SC stands behind what is forgotten
        none-reserved : ends_reserved low ≡ true → ⊥
        none-reserved ends =
            let base = ap first paired.earlier.hart in
            let reserved : is_reserved (filter (λ (e : Event). nat_lt e.id.seq (first e.id.hart)) (events log)) h ≡ true
            = ap ends_reserved (own-forgotten first h (events log)) ∙ ends in
            let less-sc = leaves sc c-sc
            (subst (λ (k : ℕ). LeavesReserved first (events log) k) paired.earlier.hart reserved)
            (ap is_exclusive paired.is_sc) in
            omega (arith, less-sc, kept)

        found : (o : Option Event) → find exclusive (reverse low) ≡ o → LastOf exclusive low o → ⊥
        found None is last = false≢true (sym (last lr (in-low less)) ∙ lr-passes)
        found (Some m) is last = elim (cases_lt lr.id.seq m.id.seq) [
          | inl later ↦ (
              let there = of-low m last.0 in
              let base = ap first paired.earlier.hart in
              let between : Between lr m sc = record {
                after = record { hart = sym there.1; seq = later };
                before = record {
                  hart = there.1 ∙ paired.earlier.hart;
                  seq = let low-m = there.2 in omega (arith, low-m, base, kept);
                };
              } in
              let fails = All-contains (λ (e : Event). Between lr e sc → IsFalse (is_exclusive e.op)) (events log) m
              paired.none_between there.0 between in
              false≢true (sym fails ∙ last.1))
          | inr most ↦ (
              let there = of-low m last.0 in
              let least = last.2 lr (in-low less) lr-passes in
              let seq : m.id.seq ≡ lr.id.seq = omega (arith, most, least) in
              let mine = there.1 in
              let id : m.id ≡ lr.id = grind (arith, seq, mine) in
              let event : m ≡ lr = same_Some m lr (sym (known.own m there.0) ∙ ap (named (events log)) id ∙
              known.own lr c) in
              none-reserved (ap tells is ∙ ap (λ (e : Event). is_lr e.op) event ∙ ap is_lr paired.is_lr))
        ]
