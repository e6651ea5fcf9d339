-- The last LR, SC or failed SC of a hart, and the LR with which an SC is paired.
use Rattle.rv_cut.specs.Exclusives.{IsExclusiveOf, IsLastExclusive}
use Rattle.rv_event.proofs.Growing.{All-from_contains}
use Rattle.rv_event.proofs.Indexed.{Indexed}
use Rattle.rv_event.specs.Log.{Between, Earlier, named, of_hart}
use Rattle.rv_event.specs.Operations.{is_exclusive}
use Rattle.rv_event.specs.Relations.{Paired}
use Rattle.rv_event.specs.declared.event.Event.{Event}
use Rattle.rv_event.specs.declared.event.Op.TheVariants.{Lr, Sc}
use Rattle.rv_past.specs.Laws.{IsPartner}
use Rattle.std.proofs.Common.{Bool, IsFalse, IsTrue, List, None, Some, ap, arith, false}
use Rattle.std.proofs.Common.{inl, inr, length, refl, sym, true, ℕ, [], ◌++◌, ◌+◌, ◌<◌, ◌∙◌, ◌∷◌}
use Rattle.std.proofs.Common.{◌≡◌, ◌≤◌, ◌⊎◌}
use Rattle.std.proofs.lemmas.Bool.{cases_lt, false≢true}
use Rattle.std.proofs.lemmas.List.Elements.{All-contains, Contains-append_left}
use Rattle.std.proofs.lemmas.List.Elements.{Contains-push_cases}
use Rattle.std.proofs.lemmas.Option.{same_Some}
use Rattle.std.specs.List.{Contains}

-- the hart's events from one number to another, without the second, are none of them
abbrev pub NoneWithin : List Event → ℕ → ℕ → ℕ → Type 0
NoneWithin log hart low high =
    (s : ℕ) → low ≤ s → s < high → (m : Event) × Contains log m × (m.id ≡ record { hart = hart; seq = s })
    × (is_exclusive m.op ≡ false)

-- one number less, where its event is none of them
pub none-less : (log : List Event) (hart low high : ℕ) (e : Event) → Contains log e → e.id.hart ≡ hart →
    e.id.seq + 1 ≡ low → is_exclusive e.op ≡ false → NoneWithin log hart low high →
    NoneWithin log hart e.id.seq high
none-less log hart low high e there own next other none s least less = go (cases_lt e.id.seq s)
  where
    go : (e.id.seq < s) ⊎ (s ≤ e.id.seq) → (m : Event) × Contains log m × (m.id ≡ record { hart = hart; seq = s })
        × (is_exclusive m.op ≡ false)
    go (inl above) = none s (omega (arith, above, next)) less
    go (inr most) =
        let same : e.id.seq ≡ s = omega (arith, least, most) in
        let id : e.id ≡ record { hart = hart; seq = s } = grind (arith, own, same) in
        (e, there, id, other)

-- so the one before them is the last
pub last-before : (log : List Event) (hart low high : ℕ) (e : Event) → Indexed log →
    length (of_hart hart log) ≤ high → Contains log e → e.id.hart ≡ hart → e.id.seq + 1 ≡ low →
    IsTrue (is_exclusive e.op) → NoneWithin log hart low high → IsLastExclusive log hart (Some e)
last-before log hart low high e known most there own next exclusive none = (
  record { of_log = there; own = own; exclusive = exclusive },
  λ m is. go m is (cases_lt e.id.seq m.id.seq),
)
  where
    go : (m : Event) → IsExclusiveOf log hart m → (e.id.seq < m.id.seq) ⊎ (m.id.seq ≤ e.id.seq) →
        m.id.seq ≤ e.id.seq
    go m is (inr lower) = lower
    go m is (inl above) =
        let below = known.below m is.of_log in
        let count = ap (λ (h : ℕ). length (of_hart h log)) is.own in
        let seen = none m.id.seq (omega (arith, above, next)) (omega (arith, below, count, most)) in
        let id : seen.0.id ≡ m.id = seen.2 ∙ grind (arith, is.own) in
        let one : seen.0 ≡ m =
        same_Some seen.0 m (sym (known.own seen.0 seen.1) ∙ ap (named log) id ∙ known.own m is.of_log) in
        absurd (false≢true (sym seen.3 ∙ ap (λ (x : Event). is_exclusive x.op) one ∙ is.exclusive))

module _ (log : List Event) (e : Event) (known : Indexed log) (last : length (of_hart e.id.hart log) ≤ e.id.seq) where
  -- an event of the hart is earlier
  earlier : (m : Event) → Contains log m → m.id.hart ≡ e.id.hart → Earlier m e
  earlier m there own =
      let low = known.below m there in
      let same = ap (λ (h : ℕ). length (of_hart h log)) own in
      record { hart = own; seq = omega (arith, low, same, last) }

  -- an LR that is paired is one of the log
  paired-old : (lr : Event) → Contains (log ++ e ∷ []) lr → Paired (log ++ e ∷ []) lr e → Contains log lr
  paired-old lr there paired = elim (Contains-push_cases log e lr there) [
    | inl old ↦ old
    | inr same ↦
        let at = ap (λ (x : Event). x.id.seq) same in let less = paired.earlier.seq in absurd (omega (arith, at, less))
  ]

  -- it is one that opens a reservation
  paired-exclusive : (lr : Event) → Contains (log ++ e ∷ []) lr → Paired (log ++ e ∷ []) lr e →
      IsExclusiveOf log e.id.hart lr
  paired-exclusive lr there paired = record {
    of_log = paired-old lr there paired;
    own = paired.earlier.hart;
    exclusive = ap is_exclusive paired.is_lr;
  }

  -- it is the last of them
  paired-last : (l : Event) → IsLastExclusive log e.id.hart (Some l) → (lr : Event) → Contains (log ++ e ∷ []) lr →
      Paired (log ++ e ∷ []) lr e → lr ≡ l
  paired-last l (is, highest) lr there paired = go (cases_lt lr.id.seq l.id.seq)
    where
      own : IsExclusiveOf log e.id.hart lr
      own = paired-exclusive lr there paired

      go : (lr.id.seq < l.id.seq) ⊎ (l.id.seq ≤ lr.id.seq) → lr ≡ l
      go (inl less) =
          let between : Between lr l e = record {
            after = record { hart = own.own ∙ sym is.own; seq = less };
            before = earlier l is.of_log is.own;
          } in
          absurd (false≢true (sym (All-contains (λ m. Between lr m e → IsFalse (is_exclusive m.op)) (log ++ e ∷ []) l
          paired.none_between (Contains-append_left log (e ∷ []) l is.of_log) between) ∙ is.exclusive))
      go (inr least) =
          let most = highest lr own in
          let seq : lr.id.seq ≡ l.id.seq = omega (arith, least, most) in
          let hart : lr.id.hart ≡ l.id.hart = own.own ∙ sym is.own in
          let id : lr.id ≡ l.id = grind arith in
          same_Some lr l (sym (known.own lr own.of_log) ∙ ap (named log) id ∙ known.own l is.of_log)

  -- where the last of them is an LR, an SC is paired with it
  pub partner-some : (l : Event) → IsLastExclusive log e.id.hart (Some l) → e.op ≡ Sc → l.op ≡ Lr →
      IsPartner (log ++ e ∷ []) e (Some l)
  partner-some l (is, highest) sc lr = (
    Contains-append_left log (e ∷ []) l is.of_log,
    record {
      is_lr = lr;
      is_sc = sc;
      earlier = earlier l is.of_log is.own;
      none_between = All-from_contains (λ m. Between l m e → IsFalse (is_exclusive m.op)) (log ++ e ∷ []) none;
    },
    paired-last l (is, highest),
  )
    where
      none : (m : Event) → Contains (log ++ e ∷ []) m → Between l m e → IsFalse (is_exclusive m.op)
      none m there between = go (is_exclusive m.op) refl (Contains-push_cases log e m there)
        where
          go : (b : Bool) → is_exclusive m.op ≡ b → Contains log m ⊎ (e ≡ m) → b ≡ false
          go false same where-it-is = refl
          go true same (inl old) =
              let most = highest m (record { of_log = old; own = between.before.hart; exclusive = same }) in
              let less = between.after.seq in
              absurd (omega (arith, most, less))
          go true same (inr is-e) =
              let at = ap (λ (x : Event). x.id.seq) is-e in
              let less = between.before.seq in
              absurd (omega (arith, at, less))

  -- where it is not, no LR is paired with it
  pub partner-none : (l : Event) → IsLastExclusive log e.id.hart (Some l) → (l.op ≡ Lr → ⊥) →
      IsPartner (log ++ e ∷ []) e None
  partner-none l last-one other lr there paired =
      other (ap (λ (x : Event). x.op) (sym (paired-last l last-one lr there paired)) ∙ paired.is_lr)

  pub partner-never : IsLastExclusive log e.id.hart None → IsPartner (log ++ e ∷ []) e None
  partner-never none lr there paired = none lr (paired-exclusive lr there paired)
