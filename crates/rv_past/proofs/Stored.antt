-- The newest stores of a word, with one event more.
use Rattle.std.proofs.Common.{ℕ, ◌≡◌, ◌≢◌, ◌⊎◌, ◌∙◌, ◌<◌, ◌≤◌, ◌++◌, ◌∷◌, [], Contains, List, None, Option, Some, ap}
use Rattle.std.proofs.Common.{arith, inl, inr, max, refl, subst, sym}
use Rattle.std.proofs.Common.{◌&&◌, eq-eqb, false, nat_eq}
use Rattle.std.proofs.lemmas.Bool.{cases_eq, cases_lt, ne_eqb}
use Rattle.std.proofs.lemmas.List.Elements.{Contains-append_left, Contains-append_right, Contains-push_cases}
use Rattle.rv_event.proofs.Names.{Contains-here}
use Rattle.rv_event.specs.Operations.{IsLoad, IsStore}
use Rattle.rv_event.specs.declared.event.Event.{Event}
use Rattle.rv_event.specs.declared.event.Id.{Id}
use Rattle.rv_past.specs.Gone.{AreGoneBy, IsAwaited, IsNewest, IsNewestOf, IsNoted, IsOfOther, as_before, version_of}
use Rattle.rv_past.specs.Gone.{with_load}
use Rattle.rv_past.specs.declared.past.Newest.{Newest}

module _ (gone : List Event) (e : Event) where
  abbrev more : List Event
  more = gone ++ e ∷ []

  old : (p : Event) → Contains gone p → Contains more p
  old p c = Contains-append_left gone (e ∷ []) p c

  new : Contains more e
  new = Contains-append_right gone (e ∷ []) e (Contains-here e [] e refl)

  -- another hart's store stays one
  other-stays : (w hart version : ℕ) → IsOfOther gone w hart version → IsOfOther more w hart version
  other-stays w hart version o = record {
    store = o.store;
    of_gone = old o.store o.of_gone;
    is_store = o.is_store;
    word = o.word;
    other = o.other;
    wrote = o.wrote;
  }

  others-stay : (w hart version : ℕ) → (version ≡ 0) ⊎ IsOfOther gone w hart version →
      (version ≡ 0) ⊎ IsOfOther more w hart version
  others-stay w hart version (inl none) = inl none
  others-stay w hart version (inr o) = inr (other-stays w hart version o)

  module _ (is : IsStore e) where
    -- a store that is no newer, of the same hart as the newest
    pub kept-own : (n : Newest) → IsNewestOf gone e.word n → e.wrote ≤ n.version → n.store.hart ≡ e.id.hart →
        IsNewestOf more e.word n
    kept-own n of most same = record {
      store = of.store;
      of_gone = old of.store of.of_gone;
      is_store = of.is_store;
      word = of.word;
      wrote = of.wrote;
      id = of.id;
      none_newer = λ p c s w. elim (Contains-push_cases gone e p c) [
        | inl there ↦ of.none_newer p there s w
        | inr here ↦ subst (λ (x : Event). x.wrote ≤ n.version) here most
      ];
      none_of_others = λ p c s w apart. elim (Contains-push_cases gone e p c) [
        | inl there ↦ of.none_of_others p there s w apart
        | inr here ↦ absurd (apart (sym (ap (λ (x : Event). x.id.hart) here) ∙ sym same))
      ];
      others = others-stay e.word n.store.hart n.others of.others;
    }

    -- one of another hart
    pub kept-other : (n : Newest) → IsNewestOf gone e.word n → e.wrote ≤ n.version → n.store.hart ≢ e.id.hart →
        IsNewestOf more e.word (record n { others = max n.others e.wrote })
    kept-other n of most apart = record {
      store = of.store;
      of_gone = old of.store of.of_gone;
      is_store = of.is_store;
      word = of.word;
      wrote = of.wrote;
      id = of.id;
      none_newer = λ p c s w. elim (Contains-push_cases gone e p c) [
        | inl there ↦ of.none_newer p there s w
        | inr here ↦ subst (λ (x : Event). x.wrote ≤ n.version) here most
      ];
      none_of_others = λ p c s w apart'. elim (Contains-push_cases gone e p c) [
        | inl there ↦ (let low = of.none_of_others p there s w apart' in omega (arith, low))
        | inr here ↦ subst (λ (x : Event). x.wrote ≤ max n.others e.wrote) here (omega arith)
      ];
      others = elim (cases_lt n.others e.wrote) [
        | inl less ↦ inr (record {
          store = e;
          of_gone = new;
          is_store = is;
          word = refl;
          other = λ same. apart (sym same);
          wrote = omega (arith, less);
        })
        | inr least ↦ (let same : max n.others e.wrote ≡ n.others = omega (arith, least) in
            subst (λ v. (v ≡ 0) ⊎ IsOfOther more e.word n.store.hart v) (sym same)
            (others-stay e.word n.store.hart n.others of.others))
      ];
    }

    -- a newer store, of the same hart as the newest before
    pub new-own : (n : Newest) → IsNewestOf gone e.word n → n.version < e.wrote → n.store.hart ≡ e.id.hart →
        IsNewestOf more e.word (record { version = e.wrote; store = e.id; others = n.others })
    new-own n of less same = record {
      store = e;
      of_gone = new;
      is_store = is;
      word = refl;
      wrote = refl;
      id = refl;
      none_newer = λ p c s w. elim (Contains-push_cases gone e p c) [
        | inl there ↦ (let low = of.none_newer p there s w in omega (arith, low, less))
        | inr here ↦ subst (λ (x : Event). x.wrote ≤ e.wrote) here (omega arith)
      ];
      none_of_others = λ p c s w apart. elim (Contains-push_cases gone e p c) [
        | inl there ↦ of.none_of_others p there s w (λ own. apart (own ∙ same))
        | inr here ↦ absurd (apart (sym (ap (λ (x : Event). x.id.hart) here)))
      ];
      others = subst (λ h. (n.others ≡ 0) ⊎ IsOfOther more e.word h n.others) same
          (others-stay e.word n.store.hart n.others of.others);
    }

    -- one of another hart
    pub new-other : (n : Newest) → IsNewestOf gone e.word n → n.version < e.wrote → n.store.hart ≢ e.id.hart →
        IsNewestOf more e.word (record { version = e.wrote; store = e.id; others = n.version })
    new-other n of less apart = record {
      store = e;
      of_gone = new;
      is_store = is;
      word = refl;
      wrote = refl;
      id = refl;
      none_newer = λ p c s w. elim (Contains-push_cases gone e p c) [
        | inl there ↦ (let low = of.none_newer p there s w in omega (arith, low, less))
        | inr here ↦ subst (λ (x : Event). x.wrote ≤ e.wrote) here (omega arith)
      ];
      none_of_others = λ p c s w apart'. elim (Contains-push_cases gone e p c) [
        | inl there ↦ of.none_newer p there s w
        | inr here ↦ absurd (apart' (sym (ap (λ (x : Event). x.id.hart) here)))
      ];
      others = inr (record {
        store = of.store;
        of_gone = old of.store of.of_gone;
        is_store = of.is_store;
        word = of.word;
        other = λ same. apart (sym (ap (λ (i : Id). i.hart) of.id) ∙ same);
        wrote = of.wrote;
      });
    }

    -- the first store of its word
    pub first-store : IsNewest gone e.word None →
        IsNewestOf more e.word (record { version = e.wrote; store = e.id; others = 0 })
    first-store none = record {
      store = e;
      of_gone = new;
      is_store = is;
      word = refl;
      wrote = refl;
      id = refl;
      none_newer = λ p c s w. elim (Contains-push_cases gone e p c) [
        | inl there ↦ absurd (none p there s w)
        | inr here ↦ subst (λ (x : Event). x.wrote ≤ e.wrote) here (omega arith)
      ];
      none_of_others = λ p c s w apart. elim (Contains-push_cases gone e p c) [
        | inl there ↦ absurd (none p there s w)
        | inr here ↦ absurd (apart (sym (ap (λ (x : Event). x.id.hart) here)))
      ];
      others = inl refl;
    }

  -- an event that is no store of the word leaves its newest stores
  newest-stays : (w : ℕ) (o : Option Newest) → (IsStore e → e.word ≡ w → ⊥) → IsNewest gone w o → IsNewest more w o
  newest-stays w None apart none = λ p c s word. elim (Contains-push_cases gone e p c) [
    | inl there ↦ none p there s word
    | inr here ↦ apart (subst (λ (x : Event). IsStore x) (sym here) s) (ap (λ (x : Event). x.word) here ∙ word)
  ]
  newest-stays w (Some n) apart of = record {
    store = of.store;
    of_gone = old of.store of.of_gone;
    is_store = of.is_store;
    word = of.word;
    wrote = of.wrote;
    id = of.id;
    none_newer = λ p c s word. elim (Contains-push_cases gone e p c) [
      | inl there ↦ of.none_newer p there s word
      | inr here ↦ absurd (apart (subst (λ (x : Event). IsStore x) (sym here) s)
          (ap (λ (x : Event). x.word) here ∙ word))
    ];
    none_of_others = λ p c s word other. elim (Contains-push_cases gone e p c) [
      | inl there ↦ of.none_of_others p there s word other
      | inr here ↦ absurd (apart (subst (λ (x : Event). IsStore x) (sym here) s)
          (ap (λ (x : Event). x.word) here ∙ word))
    ];
    others = others-stay w n.store.hart n.others of.others;
  }

  -- versions that are awaited stay so, where the newest are no older and the event, a load, is told of
  awaited-stays : (w version : ℕ) (before after : Option Newest) (o : Option Id) →
      version_of before ≤ version_of after →
      (IsLoad e → e.word ≡ w → e.read ≡ version → version ≤ version_of after) →
      IsAwaited gone before w version o → IsAwaited more after w version o
  awaited-stays w version before after (Some i) newer told (p, c, l, word, read, id) = (p, old p c, l, word, read, id)
  awaited-stays w version before after None newer told none = λ p c l word read. elim (Contains-push_cases gone e p c) [
    | inl there ↦ (let low = none p there l word read in omega (arith, low, newer))
    | inr here ↦ told (subst (λ (x : Event). IsLoad x) (sym here) l) (ap (λ (x : Event). x.word) here ∙ word)
        (ap (λ (x : Event). x.read) here ∙ read)
  ]

module _ (gone : List Event) (e : Event) (before after : ℕ → Option Newest) (awaited awaited' : ℕ × ℕ → Option Id) where
  -- how the newest stores go on with the event
  pub data Stored : Type 0 where
    same_stores : (IsStore e → ⊥) → ((w : ℕ) → after w ≡ before w) → Stored
    with_store : (n : Newest) → after e.word ≡ Some n → IsNewestOf (gone ++ e ∷ []) e.word n →
        ((w : ℕ) → (e.word ≡ w → ⊥) → after w ≡ before w) → Stored

  module _ (are : AreGoneBy gone before awaited) where
    -- versions do not go back
    newer : (w : ℕ) → Stored → version_of (before w) ≤ version_of (after w)
    newer w (same_stores apart same) =
        let is = ap version_of (same w) in omega (arith, is)
    newer w (with_store n at of others) = elim (cases_eq e.word w) [
      | inl here ↦ subst (λ (k : ℕ). version_of (before k) ≤ version_of (after k)) here
          (go (before e.word) (are.newest_is e.word))
      | inr apart ↦ (let is = ap version_of (others w apart) in omega (arith, is))
    ]
      where
        go : (o : Option Newest) → IsNewest gone e.word o → version_of o ≤ version_of (after e.word)
        go None none = omega arith
        go (Some m) was =
            let low = of.none_newer was.store (old gone e was.store was.of_gone) was.is_store was.word in
            let is = ap version_of at in
            let wrote = was.wrote in
            omega (arith, low, is, wrote)

    -- so the summary stands for one event more
    pub grown : IsNoted e (version_of (before e.word)) awaited awaited' → Stored →
        AreGoneBy (gone ++ e ∷ []) after awaited'
    grown noted stored = record {
      newest_is = λ w. newest w stored;
      awaited_is = λ w version. loads w version noted;
    }
      where
        newest : (w : ℕ) → Stored → IsNewest (gone ++ e ∷ []) w (after w)
        newest w (same_stores apart same) =
            subst (IsNewest (gone ++ e ∷ []) w) (sym (same w))
            (newest-stays gone e w (before w) (λ s _. apart s) (are.newest_is w))
        newest w (with_store n at of others) = elim (cases_eq e.word w) [
          | inl here ↦ subst (λ (k : ℕ). IsNewest (gone ++ e ∷ []) k (after k)) here
              (subst (IsNewest (gone ++ e ∷ []) e.word) (sym at) of)
          | inr apart ↦ subst (IsNewest (gone ++ e ∷ []) w) (sym (others w apart))
              (newest-stays gone e w (before w) (λ _ here. apart here) (are.newest_is w))
        ]

        stays : (w version : ℕ) →
            (IsLoad e → e.word ≡ w → e.read ≡ version → version ≤ version_of (after w)) →
            IsAwaited (gone ++ e ∷ []) (after w) w version (awaited (w, version))
        stays w version told =
            awaited-stays gone e w version (before w) (after w) (awaited (w, version)) (newer w stored) told
            (are.awaited_is w version)

        loads : (w version : ℕ) → IsNoted e (version_of (before e.word)) awaited awaited' →
            IsAwaited (gone ++ e ∷ []) (after w) w version (awaited' (w, version))
        loads w version (as_before low same) =
            subst (IsAwaited (gone ++ e ∷ []) (after w) w version) (sym (same w version))
            (stays w version (λ l here read.
            let was = low l in
            let more = newer e.word stored in
            subst (λ (k : ℕ). version ≤ version_of (after k)) here (omega (arith, was, more, read))))
        loads w version (with_load l at others) = go (cases_eq e.word w) (cases_eq e.read version)
          where
            go : (e.word ≡ w) ⊎ (e.word ≡ w → ⊥) → (e.read ≡ version) ⊎ (e.read ≡ version → ⊥) →
                IsAwaited (gone ++ e ∷ []) (after w) w version (awaited' (w, version))
            go (inl here) (inl read) =
                subst (λ (k : ℕ). IsAwaited (gone ++ e ∷ []) (after k) k version (awaited' (k, version))) here
                (subst (λ (v : ℕ). IsAwaited (gone ++ e ∷ []) (after e.word) e.word v (awaited' (e.word, v))) read
                (subst (IsAwaited (gone ++ e ∷ []) (after e.word) e.word e.read) (sym at)
                (e, new gone e, l, refl, refl, refl)))
            go (inl here) (inr apart) =
                subst (IsAwaited (gone ++ e ∷ []) (after w) w version) (sym (others w version (λ both. apart both.1)))
                (stays w version (λ _ _ read. absurd (apart read)))
            go (inr apart) _ =
                subst (IsAwaited (gone ++ e ∷ []) (after w) w version) (sym (others w version (λ both. apart both.0)))
                (stays w version (λ _ word _. absurd (apart word)))

-- the summary stands for the same events where its look-ups are the same
pub gone-same : (gone : List Event) (before after : ℕ → Option Newest) (awaited awaited' : ℕ × ℕ → Option Id) →
    ((w : ℕ) → after w ≡ before w) → ((w version : ℕ) → awaited' (w, version) ≡ awaited (w, version)) →
    AreGoneBy gone before awaited → AreGoneBy gone after awaited'
gone-same gone before after awaited awaited' same same' are = record {
  newest_is = λ w. subst (IsNewest gone w) (sym (same w)) (are.newest_is w);
  awaited_is = λ w version.
      subst (IsAwaited gone (after w) w version) (sym (same' w version))
      (subst (λ o. IsAwaited gone o w version (awaited (w, version))) (sym (same w)) (are.awaited_is w version));
}

-- another word and version is another key
pub other-key : (word w read v : ℕ) → ((word ≡ w) × (read ≡ v) → ⊥) →
    (nat_eq word w && nat_eq read v) ≡ false
other-key word w read v apart = go (cases_eq word w) (cases_eq read v)
  where
    go : (word ≡ w) ⊎ (word ≡ w → ⊥) → (read ≡ v) ⊎ (read ≡ v → ⊥) → (nat_eq word w && nat_eq read v) ≡ false
    go (inl same) (inl same') = absurd (apart (same, same'))
    go (inl same) (inr other) = rw (eq-eqb word w same, ne_eqb read v other) refl
    go (inr other) _ = rw (ne_eqb word w other) refl
