-- The links of words with one more event, and with one less.
use Rattle.rv_hart.proofs.Common.{number_of}
use Rattle.rv_hart.proofs.Common.{◌≡◌, ◌≢◌, ℕ, ◌+◌, ◌<◌, ◌≤◌, List, [], ◌∷◌, ◌++◌, length, get_or, Contains, Option}
use Rattle.rv_hart.proofs.Common.{Some, None, ◌⊎◌, inl, inr, sym, refl, ap, ◌∙◌, arith, subst}
use Rattle.rv_hart.proofs.Common.{cases_order, cases_eq, or_right, length_push, get_or_append_left, get_or_at}
use Rattle.rv_hart.proofs.Common.{Contains-push_cases, Contains-push, Contains-append_left, rules, common_steps}
use Rattle.rv_hart.proofs.Common.{is_load, is_store, IsMemory, IsStore, Event, AreNumbered, IsOfWord, NamesOfWord}
use Rattle.rv_hart.proofs.Common.{IsBeforeRun, IsLastBelow, IsWordLink, IsHighestStore, link_at, AreWords, WordLink}
use Rattle.rv_hart.proofs.Common.{Words}

-- an event of a numbered list has a number below the list's length
pub numbered-below : (events : List Event) → AreNumbered events → (a : Event) → Contains events a →
    a.id.seq < length events
numbered-below events numbered a (k, low, is) = grind (arith, common_steps)

-- an event stands at its number
pub numbered-at : (events : List Event) → AreNumbered events → (a d : Event) → Contains events a →
    get_or events a.id.seq d ≡ a
numbered-at events numbered a d (k, low, is) = grind (arith, common_steps)

-- events with one number are one
pub numbered-same : (events : List Event) → AreNumbered events → (a b : Event) → Contains events a → Contains events b →
    a.id.seq ≡ b.id.seq → a ≡ b
numbered-same events numbered a b ca cb same = search (numbered-at, rules)

-- a name holds on under a higher limit
names-weaker : (events more : List Event) (word limit limit' : ℕ) (o : Option ℕ) →
    ((a : Event) → Contains events a → Contains more a) → limit ≤ limit' → NamesOfWord events word limit o →
    NamesOfWord more word limit' o
names-weaker events more word limit limit' None grows le names = tt
names-weaker events more word limit limit' (Some p) grows le names = grind (arith, common_steps)

-- ---- the link of the next event
module _ (events : List Event) (e : Event) (numbered : AreNumbered events) (next : e.id.seq ≡ length events) where
  -- the word's last operation is the previous one
  pub previous-is : (o : Option ℕ) → IsLastBelow events e.word (length events) o → IsLastBelow events e.word e.id.seq o
  previous-is o last = subst (λ (n : ℕ). IsLastBelow events e.word n o) (sym next) last

-- ---- the store of the highest version
store-of-word : (word : ℕ) (m : Event) → IsStore m → m.word ≡ word → IsOfWord word m
store-of-word word m s w = (or_right (is_load m.op) (is_store m.op) s, w)

module _ (events : List Event) (numbered : AreNumbered events) (word p : ℕ) (a : Event) (ca : Contains events a)
    (at : a.id.seq ≡ p) (last : IsLastBelow events word (length events) (Some p)) where
  last-word : a.word ≡ word
  last-word = ap (λ (x : Event). x.word) (numbered-same events numbered a last.names.1.a ca last.names.1.of_list
      (at ∙ sym last.names.1.at)) ∙ last.names.1.holds.1

  -- a store of the word is the last operation, or before it
  by-place : (m : Event) → Contains events m → IsStore m → m.word ≡ word → (a ≡ m) ⊎ (m.id.seq < a.id.seq)
  by-place m c s w = elim (cases_order m.id.seq p) [
    | inl same ↦ inl (numbered-same events numbered a m ca c (at ∙ sym same))
    | inr (inl low) ↦ inr (omega arith)
    | inr (inr high) ↦ absurd (last.none_later m c (store-of-word word m s w) high (numbered-below events numbered m c))
  ]

  -- and so is a memory operation of it
  memory-by-place : (m : Event) → Contains events m → IsOfWord word m → (a ≡ m) ⊎ (m.id.seq < a.id.seq)
  memory-by-place m c w = elim (cases_order m.id.seq p) [
    | inl same ↦ inl (numbered-same events numbered a m ca c (at ∙ sym same))
    | inr (inl low) ↦ inr (omega arith)
    | inr (inr high) ↦ absurd (last.none_later m c w high (numbered-below events numbered m c))
  ]

  -- from the next event, which returned what the last operation did, a walk goes on as from there
  pub run-goes_on : (e : Event) → e.word ≡ word → e.id.seq ≡ length events → (IsStore a → ⊥) → a.read ≡ e.read →
      (o : Option ℕ) → IsBeforeRun events a o → IsBeforeRun events e o
  run-goes_on e of_word next plain same o before = record {
    names = subst (λ (w : ℕ). NamesOfWord events w e.id.seq o) (last-word ∙ sym of_word)
        (names-weaker events events a.word a.id.seq e.id.seq o (λ m c. c)
        (let low = numbered-below events numbered a ca in omega arith) before.names);
    run = λ m c w above low. elim (memory-by-place m c (w.0, w.1 ∙ of_word)) [
      | inl is ↦ (λ s. plain (subst IsStore (sym is) s), sym (ap (λ (x : Event). x.read) is) ∙ same)
      | inr under ↦ (
          let before_it = before.run m c (w.0, w.1 ∙ of_word ∙ sym last-word) above under in
          (before_it.0, before_it.1 ∙ same))
    ];
  }

  -- the last operation is no store
  pub highest-before : (o : Option ℕ) → (IsStore a → ⊥) → IsHighestStore events a.word a.id.seq o →
      IsHighestStore events word (length events) o
  highest-before None none before = λ m c s w low. elim (by-place m c s w) [
    | inl is ↦ none (subst IsStore (sym is) s)
    | inr under ↦ before m c s (w ∙ sym last-word) under
  ]
  highest-before (Some q) none before =
      grind (arith, common_steps, numbered-below, last-word, by-place)

  -- it is the first store
  pub highest-first : IsStore a → IsHighestStore events a.word a.id.seq None →
      IsHighestStore events word (length events) (Some p)
  highest-first store before = grind (arith, common_steps, last-word, by-place)

  -- it is a store of a higher version
  pub highest-here : IsStore a → (q : ℕ) (b : IsHighestStore events a.word a.id.seq (Some q)) → b.1.a.wrote < a.wrote →
      IsHighestStore events word (length events) (Some p)
  highest-here store q b higher = grind (arith, common_steps, last-word, by-place)

  -- or of a lower one
  pub highest-there : (q : ℕ) (b : IsHighestStore events a.word a.id.seq (Some q)) → a.wrote ≤ b.1.a.wrote →
      IsHighestStore events word (length events) (Some q)
  highest-there q b lower = grind (arith, common_steps, numbered-below, last-word, by-place)

-- ---- one more event
module _ (events : List Event) (e : Event) (numbered : AreNumbered events) (next : e.id.seq ≡ length events) where
  abbrev more : List Event
  more = events ++ e ∷ []

  grown : length more ≡ length events + 1
  grown = length_push events e

  old : (a : Event) → Contains events a → Contains more a
  old a c = Contains-append_left events (e ∷ []) a c

  -- an event below the new one is an old one
  settled : (m : Event) → Contains more m → m.id.seq < e.id.seq → Contains events m
  settled m c low = grind (arith, common_steps)

  names-less : (word limit : ℕ) (o : Option ℕ) → limit ≤ e.id.seq → NamesOfWord more word limit o →
      NamesOfWord events word limit o
  names-less word limit None le names = tt
  names-less word limit (Some p) le names = grind (arith, common_steps)

  last-grows : (word limit : ℕ) (o : Option ℕ) → limit ≤ e.id.seq → IsLastBelow events word limit o →
      IsLastBelow more word limit o
  last-grows word limit o le last = record {
    names = names-weaker events more word limit limit o old (omega arith) last.names;
    none_later = λ m c w above low. last.none_later m (settled m c (omega arith)) w above low;
  }

  last-settled : (word limit : ℕ) (o : Option ℕ) → limit ≤ e.id.seq → IsLastBelow more word limit o →
      IsLastBelow events word limit o
  last-settled word limit o le last = grind (arith, common_steps)

  highest-grows : (word limit : ℕ) (o : Option ℕ) → limit ≤ e.id.seq → IsHighestStore events word limit o →
      IsHighestStore more word limit o
  highest-grows word limit None le none = λ m c s w low. none m (settled m c (omega arith)) s w low
  highest-grows word limit (Some p) le has = grind (arith, common_steps)

  highest-settled : (word limit : ℕ) (o : Option ℕ) → limit ≤ e.id.seq → IsHighestStore more word limit o →
      IsHighestStore events word limit o
  highest-settled word limit None le none = λ m c s w low. none m (old m c) s w low
  highest-settled word limit (Some p) le has = grind (arith, common_steps, settled, old)

  -- a link stays when an event is added
  pub link-grows : (a : Event) (l : WordLink) → a.id.seq ≤ e.id.seq → IsWordLink events a l → IsWordLink more a l
  link-grows a l le link = record {
    previous = last-grows a.word a.id.seq l.previous le link.previous;
    before_run = record {
      names = names-weaker events more a.word a.id.seq a.id.seq l.before_run old (omega arith) link.before_run.names;
      run = λ m c w above low. link.before_run.run m (settled m c (omega arith)) w above low;
    };
    highest = highest-grows a.word a.id.seq l.highest le link.highest;
  }

  link-settled : (a : Event) (l : WordLink) → a.id.seq ≤ e.id.seq → IsWordLink more a l → IsWordLink events a l
  link-settled a l le link = record {
    previous = last-settled a.word a.id.seq l.previous le link.previous;
    before_run = grind (arith, common_steps);
    highest = highest-settled a.word a.id.seq l.highest le link.highest;
  }

  -- the new event is the last of its word
  last-new : IsMemory e → IsLastBelow more e.word (length more) (Some e.id.seq)
  last-new memory = grind (arith, common_steps, grown, Contains-push)

  -- and of no other
  last-other : (word : ℕ) (o : Option ℕ) → (IsOfWord word e → ⊥) → IsLastBelow events word (length events) o →
      IsLastBelow more word (length more) o
  last-other word o other last = grind (arith, common_steps)

  last-other-settled : (word : ℕ) (o : Option ℕ) → (IsOfWord word e → ⊥) → IsLastBelow more word (length more) o →
      IsLastBelow events word (length events) o
  last-other-settled word o other last = grind (arith, common_steps)

  -- the words with one event more
  pub words-push : (words words' : Words) (link : WordLink) → AreWords events words →
      words'.links.items ≡ words.links.items ++ link ∷ [] → (IsMemory e → IsWordLink events e link) →
      ((word : ℕ) → IsLastBelow more word (length more) (number_of words'.lasts word)) → AreWords more words'
  words-push words words' link are is new lasts = record {
    lasts = lasts;
    links = λ a c memory. subst (λ (ls : List WordLink). IsWordLink more a (link_at ls a.id.seq)) (sym is)
        (elim (Contains-push_cases events e a c) [
          | inl c ↦ (
              let low = numbered-below events numbered a c in
              let at : link_at (words.links.items ++ link ∷ []) a.id.seq ≡ link_at words.links.items a.id.seq =
              grind (arith, common_steps) in
              subst (IsWordLink more a) (sym at)
              (link-grows a (link_at words.links.items a.id.seq) (omega arith) (are.links a c memory)))
          | inr same ↦ (
              let at : link_at (words.links.items ++ link ∷ []) a.id.seq ≡ link =
              grind (arith, common_steps) in
              let mine : IsMemory e = subst IsMemory (sym same) memory in
              subst (IsWordLink more a) (sym at)
              (subst (λ (x : Event). IsWordLink more x link) same (link-grows e link (omega arith) (new mine))))
        ]);
    count = grind (arith, common_steps);
  }

  -- and with one less
  pub words-pop : (words words' : Words) (link : WordLink) → AreWords more words →
      words.links.items ≡ words'.links.items ++ link ∷ [] →
      ((word : ℕ) → IsLastBelow events word (length events) (number_of words'.lasts word)) → AreWords events words'
  words-pop words words' link are is lasts = record {
    lasts = lasts;
    links = λ a c memory.
        let low = numbered-below events numbered a c in
        let at : link_at words.links.items a.id.seq ≡ link_at words'.links.items a.id.seq =
        ap (λ (ls : List WordLink). link_at ls a.id.seq) is ∙ get_or_append_left words'.links.items (link ∷ [])
        (record { previous = None; before_run = None; highest = None }) a.id.seq (omega (arith, counted)) in
        link-settled a (link_at words'.links.items a.id.seq) (omega arith)
        (subst (IsWordLink more a) at (are.links a (old a c) memory));
    count = counted;
  }
    where
      counted : length words'.links.items ≡ length events
      counted = grind (arith, common_steps)

  -- the link that is taken off leads to the word's last operation before it
  pub pop-here : (words words' : Words) (link : WordLink) → AreWords more words →
      words.links.items ≡ words'.links.items ++ link ∷ [] → IsMemory e →
      IsLastBelow events e.word (length events) link.previous
  pop-here words words' link are is memory =
      let counted : length words'.links.items ≡ e.id.seq = grind (arith, common_steps) in
      let at : link_at words.links.items e.id.seq ≡ link = grind (arith, common_steps) in
      let linked : IsWordLink more e link =
      subst (IsWordLink more e) at (are.links e (Contains-push events e) memory) in
      subst (λ (n : ℕ). IsLastBelow events e.word n link.previous) next
      (last-settled e.word e.id.seq link.previous (omega arith) linked.previous)

  -- the last operations of the words, where a memory operation came
  pub lasts-memory : (old new : ℕ → Option ℕ) → IsMemory e →
      ((word : ℕ) → IsLastBelow events word (length events) (old word)) → new e.word ≡ Some e.id.seq →
      ((word : ℕ) → e.word ≢ word → new word ≡ old word) → (word : ℕ) → IsLastBelow more word (length more) (new word)
  lasts-memory old new memory lasts here others word = elim (cases_eq e.word word) [
    | inl same ↦ subst (λ (w : ℕ). IsLastBelow more w (length more) (new w)) same
        (subst (IsLastBelow more e.word (length more)) (sym here) (last-new memory))
    | inr apart ↦ subst (IsLastBelow more word (length more)) (sym (others word apart))
        (last-other word (old word) (λ w. apart w.1) (lasts word))
  ]

  -- and where another event came
  pub lasts-same : (old new : ℕ → Option ℕ) → (IsMemory e → ⊥) →
      ((word : ℕ) → IsLastBelow events word (length events) (old word)) → ((word : ℕ) → new word ≡ old word) →
      (word : ℕ) → IsLastBelow more word (length more) (new word)
  lasts-same old new none lasts same word = subst (IsLastBelow more word (length more)) (sym (same word))
      (last-other word (old word) (λ w. none w.0) (lasts word))

  -- and where they go
  pub lasts-back : (old new : ℕ → Option ℕ) (o : Option ℕ) →
      ((word : ℕ) → IsLastBelow more word (length more) (old word)) → IsLastBelow events e.word (length events) o →
      new e.word ≡ o → ((word : ℕ) → e.word ≢ word → new word ≡ old word) → (word : ℕ) →
      IsLastBelow events word (length events) (new word)
  lasts-back old new o lasts last here others word = elim (cases_eq e.word word) [
    | inl same ↦ subst (λ (w : ℕ). IsLastBelow events w (length events) (new w)) same
        (subst (IsLastBelow events e.word (length events)) (sym here) last)
    | inr apart ↦ subst (IsLastBelow events word (length events)) (sym (others word apart))
        (last-other-settled word (old word) (λ w. apart w.1) (lasts word))
  ]

  -- an event that is no memory operation leaves the last ones
  pub lasts-kept : (old new : ℕ → Option ℕ) → (IsMemory e → ⊥) →
      ((word : ℕ) → IsLastBelow more word (length more) (old word)) → ((word : ℕ) → new word ≡ old word) → (word : ℕ) →
      IsLastBelow events word (length events) (new word)
  lasts-kept old new none lasts same word = subst (IsLastBelow events word (length events)) (sym (same word))
      (last-other-settled word (old word) (λ w. none w.0) (lasts word))

-- the numbers of a list without its last event
pub numbered-front : (front : List Event) (e : Event) → AreNumbered (front ++ e ∷ []) → AreNumbered front
numbered-front front e numbered s d low =
    ap (λ (x : Event). x.id.seq) (sym (get_or_append_left front (e ∷ []) d s low)) ∙
    numbered s d (omega (arith, length_push front e))

-- the last event has the highest number
pub numbered-last : (front : List Event) (e : Event) → AreNumbered (front ++ e ∷ []) → e.id.seq ≡ length front
numbered-last front e numbered =
    ap (λ (x : Event). x.id.seq) (sym (get_or_at front e [] e (length front) refl)) ∙
    numbered (length front) e (omega (arith, length_push front e))

-- what is read at an event's number is the event
pub numbered-read : (events : List Event) → AreNumbered events → (w x : Event) (n : ℕ) → Contains events w →
    w.id.seq ≡ n → x ≡ get_or events n x → x ≡ w
numbered-read events numbered w x n cw at read = read ∙ ap (λ (k : ℕ). get_or events k x) (sym at) ∙
    numbered-at events numbered w x cw

-- one event wrote one version
pub wrote-same : (x y : Event) → x ≡ y → x.wrote ≡ y.wrote
wrote-same x y same = ap (λ (z : Event). z.wrote) same

-- words with the same last operations and the same links
pub words-same : (events : List Event) (words words' : Words) → AreWords events words →
    ((word : ℕ) → number_of words'.lasts word ≡ number_of words.lasts word) →
    words'.links.items ≡ words.links.items → AreWords events words'
words-same events words words' h lasts links = record {
  lasts = λ word. rw (lasts word) (h.lasts word);
  links = λ a w m. rw links (h.links a w m);
  count = ap length links ∙ h.count;
}
