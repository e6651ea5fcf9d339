-- The walk back over a run of loads of one version, which rule 2 orders before a load of another.
use Rattle.rv_hart.proofs.Common.{◌≡◌, ◌≢◌, ℕ, ◌<◌, ◌≤◌, false, ◌||◌, ◌==◌, List, length, get_or}
use Rattle.rv_hart.proofs.Common.{Contains, Some, None, Option, ◌⊎◌, inl, inr, sym, refl, ap, ◌∙◌, arith, subst}
use Rattle.rv_hart.proofs.Common.{eqb-true, eq-eqb, or_cases, or_left, or_right, cases_order, cases_eq}
use Rattle.rv_hart.proofs.Common.{All-from_contains, is_load, is_store, IsLoad, IsStore, IsMemory, Between}
use Rattle.rv_hart.proofs.Common.{Rule, different_reads, DifferentReads, Event, Has, has_bit, Hart, followed}
use Rattle.rv_hart.proofs.Common.{IsOrderedBy, IsGenerated, IsLeadingRow, IsLastOther, IsOfWord, IsAbove}
use Rattle.rv_hart.proofs.Common.{NamesOfWord, IsLastBelow, IsWordLink, AreWords, WordLink, Words, AnyRule}
use Rattle.rv_hart.proofs.Common.{Reaches}
use Rattle.rv_cover.specs.Paths.{one}
use Rattle.rv_hart.proofs.HartFacts.{Fits, same_event, earlier_old}
use Rattle.rv_hart.proofs.RowMeanings.{leads-rule, rule-old}
use Rattle.rv_hart.proofs.RuleConditions.{ordered}
use Rattle.rv_hart.proofs.WordWalks.{IsMetAt, empty-lacks, generated-here, met_at, named-low, names-low, no-store}
use Rattle.rv_hart.proofs.WordWalks.{read_link, reads_out}

-- behind this number the event's word has no store
abbrev IsStoreless : Hart → Event → ℕ → Type 0
IsStoreless h e n = (m : Event) → Contains h.events m → n < m.id.seq → IsStore m → m.word ≡ e.word → ⊥

-- a name is at most a number
abbrev pub IsAtMost : Option ℕ → ℕ → Type 0
IsAtMost (Some p) n = p ≤ n
IsAtMost None n = Unit {0}

at-most : (events : List Event) (word limit n : ℕ) (o : Option ℕ) → limit ≤ n → NamesOfWord events word limit o →
    IsAtMost o n
at-most events word limit n None le names = tt
at-most events word limit n (Some p) le names = let low = names.0 in omega arith

-- the loads of one version, from the last load x of another version than the event's back: those above the walk's
-- place are in the row, and no store is above it
pub record IsRunWalk (h : Hart) (e x : Event) (next : Option ℕ) (row : List ℕ) : Type 0 where
  pub names : NamesOfWord h.events e.word (length h.events) next
  pub within : IsAtMost next x.id.seq
  pub sound : (s : ℕ) → Has row s → IsOrderedBy h e 2 s
  pub plain : (m : Event) → Contains h.events m → IsOfWord e.word m → IsAbove next m.id.seq → IsStore m → ⊥
  pub seen : (m : Event) → Contains h.events m → IsOfWord e.word m → IsAbove next m.id.seq → IsLoad m →
      m.read ≢ e.read → Has row m.id.seq

module _ {h : Hart} {e : Event} (f : Fits h e) (memory : IsMemory e) where
  -- the walk over the run begins
  pub run-begin : (p : ℕ) (row : List ℕ) (last : IsLastOther h e p) → ((s : ℕ) → has_bit row s ≡ false) →
      IsRunWalk h e last.a (Some p) row
  run-begin p row last none = record {
    names = (
      (let low = f.known.below last.a last.of_hart in let at = last.at in omega arith),
      record {
        a = last.a;
        of_list = last.of_hart;
        at = last.at;
        holds = (or_left (is_load last.a.op) (is_store last.a.op) last.load, last.word);
      },
    );
    within = (let at = last.at in omega arith);
    sound = λ s x. absurd (empty-lacks row none s x);
    plain = λ m c w above. (last.alike m c w above).0;
    seen = λ m c w above l other. absurd (other (last.alike m c w above).1);
  }

  module _ {p : ℕ} (last : IsLastOther h e p) where
    -- the end at the first operation
    pub run-end : (next : Option ℕ) (row : List ℕ) → IsRunWalk h e last.a next row → next ≡ None →
        IsLeadingRow h e 2 row
    run-end next row so_far end = record {
      sound = walk.sound;
      enough = λ b r. (let d = reads_out f memory b r in let cb = rule-old f 2 b r in
          generated-here h row b cb (walk.seen b cb (r.from_memory, d.word) tt d.first d.versions));
    }
      where
        walk : IsRunWalk h e last.a None row
        walk = subst (λ (o : Option ℕ). IsRunWalk h e last.a o row) end so_far

    -- what the walk meets is a place of the list
    pub run-few : (next : Option ℕ) (q : ℕ) (row : List ℕ) → IsRunWalk h e last.a next row → next ≡ Some q →
        (q < length h.events) × (q < 4096)
    run-few next q row so_far here = named-low f.known e.word (length h.events) q
        (subst (λ (o : Option ℕ). IsRunWalk h e last.a o row) here so_far).names

    -- an operation that the walk meets
    module _ (next : Option ℕ) (q : ℕ) (row : List ℕ) (a : Event) (so_far : IsRunWalk h e last.a next row)
        (here : next ≡ Some q) (read : a ≡ get_or h.events q a) where
      walk : IsRunWalk h e last.a (Some q) row
      walk = subst (λ (o : Option ℕ). IsRunWalk h e last.a o row) here so_far

      met : IsMetAt h e q a
      met = met_at f q a walk.names read

      -- the link that is read there is its link
      pub run-link : (words : Words) → AreWords h.events words → (l : WordLink) → l ≡ get_or words.links.items q l →
          IsWordLink h.events a l
      run-link words are l link =
          read_link h.events words are a l q met.of_hart met.of_word.0 (f.known.below a met.of_hart) met.at link

      -- the end at a store that is no load
      pub run-plain-store : (IsLoad a → ⊥) → IsLeadingRow h e 2 row
      run-plain-store none = record {
        sound = walk.sound;
        enough = λ b r. go b (rule-old f 2 b r) r (reads_out f memory b r) (cases_order b.id.seq q);
      }
        where
          store : IsStore a
          store = elim (or_cases (is_load a.op) (is_store a.op) met.of_word.0)
              [ inl l ↦ absurd (none l) | inr s ↦ s ]

          go : (b : Event) → Contains h.events b → Rule h.model (followed h e) 2 b e →
              DifferentReads (followed h e) b e → (b.id.seq ≡ q) ⊎ ((b.id.seq < q) ⊎ (q < b.id.seq)) →
              IsGenerated h row b
          go b cb r d (inl same) =
              absurd (none (subst IsLoad (same_event f.known b a cb met.of_hart (same ∙ sym met.at)) d.first))
          go b cb r d (inr (inl low)) =
              absurd (no-store f memory b a d cb met.of_hart (omega (arith, met.at)) store met.of_word.1)
          go b cb r d (inr (inr high)) =
              generated-here h row b cb (walk.seen b cb (r.from_memory, d.word) high d.first d.versions)

      -- the end at a load of yet another version: what stands before it leads to the run
      pub run-other : IsLoad a → a.read ≢ last.a.read → IsLeadingRow h e 2 row
      run-other loading differs = record {
        sound = walk.sound;
        enough = λ b r. go b (rule-old f 2 b r) r (reads_out f memory b r) (cases_order b.id.seq q);
      }
        where
          x : Event
          x = last.a

          below : q < x.id.seq
          below = elim (cases_order q x.id.seq) [
            | inl same ↦ absurd (differs (ap (λ (y : Event). y.read)
                (same_event f.known a x met.of_hart last.of_hart (met.at ∙ same))))
            | inr order ↦ elim order [
              | inl low ↦ low
              | inr high ↦ (let within = walk.within in absurd (omega (arith, met.at)))
            ]
          ]

          has : Has row x.id.seq
          has = walk.seen x last.of_hart (or_left (is_load x.op) (is_store x.op) last.load, last.word) below last.load
              last.other

          -- rule 2 orders two loads of the word, of different versions, with no store from the first on
          rule : (b c : Event) → Contains h.events b → Contains h.events c → IsLoad b → IsLoad c → b.word ≡ e.word →
              c.word ≡ e.word → b.read ≢ c.read → b.id.seq < c.id.seq → IsStoreless h e b.id.seq →
              AnyRule h.model h.events b c
          rule b c cb cc lb lc wb wc other low storeless = (
            2,
            record {
              from = cb;
              to = cc;
              from_memory = or_left (is_load b.op) (is_store b.op) lb;
              to_memory = or_left (is_load c.op) (is_store c.op) lc;
              earlier = record { hart = f.known.own b cb ∙ sym (f.known.own c cc); seq = low };
              condition = different_reads (record {
                first = lb;
                second = lc;
                word = wb ∙ sym wc;
                versions = other;
                none_between = All-from_contains (λ m. Between b m c → IsStore m → m.word ≢ b.word) h.events
                    (λ m cm between store same. storeless m cm between.after.seq store (same ∙ wb));
              });
            },
          )

          -- what rule 2 orders before the event leads to the run, for one version by the load that was met
          leads : (b : Event) → Contains h.events b → DifferentReads (followed h e) b e → b.id.seq ≤ q →
              (b.read ≡ x.read) ⊎ (b.read ≡ x.read → ⊥) → Reaches h.model h.events b x
          leads b cb d low (inr other) =
              one (rule b x cb last.of_hart d.first last.load d.word last.word other (omega (arith, below, met.at))
              (λ m cm after. no-store f memory b m d cb cm after))
          leads b cb d low (inl same) =
              let apart : b.read ≢ a.read = λ is. differs (sym is ∙ same) in
              let unlike : b.id.seq ≢ q = λ is. apart (ap (λ (y : Event). y.read)
              (same_event f.known b a cb met.of_hart (is ∙ sym met.at))) in
              let before : b.id.seq < a.id.seq = omega (arith, met.at) in
              leads-rule h.model h.events b a x
              (inr (one (rule b a cb met.of_hart d.first loading d.word met.of_word.1 apart before
              (λ m cm after. no-store f memory b m d cb cm after))))
              (rule a x met.of_hart last.of_hart loading last.load met.of_word.1 last.word differs
              (omega (arith, below, met.at))
              (λ m cm after. no-store f memory b m d cb cm (omega (arith, met.at))))

          lead : (b : Event) → Contains h.events b → DifferentReads (followed h e) b e → b.id.seq ≤ q →
              IsGenerated h row b
          lead b cb d low = record {
            c = x;
            of_hart = last.of_hart;
            leads = inr (leads b cb d low (cases_eq b.read x.read));
            has = has;
          }

          go : (b : Event) → Contains h.events b → Rule h.model (followed h e) 2 b e →
              DifferentReads (followed h e) b e → (b.id.seq ≡ q) ⊎ ((b.id.seq < q) ⊎ (q < b.id.seq)) →
              IsGenerated h row b
          go b cb r d (inl same) = lead b cb d (omega (arith, met.at))
          go b cb r d (inr (inl low)) = lead b cb d (omega (arith, met.at))
          go b cb r d (inr (inr high)) =
              generated-here h row b cb (walk.seen b cb (r.from_memory, d.word) high d.first d.versions)

      module _ (row' : List ℕ) (more_bits : (s : ℕ) → has_bit row' s ≡ (has_bit row s || (q == s)))
          (loading : IsLoad a) (same_read : a.read ≡ last.a.read) where
        run-kept : (s : ℕ) → Has row s → Has row' s
        run-kept s x = more_bits s ∙ or_left (has_bit row s) (q == s) x

        run-here : Has row' q
        run-here = more_bits q ∙ or_right (has_bit row q) (q == q) (eq-eqb q q refl)

        -- what was met is ordered
        run-ordered : IsOrderedBy h e 2 a.id.seq
        run-ordered = ordered f memory 2 a met.of_hart (
          met.of_word.0,
          different_reads (record {
            first = loading;
            second = last.loads;
            word = met.of_word.1;
            versions = λ is. last.other (sym same_read ∙ is);
            none_between = All-from_contains (λ m. Between a m e → IsStore m → m.word ≢ a.word) (followed h e)
                (λ m c between store word. (
                let after = between.after.seq in
                walk.plain m (earlier_old f m c between.before) (
                  or_right (is_load m.op) (is_store m.op) store,
                  word ∙ met.of_word.1,
                ) (omega (arith, met.at)) store));
          }),
        )

        run-sound : (s : ℕ) → Has row' s → IsOrderedBy h e 2 s
        run-sound s x = elim (or_cases (has_bit row s) (q == s) (sym (more_bits s) ∙ x)) [
          | inl y ↦ walk.sound s y
          | inr y ↦ subst (IsOrderedBy h e 2) (met.at ∙ eqb-true q s y) run-ordered
        ]

        -- the end at a store that is a load of the run
        pub run-store : IsStore a → IsLeadingRow h e 2 row'
        run-store store = record {
          sound = run-sound;
          enough = λ b r. go b (rule-old f 2 b r) r (reads_out f memory b r) (cases_order b.id.seq q);
        }
          where
            go : (b : Event) → Contains h.events b → Rule h.model (followed h e) 2 b e →
                DifferentReads (followed h e) b e → (b.id.seq ≡ q) ⊎ ((b.id.seq < q) ⊎ (q < b.id.seq)) →
                IsGenerated h row' b
            go b cb r d (inl same) = generated-here h row' b cb (subst (Has row') (sym same) run-here)
            go b cb r d (inr (inl low)) =
                absurd (no-store f memory b a d cb met.of_hart (omega (arith, met.at)) store met.of_word.1)
            go b cb r d (inr (inr high)) = generated-here h row' b cb
                (run-kept b.id.seq (walk.seen b cb (r.from_memory, d.word) high d.first d.versions))

        -- a step to the previous operation
        pub run-step : (o : Option ℕ) → (IsStore a → ⊥) → IsLastBelow h.events a.word a.id.seq o →
            IsRunWalk h e last.a o row'
        run-step o none below = record {
          names = names-low h.events e.word a.id.seq (length h.events) o
              (let low = f.known.below a met.of_hart in omega arith)
              (subst (λ (w : ℕ). NamesOfWord h.events w a.id.seq o) met.of_word.1 below.names);
          within = at-most h.events a.word a.id.seq last.a.id.seq o
              (let within = walk.within in omega (arith, met.at)) below.names;
          sound = run-sound;
          plain = λ m c w above store. at_plain m c w above store (cases_order m.id.seq q);
          seen = λ m c w above l other. at_seen m c w above l other (cases_order m.id.seq q);
        }
          where
            at_plain : (m : Event) → Contains h.events m → IsOfWord e.word m → IsAbove o m.id.seq → IsStore m →
                (m.id.seq ≡ q) ⊎ ((m.id.seq < q) ⊎ (q < m.id.seq)) → ⊥
            at_plain m c w above store (inl same) =
                none (subst IsStore (same_event f.known m a c met.of_hart (same ∙ sym met.at)) store)
            at_plain m c w above store (inr (inl low)) =
                below.none_later m c (w.0, w.1 ∙ sym met.of_word.1) above (omega (arith, met.at))
            at_plain m c w above store (inr (inr high)) = walk.plain m c w high store

            at_seen : (m : Event) → Contains h.events m → IsOfWord e.word m → IsAbove o m.id.seq → IsLoad m →
                m.read ≢ e.read → (m.id.seq ≡ q) ⊎ ((m.id.seq < q) ⊎ (q < m.id.seq)) → Has row' m.id.seq
            at_seen m c w above l other (inl same) = subst (Has row') (sym same) run-here
            at_seen m c w above l other (inr (inl low)) =
                absurd (below.none_later m c (w.0, w.1 ∙ sym met.of_word.1) above (omega (arith, met.at)))
            at_seen m c w above l other (inr (inr high)) = run-kept m.id.seq (walk.seen m c w high l other)
