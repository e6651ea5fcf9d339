-- Walks back over the memory operations of a word.
use Rattle.rv_hart.proofs.Common.{◌≡◌, ◌≢◌, ℕ, suc, ◌<◌, ◌≤◌, false, ◌||◌, ◌==◌, List}
use Rattle.rv_hart.proofs.Common.{length, get_or, Contains, Some, None, Option, ◌⊎◌, inl, inr, sym, refl, ap, ◌∙◌}
use Rattle.rv_hart.proofs.Common.{arith, subst, eqb-true, eq-eqb, or_cases, or_left, or_right, false≢true}
use Rattle.rv_hart.proofs.Common.{cases_order, All-contains, is_load, is_store, IsLoad}
use Rattle.rv_hart.proofs.Common.{IsStore, IsMemory, Between, Rule, overlapping_store}
use Rattle.rv_hart.proofs.Common.{DifferentReads, Event, Has, has_bit, Hart, followed, IsOrderedBy, IsGenerated}
use Rattle.rv_hart.proofs.Common.{IsLeadingRow, IsLastOther, HasEvent, get_or_default, rules, common_steps}
use Rattle.rv_hart.proofs.Common.{IsOfWord, IsAbove, NamesOfWord, IsLastBelow, IsBeforeRun, IsWordLink, AreWords}
use Rattle.rv_hart.proofs.Common.{WordLink, Words, overlapping_store_out, different_reads_out}
use Rattle.rv_hart.proofs.Common.{cases_eq}
use Rattle.rv_cover.specs.Paths.{one}
use Rattle.rv_hart.proofs.HartFacts.{Known, Fits, same_event, follows_all, old_new, read_is}
use Rattle.rv_hart.proofs.RowMeanings.{rule-old}
use Rattle.rv_hart.proofs.RuleConditions.{ordered}

-- the link that is read at an operation's number is its link
pub read_link : (events : List Event) (words : Words) → AreWords events words → (a : Event) (l : WordLink) (n : ℕ) →
    Contains events a → IsMemory a → a.id.seq < length events → a.id.seq ≡ n → l ≡ get_or words.links.items n l →
    IsWordLink events a l
read_link events words are a l n ca memory low at read = search (get_or_default, rules)

-- a name of a word is a place of the list
pub named-low : {h : Hart} → Known h → (word limit p : ℕ) → NamesOfWord h.events word limit (Some p) →
    (p < length h.events) × (p < 4096)
named-low {h} known word limit p names = grind (arith, common_steps)

-- how far a walk may still go
abbrev pub left : Option ℕ → ℕ
left None = 0
left (Some p) = suc p

-- the name's event is before a limit
pub names-low : (events : List Event) (word limit limit' : ℕ) (o : Option ℕ) → limit ≤ limit' →
    NamesOfWord events word limit o → NamesOfWord events word limit' o
names-low events word limit limit' None le names = tt
names-low events word limit limit' (Some p) le names = (let low = names.0 in omega arith, names.1)

-- ---- rule 1: all operations above the walk's place are in the row
pub record IsOverlapWalk (h : Hart) (e : Event) (next : Option ℕ) (row : List ℕ) : Type 0 where
  pub names : NamesOfWord h.events e.word (length h.events) next
  pub sound : (s : ℕ) → Has row s → IsOrderedBy h e 1 s
  pub seen : (m : Event) → Contains h.events m → IsOfWord e.word m → IsAbove next m.id.seq → Has row m.id.seq

module _ {h : Hart} {e : Event} (f : Fits h e) (memory : IsMemory e) where
  -- before the first operation of the word is met
  pub overlap-begin : (row : List ℕ) (o : Option ℕ) → ((s : ℕ) → has_bit row s ≡ false) →
      IsLastBelow h.events e.word (length h.events) o → IsOverlapWalk h e o row
  overlap-begin row o none last = search (false≢true, rules)

  -- no other event is a store
  pub overlap-none : (row : List ℕ) → ((s : ℕ) → has_bit row s ≡ false) → (IsStore e → ⊥) → IsLeadingRow h e 1 row
  overlap-none row none other = record {
    sound = λ s x. absurd (false≢true (sym (none s) ∙ x));
    enough = λ a r. absurd (other (overlapping_store_out h.model (followed h e) a e r.condition).store);
  }

  module _ (store : IsStore e) where
    put : (p : ℕ) (row row' : List ℕ) → ((s : ℕ) → has_bit row' s ≡ (has_bit row s || (p == s))) → (s : ℕ) →
        Has row' s → Has row s ⊎ (p ≡ s)
    put p row row' more s x = elim (or_cases (has_bit row s) (p == s) (sym (more s) ∙ x))
        [ inl y ↦ inl y | inr y ↦ inr (eqb-true p s y) ]

    kept : (p : ℕ) (row row' : List ℕ) → ((s : ℕ) → has_bit row' s ≡ (has_bit row s || (p == s))) → (s : ℕ) →
        Has row s → Has row' s
    kept p row row' more s x = more s ∙ or_left (has_bit row s) (p == s) x

    here : (p : ℕ) (row row' : List ℕ) → ((s : ℕ) → has_bit row' s ≡ (has_bit row s || (p == s))) → Has row' p
    here p row row' more = more p ∙ or_right (has_bit row p) (p == p) (eq-eqb p p refl)

    overlapped : (p : ℕ) → HasEvent (IsOfWord e.word) h.events p → IsOrderedBy h e 1 p
    overlapped p x = let o = ordered f memory 1 x.a x.of_list (
      x.holds.0,
      overlapping_store (record { store = store; word = x.holds.1 }),
    ) in record { a = o.a; of_hart = o.of_hart; at = o.at ∙ x.at; rule = o.rule }

    sound-more : (p : ℕ) (row row' : List ℕ) → IsOverlapWalk h e (Some p) row →
        ((s : ℕ) → has_bit row' s ≡ (has_bit row s || (p == s))) → (s : ℕ) → Has row' s → IsOrderedBy h e 1 s
    sound-more p row row' walk more s x = elim (put p row row' more s x) [
      | inl y ↦ walk.sound s y
      | inr y ↦ subst (IsOrderedBy h e 1) y (overlapped p walk.names.1)
    ]

    -- a step to the previous operation
    pub overlap-step : (p : ℕ) (row row' : List ℕ) (a : Event) (o : Option ℕ) → IsOverlapWalk h e (Some p) row →
        Contains h.events a → a.id.seq ≡ p → ((s : ℕ) → has_bit row' s ≡ (has_bit row s || (p == s))) →
        IsLastBelow h.events a.word a.id.seq o → IsOverlapWalk h e o row'
    overlap-step p row row' a o walk ca at more last = record {
      names = names-low h.events e.word a.id.seq (length h.events) o (let low = f.known.below a ca in omega arith)
          (subst (λ (w : ℕ). NamesOfWord h.events w a.id.seq o) word last.names);
      sound = sound-more p row row' walk more;
      seen = λ m c w above. go m c w above (cases_order m.id.seq p);
    }
      where
        word : a.word ≡ e.word
        word = ap (λ (x : Event). x.word)
            (same_event f.known a walk.names.1.a ca walk.names.1.of_list (at ∙ sym walk.names.1.at)) ∙
            walk.names.1.holds.1

        go : (m : Event) → Contains h.events m → IsOfWord e.word m → IsAbove o m.id.seq → (m.id.seq ≡ p) ⊎
            ((m.id.seq < p) ⊎ (p < m.id.seq)) → Has row' m.id.seq
        go m c w above (inl same) = subst (Has row') (sym same) (here p row row' more)
        go m c w above (inr (inl low)) = absurd (last.none_later m c (w.0, w.1 ∙ sym word) above (omega arith))
        go m c w above (inr (inr high)) = kept p row row' more m.id.seq (walk.seen m c w high)

    -- the end at a store
    pub overlap-store : (p : ℕ) (row row' : List ℕ) (a : Event) → IsOverlapWalk h e (Some p) row → Contains h.events a →
        a.id.seq ≡ p → IsStore a → ((s : ℕ) → has_bit row' s ≡ (has_bit row s || (p == s))) → IsLeadingRow h e 1 row'
    overlap-store p row row' a walk ca at met more = record {
      sound = sound-more p row row' walk more;
      enough = λ b r. go b (rule-old f 1 b r) r (overlapping_store_out h.model (followed h e) b e r.condition).word
          (cases_order b.id.seq p);
    }
      where
        is : a ≡ walk.names.1.a
        is = same_event f.known a walk.names.1.a ca walk.names.1.of_list (at ∙ sym walk.names.1.at)

        of_word : IsOfWord e.word a
        of_word = subst (IsOfWord e.word) (sym is) walk.names.1.holds

        has : Has row' a.id.seq
        has = subst (Has row') (sym at) (here p row row' more)

        go : (b : Event) → Contains h.events b → Rule h.model (followed h e) 1 b e → b.word ≡ e.word → (b.id.seq ≡ p) ⊎
            ((b.id.seq < p) ⊎ (p < b.id.seq)) → IsGenerated h row' b
        go b cb r word (inl same) = search (here, rules)
        go b cb r word (inr (inl low)) = record {
          c = a;
          of_hart = ca;
          leads = inr (one (
            1,
            record {
              from = cb;
              to = ca;
              from_memory = r.from_memory;
              to_memory = of_word.0;
              earlier = record { hart = f.known.own b cb ∙ sym (f.known.own a ca); seq = omega arith };
              condition = overlapping_store (record { store = met; word = word ∙ sym of_word.1 });
            },
          ));
          has = has;
        }
        go b cb r word (inr (inr high)) = search (kept, rules)

    -- the end at the first operation
    pub overlap-end : (row : List ℕ) → IsOverlapWalk h e None row → IsLeadingRow h e 1 row
    overlap-end row walk = grind (arith, common_steps, rule-old, overlapping_store_out)

-- an event that the row has is generated by it
pub generated-here : (h : Hart) (row : List ℕ) (b : Event) → Contains h.events b → Has row b.id.seq →
    IsGenerated h row b
generated-here h row b cb has = record { c = b; of_hart = cb; leads = inl refl; has = has }

-- an empty row has nothing
pub empty-lacks : (row : List ℕ) → ((s : ℕ) → has_bit row s ≡ false) → (s : ℕ) → Has row s → ⊥
empty-lacks row none s x = false≢true (sym (none s) ∙ x)

-- what a walk meets is an operation of the event's word
pub record IsMetAt (h : Hart) (e : Event) (p : ℕ) (a : Event) : Type 0 where
  pub of_hart : Contains h.events a
  pub at : a.id.seq ≡ p
  pub of_word : IsOfWord e.word a

pub met_at : {h : Hart} {e : Event} → Fits h e → (p : ℕ) (a : Event) →
    NamesOfWord h.events e.word (length h.events) (Some p) → a ≡ get_or h.events p a → IsMetAt h e p a
met_at {h} {e} f p a names read =
    let is : a ≡ names.1.a = read_is f.known names.1.a a p names.1.of_list names.1.at read in
    record {
      of_hart = subst (Contains h.events) (sym is) names.1.of_list;
      at = ap (λ (x : Event). x.id.seq) is ∙ names.1.at;
      of_word = subst (IsOfWord e.word) (sym is) names.1.holds;
    }

-- ---- rule 2: above the walk's place are only loads that returned what the event returns
pub record IsReadsWalk (h : Hart) (e : Event) (next : Option ℕ) : Type 0 where
  pub names : NamesOfWord h.events e.word (length h.events) next
  pub alike : (m : Event) → Contains h.events m → IsOfWord e.word m → IsAbove next m.id.seq →
      (IsStore m → ⊥) × (m.read ≡ e.read)

module _ {h : Hart} {e : Event} (f : Fits h e) (memory : IsMemory e) where
  -- what rule 2 asks of an event that it orders before this one
  pub reads_out : (b : Event) → Rule h.model (followed h e) 2 b e → DifferentReads (followed h e) b e
  reads_out b r = different_reads_out h.model (followed h e) b e r.condition

  -- no store of the word stands between an event and one that it orders by rule 2
  pub no-store : (b m : Event) → DifferentReads (followed h e) b e → Contains h.events b → Contains h.events m →
      b.id.seq < m.id.seq → IsStore m → m.word ≡ e.word → ⊥
  no-store b m d cb cm low store word =
      All-contains (λ x. Between b x e → IsStore x → x.word ≢ b.word) (followed h e) m d.none_between
      (old_new h e m cm)
      (record {
        after = record { hart = f.known.own b cb ∙ sym (f.known.own m cm); seq = low };
        before = follows_all f m cm;
      }) store (word ∙ sym d.word)

  -- before the first operation of the word is met
  pub reads-begin : (o : Option ℕ) → IsLastBelow h.events e.word (length h.events) o → IsReadsWalk h e o
  reads-begin o last = record {
    names = last.names;
    alike = λ m c w above. absurd (last.none_later m c w above (f.known.below m c));
  }

  -- an event that is no load has no row of rule 2
  pub reads-none : (row : List ℕ) → ((s : ℕ) → has_bit row s ≡ false) → (IsLoad e → ⊥) → IsLeadingRow h e 2 row
  reads-none row none other = record {
    sound = λ s x. absurd (empty-lacks row none s x);
    enough = λ b r. absurd (other (reads_out b r).second);
  }

  -- the end at the first operation: no load returned another version
  pub reads-end : (row : List ℕ) → ((s : ℕ) → has_bit row s ≡ false) → IsReadsWalk h e None → IsLeadingRow h e 2 row
  reads-end row none walk = record {
    sound = λ s x. absurd (empty-lacks row none s x);
    enough = λ b r. (let d = reads_out b r in
        absurd (d.versions (walk.alike b (rule-old f 2 b r) (r.from_memory, d.word) tt).1));
  }

  -- what the walk meets is a place of the list
  pub reads-few : (next : Option ℕ) (p : ℕ) → IsReadsWalk h e next → next ≡ Some p →
      (p < length h.events) × (p < 4096)
  reads-few next p so_far here = named-low f.known e.word (length h.events) p
      (subst (IsReadsWalk h e) here so_far).names

  -- an operation that the walk meets
  module _ (next : Option ℕ) (p : ℕ) (a : Event) (so_far : IsReadsWalk h e next) (here : next ≡ Some p)
      (read : a ≡ get_or h.events p a) where
    walk : IsReadsWalk h e (Some p)
    walk = subst (IsReadsWalk h e) here so_far

    met : IsMetAt h e p a
    met = met_at f p a walk.names read

    -- the link that is read there is its link
    pub reads-link : (words : Words) → AreWords h.events words → (l : WordLink) → l ≡ get_or words.links.items p l →
        IsWordLink h.events a l
    reads-link words are l link =
        read_link h.events words are a l p met.of_hart met.of_word.0 (f.known.below a met.of_hart) met.at link

    -- the end at a store
    pub reads-store : (row : List ℕ) → ((s : ℕ) → has_bit row s ≡ false) → IsStore a →
        (IsLoad a → a.read ≢ e.read → ⊥) → IsLeadingRow h e 2 row
    reads-store row none store same_read = record {
      sound = λ s x. absurd (empty-lacks row none s x);
      enough = λ b r. absurd (go b (rule-old f 2 b r) r (reads_out b r) (cases_order b.id.seq p));
    }
      where
        go : (b : Event) → Contains h.events b → Rule h.model (followed h e) 2 b e →
            DifferentReads (followed h e) b e → (b.id.seq ≡ p) ⊎ ((b.id.seq < p) ⊎ (p < b.id.seq)) → ⊥
        go b cb r d (inl same) =
            let this : b ≡ a = same_event f.known b a cb met.of_hart (same ∙ sym met.at) in
            same_read (subst IsLoad this d.first) (λ q. d.versions (ap (λ (x : Event). x.read) this ∙ q))
        go b cb r d (inr (inl low)) = no-store b a d cb met.of_hart (omega (arith, met.at)) store met.of_word.1
        go b cb r d (inr (inr high)) = d.versions (walk.alike b cb (r.from_memory, d.word) high).1

    -- what is no store and no load of another version returned the event's
    pub reads-same : (IsStore a → ⊥) → (IsLoad a → a.read ≢ e.read → ⊥) → a.read ≡ e.read
    reads-same plain same_read = elim (or_cases (is_load a.op) (is_store a.op) met.of_word.0) [
      | inl loading ↦ elim (cases_eq a.read e.read) [ inl same ↦ same | inr other ↦ absurd (same_read loading other) ]
      | inr store ↦ absurd (plain store)
    ]

    -- a step over a run of the event's version
    pub reads-run : (o : Option ℕ) → (IsStore a → ⊥) → a.read ≡ e.read → IsBeforeRun h.events a o → IsReadsWalk h e o
    reads-run o plain same before = record {
      names = names-low h.events e.word a.id.seq (length h.events) o
          (let low = f.known.below a met.of_hart in omega arith)
          (subst (λ (w : ℕ). NamesOfWord h.events w a.id.seq o) met.of_word.1 before.names);
      alike = λ m c w above. go m c w above (cases_order m.id.seq p);
    }
      where
        go : (m : Event) → Contains h.events m → IsOfWord e.word m → IsAbove o m.id.seq → (m.id.seq ≡ p) ⊎
            ((m.id.seq < p) ⊎ (p < m.id.seq)) → (IsStore m → ⊥) × (m.read ≡ e.read)
        go m c w above (inl here) =
            let this : m ≡ a = same_event f.known m a c met.of_hart (here ∙ sym met.at) in
            (λ s. plain (subst IsStore this s), ap (λ (x : Event). x.read) this ∙ same)
        go m c w above (inr (inl low)) =
            let run = before.run m c (w.0, w.1 ∙ sym met.of_word.1) above (omega (arith, met.at)) in
            (run.0, run.1 ∙ same)
        go m c w above (inr (inr high)) = walk.alike m c w high

    -- the last load of another version
    pub reads-other : IsLoad e → IsLoad a → a.read ≢ e.read → IsLastOther h e p
    reads-other loads load other = record {
      loads = loads;
      a = a;
      of_hart = met.of_hart;
      at = met.at;
      load = load;
      word = met.of_word.1;
      other = other;
      alike = λ m c w above. walk.alike m c w above;
    }
