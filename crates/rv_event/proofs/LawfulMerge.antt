-- An order is lawful for every merge of the same runs, or for none.
use Rattle.rv_event.proofs.Common.{rules, MemoryModel, ◌≡◌, ℕ, List, [], Contains, Some, sym, ◌∙◌, append-nil}
use Rattle.rv_event.proofs.Common.{events, writer, IsOperation, Candidate, Lawful, WellFormed, Continues}
use Rattle.rv_event.proofs.Common.{entries_of, Id, Event, Entry}
use Rattle.rv_event.proofs.Indexed.{Indexed, indexed_from_WellFormed}
use Rattle.rv_event.proofs.Growing.{Grows, grows_from_Continues, named-grows, Contains-grows, Rule-grows}
use Rattle.rv_event.proofs.Growing.{writer-grows, Paired-grows}
use Rattle.rv_event.proofs.Merged.{SameHarts}

Continues-same : (one other : List Entry) → SameHarts one other → Continues one other
Continues-same one other same hart = ([], sym (same hart) ∙ sym (append-nil (entries_of hart one)))

module _ (model : MemoryModel) (one two : List Event) (order : List Id) (there : Grows one two) (back : Grows two one)
    (known : Indexed one) (known' : Indexed two) (lawful : Lawful model one order) where
  operation-there : (i : Id) → IsOperation one i → IsOperation two i
  operation-there i o = search (named-grows, rules)

  event-back : (e : Event) → Contains two e → Contains one e
  event-back = Contains-grows model two one back known' known

  candidate-there : (load store : Event) → Candidate one order load store → Candidate two order load store
  candidate-there load store c = search (Contains-grows)

  candidate-back : (load store : Event) → Candidate two order load store → Candidate one order load store
  candidate-back load store c = search (event-back, rules)

  writer-back : (word version : ℕ) (w : Event) → writer two word version ≡ Some w → writer one word version ≡ Some w
  writer-back = writer-grows model two one back known' known

  -- the order is lawful for the other merge
  pub lawful-there : Lawful model two order
  lawful-there = record {
    is_order =
        search (
          operation-there,
          Rule-grows,
          event-back,
          candidate-back,
          candidate-there,
          writer-back,
          Paired-grows,
          named-grows,
          rules,
        );
    program_order = λ k a b r. lawful.program_order k a b (Rule-grows model two one back known' known k a b r);
    write_order = λ a b ca cb sa sb word versions. lawful.write_order a b (event-back a ca)
        (event-back b cb) sa sb word versions;
    load_values = λ load c l. let v = lawful.load_values load (event-back load c) l in
        record {
          none_newer = λ store k. v.none_newer store (candidate-back load store k);
          from_writer = λ store e. candidate-there load store
              (v.from_writer store (writer-back load.word load.read store e));
        };
    atomicity = λ lr sc cl cs p. let a = lawful.atomicity lr sc (event-back lr cl) (event-back sc cs)
        (Paired-grows model two one back known' known lr sc cs p) in record {
          after_writer = λ store e.
              a.after_writer store (writer-back lr.word lr.read store e);
          before_others = λ store c s word other
              versions. a.before_others store (event-back store c) s word other versions;
        };
  }

-- merges of the same harts have the same lawful orders
pub Lawful-merge : (model : MemoryModel) (log other : List Entry) (order : List Id) → WellFormed log →
    WellFormed other → SameHarts log other → Lawful model (events log) order → Lawful model (events other) order
Lawful-merge model log other order ok ok' same lawful =
    lawful-there model (events log) (events other) order
    (grows_from_Continues log other (Continues-same log other same))
    (grows_from_Continues other log (Continues-same other log (λ h. sym (same h))))
    (indexed_from_WellFormed log ok) (indexed_from_WellFormed other ok') lawful
