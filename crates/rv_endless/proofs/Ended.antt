-- Where a hart has ended.
use Rattle.rv_endless.specs.Runs.{StandsFor}
use Rattle.rv_endless.specs.declared.run.Endless.{Endless}
use Rattle.rv_event.proofs.Merged.{Contains-filter, Contains-unfilter}
use Rattle.rv_event.specs.declared.event.Entry.{Entry}
use Rattle.std.proofs.Common.{ℕ, ◌≡◌, ◌≢◌, ◌∙◌, ◌==◌, Contains, List, ap, filter, not, sym, true}
use Rattle.std.proofs.lemmas.Bool.{eq-eqb, false≢true, ne_eqb}
use Rattle.std.proofs.lemmas.List.Elements.{All-contains, filter_passes}

-- the harts that are left
abbrev pub left_of : ℕ → List ℕ → List ℕ
left_of hart harts = filter (λ h. not (h == hart)) harts

-- each is one of the harts, and not this one
pub left-to : (hart : ℕ) (harts : List ℕ) (h : ℕ) → Contains (left_of hart harts) h → Contains harts h × (h ≢ hart)
left-to hart harts h c = (
  Contains-unfilter (λ k. not (k == hart)) harts h c,
  λ same. false≢true (sym (ap not (eq-eqb h hart same))
      ∙ All-contains (λ k. not (k == hart) ≡ true) (left_of hart harts) h
      (filter_passes (λ k. not (k == hart)) harts) c),
)

-- and the other way round
pub left-from : (hart : ℕ) (harts : List ℕ) (h : ℕ) → Contains harts h → h ≢ hart → Contains (left_of hart harts) h
left-from hart harts h c apart = Contains-filter (λ k. not (k == hart)) harts h c (ap not (ne_eqb h hart apart))

-- a run stands for its log where fewer harts are active
pub stands-fewer : (run : Endless) (log : List Entry) (stands : StandsFor run log) (other : Endless) →
    ((h : ℕ) → Contains other.active.items h → Contains run.active.items h) →
    StandsFor (record run { active = other.active }) log
stands-fewer run log stands other fewer = record {
  going = stands.going;
  book_going = stands.book_going;
  formed = stands.formed;
  plain = stands.plain;
  lawful = stands.lawful;
  window_is = stands.window_is;
  harts = stands.harts;
  counts_are = stands.counts_are;
  numbers = stands.numbers;
  within = stands.within;
  few = stands.few;
  pairs = stands.pairs;
  cut = record {
    past = stands.cut.past;
    below = stands.cut.below;
    cut = record {
      of_log = stands.cut.cut.of_log;
      begins = stands.cut.cut.begins;
      closed = stands.cut.cut.closed;
      settled = λ p is memory hart c. stands.cut.cut.settled p is memory hart (fewer hart c);
    };
  };
  gone = (
    stands.gone.0,
    record {
      each = stands.gone.1.each;
      past = stands.gone.1.past;
      facts = stands.gone.1.facts;
      exclusives = stands.gone.1.exclusives;
    },
  );
}
