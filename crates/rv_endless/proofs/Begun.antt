-- A run before any event.
use Rattle.rv_cut.specs.Cuts.{first_of}
use Rattle.rv_endless.specs.Runs.{StandsFor, limit}
use Rattle.rv_endless.specs.Exclusives.{IsLastOf}
use Rattle.rv_endless.specs.declared.exclusives.Exclusive.{Exclusive}
use Rattle.rv_endless.specs.declared.run.Endless.{Endless}
use Rattle.rv_event.proofs.Names.{Contains-none}
use Rattle.rv_event.specs.Orders.{Lawful}
use Rattle.rv_event.specs.WellFormed.{WellFormedWithin}
use Rattle.rv_event.specs.declared.event.Entry.{Entry}
use Rattle.rv_event.specs.declared.event.Id.{Id}
use Rattle.rv_past.specs.Facts.{AreFacts}
use Rattle.rv_past.specs.Gone.{AreGone}
use Rattle.std.proofs.Common.{ℕ, ◌≡◌, ◌∙◌, [], ◌∷◌, List, ap, arith, false, length, refl, suc}
use Rattle.std.proofs.Common.{None, Option, slice_index_or, subst, sym, zero}
use Rattle.std.proofs.lemmas.Bool.{false≢true}
use Rattle.std.proofs.lemmas.Grind.{common_steps}
use Rattle.std.proofs.lemmas.List.{length-append}
use Rattle.std.specs.Prelude.{replicate}

-- each of some zeros is 0
pub zero-at : (n hart : ℕ) → ◌≡◌ {A = ℕ} (slice_index_or (replicate n 0) hart 0) 0
zero-at zero hart = refl
zero-at (suc n) zero = refl
zero-at (suc n) (suc hart) = zero-at n hart

-- each of no exclusives is none
pub none-at : (n hart : ℕ) → ◌≡◌ {A = Option Exclusive} (slice_index_or (replicate n None) hart None) None
none-at zero hart = refl
none-at (suc n) zero = refl
none-at (suc n) (suc hart) = none-at n hart

-- the empty log is well formed
formed-nil : WellFormedWithin limit []
formed-nil before after x is = absurd
    (omega (arith, ap (λ (xs : List Entry). length xs) is, length-append before (x ∷ after)))

-- a run without events stands for the empty log
pub begun : (run : Endless) → run.book.log ≡ [] → (order : List Id) → Lawful run.book.model [] order →
    ((hart : ℕ) → first_of run.firsts hart ≡ 0) → run.counts ≡ replicate 16 0 →
    AreGone [] run.past → AreFacts [] run.facts →
    ((hart : ℕ) → slice_index_or run.exclusives hart None ≡ None) → run.stopped ≡ false → run.book.stopped ≡ false →
    StandsFor run []
begun run none order lawful firsts counts past facts none-at going book-going = record {
  going = going;
  book_going = book-going;
  formed = formed-nil;
  plain = grind (arith, common_steps);
  lawful = (order, lawful);
  window_is = none;
  harts = ap (λ (xs : List ℕ). length xs) counts;
  counts_are = λ hart. ap (λ (xs : List ℕ). slice_index_or xs hart 0) counts ∙ zero-at 16 hart;
  numbers = λ hart. omega arith;
  within = λ hart. let first = firsts hart in omega (arith, first);
  few = λ hart. omega arith;
  pairs = λ sc there. absurd (Contains-none sc there);
  cut = record {
    past = λ _. false;
    below = λ a there. absurd (Contains-none a there);
    cut = record {
      of_log = λ p is. absurd (false≢true is);
      begins = λ a p there _ _. absurd (Contains-none a there);
      closed = λ a p there _ _. absurd (Contains-none a there);
      settled = λ p is _. absurd (false≢true is);
    };
  };
  gone = (
    [],
    record {
      each = λ y. ((λ c. absurd (Contains-none y c)), (λ from. absurd (Contains-none from.0 from.1)));
      past = past;
      facts = facts;
      exclusives = λ hart.
          subst (λ (o : Option Exclusive). IsLastOf [] hart o) (sym (none-at hart))
          (λ e is. absurd (Contains-none e is.of_log));
    },
  );
}
