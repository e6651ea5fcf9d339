-- A book that has taken the first entries of a list.
use Rattle.rv_replay.proofs.Common.{common_steps, rules, ◌≡◌, ℕ, ◌≤◌, ◌<◌, ◌+◌, List, [], ◌∷◌, ◌++◌, length, take}
use Rattle.rv_replay.proofs.Common.{drop, suc, get_or, IsFalse, inl, inr, sym, ap, ◌∙◌, subst, arith}
use Rattle.rv_replay.proofs.Common.{take-append-drop, drop-cons, take-length, length-take-le, take_all, cases_lt}
use Rattle.rv_replay.proofs.Common.{events, Lawful, WellFormed, Entry, MemoryModel, WellFormed-nil, WellFormed-push}
use Rattle.rv_replay.proofs.Common.{FaultyLog, Refusal, Booked, IsForbiddenOn, IsMalformedOn, IsTaken, IsConsistent}
use Rattle.rv_replay.proofs.Common.{Reaches, IsReplayed}
use Rattle.rv_report.specs.declared.outcome.Outcome.TheVariants as outcome

-- the book goes on, its log is the first entries, and each shorter beginning is consistent
pub record IsReplaying (model : MemoryModel) (entries : List Entry) (count : ℕ) (book : Booked) : Type 0 where
  pub going : IsFalse book.stopped
  pub judged_by : book.model ≡ model
  pub log : book.log ≡ take count entries
  pub shorter : (n : ℕ) → n ≤ count → IsConsistent model (take n entries)

-- before the first entry
pub replaying-begin :
    (model : MemoryModel) (entries : List Entry) (book : Booked) → IsFalse book.stopped → book.model ≡ model →
    book.log ≡ [] →
    Lawful book.model (events book.log) book.order → IsReplaying model entries 0 book
replaying-begin model entries book going same empty lawful = record {
  going = going;
  judged_by = same;
  log = empty;
  shorter = λ n low. let none : 0 ≡ n = omega (arith, low) in
      subst (λ (k : ℕ). IsConsistent model (take k entries)) none (record {
        well_formed = WellFormed-nil;
        lawful = grind (arith, common_steps);
      });
}

-- one entry more was accepted
pub replaying-turn :
    (model : MemoryModel) (entries : List Entry) (count : ℕ) (old new : Booked) (x : Entry) →
    IsReplaying model entries count old →
    count < length entries → x ≡ get_or entries count x → IsTaken old new x →
    IsReplaying model entries (count + 1) new
replaying-turn model entries count old new x r low is taken =
    let next : suc count ≡ count + 1 = omega arith in
    let log : old.log ++ x ∷ [] ≡ take (count + 1) entries = grind (arith, common_steps) in
    let last : IsConsistent model (take (count + 1) entries) = record {
      well_formed = subst WellFormed log (WellFormed-push old.log x
          (subst WellFormed (sym r.log) (r.shorter count (omega arith)).well_formed) taken.sound);
      lawful = grind (arith, common_steps);
    } in
    record {
      going = taken.stopped ∙ r.going;
      judged_by = taken.model ∙ r.judged_by;
      log = taken.log ∙ log;
      shorter = λ n within. elim (cases_lt count n) [
        | inl above ↦ (let whole : count + 1 ≡ n = omega (arith, above, within) in
            subst (λ (k : ℕ). IsConsistent model (take k entries)) whole last)
        | inr below ↦ r.shorter n below
      ];
    }

-- the next entry was not
pub replaying-stops :
    (model : MemoryModel) (entries : List Entry) (count : ℕ) (book : Booked) (x : Entry) →
    IsReplaying model entries count book →
    count < length entries → x ≡ get_or entries count x → Reaches model entries book.log x
replaying-stops model entries count book x r low is = record {
  after = drop (suc count) entries;
  whole = search (take-append-drop, drop-cons, suc, rules);
  shorter = λ n within. r.shorter n (omega (
    arith,
    within,
    ap (λ (l : List Entry). length l) r.log,
    length-take-le count entries (omega (arith, low)),
  ));
}

-- what the pass comes to at an entry with a fault
pub replaying-malformed :
    (model : MemoryModel) (entries : List Entry) (count : ℕ) (book : Booked) (x : Entry) (m : FaultyLog) →
    IsReplaying model entries count book → count < length entries → x ≡ get_or entries count x →
    IsMalformedOn book.model book.log x m → IsReplayed model entries (outcome.Malformed m)
replaying-malformed model entries count book x m r low is told = search (replaying-stops, rules)

-- what it comes to at an entry with which no order is lawful
pub replaying-forbidden :
    (model : MemoryModel) (entries : List Entry) (count : ℕ) (book : Booked) (x : Entry) (f : Refusal) →
    IsReplaying model entries count book → count < length entries → x ≡ get_or entries count x →
    IsForbiddenOn book.model book.log x f → IsReplayed model entries (outcome.Forbidden f)
replaying-forbidden model entries count book x f r low is told = (
  book.log,
  x,
  replaying-stops model entries count book x r low is,
  subst (λ (judged_by : MemoryModel). IsForbiddenOn judged_by book.log x f) r.judged_by told,
)

-- the whole list was taken
pub replaying-end :
    (model : MemoryModel) (entries : List Entry) (count : ℕ) (book : Booked) → IsReplaying model entries count book →
    length entries ≤ count → IsConsistent model entries × (book.log ≡ entries)
replaying-end model entries count book r long = (
  subst (λ (l : List Entry). IsConsistent model l) (take-length entries) (r.shorter (length entries) long),
  r.log ∙ take_all count entries long,
)
