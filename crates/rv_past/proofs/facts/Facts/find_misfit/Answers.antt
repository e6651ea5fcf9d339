use Rattle.std.proofs.Common.{ℕ, ◌≡◌, ◌∙◌, ◌<◌, ◌≤◌, ◌↔◌, Bool, IsTrue, List, false, length, nat_eq, subst, sym}
use Rattle.std.proofs.lemmas.Bool.{false≢true}
use Rattle.std.specs.HashMap.{get}
use Rattle.std.specs.HashSet.{contains}
use Rattle.std.specs.List.{list_any}
use Rattle.rv_event.specs.Operations.{IsStore}
use Rattle.rv_event.specs.declared.event.Dep.{Dep}
use Rattle.rv_event.specs.declared.event.Entry.{Entry}
use Rattle.rv_past.proofs.Misfits.{depends-badly, depends-well, other-source, same-source}
use Rattle.rv_past.specs.Facts.{AreFacts, DependsOnValues, HasSource, IsUnwritten, is_bad_in, is_other, is_written}
use Rattle.rv_past.specs.Gone.{same_version}
use Rattle.rv_past.specs.declared.facts.Facts.{Facts}
use Rattle.rv_past.proofs.facts.Facts.find_misfit.Goals as goal

module _ (gone : List Entry) (f : Facts) (are : AreFacts gone f) (first : ℕ) (x : Entry) where
  abbrev written : ℕ → ℕ → Bool
  written = is_written (get nat_eq f.through) (contains same_version f.above)

  -- no dependency is bad, where the answer was no
  well : (b : Bool) → b ≡ list_any (is_bad_in (get same_version f.values) first x.event) x.event.deps → b ≡ false →
      DependsOnValues gone first x.event
  well b told is = depends-well gone f.sources (get same_version f.values) written are first x.event (sym told ∙ is)

  -- its version is free
  free : (b : Bool) → (IsTrue b ↔ (IsStore x.event × IsTrue (written x.event.word x.event.wrote))) → b ≡ false →
      IsUnwritten gone x.event
  free b told is store by = false≢true (sym is ∙ told.1 (store, (are.version x.event.word x.event.wrote).1 by))

  -- its source is that of its hart
  source : (b : Bool) → b ≡ is_other f.sources x → b ≡ false → HasSource gone x
  source b told is = same-source gone f.sources (get same_version f.values) written are x (sym told ∙ is)

pub returns-then-depends_badly : goal.returns-then-depends_badly
returns-then-depends_badly c = λ gone are.
    depends-badly gone c.args.self.now.sources (get same_version c.args.self.now.values)
    (written gone c.args.self.now are c.args.first c.args.entry.now) are c.args.first c.args.entry.now.event
    (sym c.depends_badly.ensures ∙ c.if-depends_badly.true)

pub returns-then-is_taken : goal.returns-then-is_taken
returns-then-is_taken c = λ gone are.
    let is = c.is_taken.ensures.0 c.if-is_taken.true in (
      well gone c.args.self.now are c.args.first c.args.entry.now c.depends_badly.result c.depends_badly.ensures
          c.if-depends_badly.false,
      is.0,
      (are.version c.args.entry.now.event.word c.args.entry.now.event.wrote).0 is.1,
    )

pub returns-then-is_other_source : goal.returns-then-is_other_source
returns-then-is_other_source c = λ gone are. (
  well gone c.args.self.now are c.args.first c.args.entry.now c.depends_badly.result c.depends_badly.ensures
      c.if-depends_badly.false,
  free gone c.args.self.now are c.args.first c.args.entry.now c.is_taken.result c.is_taken.ensures c.if-is_taken.false,
  other-source gone c.args.self.now.sources (get same_version c.args.self.now.values)
      (written gone c.args.self.now are c.args.first c.args.entry.now) are c.args.entry.now
      (sym c.is_other_source.ensures ∙ c.if-is_other_source.true),
)

pub returns-then-as_slice-gt8 : goal.returns-then-as_slice-gt8
returns-then-as_slice-gt8 c = λ gone are. (
  well gone c.args.self.now are c.args.first c.args.entry.now c.depends_badly.result c.depends_badly.ensures
      c.if-depends_badly.false,
  free gone c.args.self.now are c.args.first c.args.entry.now c.is_taken.result c.is_taken.ensures c.if-is_taken.false,
  source gone c.args.self.now are c.args.first c.args.entry.now c.is_other_source.result c.is_other_source.ensures
      c.if-is_other_source.false,
  many c.as_slice.ensures c.if-as_slice-gt8.true,
)
  where
    many : {xs ys : List Dep} → xs ≡ ys → 8 < length xs → 8 < length ys
    many same more = subst (λ (zs : List Dep). 8 < length zs) same more

pub returns : goal.returns
returns c = λ gone are. record {
  depends = well gone c.args.self.now are c.args.first c.args.entry.now c.depends_badly.result c.depends_badly.ensures
      c.if-depends_badly.false;
  free = free gone c.args.self.now are c.args.first c.args.entry.now c.is_taken.result c.is_taken.ensures
      c.if-is_taken.false;
  source = source gone c.args.self.now are c.args.first c.args.entry.now c.is_other_source.result
      c.is_other_source.ensures c.if-is_other_source.false;
  few = few c.as_slice.ensures c.if-as_slice-gt8.false;
}
  where
    few : {xs ys : List Dep} → xs ≡ ys → length xs ≤ 8 → length ys ≤ 8
    few same less = subst (λ (zs : List Dep). length zs ≤ 8) same less
