use Rattle.std.proofs.Common.{◌++◌, ◌∷◌, [], ap, sym, subst, List, Some, ℕ}
use Rattle.std.specs.HashMap.{get}
use Rattle.rv_log.specs.declared.record.Performed.{Performed}
use Rattle.rv_memory.specs.Stores.{same_issuer as same_key, AreStores}
use Rattle.rv_values.proofs.Search.{found-first, found-more, found-still, versions-more}
use Rattle.rv_values.specs.Index.{AreVersions, IsFound, IsJust}
use Rattle.rv_values.specs.Issues.{AreSingle}
use Rattle.rv_values.specs.Values.{IsWritten}
use Rattle.rv_values.specs.declared.index.Written.{Written}
use Rattle.rv_values.specs.declared.issues.Issued.{Issued}
use Rattle.rv_values.proofs.index.add.Goals.{in-Some-get, in-None, In_ok-insert}
use Rattle.rv_values.proofs.index.add.Goals as goal

pub returns-in_default : goal.returns-in_default
returns-in_default c = λ before performed are single versions address value.
    found-still before c.args.issued.now performed single (c.in_default.ensures performed are) address value
    (get same_key c.args.versions.now (address, value)) (versions address value)

-- the version has the value that was written
abbrev Has : List Issued → List Performed → Written → ℕ → Type 0
Has issued performed w v = IsWritten issued performed w.address v w.value

-- the versions of the word with the value, with this one
found : (c : In_ok-insert) (before : List Issued) (performed : List Performed) → AreStores performed c.args.stores.now →
    AreSingle (before ++ c.args.issued.now ∷ []) → AreVersions before performed (get same_key c.args.versions.now) →
    IsFound (λ v. IsWritten (before ++ c.args.issued.now ∷ []) performed c.in-Some.written.address v
    c.in-Some.written.value) (Some c.match-get.found)
found c before performed are single versions = elim c.match-get.branch [
  | in-Some-get w ↦ subst (IsFound (Has (before ++ c.args.issued.now ∷ []) performed c.in-Some.written))
      (sym (ap Some w.found-is))
      (found-more before c.args.issued.now performed single c.in-Some.written just w.in-Some-get.field-0.now
      (subst (IsFound (Has before performed c.in-Some.written)) (sym w.in-Some-get.ensures.value) was))
  | in-None w ↦ subst (IsFound (Has (before ++ c.args.issued.now ∷ []) performed c.in-Some.written))
      (sym (ap Some w.found-is))
      (found-first before c.args.issued.now performed single c.in-Some.written just
      (subst (IsFound (Has before performed c.in-Some.written)) (sym w.in-None.ensures.value) was))
]
  where
    just : IsJust performed c.args.issued.now c.in-Some.written
    just = c.in-Some.ensures performed are

    was : IsFound (Has before performed c.in-Some.written)
        (get same_key c.args.versions.now (c.in-Some.written.address, c.in-Some.written.value))
    was = versions c.in-Some.written.address c.in-Some.written.value

pub returns : goal.returns
returns c = λ before performed are single versions.
    versions-more before c.args.issued.now performed single c.in-Some.written (c.in-Some.ensures performed are)
    (get same_key c.args.versions.now) (get same_key c.insert.new.self) versions c.match-get.found
    c.in_ok-insert.ensures.updates.1 (found c before performed are single versions)
    c.in_ok-insert.ensures.updates.2
