-- The versions of a row, as the times and the values of a log's records tell them.
use Rattle.std.specs.Prelude.{ℕ, ◌≡◌, ◌≢◌, ◌⊎◌, [], List, Bool, true, false, Option, Some, None, ⊤, option_map}
use Rattle.rv_log.specs.declared.access.Access.{Access}
use Rattle.rv_log.specs.declared.access.AccessKind.{AccessKind}
use Rattle.rv_log.specs.declared.access.AccessKind.TheVariants as access
use Rattle.rv_log.specs.declared.record.Performed.{Performed}
use Rattle.rv_log.specs.declared.record.Retired.{Retired}
use Rattle.rv_values.specs.Index.{IsIndex}
use Rattle.rv_values.specs.Memory.{low}
use Rattle.rv_values.specs.Values.{Fits, Holds, IsOpen, IsOther}
use Rattle.rv_values.specs.declared.issues.Issued.{Issued}
use Rattle.rv_commits.specs.Awaited.{AreVersions, IsWaiting, awaited_by}
use Rattle.rv_commits.specs.declared.awaited.Awaited.TheVariants.{Value}
use Rattle.rv_commits.specs.declared.awaited.Versions.{Versions}
use Rattle.rv_commits.specs.declared.pending.Pending.{Pending}
use Rattle.rv_commits.specs.declared.pending.Stage.{Stage}
use Rattle.rv_commits.specs.declared.pending.Stage.TheVariants.{Reading, Ended}
use Rattle.rv_commits.specs.declared.pending.ValueFault.{ValueFault}
use Rattle.rv_commits.specs.declared.pending.ValueFault.TheVariants.{Unshown, Nowhere, Several}
use Rattle.rv_commits.specs.declared.pending.Waiting.{Waiting}

-- the value that an access returned from memory: a store returns none, and an SC a success code
abbrev pub returned_from : AccessKind → ℕ → Option ℕ → Option ℕ
returned_from access.Load size rdata = option_map (low size) rdata
returned_from access.LoadReserved size rdata = option_map (low size) rdata
returned_from access.Amo size rdata = option_map (low size) rdata
returned_from _ size rdata = None

abbrev pub returned_of : Option Access → Option ℕ → Option ℕ
returned_of (Some a) rdata = returned_from a.kind a.size rdata
returned_of None rdata = None

abbrev pub returned_by : Retired → Option ℕ
returned_by r = returned_of r.access r.rdata

-- what the rows of an instruction wait for
abbrev pub waiting_by : Retired → Option ℕ → ℕ → Waiting
waiting_by r own log_row = record {
  awaited = awaited_by r own;
  address = r.address;
  returned = returned_by r;
  log_row = log_row;
}

abbrev pub is_ended : Stage → Bool
is_ended Reading = false
is_ended (Ended index) = true

-- what comes after these records: at the end of the log nothing
abbrev pub IsAtStage : (issued more : List Issued) (performed later : List Performed) → Stage → Type 0
IsAtStage issued more performed later Reading = ⊤
IsAtStage issued more performed later (Ended index) =
    IsIndex issued performed index × (more ≡ []) × (later ≡ [])

-- the versions are those of the times, and the value that was returned fits them
pub record AreByTime (issued : List Issued) (performed : List Performed) (initial : Option ℕ) (p : Pending)
    (v : Versions) : Type 0 where
  pub are : AreVersions performed p.row.id.hart p.waiting.awaited v
  pub fits : Fits issued performed p.waiting.address v.read initial p.waiting.returned

-- the times give versions that it doesn't fit
pub record IsUnfit (issued : List Issued) (performed : List Performed) (initial : Option ℕ) (p : Pending)
    (v : Versions) : Type 0 where
  pub are : AreVersions performed p.row.id.hart p.waiting.awaited v
  pub other : IsOther issued performed p.waiting.address v.read initial p.waiting.returned

-- the times don't tell what was returned: none is shown, or the value doesn't fit; this is what was written
abbrev pub IsUntimed : List Issued → List Performed → Option ℕ → Pending → ℕ → Type 0
IsUntimed issued performed initial p wrote =
    ((p.waiting.awaited ≡ Value) × (wrote ≡ 0)) ⊎
    ((v : Versions) × IsUnfit issued performed initial p v × (wrote ≡ v.wrote))

-- the version alone holds the value; or it is version 0, no version is known to hold it, and nothing tells what
-- memory holds at first
abbrev pub IsOnly : List Issued → List Performed → (address : ℕ) → (initial : Option ℕ) → (value version : ℕ) → Type 0
IsOnly issued performed address initial value version =
    (Holds issued performed address version initial value ×
    ((u : ℕ) → Holds issued performed address u initial value → u ≡ version)) ⊎
    ((version ≡ 0) × (initial ≡ None) × ((u : ℕ) → Holds issued performed address u initial value → ⊥))

-- the version whose value was returned
pub record IsFoundByValue (issued : List Issued) (performed : List Performed) (w : Waiting) (initial : Option ℕ)
    (version : ℕ) : Type 0 where
  pub value : ℕ
  pub shown : w.returned ≡ Some value
  pub only : IsOnly issued performed w.address initial value version

-- the versions are those of the value that was returned, as the times don't tell them
pub record AreByValue (issued : List Issued) (performed : List Performed) (initial : Option ℕ) (p : Pending)
    (v : Versions) : Type 0 where
  pub untimed : IsUntimed issued performed initial p v.wrote
  pub found : IsFoundByValue issued performed p.waiting initial v.read

abbrev pub AreRowVersions : List Issued → List Performed → Option ℕ → Pending → Versions → Type 0
AreRowVersions issued performed initial p v =
    AreByTime issued performed initial p v ⊎ AreByValue issued performed initial p v

-- they are open: a store has not taken effect, a record of the version's store has not come, or the log has not ended
-- and the times don't tell them
abbrev pub IsOpenRow : List Issued → List Performed → Option ℕ → Bool → Pending → Type 0
IsOpenRow issued performed initial ended p =
    (IsWaiting performed p.row.id.hart p.waiting.awaited ended × (p.waiting.awaited ≢ Value)) ⊎
    ((v : Versions) × AreVersions performed p.row.id.hart p.waiting.awaited v ×
    IsOpen issued performed p.waiting.address v.read) ⊎
    ((ended ≡ false) × ((wrote : ℕ) × IsUntimed issued performed initial p wrote))

-- why the value that was returned tells no version
abbrev pub IsValueRefused : List Issued → List Performed → Waiting → Option ℕ → ValueFault → Type 0
IsValueRefused issued performed w initial Unshown = w.returned ≡ None
IsValueRefused issued performed w initial Nowhere =
    (value : ℕ) × (w.returned ≡ Some value) × (initial ≢ None) ×
    ((u : ℕ) → Holds issued performed w.address u initial value → ⊥)
IsValueRefused issued performed w initial Several =
    (value : ℕ) × (w.returned ≡ Some value) × ((u : ℕ) × (v : ℕ) × (u ≢ v) ×
    Holds issued performed w.address u initial value × Holds issued performed w.address v initial value)

-- the row has its versions now, and is the same else
pub record IsSettled (issued : List Issued) (performed : List Performed) (initial : Option ℕ) (old new : Pending) :
    Type 0 where
  pub versions : Versions
  pub are : AreRowVersions issued performed initial old versions
  pub row : new.row ≡ record old.row { read = versions.read; wrote = versions.wrote }
