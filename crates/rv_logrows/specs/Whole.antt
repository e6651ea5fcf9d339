-- The rows of all harts of a log.
use Rattle.std.specs.Prelude.{ℕ, ◌≡◌, ◌≢◌, ◌<◌, ◌++◌, ◌∷◌, [], List, Option, length, slice_index_or}
use Rattle.rv_event.specs.declared.event.Event.{Event}
use Rattle.rv_log.specs.declared.record.Performed.{Performed}
use Rattle.rv_log.specs.declared.record.Retired.{Retired}
use Rattle.rv_values.specs.declared.issues.Issued.{Issued}
use Rattle.rv_commits.specs.Owns.{AreOwns}
use Rattle.rv_commits.specs.Whole.{AreWhole}
use Rattle.rv_commits.specs.declared.queue.WaitingHart.{WaitingHart}
use Rattle.rv_logrows.specs.Harts.{AreNew, IsGivenBy, IsRetiredBy}

-- the hart retired these instructions and gave these rows: with those that wait, all that the instructions make
pub record IsWholeHart (issued : List Issued) (performed : List Performed) (done : List Retired) (given : List Event)
    (h : WaitingHart) : Type 0 where
  pub owns : AreOwns done h.owns
  pub whole : AreWhole issued performed done given h

-- so it is of each hart, by its number
abbrev pub AreWholeHarts : List Issued → List Performed → (ℕ → List Retired) → (ℕ → List Event) →
    List WaitingHart → Type 0
AreWholeHarts issued performed done given harts =
    (n : ℕ) (d : WaitingHart) → n < 16 → IsWholeHart issued performed (done n) (given n) (slice_index_or harts n d)

-- the list of this hart has one more, and the others are the same
pub record HasOneMore {X : Type 0} (hart : ℕ) (x : X) (old new : ℕ → List X) : Type 0 where
  pub more : new hart ≡ old hart ++ x ∷ []
  pub same : (n : ℕ) → n ≢ hart → new n ≡ old n

-- new harts are so; each instruction that a log takes, and each row that it gives, leaves that so
abbrev pub HartsAreWhole : Type 0
HartsAreWhole =
    (issued : List Issued) (performed : List Performed) →
    ((harts : List WaitingHart) → AreNew 16 harts → AreWholeHarts issued performed (λ n. []) (λ n. []) harts) ×
    ((done : ℕ → List Retired) (given : ℕ → List Event) (old new : List WaitingHart) → length old ≡ 16 →
    AreWholeHarts issued performed done given old →
    ((r : Retired) (word_number log_row : ℕ) (more : ℕ → List Retired) → IsRetiredBy r word_number log_row old new →
    HasOneMore r.hart r done more → AreWholeHarts issued performed more given new) ×
    ((initial : Option ℕ) (n : ℕ) (event : Event) (more : ℕ → List Event) →
    IsGivenBy issued performed initial n old new event → HasOneMore n event given more →
    AreWholeHarts issued performed done more new))
