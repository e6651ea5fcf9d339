-- What links into a new event say of its row.
use Rattle.std.specs.Prelude.{ℕ, ◌≡◌, ◌<◌, List, Contains, length}
use Rattle.rv_event.specs.declared.reason.Link.{Link}
use Rattle.rv_event.specs.declared.reason.Reason.TheVariants.{Preserved}
use Rattle.rv_rows.specs.Bits.{Has}
use Rattle.rv_rows.specs.Closure.{RowHas}

-- a link by a rule names an event whose row has s
pub record IsLinked (rows : List (List ℕ)) (links : List Link) (s : ℕ) : Type 0 where
  pub l : Link
  pub rule : ℕ
  pub is_listed : Contains links l
  pub reason : l.reason ≡ Preserved rule
  pub has : RowHas rows l.id.seq s

-- each link that names a rule names an event that has a row
abbrev pub HaveRows : List (List ℕ) → List Link → Type 0
HaveRows rows links = (l : Link) (k : ℕ) → Contains links l → l.reason ≡ Preserved k → l.id.seq < length rows

-- the row has the event of the link, where that is of the hart with this number
abbrev pub HasOwn : List ℕ → ℕ → Link → Type 0
HasOwn row number l = l.id.hart ≡ number → (l.id.seq < 4096) × Has row l.id.seq
