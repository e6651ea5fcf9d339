-- Which version a load returned, by when it took its value: manual, 14.2, "Load Value Axiom". A load may return a store
-- of its own hart before that takes effect; else it returns what the word had.
use Rattle.std.specs.Prelude.{ℕ, ◌≡◌, ◌<◌, ◌≤◌, ◌⊎◌, List, Contains, Bool, false, Some}
use Rattle.rv_log.specs.declared.record.Performed.{Performed}
use Rattle.rv_memory.specs.Stores.{HasIssuer, IsEffect, IsVersionAt}
use Rattle.rv_memory.specs.declared.reads.Load.{Load}
use Rattle.rv_memory.specs.declared.stores.Effect.{Effect}

-- the own store took effect after the load took its value, which was forwarded from it
pub record IsForwarded (log : List Performed) (load : Load) (version : ℕ) : Type 0 where
  pub order : ℕ
  pub own : load.own ≡ Some order
  pub effect : Effect
  pub is_effect : IsEffect log load.hart order effect
  pub later : load.time < effect.time
  pub returned : version ≡ effect.version

-- there is no own store, or it took effect before
pub record IsFromMemory (log : List Performed) (load : Load) (version : ℕ) : Type 0 where
  pub earlier : (order : ℕ) → load.own ≡ Some order →
      (effect : Effect) × IsEffect log load.hart order effect × (effect.time ≤ load.time)
  pub returned : IsVersionAt log load.address load.time version

abbrev pub IsRead : List Performed → Load → ℕ → Type 0
IsRead log load version = IsForwarded log load version ⊎ IsFromMemory log load version

-- the version may change: the own store has not taken effect, or more stores may up to the load's time
abbrev pub IsWaiting : List Performed → Load → Bool → Type 0
IsWaiting log load ended =
    ((order : ℕ) × (load.own ≡ Some order) × ((p : Performed) → Contains log p → HasIssuer load.hart order p → ⊥)) ⊎
    ((ended ≡ false) × ((p : Performed) → Contains log p → p.time ≤ load.time))
