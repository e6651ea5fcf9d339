-- What the types of seats keep.
use Rattle.rv_slotcore.specs.Places.{seats_at_most}
use Rattle.std.specs.Prelude.{◌≡◌, ◌<◌, ℕ, [], ◌∷◌, slice_index_or, drop, length}
use Rattle.atomic_table.specs.Table.{Me}
use Rattle.rv_slots.specs.declared.views.View.{View}
use Rattle.rv_slots.specs.declared.views.SeatView.{SeatView}
use Rattle.rv_slots.specs.declared.views.Record.{Record}
use Rattle.rv_slots.specs.declared.views.SeatState.{SeatState}
use Rattle.rv_slots.specs.declared.views.SeatState.TheVariants.{Idle, Filling, Pinned, Stray}
use Rattle.rv_slots.specs.Lines.{the_view, put_in, blank_record}

-- the seat's view is of it alone
pub record IsAlone (number : ℕ) (m : Me (Unit {0}) View) : Type 0 where
  pub small : number < seats_at_most
  pub one : m ≡ (record { seats = the_view m.0 ∷ [] }, [])
  pub named : (the_view m.0).number ≡ number

pub record IsIdle (number : ℕ) (m : Me (Unit {0}) View) : Type 0 where
  pub alone : IsAlone number m
  pub state : (the_view m.0).state ≡ Idle

pub record IsFilling (number slot : ℕ) (m : Me (Unit {0}) View) : Type 0 where
  pub alone : IsAlone number m
  pub state : (the_view m.0).state ≡ Filling slot (put_in (the_view m.0).state)
  pub long : length (put_in (the_view m.0).state) ≡ 58

-- the generation pinned
abbrev pub pinned_at : SeatState → ℕ
pinned_at Idle = 0
pinned_at (Filling i p) = 0
pinned_at (Pinned i g) = g
pinned_at (Stray i) = 0

-- the pin's record: the first
abbrev pub pin_record : SeatView → Record
pin_record p = slice_index_or p.records 0 blank_record

pub record IsPinned (number slot : ℕ) (m : Me (Unit {0}) View) : Type 0 where
  pub alone : IsAlone number m
  pub state : (the_view m.0).state ≡ Pinned slot (pinned_at (the_view m.0).state)
  pub records : (the_view m.0).records ≡ pin_record (the_view m.0) ∷ drop 1 (the_view m.0).records
  pub slot_of : (pin_record (the_view m.0)).slot ≡ slot
  pub long : length (pin_record (the_view m.0)).words ≡ 58
  pub generation_of : (pin_record (the_view m.0)).generation ≡ pinned_at (the_view m.0).state

pub record IsStray (number slot : ℕ) (m : Me (Unit {0}) View) : Type 0 where
  pub alone : IsAlone number m
  pub state : (the_view m.0).state ≡ Stray slot
