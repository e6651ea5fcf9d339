-- What the faults of an event ask of the log that it is to follow.
use Rattle.std.specs.Prelude.{ℕ, Bool, not, ◌&&◌, ◌||◌, ◌==◌, ◌≡◌, nat_lt, nat_le, List, [], ◌∷◌, Option}
use Rattle.std.specs.Prelude.{None, false, option_map, unwrap_or, if◌then◌else◌}
use Rattle.std.specs.List.{list_any}
use Rattle.rv_event.specs.Operations.{is_store}
use Rattle.rv_event.specs.Log.{writer}
use Rattle.rv_event.specs.Faults.{fault_if, expected, can_be_named, admits, is_bad_dependency, is_sc}
use Rattle.rv_event.specs.Faults.{is_reserved, hart_fault, zero_fault}
use Rattle.rv_event.specs.declared.context.Context.{Context}
use Rattle.rv_event.specs.declared.event.Id.{Id}
use Rattle.rv_event.specs.declared.event.Dep.{Dep}
use Rattle.rv_event.specs.declared.event.Event.{Event}
use Rattle.rv_event.specs.declared.fault.Fault.{Fault}
use Rattle.rv_event.specs.declared.fault.Fault.TheVariants.{Sequence, Dependency, VersionTaken, NoReservation, Full}

-- the context is what the log tells the event
pub record IsContext (log : List Event) (e : Event) (context : Context) : Type 0 where
  pub count : context.count ≡ expected log e
  pub depends_badly : context.depends_badly ≡ list_any (is_bad_dependency log e) e.deps
  pub writer : context.writer ≡ option_map (λ w. w.id) (writer log e.word e.wrote)
  pub reserved : context.reserved ≡ is_reserved log e.id.hart

-- whether a dependency is bad, by the event that it names, if there is one
abbrev pub is_bad_on : Event → Dep → Option Event → Bool
is_bad_on e d on =
    not (nat_lt d.seq e.id.seq) || unwrap_or (option_map (λ m. not (can_be_named m.op)) on) false ||
    not (admits e.op d.kind)

-- the seven first faults, by the context

abbrev pub sequence_in : ℕ → Event → Option Fault
sequence_in count e = fault_if (not (e.id.seq == count)) (Sequence count)

abbrev pub taken_in : Option Id → Event → Option Fault
taken_in writer e = if is_store e.op then option_map VersionTaken writer else None

abbrev pub reservation_in : Bool → Event → Option Fault
reservation_in reserved e = fault_if (is_sc e.op && not reserved) NoReservation

abbrev pub full_in : ℕ → Option Fault
full_in count = fault_if (nat_le 4096 count) Full

abbrev pub faults_in : Context → Event → List (Option Fault)
faults_in context e =
    hart_fault e
    ∷ sequence_in context.count e
    ∷ fault_if context.depends_badly Dependency
    ∷ zero_fault e
    ∷ taken_in context.writer e
    ∷ reservation_in context.reserved e
    ∷ full_in context.count
    ∷ []
