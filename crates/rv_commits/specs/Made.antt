-- What an instruction makes in a trace: manual, 2.7 (fences), 8.2 (LR and SC), 8.4 (AMOs), 14.1 ("Memory Model
-- Primitives", "Syntactic Dependencies").
use Rattle.std.specs.Prelude.{ℕ, ◌==◌, ◌%◌, ◌&&◌, Bool, false, Option, Some, None, if◌then◌else◌, is_some}
use Rattle.rv_event.specs.declared.event.Op.{Op}
use Rattle.rv_event.specs.declared.event.Op.TheVariants as op
use Rattle.rv_event.specs.declared.event.Set.{Set}
use Rattle.rv_event.specs.declared.event.Set.TheVariants.{R, W, Rw}
use Rattle.rv_insn.specs.Roles.{is_branch}
use Rattle.rv_insn.specs.declared.insn.Insn.{Insn}
use Rattle.rv_insn.specs.declared.operation.Operation.{Operation}
use Rattle.rv_insn.specs.declared.operation.Operation.TheVariants as operation
use Rattle.rv_log.specs.declared.access.AccessKind.{AccessKind}
use Rattle.rv_log.specs.declared.access.AccessKind.TheVariants as access
use Rattle.rv_log.specs.declared.record.Retired.{Retired}
use Rattle.rv_commits.specs.declared.made.Made.{Made}

-- what a set of a FENCE has of memory: bit 0 is W, bit 1 R, and the others are those of devices
abbrev pub set_of : ℕ → Option Set
set_of bits =
    if bits % 4 == 1 then Some W
    else if bits % 4 == 2 then Some R
    else if bits % 4 == 3 then Some Rw
    else None

-- a store-conditional stored: its code is 0; where nothing shows the code, it tells what it stored
abbrev pub stored_by : Option ℕ → Option ℕ → Bool
stored_by (Some code) wdata = code == 0
stored_by None wdata = is_some wdata

abbrev pub has_stored : Retired → Bool
has_stored r = stored_by r.rdata r.wdata

-- an operation without annotations
abbrev pub plain : Op → Made
plain o = record { op = o; acquire = false; release = false }

-- an access; rl alone of an LR, and aq alone of an SC, give no stronger order than none
abbrev pub by_access : AccessKind → Retired → Made
by_access access.Load r = plain op.Load
by_access access.Store r = plain op.Store
by_access access.LoadReserved r = record {
  op = op.Lr;
  acquire = r.insn.acquire;
  release = r.insn.acquire && r.insn.release;
}
by_access access.StoreConditional r = record {
  op = if has_stored r then op.Sc else op.ScFailed;
  acquire = r.insn.acquire && r.insn.release;
  release = r.insn.release;
}
by_access access.Amo r = record { op = op.Amo; acquire = r.insn.acquire; release = r.insn.release }

-- a FENCE, where each of its sets has accesses to memory
abbrev pub both : Option Set → Option Set → Option Op
both (Some pred) (Some succ) = Some (op.Fence pred succ)
both _ _ = None

abbrev pub fence : ℕ → ℕ → Option Op
fence predecessors successors = both (set_of predecessors) (set_of successors)

abbrev pub made_plain : Option Op → Option Made
made_plain (Some o) = Some (plain o)
made_plain None = None

-- an instruction that makes no access
abbrev pub by_operation : Operation → Insn → Option Op
by_operation operation.Fence i = fence i.predecessors i.successors
by_operation operation.FenceTso i = Some op.FenceTso
by_operation o i = if is_branch o then Some op.Branch else None

unfoldable pub made : Retired → Option Made
made r = elim r.access [
  | Some a ↦ Some (by_access a.kind r)
  | None ↦ made_plain (by_operation r.insn.operation r.insn)
]
