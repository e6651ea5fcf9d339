-- The accesses to memory that operations make: manual, 2.6 (loads and stores), 5.3 (of 64 bits), 8.2
-- (LR and SC), 8.4 (AMOs), 11.5 and 12.3 (of floating point numbers).
use Rattle.std.specs.Prelude.{ℕ, Bool, true, false, Option, Some, None}
use Rattle.rv_insn.specs.declared.operation.Operation.{Operation}
use Rattle.rv_insn.specs.declared.operation.Operation.TheVariants as op
use Rattle.rv_log.specs.declared.access.Access.{Access}
use Rattle.rv_log.specs.declared.access.AccessKind.{AccessKind}
use Rattle.rv_log.specs.declared.access.AccessKind.TheVariants.{Load, Store, LoadReserved, StoreConditional, Amo}

-- an access of so many bytes
abbrev pub of_size : AccessKind → ℕ → Option Access
of_size kind size = Some (record { kind = kind; size = size })

abbrev pub access : Operation → Option Access
access op.Lb = of_size Load 1
access op.Lbu = of_size Load 1
access op.Lh = of_size Load 2
access op.Lhu = of_size Load 2
access op.Lw = of_size Load 4
access op.Lwu = of_size Load 4
access op.Ld = of_size Load 8
access op.Flw = of_size Load 4
access op.Fld = of_size Load 8
access op.Sb = of_size Store 1
access op.Sh = of_size Store 2
access op.Sw = of_size Store 4
access op.Sd = of_size Store 8
access op.Fsw = of_size Store 4
access op.Fsd = of_size Store 8
access op.LrW = of_size LoadReserved 4
access op.LrD = of_size LoadReserved 8
access op.ScW = of_size StoreConditional 4
access op.ScD = of_size StoreConditional 8
access op.AmoswapW = of_size Amo 4
access op.AmoaddW = of_size Amo 4
access op.AmoxorW = of_size Amo 4
access op.AmoandW = of_size Amo 4
access op.AmoorW = of_size Amo 4
access op.AmominW = of_size Amo 4
access op.AmomaxW = of_size Amo 4
access op.AmominuW = of_size Amo 4
access op.AmomaxuW = of_size Amo 4
access op.AmoswapD = of_size Amo 8
access op.AmoaddD = of_size Amo 8
access op.AmoxorD = of_size Amo 8
access op.AmoandD = of_size Amo 8
access op.AmoorD = of_size Amo 8
access op.AmominD = of_size Amo 8
access op.AmomaxD = of_size Amo 8
access op.AmominuD = of_size Amo 8
access op.AmomaxuD = of_size Amo 8
access _ = None

-- whether its record may tell what memory, or of an SC the register, returned
abbrev pub has_rdata : AccessKind → Bool
has_rdata Store = false
has_rdata _ = true

-- whether its record may tell what memory holds after it
abbrev pub has_wdata : AccessKind → Bool
has_wdata Load = false
has_wdata LoadReserved = false
has_wdata _ = true
