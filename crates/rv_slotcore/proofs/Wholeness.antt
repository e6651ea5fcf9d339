-- A core stays whole under every step.
use Rattle.rv_slotcore.proofs.Common.{Result, Ok, Err, IfOk, OnErr, ◌≡◌, ◌≤◌, ℕ, sym, subst, seats_at_most, moves}
use Rattle.rv_slotcore.proofs.Common.{start, core_of, act_of, Went, IsWhole, Parts, Answer, NoMemory}
use Rattle.rv_slotcore.specs.declared.step.Act.{Act}
use Rattle.rv_slotcore.proofs.Held.{AllNamed, moves_keep_named, moves_keep_count}
use Rattle.rv_slotcore.specs.Machine as machine

whole_by : (h : Parts) (c : machine.Core) → core_of h ≡ c → c.seat_count ≤ seats_at_most
    → AllNamed c → IsWhole h
whole_by h c e few held = record {
  few = subst (λ (x : machine.Core). x.seat_count ≤ seats_at_most) (sym e) few;
  held = subst AllNamed (sym e) held;
}

-- the start is whole
pub start_whole : (h : Parts) (n m : ℕ) → core_of h ≡ start n m → m ≤ seats_at_most → IsWhole h
start_whole h n m e few = whole_by h (start n m) e few (λ s. tt)

-- an equal machine is whole
pub same_whole : (h g : Parts) → core_of g ≡ core_of h → IsWhole h → IsWhole g
same_whole h g e whole = whole_by g (core_of h) e whole.few whole.held

-- a step leaves it whole
pub step_keeps_whole : (h g : Parts) (s : ℕ) (a : Act) (r : Result Answer NoMemory) → IsWhole h
    → IfOk r (λ x. Went g x (moves (core_of h) s (act_of a))) → OnErr r (core_of g ≡ core_of h)
    → IsWhole g
step_keeps_whole h g s a (Ok x) whole ok err = search (moves_keep_count, whole_by, moves_keep_named)
step_keeps_whole h g s a (Err x) whole ok err = same_whole h g err whole
