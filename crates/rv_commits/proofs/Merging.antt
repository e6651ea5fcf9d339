-- The numbers of carriers and of rows that wait, in their order.
use Rattle.std.proofs.Common.{ℕ, suc, ◌≡◌, ◌∙◌, ◌+◌, ◌≤◌, ◌<◌, ◌++◌, ◌∷◌, [], List, ap, arith, drop}
use Rattle.std.proofs.Common.{get_or, length, map}
use Rattle.std.proofs.Common.{◌≢◌, refl, subst, sym, append-nil, Option, Some, None}
use Rattle.std.proofs.lemmas.List.{drop-append-le, get_or-append_right, get_or-map, length-append}
use Rattle.std.proofs.lemmas.List.{length-drop, length-map}
use Rattle.std.proofs.Math.Seq.{drop-cons}
use Rattle.rv_event.specs.declared.event.Event.{Event}
use Rattle.rv_event.specs.declared.event.Op.{Op}
use Rattle.rv_event.specs.declared.event.Op.TheVariants as op
use Rattle.rv_flow.specs.Carriers.{AreNextRows}
use Rattle.rv_flow.specs.Traces.{IsTraceOf, Traced}
use Rattle.rv_flow.specs.declared.carrier.Carrier.{Carrier}
use Rattle.rv_flow.specs.declared.step.Step.{Step}
use Rattle.rv_insn.specs.declared.insn.Insn.{Insn}
use Rattle.rv_commits.specs.Harts.{AreOfBranch, IsAccessRow, IsAddedAs, IsAddedBy, IsFenceRow}
use Rattle.rv_commits.specs.Queues.{HasNumbers, IsCarrierNext, IsNextCarrier, Merged, carrier, none, row}
use Rattle.rv_commits.specs.Queues.{pending, pendings}
use Rattle.rv_commits.specs.declared.hart.NewRows.{NewRows}
use Rattle.rv_commits.specs.declared.hart.NewRows.TheVariants.{One}
use Rattle.rv_commits.specs.declared.made.Made.{Made}
use Rattle.rv_commits.specs.declared.pending.Pending.{Pending}
use Rattle.rv_commits.specs.declared.pending.Waiting.{Waiting}
use Rattle.rv_commits.specs.declared.queue.WaitingHart.{WaitingHart}

nil-cons : {X : Type 0} (x : X) (xs : List X) → [] ≡ x ∷ xs → ⊥
nil-cons x xs is = let long = ap (λ (l : List _). length l) is in omega (long, arith)

-- the number of the first carrier
abbrev first-number : ℕ → List Carrier → ℕ
first-number n [] = n
first-number n (c ∷ cs) = c.number

module _ {hart : ℕ} where
  -- numbers behind others
  pub merged-append : {n m end : ℕ} {cs ds : List Carrier} {ps qs : List Pending} → Merged hart n m cs ps →
      Merged hart m end ds qs → Merged hart n end (cs ++ ds) (ps ++ qs)
  merged-append none later = later
  merged-append (carrier at rest) later = carrier at (merged-append rest later)
  merged-append (row at rest) later = row at (merged-append rest later)

  -- carriers with the next numbers
  pub merged-carriers : (cs : List Carrier) (n : ℕ) →
      ((i : ℕ) (c : Carrier) → i < length cs → (get_or cs i c).number ≡ n + i) → Merged hart n (n + length cs) cs []
  merged-carriers [] n are = subst (λ (end : ℕ). Merged hart n end [] []) (omega arith) none
  merged-carriers (c ∷ cs) n are = carrier (are 0 c (omega arith) ∙ omega arith)
      (subst (λ (end : ℕ). Merged hart (n + 1) end cs []) (omega arith)
      (merged-carriers cs (n + 1) (λ i d low. are (suc i) d (omega (low, arith)) ∙ omega arith)))

  -- rows with the next numbers
  pub merged-rows : (ps : List Pending) (n : ℕ) →
      ((i : ℕ) (p : Pending) → i < length ps → (get_or ps i p).row.id ≡ record { hart = hart; seq = n + i }) →
      Merged hart n (n + length ps) [] ps
  merged-rows [] n are = subst (λ (end : ℕ). Merged hart n end [] []) (omega arith) none
  merged-rows (p ∷ ps) n are = row
      (are 0 p (omega arith) ∙ ap (λ (k : ℕ). record { hart = hart; seq = k }) (omega arith))
      (subst (λ (end : ℕ). Merged hart (n + 1) end [] ps) (omega arith)
      (merged-rows ps (n + 1) (λ i d low. are (suc i) d (omega (low, arith)) ∙
      ap (λ (k : ℕ). record { hart = hart; seq = k }) (omega arith))))

  -- new carriers have the next numbers
  new-carriers : (old more : List Carrier) (first next : ℕ) → AreNextRows old first (old ++ more) next →
      Merged hart first next more []
  new-carriers old more first next are =
      let long = length-append old more in
      subst (λ (end : ℕ). Merged hart first end more []) (let count = are.count in omega (count, long, arith))
      (merged-carriers more first (λ j c low.
      let each = are.each (length old + j) c (omega arith) (omega (low, long, arith)) in
      let there : (get_or (old ++ more) (length old + j) c).number ≡ (get_or more j c).number =
      ap (λ (x : Carrier). x.number) (get_or-append_right old more (length old) (length old + j) c refl (omega arith)) ∙
      ap (λ (i : ℕ). (get_or more i c).number) (omega arith) in
      omega (each, there, arith)))

-- what an instruction adds has the next numbers
pub record AddsNumbers (hart : ℕ) (old new : Traced) (ps : List Pending) : Type 0 where
  pub more : List Carrier
  pub kept : new.carriers ≡ old.carriers ++ more
  pub merged : Merged hart old.rows new.rows more ps
  pub traced : (steps : List Step) → IsTraceOf steps old → (longer : List Step) × IsTraceOf longer new

module _ (hart : ℕ) (insn : Insn) (made : Made) (word_number : ℕ) (old new : Traced) (a : Waiting) where
  -- a row with its carriers
  access-numbers : (r : Event) → IsAccessRow hart insn made word_number old new r →
      AddsNumbers hart old new (pending a r ∷ [])
  access-numbers r is = record {
    more = is.grown.more;
    kept = is.taken.carriers ∙ is.grown.kept;
    merged = subst (λ (end : ℕ). Merged hart old.rows end is.grown.more (pending a r ∷ [])) (sym is.taken.rows)
        (subst (λ (cs : List Carrier). Merged hart old.rows (is.listed.rows + 1) cs (pending a r ∷ []))
        (append-nil is.grown.more)
        (merged-append (new-carriers old.carriers is.grown.more old.rows is.listed.rows
        (subst (λ (cs : List Carrier). AreNextRows old.carriers old.rows cs is.listed.rows) is.grown.kept is.numbered))
        (row is.fields.id none)));
    traced = λ steps trace. (_, is.taken.trace steps (is.still steps trace));
  }

  -- one without
  fence-numbers : (r : Event) → IsFenceRow hart insn made old new r → AddsNumbers hart old new (pending a r ∷ [])
  fence-numbers r is = record {
    more = [];
    kept = is.taken.carriers ∙ sym (append-nil old.carriers);
    merged = subst (λ (end : ℕ). Merged hart old.rows end [] (pending a r ∷ [])) (sym is.taken.rows)
        (row is.fields.id none);
    traced = λ steps trace. (_, is.taken.trace steps trace);
  }

  -- those of a branch
  branch-numbers : (rows : List Event) → AreOfBranch hart insn old new rows →
      AddsNumbers hart old new (map (pending a) rows)
  branch-numbers rows is = record {
    more = [];
    kept = is.carriers ∙ sym (append-nil old.carriers);
    merged = subst (λ (end : ℕ). Merged hart old.rows end [] (map (pending a) rows))
        (ap (λ (n : ℕ). old.rows + n) (length-map rows (pending a)) ∙ sym is.count)
        (merged-rows (map (pending a) rows) old.rows (λ i p low.
        let inside = subst (λ (n : ℕ). i < n) (length-map rows (pending a)) low in
        ap (λ (x : Pending). x.row.id) (get_or-map (pending a) rows i p.row p inside) ∙
        (is.are.each i p.row inside).fields.id));
    traced = λ steps trace. (_, is.trace steps trace);
  }

  abbrev Adds : NewRows → Type 0
  Adds rows = AddsNumbers hart old new (pendings rows a)

  one : (rows : NewRows) → (r : Event) × (rows ≡ One r) × IsAccessRow hart insn made word_number old new r → Adds rows
  one rows is = subst Adds (sym is.1) (access-numbers is.0 is.2)

  fence : (rows : NewRows) → (r : Event) × (rows ≡ One r) × IsFenceRow hart insn made old new r → Adds rows
  fence rows is = subst Adds (sym is.1) (fence-numbers is.0 is.2)

  -- by the operation
  by-operation : (o : Op) (rows : NewRows) → IsAddedAs o hart insn made word_number old new rows → Adds rows
  by-operation op.Branch rows is = subst Adds (sym is.1) (branch-numbers is.0.items is.2)
  by-operation (op.Fence pred succ) rows is = fence rows is
  by-operation op.FenceTso rows is = fence rows is
  by-operation op.Load rows is = one rows is
  by-operation op.Store rows is = one rows is
  by-operation op.Lr rows is = one rows is
  by-operation op.Sc rows is = one rows is
  by-operation op.ScFailed rows is = one rows is
  by-operation op.Amo rows is = one rows is
  by-operation op.Carrier rows is = one rows is

-- of any instruction
pub added-numbers : (hart : ℕ) (insn : Insn) (word_number : ℕ) (old new : Traced) (a : Waiting) (o : Option Made)
    (rows : NewRows) → IsAddedBy o hart insn word_number old new rows → AddsNumbers hart old new (pendings rows a)
added-numbers hart insn word_number old new a (Some m) rows is =
    by-operation hart insn m word_number old new a m.op rows is
added-numbers hart insn word_number old new a None rows is =
    subst (λ (r : NewRows). AddsNumbers hart old new (pendings r a)) (sym is.0) (record {
      more = [];
      kept = is.1.carriers ∙ sym (append-nil old.carriers);
      merged = subst (λ (end : ℕ). Merged hart old.rows end [] []) (sym is.1.rows) none;
      traced = λ steps trace. (_, is.1.trace steps trace);
    })

-- with them the hart's rows that were not given are numbered as before
pub numbers-more : (hart given given-carriers : ℕ) (old new : Traced) (queue ps : List Pending) →
    given-carriers ≤ length old.carriers → Merged hart given old.rows (drop given-carriers old.carriers) queue →
    AddsNumbers hart old new ps →
    (given-carriers ≤ length new.carriers) ×
    Merged hart given new.rows (drop given-carriers new.carriers) (queue ++ ps)
numbers-more hart given given-carriers old new queue ps few merged adds = (
  (
      let long = ap (λ (cs : List Carrier). length cs) adds.kept in
      let more = length-append old.carriers adds.more in
      omega (few, long, more, arith)
      ),
  subst (λ (cs : List Carrier). Merged hart given new.rows cs (queue ++ ps))
      (sym (ap (drop given-carriers) adds.kept ∙ drop-append-le given-carriers old.carriers adds.more few))
      (merged-append merged adds.merged),
)

module _ {hart : ℕ} where
  -- numbers go up to the end
  merged-end : {n end : ℕ} {cs : List Carrier} {ps : List Pending} → Merged hart n end cs ps → n ≤ end
  merged-end none = omega arith
  merged-end (carrier at rest) = let later = merged-end rest in omega (later, arith)
  merged-end (row at rest) = let later = merged-end rest in omega (later, arith)

  -- carriers are from the first number on
  merged-from : {n end : ℕ} {cs : List Carrier} {ps : List Pending} → Merged hart n end cs ps → (c : Carrier)
      (rest : List Carrier) → cs ≡ c ∷ rest → n ≤ c.number
  merged-from none c rest is = absurd (nil-cons c rest is)
  merged-from (carrier at later) c rest is = let same = ap (first-number 0) is in omega (at, same, arith)
  merged-from (row at later) c rest is = let low = merged-from later c rest is in omega (low, arith)

  -- behind the carrier that is next
  pub behind-carrier : {n end : ℕ} {cs : List Carrier} {ps : List Pending} → Merged hart n end cs ps → (c : Carrier)
      (rest : List Carrier) → cs ≡ c ∷ rest → c.number ≡ n → (n < end) × Merged hart (n + 1) end rest ps
  behind-carrier none c rest is number = absurd (nil-cons c rest is)
  behind-carrier {n = n} {end = end} {ps = ps} (carrier at later) c rest is number = (
    (let upto = merged-end later in omega (upto, arith)),
    subst (λ (cs : List Carrier). Merged hart (n + 1) end cs ps) (ap (drop 1) is) later,
  )
  behind-carrier (row at later) c rest is number =
      let low = merged-from later c rest is in absurd (omega (low, number, arith))

  -- and behind the row that waits first, where no carrier is
  pub behind-row : {n end : ℕ} {cs : List Carrier} {ps : List Pending} → Merged hart n end cs ps → (p : Pending)
      (rest : List Pending) → ps ≡ p ∷ rest → ((c : Carrier) (later : List Carrier) → cs ≡ c ∷ later → c.number ≢ n) →
      (n < end) × (p.row.id ≡ record { hart = hart; seq = n }) × Merged hart (n + 1) end cs rest
  behind-row none p rest is apart = absurd (nil-cons p rest is)
  behind-row (carrier {c = c} {carriers = later} at _) p rest is apart = absurd (apart c later refl at)
  behind-row {n = n} {end = end} {cs = cs} (row {p = own} at later) p rest is apart = (
    (let upto = merged-end later in omega (upto, arith)),
    ap (λ (ps : List Pending). (get_or ps 0 own).row.id) (sym is) ∙ at,
    subst (λ (ps : List Pending). Merged hart (n + 1) end cs ps) (ap (drop 1) is) later,
  )

-- a carrier, and those behind it
pub next-behind : (cs : List Carrier) (k : ℕ) (c : Carrier) → k < length cs → c ≡ get_or cs k c →
    drop k cs ≡ c ∷ drop (k + 1) cs
next-behind cs k c low at =
    let one : suc k ≡ k + 1 = omega arith in
    drop-cons cs k c low ∙ ap (λ (x : Carrier). x ∷ drop (suc k) cs) (sym at) ∙ ap (λ (n : ℕ). c ∷ drop n cs) one

module _ (h : WaitingHart) (numbers : HasNumbers h) where
  few-rows : h.rows.trace.rows ≤ 4096
  few-rows = numbers.trace.carriers.few

  -- there is room for a row more, and the carrier is followed by the hart's next number
  pub carrier-room : (event : Event) → IsCarrierNext h event → h.given < 4096
  carrier-room event next =
      let behind = behind-carrier numbers.merged next.carrier _ next.is next.number in
      let below = behind.0 in
      let few = few-rows in
      omega (below, few, arith)

  pub carrier-given : (event : Event) → IsCarrierNext h event →
      HasNumbers (record h { given = h.given + 1; carriers = h.carriers + 1 })
  carrier-given event next =
      let behind = behind-carrier numbers.merged next.carrier _ next.is next.number in record {
        steps = numbers.steps;
        trace = numbers.trace;
        few = (
            let long = length-drop h.carriers h.rows.trace.carriers in
            let one = ap (λ (cs : List Carrier). length cs) next.is in
            let before = numbers.few in
            omega (long, one, before, arith));
        merged = behind.1;
      }

  -- so is the row that waited first
  module _ (first : Pending) (rest : List Pending) (queue : h.queue.items ≡ first ∷ rest)
      (apart : IsNextCarrier h None) where
    row-behind : (h.given < h.rows.trace.rows) × (first.row.id ≡ record { hart = h.rows.hart; seq = h.given }) ×
        Merged h.rows.hart (h.given + 1) h.rows.trace.rows (drop h.carriers h.rows.trace.carriers) rest
    row-behind = behind-row numbers.merged first rest queue apart

    pub row-room : h.given < 4096
    row-room = let below = row-behind.0 in let few = few-rows in omega (below, few, arith)

    pub row-id : first.row.id ≡ record { hart = h.rows.hart; seq = h.given }
    row-id = row-behind.1

    pub row-merged :
        Merged h.rows.hart (h.given + 1) h.rows.trace.rows (drop h.carriers h.rows.trace.carriers) rest
    row-merged = row-behind.2
