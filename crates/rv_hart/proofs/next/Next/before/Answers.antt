use Rattle.rv_hart.proofs.Common.{◌≡◌, List, ℕ, Some, None, length, sym, ◌∙◌, subst, arith, common_steps, rules, Event}
use Rattle.rv_hart.proofs.Common.{IsTaken, Hart, hart_at}
use Rattle.rv_hart.proofs.HartFacts.{fits_of}
use Rattle.rv_hart.proofs.Listings.{Sweeping, IsListing, rows-few, listing-begun, listing-candidate, listing-more}
use Rattle.rv_hart.proofs.Listings.{listing-apart, listing-done}
use Rattle.rv_hart.proofs.next.Next.before.Goals as goal

pub returns-then-not-is_memory : goal.returns-then-not-is_memory
returns-then-not-is_memory c = grind (arith, common_steps)

pub taken-init : goal.taken-init
taken-init c =
    let h : Hart = hart_at c.args.self.now in
    let e : Event = c.args.self.now.event.now in
    let rows : List (List ℕ) = c.args.self.now.kept.now.rows in
    let first : List ℕ = c.fill_candidates.new.row in
    let g : Sweeping h e rows first =
    search (fits_of, c.is_memory.ensures.0 c.if-not-is_memory.false, rules) in
    let top : length rows ≡ c.len-top.result = sym c.len-top.ensures in
    subst (λ (n : ℕ). IsListing h e rows first first n c.reserve.new.self.items) top
    (listing-begun g c.reserve.new.self.items (c.in_ok-reserve.ensures.items ∙ c.clear.ensures.items))

pub take_highest-requires-clause-few : goal.take_highest-requires-clause-few
take_highest-requires-clause-few c =
    let h : Hart = hart_at c.args.self.now in
    let e : Event = c.args.self.now.event.now in
    let rows : List (List ℕ) = c.args.self.now.kept.now.rows in
    let first : List ℕ = c.fill_candidates.new.row in
    let g : Sweeping h e rows first =
    search (fits_of, c.is_memory.ensures.0 c.if-not-is_memory.false, rules) in
    rows-few g

pub take_highest-requires-clause-limit : goal.take_highest-requires-clause-limit
take_highest-requires-clause-limit c = c.taken.invariant.within

pub take_highest-requires-clause-below : goal.take_highest-requires-clause-below
take_highest-requires-clause-below c = c.taken.invariant.swept.low

pub lowest_rule-rule-requires-clause-candidate : goal.lowest_rule-rule-requires-clause-candidate
lowest_rule-rule-requires-clause-candidate c =
    let h : Hart = hart_at c.args.self.now in
    let e : Event = c.args.self.now.event.now in
    let rows : List (List ℕ) = c.args.self.now.kept.now.rows in
    let first : List ℕ = c.fill_candidates.new.row in
    let g : Sweeping h e rows first =
    search (fits_of, c.is_memory.ensures.0 c.if-not-is_memory.false, rules) in
    let is : IsTaken rows c.taken.left (Some c.in-Some.number) c.take_highest.new.candidates =
    rw c.in-Some.is at c.take_highest.ensures in
    listing-candidate g c.taken.left c.take_highest.new.candidates c.taken.top c.in-Some.number
    c.taken.links.items c.taken.invariant is

pub lowest_rule-rule-requires-clause-apart : goal.lowest_rule-rule-requires-clause-apart
lowest_rule-rule-requires-clause-apart c =
    let h : Hart = hart_at c.args.self.now in
    let e : Event = c.args.self.now.event.now in
    let rows : List (List ℕ) = c.args.self.now.kept.now.rows in
    let first : List ℕ = c.fill_candidates.new.row in
    let g : Sweeping h e rows first =
    search (fits_of, c.is_memory.ensures.0 c.if-not-is_memory.false, rules) in
    let is : IsTaken rows c.taken.left (Some c.in-Some.number) c.take_highest.new.candidates =
    rw c.in-Some.is at c.take_highest.ensures in
    listing-apart g c.taken.left c.take_highest.new.candidates c.taken.top c.in-Some.number
    c.taken.links.items c.fill_different_reads.new.row c.taken.invariant is c.fill_different_reads.ensures

pub taken-preserved : goal.taken-preserved
taken-preserved c =
    let h : Hart = hart_at c.args.self.now in
    let e : Event = c.args.self.now.event.now in
    let rows : List (List ℕ) = c.args.self.now.kept.now.rows in
    let first : List ℕ = c.fill_candidates.new.row in
    let g : Sweeping h e rows first = search (fits_of, rules) in
    let is : IsTaken rows c.taken.left (Some c.in-Some.number) c.take_highest.new.candidates =
    rw c.in-Some.is at c.take_highest.ensures in
    listing-more g c.taken.left c.take_highest.new.candidates c.taken.top c.in-Some.number
    c.lowest_rule-rule.result c.taken.links.items c.push.new.self.items c.taken.invariant is
    c.lowest_rule-rule.ensures c.in_ok-push.ensures.items

pub returns : goal.returns
returns c =
    let h : Hart = hart_at c.args.self.now in
    let e : Event = c.args.self.now.event.now in
    let rows : List (List ℕ) = c.args.self.now.kept.now.rows in
    let first : List ℕ = c.fill_candidates.new.row in
    let g : Sweeping h e rows first =
    search (fits_of, c.is_memory.ensures.0 c.if-not-is_memory.false, rules) in
    let is : IsTaken rows c.taken.left None c.take_highest.new.candidates =
    rw c.in_default.is at c.take_highest.ensures in
    listing-done g c.taken.left c.take_highest.new.candidates c.taken.top c.taken.links.items
    c.taken.invariant is
