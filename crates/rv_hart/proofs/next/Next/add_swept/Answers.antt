use Rattle.rv_hart.proofs.Common.{◌≡◌, List, ℕ, Some, None, length, sym, subst, arith, rules, Event, IsTaken}
use Rattle.rv_hart.proofs.Common.{Hart, hart_at}
use Rattle.rv_hart.proofs.HartFacts.{fits, fits_of}
use Rattle.rv_hart.proofs.Listings.{Sweeping, IsGathering, rows-few, gathering-begun, gathering-more}
use Rattle.rv_hart.proofs.Listings.{gathering-done}
use Rattle.rv_hart.proofs.next.Next.add_swept.Goals as goal

pub taken-init : goal.taken-init
taken-init c =
    let h : Hart = hart_at c.args.self.now in
    let e : Event = c.args.self.now.event.now in
    let rows : List (List ℕ) = c.args.self.now.kept.now.rows in
    let first : List ℕ = c.fill_candidates.new.row in
    let g : Sweeping h e rows first = search (fits_of, rules) in
    let top : length rows ≡ c.len-top.result = sym c.len-top.ensures in
    subst (λ (n : ℕ). IsGathering rows first first n c.insert.new.self c.insert.new.self) top
    (gathering-begun g c.insert.new.self)

pub take_highest-requires-clause-few : goal.take_highest-requires-clause-few
take_highest-requires-clause-few c =
    let h : Hart = hart_at c.args.self.now in
    let e : Event = c.args.self.now.event.now in
    let rows : List (List ℕ) = c.args.self.now.kept.now.rows in
    let first : List ℕ = c.fill_candidates.new.row in
    let g : Sweeping h e rows first = search (fits_of, rules) in
    rows-few g

pub take_highest-requires-clause-limit : goal.take_highest-requires-clause-limit
take_highest-requires-clause-limit c = c.taken.invariant.within

pub take_highest-requires-clause-below : goal.take_highest-requires-clause-below
take_highest-requires-clause-below c = c.taken.invariant.swept.low

pub taken-preserved : goal.taken-preserved
taken-preserved c =
    let h : Hart = hart_at c.args.self.now in
    let e : Event = c.args.self.now.event.now in
    let rows : List (List ℕ) = c.args.self.now.kept.now.rows in
    let first : List ℕ = c.fill_candidates.new.row in
    let g : Sweeping h e rows first = search (fits_of, rules) in
    let is : IsTaken rows c.taken.left (Some c.in-Some.number) c.take_highest.new.candidates =
    rw c.in-Some.is at c.take_highest.ensures in
    gathering-more g c.taken.left c.take_highest.new.candidates c.taken.top c.in-Some.number
    c.insert.new.self c.taken.row c.join_into.new.row c.taken.invariant is c.join_into.ensures

pub returns : goal.returns
returns c =
    let h : Hart = hart_at c.args.self.now in
    let e : Event = c.args.self.now.event.now in
    let rows : List (List ℕ) = c.args.self.now.kept.now.rows in
    let first : List ℕ = c.fill_candidates.new.row in
    let g : Sweeping h e rows first = search (fits_of, rules) in
    let is : IsTaken rows c.taken.left None c.take_highest.new.candidates =
    rw c.in_default.is at c.take_highest.ensures in
    gathering-done g c.taken.left c.take_highest.new.candidates c.taken.top c.args.row.now
    c.insert.new.self c.taken.row c.taken.invariant is c.insert.ensures

pub join_into-requires : goal.join_into-requires
join_into-requires c =
    let is : IsTaken c.args.self.now.kept.now.rows c.taken.left (Some c.in-Some.number) c.take_highest.new.candidates =
    rw c.in-Some.is at c.take_highest.ensures in
    let low = c.taken.invariant.swept.low c.in-Some.number is.0.1 in
    let within = c.taken.invariant.within in
    omega arith

pub insert-requires : goal.insert-requires
insert-requires c =
    let f = fits c.requires.asked in
    let seq = f.seq in
    let room = f.room in
    omega arith
