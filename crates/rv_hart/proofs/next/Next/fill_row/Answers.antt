use Rattle.rv_hart.proofs.Common.{◌≡◌, ◌↔◌, ◌⊎◌, inl, inr, List, ℕ, sym, ◌∙◌, false≢true, Event, Link, Has, Hart}
use Rattle.rv_hart.proofs.Common.{hart_at, IsLinked, rules}
use Rattle.rv_hart.proofs.HartFacts.{Fits, fits_of}
use Rattle.rv_hart.proofs.Listings.{row-nothing}
use Rattle.rv_hart.proofs.FromLinks.{IsJoined, Linking, have_rows, row-begun, row-linked, row_sound}
use Rattle.rv_hart.proofs.next.Next.fill_row.Goals as goal

pub returns-then-not-is_memory : goal.returns-then-not-is_memory
returns-then-not-is_memory c =
    let h : Hart = hart_at c.args.self.now in
    let e : Event = c.args.self.now.event.now in
    let f : Fits h e = fits_of h e c.requires.next.kept.hart c.requires.next.follows in
    row-nothing f (λ m. false≢true (sym c.if-not-is_memory.true ∙ c.is_memory.ensures.1 m)) c.args.row.now
    c.requires.empty

pub join_linked-requires : goal.join_linked-requires
join_linked-requires c =
    let h : Hart = hart_at c.args.self.now in
    let e : Event = c.args.self.now.event.now in
    let rows : List (List ℕ) = c.args.self.now.kept.now.rows in
    let links : List Link = c.args.links.now in
    let linking : Linking h e rows links =
    search (fits_of, c.is_memory.ensures.0 c.if-not-is_memory.false, rules) in
    have_rows linking

pub returns-then-not-has_own_links : goal.returns-then-not-has_own_links
returns-then-not-has_own_links c = λ s.
    let h : Hart = hart_at c.args.self.now in
    let e : Event = c.args.self.now.event.now in
    let rows : List (List ℕ) = c.args.self.now.kept.now.rows in
    let links : List Link = c.args.links.now in
    let row : List ℕ = c.join_linked.new.row in
    let linking : Linking h e rows links =
    search (fits_of, c.is_memory.ensures.0 c.if-not-is_memory.false, rules) in
    let joined : IsJoined rows links c.insert.new.self row = c.join_linked.ensures in
    let begun : (s : ℕ) → Has row s ↔ ((s ≡ e.id.seq) ⊎ IsLinked rows links s) =
    row-begun rows links e.id.seq c.args.row.now c.insert.new.self row c.requires.empty c.insert.ensures joined in (
      λ x. elim ((c.add_swept.ensures s).0 x) [ inl y ↦ row_sound linking row begun s y | inr b ↦ b ],
      λ b. (c.add_swept.ensures s).1 (inr b),
    )

pub returns-else-not-has_own_links : goal.returns-else-not-has_own_links
returns-else-not-has_own_links c =
    let h : Hart = hart_at c.args.self.now in
    let e : Event = c.args.self.now.event.now in
    let rows : List (List ℕ) = c.args.self.now.kept.now.rows in
    let links : List Link = c.args.links.now in
    let row : List ℕ = c.join_linked.new.row in
    let linking : Linking h e rows links =
    search (fits_of, c.is_memory.ensures.0 c.if-not-is_memory.false, rules) in
    let joined : IsJoined rows links c.insert.new.self row = c.join_linked.ensures in
    let begun : (s : ℕ) → Has row s ↔ ((s ≡ e.id.seq) ⊎ IsLinked rows links s) =
    row-begun rows links e.id.seq c.args.row.now c.insert.new.self row c.requires.empty c.insert.ensures joined in
    row-linked linking row begun (c.has_own_links.ensures.0 c.if-not-has_own_links.false)
