use Rattle.std.proofs.Common.{ℕ, ◌≡◌, Bool, IsSome, Option, List, ◌==◌, ◌%◌, ◌/◌, ◌||◌, ap, refl, sym, ◌∙◌}
use Rattle.std.specs.HashMap.{get}
use Rattle.rv_rows.specs.Bits.{has_bit}
use Rattle.rv_past.proofs.Noted.{noted}
use Rattle.rv_past.proofs.Stored.{other-key}
use Rattle.rv_past.specs.Facts.{has_number}
use Rattle.rv_past.specs.Gone.{same_version}
use Rattle.rv_past.proofs.facts.note_value.Goals as goal

pub returns-in-Some-clause-noted : goal.returns-in-Some-clause-noted
returns-in-Some-clause-noted c = λ i.
    let after = c.get_mut.follows.holds c.insert.new.self in
    let updates = after.3 some in
    noted (get same_version c.args.values.now) (get same_version (c.get_mut.follows.lender c.insert.new.self)) c.args.id
    c.insert.new.self updates.1 bits
    (λ h k apart. updates.2 (h, k) (other-key c.args.id.hart h (c.args.id.seq / 4096) k apart)) i
  where
    some : IsSome (get same_version c.args.values.now (c.args.id.hart, c.args.id.seq / 4096))
    some = rw (sym c.in-Some.ensures.value) refl

    bits : (j : ℕ) → has_bit c.insert.new.self j
        ≡ (has_number (get same_version c.args.values.now (c.args.id.hart, c.args.id.seq / 4096)) j
        || (c.args.id.seq % 4096 == j))
    bits j = c.insert.ensures j ∙ ap (λ (b : Bool). b || (c.args.id.seq % 4096 == j))
        (ap (λ (o : Option (List ℕ)). has_number o j) c.in-Some.ensures.value)
