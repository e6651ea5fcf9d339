use Rattle.std.proofs.Common.{ℕ, ◌≡◌, Bool, Option, List, ◌==◌, ◌%◌, ◌/◌, ◌||◌, ap, sym, ◌∙◌}
use Rattle.std.specs.HashMap.{get}
use Rattle.rv_rows.specs.Bits.{has_bit}
use Rattle.rv_past.proofs.Noted.{noted}
use Rattle.rv_past.proofs.Stored.{other-key}
use Rattle.rv_past.specs.Facts.{has_number}
use Rattle.rv_past.specs.Gone.{same_version}
use Rattle.rv_past.proofs.facts.note_first.Goals as goal

pub returns-clause-noted : goal.returns-clause-noted
returns-clause-noted c = λ i.
    noted (get same_version c.args.values.now) (get same_version c.insert-2.new.self) c.args.id c.insert.new.self
    c.in-Ok.ensures.updates.1 bits
    (λ h k apart. c.in-Ok.ensures.updates.2 (h, k) (other-key c.args.id.hart h (c.args.id.seq / 4096) k apart)) i
  where
    bits : (j : ℕ) → has_bit c.insert.new.self j
        ≡ (has_number (get same_version c.args.values.now (c.args.id.hart, c.args.id.seq / 4096)) j
        || (c.args.id.seq % 4096 == j))
    bits j = c.insert.ensures j ∙ ap (λ (b : Bool). b || (c.args.id.seq % 4096 == j))
        (c.new-row.ensures j ∙ ap (λ (o : Option (List ℕ)). has_number o j) (sym c.requires.first))
