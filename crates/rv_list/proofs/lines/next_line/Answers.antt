use Rattle.std.proofs.Common.{◌≡◌, false, true, ◌<◌, ◌-◌, length, take, nat_eq, [], ◌∷◌, ◌++◌, arith}
use Rattle.std.proofs.lemmas.Grind.{common_steps}
use Rattle.std.specs.Io.BufRead.{take_through}
use Rattle.std.specs.List.{ends_with}
use Rattle.std.specs.Option.{IfSome}
use Rattle.rv_list.proofs.FirstLines.{before-last, takes-alone, takes-fed, takes-returned}
use Rattle.rv_list.proofs.lines.next_line.Goals as goal

pub returns-then-ends_with-2-clause-line : goal.returns-then-ends_with-2-clause-line
returns-then-ends_with-2-clause-line g c =
    let taken = c.read_until.new.buf.items in
    let line = c.pop.new.self.items in
    let rest = c.pop-then-ends_with-2.new.self.items in
    let is : IfSome (g.R.Read.remaining c.args.reader.now) (λ bytes. taken ≡ take_through 10 bytes) =
    grind (arith, common_steps) in
    let some : 0 < length taken = grind (arith, common_steps) in
    let ended : ends_with nat_eq taken (10 ∷ []) ≡ true = grind (arith, common_steps) in
    let fed : taken ≡ line ++ 10 ∷ [] = grind (arith, common_steps, before-last) in
    let low : 0 < length line = grind (arith, common_steps) in
    let back : ends_with nat_eq line (13 ∷ []) ≡ true = grind (arith, common_steps) in
    let cut : rest ≡ take (length line - 1) line = grind (arith, common_steps) in
    λ found. takes-returned (g.R.Read.remaining c.args.reader.now) (g.R.Read.remaining c.read_until.new.self) taken
    line rest is c.in_ok-read_until.ensures.rest fed low back cut

pub returns-else-ends_with-2-clause-line : goal.returns-else-ends_with-2-clause-line
returns-else-ends_with-2-clause-line g c =
    let taken = c.read_until.new.buf.items in
    let line = c.pop.new.self.items in
    let is : IfSome (g.R.Read.remaining c.args.reader.now) (λ bytes. taken ≡ take_through 10 bytes) =
    grind (arith, common_steps) in
    let some : 0 < length taken = grind (arith, common_steps) in
    let ended : ends_with nat_eq taken (10 ∷ []) ≡ true = grind (arith, common_steps) in
    let fed : taken ≡ line ++ 10 ∷ [] = grind (arith, common_steps, before-last) in
    let other : ends_with nat_eq line (13 ∷ []) ≡ false = grind (arith, common_steps) in
    λ found. takes-fed (g.R.Read.remaining c.args.reader.now) (g.R.Read.remaining c.read_until.new.self) taken line
    is c.in_ok-read_until.ensures.rest fed other

pub returns-else-ends_with-clause-line : goal.returns-else-ends_with-clause-line
returns-else-ends_with-clause-line g c =
    let taken = c.read_until.new.buf.items in
    let is : IfSome (g.R.Read.remaining c.args.reader.now) (λ bytes. taken ≡ take_through 10 bytes) =
    grind (arith, common_steps) in
    let some : 0 < length taken = grind (arith, common_steps) in
    let open_ended : ends_with nat_eq taken (10 ∷ []) ≡ false = grind (arith, common_steps) in
    λ found. takes-alone (g.R.Read.remaining c.args.reader.now) (g.R.Read.remaining c.read_until.new.self) taken is
    c.in_ok-read_until.ensures.rest some open_ended
