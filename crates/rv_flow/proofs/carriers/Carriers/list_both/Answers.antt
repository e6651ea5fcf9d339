use Rattle.std.proofs.Common.{◌≤◌, ◌+◌, length, arith}
use Rattle.std.proofs.lemmas.Grind.{common_steps}
use Rattle.rv_flow.specs.Carriers.{IsList}
use Rattle.rv_flow.proofs.Growing.{behind-list, events-still, grown-on, list-kept}
use Rattle.rv_flow.proofs.Numbering.{numbered-on}
use Rattle.rv_flow.proofs.carriers.Carriers.list_both.Goals as goal

-- src/carriers.rt:128:22
pub collect-requires-2-clause-events : goal.collect-requires-2-clause-events
collect-requires-2-clause-events c =
    events-still c.args.self.now.all.items c.collect.new.self.all.items c.args.self.now.next c.collect.new.self.next
    c.args.value.now c.requires.carriers c.collect.ensures.grown c.requires.value

-- src/carriers.rt:128:22
pub returns-in_err-second-clause-grown : goal.returns-in_err-second-clause-grown
returns-in_err-second-clause-grown c = grown-on c.collect.ensures.grown c.collect-2.ensures.grown

-- src/carriers.rt:130:22
pub returns-in_err-second-2-clause-grown : goal.returns-in_err-second-2-clause-grown
returns-in_err-second-2-clause-grown c =
    grown-on c.collect.ensures.grown (grown-on c.collect-2.ensures.grown c.fold_if.ensures.grown)

-- src/carriers.rt:132:21
pub fold_if-requires-2-clause-list : goal.fold_if-requires-2-clause-list
fold_if-requires-2-clause-list c =
    list-kept c.collect.new.self.all.items c.fold_if.new.self.all.items c.collect.new.self.next
    c.fold_if.new.self.next c.collect.ensures.grown.are (grown-on c.collect-2.ensures.grown c.fold_if.ensures.grown)
    c.in_ok-first.first c.in_ok-first.ensures.list

-- src/carriers.rt:132:21
pub returns-in_err-first-2-clause-grown : goal.returns-in_err-first-2-clause-grown
returns-in_err-first-2-clause-grown c =
    grown-on c.collect.ensures.grown
    (grown-on c.collect-2.ensures.grown (grown-on c.fold_if.ensures.grown c.fold_if-2.ensures.grown))

-- src/carriers.rt:120:5
pub returns-clause-grown : goal.returns-clause-grown
returns-clause-grown c =
    grown-on c.collect.ensures.grown
    (grown-on c.collect-2.ensures.grown (grown-on c.fold_if.ensures.grown c.fold_if-2.ensures.grown))

-- src/carriers.rt:141:22
pub returns-in_err-second-2-clause-numbered : goal.returns-in_err-second-2-clause-numbered
returns-in_err-second-2-clause-numbered c =
    numbered-on
    (numbered-on c.collect.ensures.numbered c.collect-2.ensures.numbered c.collect-2.ensures.grown)
    c.fold_if.ensures.numbered c.fold_if.ensures.grown

-- src/carriers.rt:143:21
pub returns-in_err-first-2-clause-numbered : goal.returns-in_err-first-2-clause-numbered
returns-in_err-first-2-clause-numbered c =
    numbered-on
    (numbered-on
    (numbered-on c.collect.ensures.numbered c.collect-2.ensures.numbered c.collect-2.ensures.grown)
    c.fold_if.ensures.numbered c.fold_if.ensures.grown)
    c.fold_if-2.ensures.numbered c.fold_if-2.ensures.grown

-- src/carriers.rt:130:5
pub returns-clause-numbered : goal.returns-clause-numbered
returns-clause-numbered c =
    numbered-on
    (numbered-on
    (numbered-on c.collect.ensures.numbered c.collect-2.ensures.numbered c.collect-2.ensures.grown)
    c.fold_if.ensures.numbered c.fold_if.ensures.grown)
    c.fold_if-2.ensures.numbered c.fold_if-2.ensures.grown

-- src/carriers.rt:120:5
pub returns-clause-lists : goal.returns-clause-lists
returns-clause-lists c = record {
  few = few;
  address_parts = first.parts;
  value_parts = second.parts;
  address = behind-list c.fold_if-2.new.self.all.items c.fold_if-2.new.self.next c.in_ok-first-2.first
      c.in_ok-first.first.events c.args.address.now first c.in_ok-first-2.ensures.events c.in_ok-first.ensures.events;
  value = behind-list c.fold_if-2.new.self.all.items c.fold_if-2.new.self.next c.in_ok-second-2.second
      c.in_ok-second.second.events c.args.value.now second c.in_ok-second-2.ensures.events
      c.in_ok-second.ensures.events;
}
  where
    first : IsList c.fold_if-2.new.self.all.items c.fold_if-2.new.self.next c.in_ok-first-2.first
    first = c.in_ok-first-2.ensures.list

    second : IsList c.fold_if-2.new.self.all.items c.fold_if-2.new.self.next c.in_ok-second-2.second
    second = list-kept c.fold_if.new.self.all.items c.fold_if-2.new.self.all.items c.fold_if.new.self.next
        c.fold_if-2.new.self.next c.fold_if.ensures.grown.are c.fold_if-2.ensures.grown c.in_ok-second-2.second
        c.in_ok-second-2.ensures.list

    few : length c.in_ok-first-2.first.parts.items + length c.in_ok-second-2.second.parts.items ≤ 8
    few =
        let short = c.in_ok-first-2.ensures.one in
        let short' = c.in_ok-second-2.ensures.one in
        let few-first = c.in_ok-first.ensures.list.parts.few in
        let few-second = c.in_ok-second.ensures.list.parts.few in
        grind (
          arith,
          common_steps,
          short,
          short',
          few-first,
          few-second,
          c.len.ensures,
          c.len-2.ensures,
          c.len-3.ensures,
          c.len-4.ensures,
        )
