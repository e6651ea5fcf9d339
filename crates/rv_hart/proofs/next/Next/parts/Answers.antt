-- Each line of the table has what its rule says.
use Rattle.rv_hart.proofs.Common.{◌<◌, ℕ, sym, subst, arith, rules, common_steps, Condition-number, IsLoad}
use Rattle.rv_hart.proofs.Common.{IsStore, IsRelease, IsRcsc, followed, ArePartsFor, Nothing, In, Named, Addr}
use Rattle.rv_hart.proofs.Common.{DataOf, Event, Hart, hart_at}
use Rattle.rv_hart.proofs.TableParts.{alone, tested, tested-both, no-parts}
use Rattle.rv_hart.proofs.RuleConditions.{fenced-is, acquire-is, release-is, rcsc-is, address-is, data-is}
use Rattle.rv_hart.proofs.RuleConditions.{control-is, dependent_address-is}
use Rattle.rv_hart.proofs.HartFacts.{fits}
use Rattle.rv_hart.specs.declared.parts.SetName.TheVariants as set
use Rattle.rv_hart.proofs.next.Next.parts.Goals as goal

pub returns-in-3 : goal.returns-in-3
returns-in-3 c = search rules

pub returns-in-4 : goal.returns-in-4
returns-in-4 c =
    let h : Hart = hart_at c.args.self.now in
    let e : Event = c.args.self.now.event.now in
    let f = fits c.requires.asked in
    let m = c.requires.asked.memory in
    subst (λ k. ArePartsFor h e k c.part_if-loads.result c.part_if-stores.result) (sym c.in-4.is)
    (tested-both h e 4 c.is_load.result c.is_store.result (In set.FencedForLoad) (In set.FencedForStore)
    c.part_if-loads.result c.part_if-stores.result (IsLoad e) (IsStore e)
    c.part_if-loads.ensures c.is_load.ensures c.part_if-stores.ensures c.is_store.ensures (fenced-is f m) tt tt)

pub returns-in-5 : goal.returns-in-5
returns-in-5 c =
    let h : Hart = hart_at c.args.self.now in
    let e : Event = c.args.self.now.event.now in
    let f = fits c.requires.asked in
    let m = c.requires.asked.memory in
    subst (λ k. ArePartsFor h e k _ _) (sym c.in-5.is)
    (alone h e 5 (In set.Acquires) (record { says = acquire-is f m; names = tt }))

pub returns-in-6 : goal.returns-in-6
returns-in-6 c =
    let h : Hart = hart_at c.args.self.now in
    let e : Event = c.args.self.now.event.now in
    let f = fits c.requires.asked in
    let m = c.requires.asked.memory in
    subst (λ k. ArePartsFor h e k c.part_if-before_loads.result c.part_if-before_stores.result) (sym c.in-6.is)
    (tested-both h e 6 c.is_release-release.result c.is_release-release.result (In set.Loads) (In set.Stores)
    c.part_if-before_loads.result c.part_if-before_stores.result (IsRelease h.model e) (IsRelease h.model e)
    c.part_if-before_loads.ensures c.is_release-release.ensures c.part_if-before_stores.ensures
    c.is_release-release.ensures (release-is f m) tt tt)

pub returns-in-7 : goal.returns-in-7
returns-in-7 c =
    let h : Hart = hart_at c.args.self.now in
    let e : Event = c.args.self.now.event.now in
    let f = fits c.requires.asked in
    let m = c.requires.asked.memory in
    subst (λ k. ArePartsFor h e k c.part_if-rcsc.result Nothing) (sym c.in-7.is)
    (alone h e 7 c.part_if-rcsc.result (tested h e 7 c.is_rcsc.result (In set.Rcsc) c.part_if-rcsc.result
    (IsRcsc h.model e) c.part_if-rcsc.ensures c.is_rcsc.ensures (rcsc-is f m) tt))

pub returns-in-8 : goal.returns-in-8
returns-in-8 c = search rules

pub returns-in-9 : goal.returns-in-9
returns-in-9 c =
    let h : Hart = hart_at c.args.self.now in
    let e : Event = c.args.self.now.event.now in
    let f = fits c.requires.asked in
    let m = c.requires.asked.memory in
    subst (λ k. ArePartsFor h e k _ _) (sym c.in-9.is)
    (alone h e 9 (Named Addr) (record { says = address-is f m; names = tt }))

pub returns-in-10 : goal.returns-in-10
returns-in-10 c =
    let h : Hart = hart_at c.args.self.now in
    let e : Event = c.args.self.now.event.now in
    let f = fits c.requires.asked in
    let m = c.requires.asked.memory in
    subst (λ k. ArePartsFor h e k _ _) (sym c.in-10.is)
    (alone h e 10 (Named DataOf) (record { says = data-is f m; names = tt }))

pub returns-in-11 : goal.returns-in-11
returns-in-11 c =
    let h : Hart = hart_at c.args.self.now in
    let e : Event = c.args.self.now.event.now in
    let f = fits c.requires.asked in
    let m = c.requires.asked.memory in
    subst (λ k. ArePartsFor h e k c.part_if-controlled.result Nothing) (sym c.in-11.is)
    (alone h e 11 c.part_if-controlled.result (tested h e 11 c.is_store-in-11.result (In set.Controlled)
    c.part_if-controlled.result (IsStore e) c.part_if-controlled.ensures c.is_store-in-11.ensures
    (control-is f m) tt))

pub returns-in-12 : goal.returns-in-12
returns-in-12 c = grind (arith, common_steps)

pub returns-in-13 : goal.returns-in-13
returns-in-13 c =
    let h : Hart = hart_at c.args.self.now in
    let e : Event = c.args.self.now.event.now in
    let f = fits c.requires.asked in
    let m = c.requires.asked.memory in
    subst (λ k. ArePartsFor h e k c.part_if-addressed.result Nothing) (sym c.in-13.is)
    (alone h e 13 c.part_if-addressed.result (tested h e 13 c.is_store-in-13.result (In set.Addressed)
    c.part_if-addressed.result (IsStore e) c.part_if-addressed.ensures c.is_store-in-13.ensures
    (dependent_address-is f m) tt))

pub returns-in_default : goal.returns-in_default
returns-in_default c =
    let h : Hart = hart_at c.args.self.now in
    let e : Event = c.args.self.now.event.now in
    let k : ℕ = c.args.rule in
    no-parts h e k (λ a u.
    let low : k < 14 = Condition-number h.model (followed h e) a e k u.1 in
    absurd (omega arith))
