use Rattle.rv_cut.specs.Cuts.{first_of}
use Rattle.rv_endless.proofs.Accepted.{is-past, joins}
use Rattle.rv_endless.proofs.Judged.{edge-explained, is-free, offered}
use Rattle.rv_endless.proofs.Misfits.{misfit-answered}
use Rattle.rv_endless.specs.Runs.{in_window}
use Rattle.rv_endless.specs.Steps.{IsEdgeExplained, IsExplained, IsOffered}
use Rattle.rv_endless.specs.declared.run.Endless.{Endless}
use Rattle.rv_event.proofs.Bounded.{length-WellFormed}
use Rattle.rv_event.specs.Faults.{fault_of}
use Rattle.rv_event.specs.declared.event.Entry.{Entry}
use Rattle.rv_past.specs.Facts.{Fits, IsMisfit}
use Rattle.rv_settle.specs.Windows.{counted_from}
use Rattle.std.proofs.Common.{ℕ, ◌≡◌, ◌∙◌, List, ap}
use Rattle.std.proofs.Common.{arith, length, refl, subst}
use Rattle.rv_endless.proofs.run.Endless.judge_next.Goals as goal

-- the entry, counted from this number, is as the window has it
moved-is : (run : Endless) (x moved : Entry) (first : ℕ) → first ≡ first_of run.firsts x.event.id.hart →
    moved ≡ record x { event = counted_from first x.event } → moved ≡ in_window run x
moved-is run x moved first is same = same ∙ ap (λ (n : ℕ). record x { event = counted_from n x.event }) is

pub explain_misfit-requires : goal.explain_misfit-requires
explain_misfit-requires c =
    let most = length-WellFormed c.args.self.now.book.log c.log.ensures.well_formed in
    let same = ap (λ (xs : List Entry). length xs) c.log.ensures.value in
    omega (arith, most, same)

pub explain_edge-requires : goal.explain_edge-requires
explain_edge-requires c =
    let most = length-WellFormed c.args.self.now.book.log c.log-in-Some-find_edge.ensures.well_formed in
    let same = ap (λ (xs : List Entry). length xs) c.log-in-Some-find_edge.ensures.value in
    omega (arith, most, same)

pub returns-in-Some-clause-answered : goal.returns-in-Some-clause-answered
returns-in-Some-clause-answered c = λ log stands.
    let moved = moved-is c.args.self.now c.args.entry.now c.in-Ok.moved c.first-first.result
    c.first-first.ensures c.in-Ok.ensures in
    misfit-answered c.args.self.now log c.args.entry.now stands c.requires _ c.explain_misfit.result (refl, refl)
    c.in-Some.misfit
    (subst (λ (n : ℕ). IsMisfit stands.gone.0 n c.args.entry.now c.in-Some.misfit) c.first-first.ensures
    (c.in-Some.ensures stands.gone.0 stands.gone.1.facts))
    (subst (λ (xs : List Entry). IsExplained c.args.self.now.firsts c.args.entry.now.event.id.hart
    c.in-Some.misfit (fault_of xs (in_window c.args.self.now c.args.entry.now)) c.explain_misfit.result)
    c.log.ensures.value
    (subst (λ (m : Entry). IsExplained c.args.self.now.firsts m.event.id.hart
    c.in-Some.misfit (fault_of c.log.result.now m) c.explain_misfit.result) moved c.explain_misfit.ensures))

pub returns-in-Some-find_edge-clause-answered : goal.returns-in-Some-find_edge-clause-answered
returns-in-Some-find_edge-clause-answered c = λ log stands.
    let moved = moved-is c.args.self.now c.args.entry.now c.in-Ok.moved c.first-first.result
    c.first-first.ensures c.in-Ok.ensures in
    let fits = subst (λ (n : ℕ). Fits stands.gone.0 n c.args.entry.now) c.first-first.ensures
    (c.in_default-find_misfit.ensures stands.gone.0 stands.gone.1.facts) in
    edge-explained c.args.self.now log c.args.entry.now stands c.requires _ c.explain_edge.result
    c.in-Some-find_edge.edge fits
    (λ sound. c.in-Some-find_edge.ensures log stands.gone.0 stands.cut.past stands.window_is moved stands.gone.1
    (is-past c.args.self.now log c.args.entry.now stands c.requires sound)
    (is-free c.args.self.now log c.args.entry.now stands c.requires fits sound)
    (joins c.args.self.now log c.args.entry.now stands c.requires sound))
    (refl, refl)
    (subst (λ (xs : List Entry). IsEdgeExplained c.args.self.now.firsts c.args.entry.now.event.id.hart
    c.in-Some-find_edge.edge (fault_of xs (in_window c.args.self.now c.args.entry.now)) c.explain_edge.result)
    c.log-in-Some-find_edge.ensures.value
    (subst (λ (m : Entry). IsEdgeExplained c.args.self.now.firsts m.event.id.hart
    c.in-Some-find_edge.edge (fault_of c.log-in-Some-find_edge.result.now m) c.explain_edge.result) moved
    c.explain_edge.ensures))

pub returns-clause-answered : goal.returns-clause-answered
returns-clause-answered c = λ log stands.
    let moved = moved-is c.args.self.now c.args.entry.now c.in-Ok.moved c.first-first.result
    c.first-first.ensures c.in-Ok.ensures in
    let fits = subst (λ (n : ℕ). Fits stands.gone.0 n c.args.entry.now) c.first-first.ensures
    (c.in_default-find_misfit.ensures stands.gone.0 stands.gone.1.facts) in
    offered c.args.self.now log c.args.entry.now stands c.requires c.judge_moved.new.self c.judge_moved.result fits
    (λ sound before. c.in_default-find_edge.ensures log stands.gone.0 stands.cut.past stands.window_is moved
    stands.gone.1 (is-past c.args.self.now log c.args.entry.now stands c.requires sound)
    (is-free c.args.self.now log c.args.entry.now stands c.requires fits sound)
    (joins c.args.self.now log c.args.entry.now stands c.requires sound) before)
    (subst (λ (m : Entry). IsOffered c.args.self.now c.judge_moved.new.self m c.judge_moved.result)
    moved c.judge_moved.ensures.offered)
