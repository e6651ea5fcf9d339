-- What was printed first and in the loop is the text of all.
use Rattle.std.proofs.Common.{rules, List, ◌∷◌, ◌++◌, ◌≡◌, take, sym, ◌∙◌, ap}
use Rattle.std.proofs.lemmas.List.{take_all}
use Rattle.std.proofs.Output.{has_written_append, has_written_of_eq}
use Rattle.std.specs.List.{flat_map}
use Rattle.rv_event.specs.Rows.{dep_text, deps_text}
use Rattle.rv_event.specs.declared.event.Dep.{Dep}
use Rattle.rv_event.proofs.DepTexts.{deps_text-first}
use Rattle.rv_event.proofs.text.DepsDisplay.fmt.Goals as goal

pub returns-clause-writes : goal.returns-clause-writes
returns-clause-writes g c plain ok =
    let first = c.in-Some.first.now in
    let rest = c.in-Some.rest.now in
    let all : take c.loop-dep.dep-index rest ≡ rest = take_all _ _ c.loop-dep-test.false in
    let both : c.args.self.now ≡ first ∷ rest = search rules in
    let text = ap (λ (ds : List Dep). dep_text first ++ flat_map (λ d. 32 ∷ dep_text d) ds) all
    ∙ deps_text-first first rest ∙ ap deps_text (sym both) in
    let begun = c.in_ok-write.ensures.writes plain ok in
    has_written_of_eq _ _ _ _ _ text (has_written_append _ _ _ _ _ _ begun (c.loop-dep.invariant begun.plain))
