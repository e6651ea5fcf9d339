use Rattle.rv_run.proofs.Common.{All, All-append, All-cons, All-nil, List, None, [], ap, append-nil, length}
use Rattle.rv_run.proofs.Common.{bytes_say, option_map}
use Rattle.rv_run.proofs.Common.{rules, subst, sym, vec_items, ◌++◌, ◌∙◌, ◌∷◌, ◌≡◌, TraceLeft}
use Rattle.std.proofs.lemmas.List.{nil_from_length}
use Rattle.std.specs.Vec.Iter.{into_iter_items}
use Rattle.rv_run.specs.InTurn.{streams_left}
use Rattle.rv_run.specs.Sources.{streams_in}
use Rattle.rv_run.proofs.InTurn.{opened-more}
use Rattle.rv_run.proofs.in_turn.open_all.Goals as goal

-- The reader that comes next stood first among the rest, and its trace stands last now.
pub loop-reader-preserved : goal.loop-reader-preserved
loop-reader-preserved g c =
    let at = c.loop-reader in
    let steps : into_iter_items at.reader-iterator ≡ c.in-Some.reader ∷ into_iter_items c.next.new.self =
    c.in-Some.ensures.steps.0 in
    let grown : vec_items c.push.new.self ≡ vec_items at.sources ++ c.new.result ∷ [] = search rules in
    let fresh = c.with_dialect-trace.ensures in record {
      streams = opened-more (λ r. option_map (bytes_say c.args.dialect) (g.R.Read.remaining r)) (vec_items at.sources)
          (vec_items c.push.new.self) c.new.result (into_iter_items at.reader-iterator)
          (into_iter_items c.next.new.self) c.in-Some.reader _ grown (search rules) steps at.invariant.streams;
      good = subst (λ (l : List TraceLeft). All (λ t. t.fault ≡ None) l) (sym grown)
          (All-append (λ (t : TraceLeft). t.fault ≡ None) (vec_items at.sources) (c.new.result ∷ [])
          at.invariant.good (All-cons (λ (t : TraceLeft). t.fault ≡ None) c.new.result [] (search rules)
          (All-nil (λ (t : TraceLeft). t.fault ≡ None))));
      number = search rules;
      count = let short = ap length steps in search rules;
      rest = search rules;
    }

-- No reader is left.
pub returns-clause-streams : goal.returns-clause-streams
returns-clause-streams g c =
    let at = c.loop-reader in
    let says = streams_in c.args.dialect g.R.Read.remaining in
    let empty : into_iter_items at.reader-iterator ≡ [] =
    nil_from_length (into_iter_items at.reader-iterator) (sym at.invariant.count ∙ c.in-None.ensures.steps.0) in
    sym (append-nil (streams_left (vec_items at.sources)))
    ∙ ap (λ l. streams_left (vec_items at.sources) ++ says l) (sym empty) ∙ at.invariant.streams
