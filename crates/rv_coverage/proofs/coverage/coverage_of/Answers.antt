-- Each number by the call that counted it.
use Rattle.std.proofs.Common.{◌∙◌, ap, sym, subst, ◌≤◌, length, List}
use Rattle.rv_event.proofs.Bounded.{length-WellFormed}
use Rattle.rv_event.specs.Log.{events}
use Rattle.rv_event.specs.declared.event.Entry.{Entry}
use Rattle.rv_coverage.specs.Counts.{event_counts, harts_of, link_counts, pairs_of}
use Rattle.rv_coverage.proofs.coverage.coverage_of.Goals as goal

pub count_pairs-requires : goal.count_pairs-requires
count_pairs-requires c = record {
  few = subst (λ (l : List Entry). length l ≤ 65536) (sym c.log-log.ensures.value)
      (length-WellFormed c.args.book.now.log c.log-log.ensures.well_formed);
}

pub returns : goal.returns
returns c = record {
  kept = c.in_ok-links.links.items;
  of_log = c.in_ok-links.ensures;
  events_are = c.in_ok-event_counts.ensures ∙ ap event_counts c.log-log.ensures.value;
  links_are = c.in_ok-link_counts.ensures ∙ ap link_counts c.as_slice.ensures.value;
  reads_are = c.in_ok-read_counts.ensures;
  harts_are = c.count_harts.ensures ∙ ap harts_of c.log-log.ensures.value;
  pairs_are = c.in_ok-count_pairs.ensures ∙ ap (λ (l : List Entry). pairs_of (events l)) c.log-log.ensures.value;
  waiting_are = c.in_ok-first_waits.ensures.firsts;
}
