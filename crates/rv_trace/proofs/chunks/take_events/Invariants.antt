use Rattle.std.proofs.Common.{◌≡◌, ◌+◌, ◌-◌, ◌≤◌, [], None, true, false, length, All}
use Rattle.rv_chunk.specs.Chunks.{IsPackable}
use Rattle.rv_trace.specs.Chunks.{TakesEvents}
use Rattle.rv_trace.proofs.chunks.take_events.Given as goal

abbrev pub invariant-events : goal.invariant-events
invariant-events g l = record {
  good : l.trace.fault ≡ None;
  unrefused : l.trace.refused ≡ false;
  taken : TakesEvents l.fn.trace.stream l.trace.stream l.events.items;
  packable : All IsPackable l.events.items;
  few : length l.events.items ≤ 8;
  count : l.trace.given ≡ l.fn.trace.given + length l.events.items;
  rows : l.trace.given ≤ 65536;
  unread : l.trace.unread ≡ true → l.fn.trace.unread ≡ true;
  stays : l.fn.trace.ended ≡ true → (l.events.items ≡ []) × (l.trace ≡ l.fn.trace);
}

abbrev pub decreases-events : goal.decreases-events
decreases-events g l = 8 - length l.events.items
