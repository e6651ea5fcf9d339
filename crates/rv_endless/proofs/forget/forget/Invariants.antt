use Rattle.rv_endless.specs.Forgetting.{AreFresh, HaveNumbers, forgotten_of}
use Rattle.rv_event.specs.Log.{events}
use Rattle.rv_event.specs.declared.event.Entry.{Entry}
use Rattle.rv_past.specs.Facts.{AreFacts, HasRoom}
use Rattle.rv_past.specs.Gone.{AreGone, HasPlaces}
use Rattle.std.proofs.Common.{ℕ, ◌+◌, ◌++◌, ◌≤◌, List, length, take}
use Rattle.rv_endless.proofs.forget.forget.Given as goal

-- the entries so far that the cut forgets are known
pub record AreTaken (l : goal.Live-entries) : Type 0 where
  pub places : (more : ℕ) → more + l.entry-index ≤ length l.window → HasPlaces l.past more
  pub room : (more : ℕ) → more + l.entry-index ≤ length l.window → HasRoom l.facts more
  pub past : (gone : List Entry) → HaveNumbers l.firsts l.window → AreGone (events gone) l.fn.past →
      AreGone (events (gone ++ forgotten_of l.firsts l.cut (take l.entry-index l.window))) l.past
  pub known : (gone : List Entry) → HaveNumbers l.firsts l.window → AreFresh l.firsts gone l.window →
      AreFacts gone l.fn.facts →
      AreFacts (gone ++ forgotten_of l.firsts l.cut (take l.entry-index l.window)) l.facts

abbrev pub invariant-entries : goal.invariant-entries
invariant-entries l = AreTaken l
