use Rattle.rv_slotcore.proofs.Common.{◌≡◌, map, take, length, unwrap_or}
use Rattle.rv_slotcore.proofs.acts.put_words.Given as goal

abbrev pub invariant-loop-place : goal.invariant-loop-place
invariant-loop-place l = record {
  long : length l.content ≡ 58;
  same : take l.place l.content ≡ map (λ o. unwrap_or o 0) (take l.place l.words);
}
