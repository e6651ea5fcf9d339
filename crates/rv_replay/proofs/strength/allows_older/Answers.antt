-- The log in which the load is put back was judged, and is as it was again.
use Rattle.rv_replay.proofs.Common.{◌≡◌, ◌∙◌, List, ap, get_or, subst, Entry, IsConsistent}
use Rattle.std.proofs.Common.{IfOk, false, true}
use Rattle.rv_replay.specs.Strengths.{put_back_at, returned_at}
use Rattle.rv_replay.proofs.Strengths.{put_back_at-returned, returned_at-again}
use Rattle.rv_replay.proofs.strength.allows_older.Goals as goal

module _ (c : goal.After-log-2-1) where
  judged : c.set_read.new.log ≡ put_back_at c.args.log.now c.args.log.now c.args.place
  judged =
      c.set_read.ensures
      ∙ ap (λ v. returned_at v c.args.log.now c.args.place) c.older_version-older.ensures
      ∙ put_back_at-returned c.args.log.now c.args.log.now c.args.place c.index-log-place.result c.requires

pub returns-clause-allowed : goal.returns-clause-allowed
returns-clause-allowed c =
    subst (λ (l : List Entry). IfOk c.is_consistent-answer.result (λ is_so. is_so ≡ true → IsConsistent c.args.model l))
    (judged c) c.is_consistent-answer.ensures.allowed

pub returns-clause-refused : goal.returns-clause-refused
returns-clause-refused c =
    subst (λ (l : List Entry).
    IfOk c.is_consistent-answer.result (λ is_so. is_so ≡ false → IsConsistent c.args.model l → ⊥))
    (judged c) c.is_consistent-answer.ensures.refused

pub returns-clause-kept : goal.returns-clause-kept
returns-clause-kept c =
    c.set_read-2.ensures
    ∙ ap (λ (l : List Entry).
    returned_at (get_or c.args.log.now c.args.place c.index-log-place.result).event.read l c.args.place)
    c.set_read.ensures
    ∙ returned_at-again c.older_version-older.result c.args.log.now c.args.place c.index-log-place.result c.requires
