-- What a pass does not allow is not consistent.
use Rattle.rv_replay.proofs.Common.{inl, inr, rules, subst, IsAllowed, IsConsistent}
use Rattle.rv_replay.proofs.InconsistentRefusals.{exactly_allowed}
use Rattle.rv_replay.proofs.strength.is_consistent.Goals.{in-Allowed, in-Forbidden}
use Rattle.rv_replay.proofs.strength.is_consistent.Goals as goal

pub returns-clause-refused : goal.returns-clause-refused
returns-clause-refused c = elim c.match-branch-2.branch [
  | in-Allowed w ↦ search rules
  | in-Forbidden w ↦ (
      let allowed = exactly_allowed c.args.model c.args.log.now c.in_ok-replay.field-0 c.in_ok-replay.ensures in
      let never : IsConsistent c.args.model c.args.log.now → ⊥ = λ ok. elim w.in-Forbidden.is [
        | inl f ↦ subst IsAllowed f.1 (allowed.1 ok)
        | inr m ↦ subst IsAllowed m.1 (allowed.1 ok)
      ] in
      rw w.result-is (λ no. never))
]
