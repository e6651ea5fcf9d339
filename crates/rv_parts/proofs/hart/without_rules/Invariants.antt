use Rattle.std.proofs.Common.{◌≡◌, map, take}
use Rattle.rv_event.specs.declared.reason.Link.{Link}
use Rattle.rv_event.specs.declared.reason.Reason.TheVariants.{Coherence}
use Rattle.rv_parts.proofs.hart.without_rules.Given as goal

abbrev pub invariant-loop-link : goal.invariant-loop-link
invariant-loop-link g l = l.others.items ≡ map (λ (m : Link). record m { reason = Coherence })
    (take l.link-index l.links)
