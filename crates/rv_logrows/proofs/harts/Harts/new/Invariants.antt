use Rattle.rv_logrows.specs.Harts.{AreHarts, AreNew}
use Rattle.rv_logrows.proofs.harts.Harts.new.Given as goal

abbrev pub invariant-harts : goal.invariant-harts
invariant-harts l = AreHarts l.hart l.all.items × AreNew l.hart l.all.items
