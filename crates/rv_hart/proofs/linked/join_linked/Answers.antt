use Rattle.rv_hart.proofs.Common.{◌≡◌, ◌+◌, List, ℕ, get_or, sym, subst, take, take_all, get_or_default}
use Rattle.rv_hart.proofs.Common.{Contains-get_or, Link, Preserved}
use Rattle.rv_hart.proofs.FromLinks.{IsJoined, joined-none, joined-more, joined-same}
use Rattle.rv_hart.proofs.linked.join_linked.Goals.{in-Preserved, in_default}
use Rattle.rv_hart.proofs.linked.join_linked.Goals as goal

pub join_into-requires : goal.join_into-requires
join_into-requires c =
    let links : List Link = c.args.links.now in
    let i : ℕ = c.loop-link.link-index in
    let d : Link = record { id = record { hart = 0; seq = 0 }; reason = Preserved 0 } in
    c.requires (get_or links i d) c.in-Preserved._rule (Contains-get_or links i d c.loop-link-test.true)
    c.in-Preserved.is

pub loop-link-init : goal.loop-link-init
loop-link-init c = joined-none c.args.rows.now c.args.row.now

pub loop-link-preserved : goal.loop-link-preserved
loop-link-preserved c =
    let rows : List (List ℕ) = c.args.rows.now in
    let links : List Link = c.args.links.now in
    let i : ℕ = c.loop-link.link-index in
    let old : List ℕ = c.args.row.now in
    let d : Link = record { id = record { hart = 0; seq = 0 }; reason = Preserved 0 } in
    let l : Link = get_or links i d in
    let at : l ≡ get_or links i l = get_or_default links i d l c.loop-link-test.true in
    elim c.match-link.branch [
      | in-Preserved w ↦ (
          let more : IsJoined rows (take (i + 1) links) old w.join_into.new.row =
          search (joined-more, in-Preserved) in
          subst (IsJoined rows (take (i + 1) links) old) (sym w.row-is) more)
      | in_default w ↦ subst (IsJoined rows (take (i + 1) links) old) (sym w.row-is)
          (joined-same rows links i l c.loop-link-test.true at old c.loop-link.row c.loop-link.invariant
          w.in_default.not-Preserved)
    ]

pub returns : goal.returns
returns c = subst (λ (ls : List Link). IsJoined c.args.rows.now ls c.args.row.now c.loop-link.row)
    (take_all c.loop-link.link-index c.args.links.now c.loop-link-test.false) c.loop-link.invariant
