-- The LR is the last of its hart that opens or closes a reservation.
use Rattle.rv_endless.proofs.Partners.{partner-never, partner-none, partner-some}
use Rattle.rv_event.specs.Log.{events}
use Rattle.rv_event.specs.declared.event.Event.{Event}
use Rattle.rv_event.specs.declared.event.Op.TheVariants.{Lr, Sc}
use Rattle.rv_past.specs.Laws.{IsPartner}
use Rattle.std.proofs.Common.{Bor, Option, rules, subst, sym, [], ◌++◌, ◌∷◌, ◌≡◌}
use Rattle.std.specs.Option.{option_copied}
use Rattle.rv_endless.proofs.window.find_partner.Goals as goal

pub returns-in_err-last : goal.returns-in_err-last
returns-in_err-last c = λ indexed last.
    subst (λ (o : Option (Bor Event)). IsPartner (events c.args.log.now ++ c.args.event.now ∷ []) c.args.event.now
    (option_copied o)) (sym c.from_residual.ensures)
    (partner-never (events c.args.log.now) c.args.event.now indexed last (c.in_err-last.ensures indexed last))

pub returns-then-eq : goal.returns-then-eq
returns-then-eq c = λ indexed last.
    let sc : c.args.event.now.op ≡ Sc = search rules in
    let lr : c.in_ok-last.last.now.op ≡ Lr = search rules in
    partner-some (events c.args.log.now) c.args.event.now indexed last c.in_ok-last.last.now
    (c.in_ok-last.ensures indexed last) sc lr

pub returns-else-eq : goal.returns-else-eq
returns-else-eq c = λ indexed last.
    partner-none (events c.args.log.now) c.args.event.now indexed last c.in_ok-last.last.now
    (c.in_ok-last.ensures indexed last) (λ lr. search rules)
