use Rattle.std.proofs.Common.{ℕ, List, ◌≡◌, ◌+◌, ◌∷◌, ◌∙◌, ap, drop, subst}
use Rattle.rv_flow.specs.declared.carrier.Carrier.{Carrier}
use Rattle.rv_commits.specs.Harts.{IsCarrierFields}
use Rattle.rv_commits.proofs.Merging.{next-behind}
use Rattle.rv_commits.proofs.queue.WaitingHart.next_carrier.Goals as goal

pub returns-in_ok-carrier_row-in-Some-clause-next : goal.returns-in_ok-carrier_row-in-Some-clause-next
returns-in_ok-carrier_row-in-Some-clause-next c =
    let k = c.args.self.now.carriers in
    let next : Carrier = c.in-Some.carrier.now in record {
      carrier = next;
      is = subst (λ (cs : List Carrier). drop k cs ≡ next ∷ drop (k + 1) cs) c.carriers.ensures
          (next-behind c.carriers.result.now k next c.in-Some.ensures.lookup.3.0 c.in-Some.ensures.lookup.1);
      number = c.if-carrier-self.true;
      id = c.in_ok-carrier_row-in-Some.ensures.id ∙
          ap (λ (n : ℕ). record { hart = c.args.self.now.rows.hart; seq = n }) c.if-carrier-self.true;
      fields = subst (λ (n : ℕ). IsCarrierFields c.args.self.now.rows.hart n c.in_ok-carrier_row-in-Some.field-0)
          c.if-carrier-self.true c.in_ok-carrier_row-in-Some.ensures.fields;
      row = c.in_ok-carrier_row-in-Some.ensures.row;
    }
