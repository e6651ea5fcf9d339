-- What is listed is what the edges by versions ask for.
use Rattle.rv_versions.proofs.Common.{rules, indexed_from_events, Indexed, Sound, sound_of, events, List, [], subst}
use Rattle.std.proofs.Common.{append-nil}
use Rattle.rv_versions.proofs.Common.{sym, refl, Event, Link, Option, Reservation, AreBefore, AreAfter}
use Rattle.rv_event.specs.declared.memory_model.MemoryModel.{MemoryModel}
use Rattle.rv_versions.specs.Reserved.{IsReserved}
use Rattle.rv_versions.specs.VersionLinks.{AreVersionLinks}
use Rattle.rv_versions.proofs.Around.{warranted_before, warranted_after}
use Rattle.rv_versions.proofs.Carrying.{carried_before, carried_after}
use Rattle.rv_versions.proofs.Nearest.{nearest}
use Rattle.rv_versions.proofs.Unlinked.{nothing_before, nothing_after}
use Rattle.rv_versions.proofs.versions.Versions.around.Goals as goal

links_are : (model : MemoryModel) (log : List Event) (e : Event) (r : Option Reservation) → Indexed log → Sound log e →
    IsReserved log e r → (before after : List Link) → AreBefore log e r before → AreAfter log e r after →
    AreVersionLinks model log e before after
links_are model log e r known sound is before after b a =
    let into = warranted_before model log e r known sound is before b in
    let out = warranted_after model log e r known sound is after a in
    record {
      edges_before = λ l h. (into l h).edge;
      edges_after = λ l h. (out l h).edge;
      reasons_before = λ l h. (into l h).of_versions;
      reasons_after = λ l h. (out l h).of_versions;
      other_before = λ l h. (into l h).other;
      other_after = λ l h. (out l h).other;
      carried_before = search (carried_before, rules);
      carried_after = search (carried_after, rules);
      nearest = nearest log e r known before after b a;
    }

pub returns-then-is_unlinked : goal.returns-then-is_unlinked
returns-then-is_unlinked c =
    let log = events c.args.self.now in
    let e = c.args.event.now in
    let r = c.args.reserved in
    let known : Indexed log = indexed_from_events log c.of_word-accesses.ensures.known.well_formed in
    let (stores, loads, none) = c.if-is_unlinked.ensures.0 refl in
    let own = c.of_word-accesses.result.now in
    let of-own = c.of_word-accesses.ensures in
    let b : AreBefore log e r [] = subst (λ (x : Option Reservation). AreBefore log e x []) (sym none)
    (nothing_before log e own of-own stores loads) in
    let a : AreAfter log e r c.clear.new.self.items =
    subst (AreAfter log e r) (sym c.clear.ensures.items)
    (subst (λ (x : Option Reservation). AreAfter log e x []) (sym none)
    (nothing_after log e own of-own stores loads)) in (
      [],
      sym (append-nil c.args.before.items),
      λ model. links_are model log e r known (sound_of log e c.requires.sound) c.requires.reserved [] _ b a,
    )

pub returns : goal.returns
returns c =
    let log = events c.args.self.now in
    let e = c.args.event.now in
    let known : Indexed log = indexed_from_events log c.of_word-accesses.ensures.known.well_formed in
    let listed = c.in_ok-links.ensures in (
      listed.0,
      listed.1,
      λ model. links_are model log e c.args.reserved known (sound_of log e c.requires.sound) c.requires.reserved
          listed.0 _ listed.2 c.in_ok-after.ensures,
    )
