use Rattle.std.proofs.Common.{List, Contains, take, arith, subst, sym, ◌∙◌, inl, inr, refl, ◌<◌, length}
use Rattle.std.proofs.lemmas.List.{take_more, take_all}
use Rattle.std.proofs.lemmas.List.Elements.{Contains-push_cases, Contains-get_or}
use Rattle.std.proofs.lemmas.Bool.{false≢true}
use Rattle.rv_event.specs.Log.{events}
use Rattle.rv_event.specs.Relations.{Paired}
use Rattle.rv_event.specs.declared.event.Entry.{Entry}
use Rattle.rv_event.specs.declared.event.Event.{Event}
use Rattle.rv_versions.proofs.Members.{Contains-map, Contains-mapped}
use Rattle.rv_parts.proofs.versions.find_reservation.Goals as goal

pub returns-then-is_paired : goal.returns-then-is_paired
returns-then-is_paired c =
    let entries = c.args.entries.now in
    let e = c.args.event.now in
    let x = c.entry-item.result in
    let low : c.loop-entry.entry-index < length entries = omega arith in
    let here : Contains entries x = subst (Contains entries) (sym c.entry-item.is)
    (Contains-get_or entries c.loop-entry.entry-index x low) in (
      x.event,
      record {
        of_log = Contains-mapped (λ (y : Entry). y.event) entries x here;
        paired = subst (λ (l : List Event). Paired l x.event e) c.requires (c.is_paired.ensures.0 c.if-is_paired.true);
      },
      refl,
      refl,
    )

pub loop-entry-preserved : goal.loop-entry-preserved
loop-entry-preserved c m q h =
    let t = take_more c.args.entries.now c.loop-entry.entry-index c.entry-item.result (omega arith) in
    elim (Contains-push_cases (take c.loop-entry.entry-index c.args.entries.now) c.entry-item.result m (rw
    (t, ← c.entry-item.is) at q)) [
      | inl old ↦ c.loop-entry.invariant m old h
      | inr is ↦ false≢true (sym c.if-is_paired.false ∙
          c.is_paired.ensures.1 (subst (λ (y : Entry). Paired (events c.args.log.now) y.event c.args.event.now)
          (sym is) h))
    ]

pub returns : goal.returns
returns c lr p =
    let entries = c.args.entries.now in
    let e = c.args.event.now in
    let none = rw (take_all c.loop-entry.entry-index entries (omega arith)) at c.loop-entry.invariant in
    let m = Contains-map (λ (y : Entry). y.event) entries lr p.of_log in
    none m.0 m.1 (subst (λ (x : Event). Paired (events c.args.log.now) x e) (sym m.2) (subst (λ
    (l : List Event). Paired l lr e) (sym c.requires) p.paired))
