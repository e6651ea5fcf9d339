-- The entry joins the history with the links handed in, and its hart with it.
use Rattle.rv_edges.proofs.Common.{arith, common_steps, ◌≡◌, List, [], ◌∷◌, ◌++◌, None, sym, ap, ◌∙◌, subst, length}
use Rattle.rv_edges.proofs.Common.{slice_set, event_fault, events, Event, Hart, Follows, IsReturned, IsHartOf}
use Rattle.rv_edges.proofs.Common.{hart_of_log, AreEnoughLinks, IsReserved, Past, kept_from, happened, Joined}
use Rattle.rv_edges.proofs.Common.{IsHistory, kept_of, AreHarts, hart_from, hart_in, OwnLinks}
use Rattle.std.proofs.Common.{rules}
use Rattle.rv_edges.proofs.CarriedEdges.{pushed_sides}
use Rattle.rv_edges.proofs.Enough.{enough_is}
use Rattle.rv_edges.proofs.IndexFacts.{log-is, follows, past-indexed}
use Rattle.rv_edges.proofs.GrownHarts.{events-pop, event-is, found-is, found-of_log, harts-grow, harts-stay}
use Rattle.rv_edges.proofs.Sides.{kept_one, same_front}
use Rattle.rv_edges.proofs.history.History.push_known.Goals as goal

pub push-kept-requires-clause-sound : goal.push-kept-requires-clause-sound
push-kept-requires-clause-sound c =
    let log : events c.self.inside.versions ≡ happened c.args.self.now.kept = search (log-is, rules) in
    subst (λ (l : List Event). event_fault l c.args.entry.event ≡ None) (sym log) c.requires.sound

pub push-kept-requires-clause-reserved : goal.push-kept-requires-clause-reserved
push-kept-requires-clause-reserved c =
    let log : events c.self.inside.versions ≡ happened c.args.self.now.kept = search (log-is, rules) in
    subst (λ (l : List Event). IsReserved l c.args.entry.event c.args.known.reserved) (sym log) c.requires.known.1

module _ (c : goal.In-Some-get_mut) where
  abbrev e : Event
  e = c.args.entry.event

  both : c.in-Some.log.now ++ c.in-Some.last.now ∷ [] ≡ c.self.inside.versions ++ c.args.entry ∷ []
  both = sym c.in-Some.ensures.cases.0 ∙ c.entries.ensures.value ∙ c.in_default.ensures.pushed

  own : AreHarts c.self.inside.model (events c.self.inside.versions) c.open_harts.new.harts.items
  own = c.in_ok-open_harts.ensures.same (events c.self.inside.versions) c.self.invariant.own

  of_log : IsHartOf (events c.in-Some.log.now) c.in-Some-get_mut.hart.now
  of_log = found-of_log c.self.inside.model c.self.inside.versions c.in-Some.log.now c.args.entry c.in-Some.last.now
      c.open_harts.new.harts.items c.in-Some-get_mut.hart.now both own c.in_ok-open_harts.ensures.open
      c.in-Some-get_mut.ensures.value

  same-event : c.in-Some.last.now.event ≡ e
  same-event = event-is c.self.inside.model c.self.inside.versions c.in-Some.log.now c.args.entry c.in-Some.last.now
      c.open_harts.new.harts.items c.in-Some-get_mut.hart.now both own c.in_ok-open_harts.ensures.open
      c.in-Some-get_mut.ensures.value

  abbrev before_it : Hart
  before_it = hart_of_log (events c.in-Some.log.now) c.in-Some-get_mut.hart.now

  here : before_it ≡ hart_in c.args.self.now e.id.hart
  here =
      let log : events c.self.inside.versions ≡ happened c.args.self.now.kept = search (log-is, rules) in
      found-is c.self.inside.model c.self.inside.versions c.in-Some.log.now c.args.entry c.in-Some.last.now
      c.open_harts.new.harts.items c.in-Some-get_mut.hart.now both own c.in_ok-open_harts.ensures.open
      c.in-Some-get_mut.ensures.value
      ∙ ap (λ (l : List Event). hart_from c.self.inside.model l e.id.hart) log
      ∙ ap (λ (w : Past). hart_from w.model (happened c.args.self.now.kept) e.id.hart) c.self.view_is

pub push-joined-requires-clause-of_log : goal.push-joined-requires-clause-of_log
push-joined-requires-clause-of_log c = of_log c

pub push-joined-requires-clause-follows : goal.push-joined-requires-clause-follows
push-joined-requires-clause-follows c = subst (Follows (before_it c)) (sym (same-event c))
    (subst (λ (x : Hart). Follows x (e c)) (sym (here c)) (follows c.args.self.now (e c) c.requires.sound))

pub push-joined-requires-clause-returned : goal.push-joined-requires-clause-returned
push-joined-requires-clause-returned c =
    subst (λ (a : Event). IsReturned (before_it c) a c.args.known.returned) (sym (same-event c))
    (subst (λ (x : Hart). IsReturned x (e c) c.args.known.returned) (sym (here c)) c.requires.known.0)

pub push-joined-requires-clause-linked : goal.push-joined-requires-clause-linked
push-joined-requires-clause-linked c =
    let past : Past = c.args.self.now in
    let known = past-indexed c.self.inside.model c.self.inside.versions c.self.inside.harts.items c.self.inside.links
    c.self.invariant past c.self.view_is in
    subst (λ (a : Event). AreEnoughLinks (before_it c) a c.as_slice-before.result.now) (sym (same-event c))
    (subst (λ (x : Hart). AreEnoughLinks x (e c) c.as_slice-before.result.now) (sym (here c))
    (subst (AreEnoughLinks (hart_in past (e c).id.hart) (e c)) (sym c.as_slice-before.ensures)
    (enough_is past.model past.kept (kept_of (e c) c.args.around.now) known c.requires.sound c.requires.linked)))

pub invariant_of-self-in-Err-joined : goal.invariant_of-self-in-Err-joined
invariant_of-self-in-Err-joined c =
    let model = c.self.inside.model in
    let entries : c.pop.new.self ≡ c.self.inside.versions = search (same_front, rules) in
    let links : c.drop_last-in-Err-joined.new.self ≡ c.self.inside.links =
    search (same_front, rules) in
    let log : events c.pop.new.self ≡ events c.self.inside.versions = ap events entries in
    let both = sym c.in-Some.ensures.cases.0 ∙ c.entries.ensures.value ∙ c.in_default.ensures.pushed in
    let own = c.in_ok-open_harts.ensures.same (events c.self.inside.versions) c.self.invariant.own in
    let stay = harts-stay c.self.inside.model c.self.inside.versions c.in-Some.log.now c.args.entry c.in-Some.last.now
    c.open_harts.new.harts.items c.in-Some-get_mut.hart.now both own c.in_ok-open_harts.ensures.open
    c.in-Some-get_mut.ensures.value c.push-joined.new.self c.in-Err-joined.ensures.model
    c.in-Err-joined.ensures.number c.in-Err-joined.ensures.unchanged in
    record {
      lengths = ap length log ∙ c.self.invariant.lengths ∙ sym (ap length links);
      history =
          subst (λ (ls : List OwnLinks). IsHistory model (kept_from (events c.pop.new.self) ls)) (sym links)
          (subst (λ (es : List Event). IsHistory model (kept_from es c.self.inside.links)) (sym log)
          c.self.invariant.history);
      own =
          subst (λ (es : List Event). AreHarts model es (slice_set c.open_harts.new.harts.items
          c.args.entry.event.id.hart c.push-joined.new.self)) (sym log) stay;
    }

record Pushed (c : goal.In_default-joined) : Type 0 where
  pub lengths : length (events c.push-kept.new.self) ≡ length c.append.new.self
  pub history : IsHistory c.self.inside.model (kept_from (events c.push-kept.new.self) c.append.new.self)
  pub cut : kept_from (events c.push-kept.new.self) c.append.new.self
      ≡ kept_from (events c.self.inside.versions) c.self.inside.links ++ kept_of c.args.entry.event
      c.args.around.now ∷ []

module _ (c : goal.In_default-joined) where
  more : events c.push-kept.new.self ≡ events c.self.inside.versions ++ c.args.entry.event ∷ []
  more = events-pop c.push-kept.new.self c.self.inside.versions c.args.entry c.in_default.ensures.pushed

  pushed : Pushed c
  pushed =
      let e = c.args.entry.event in
      let k = kept_of e c.args.around.now in
      let h = kept_from (events c.self.inside.versions) c.self.inside.links in
      let joined : Joined c.self.inside.model h k = grind (arith, common_steps) in
      let l : OwnLinks = record { before = c.as_slice-before.result.now; after = c.as_slice.result.now } in
      let one : kept_one e l ≡ k = grind (arith, common_steps) in
      let p = pushed_sides c.self.inside.model (events c.self.inside.versions) (events c.push-kept.new.self)
      c.self.inside.links c.append.new.self e l k
      c.self.invariant.lengths c.self.invariant.history joined one
      more c.in_ok-append.ensures.pushed in
      record { lengths = p.0; history = p.1; cut = p.2 }

pub invariant_of-self-in_default-joined : goal.invariant_of-self-in_default-joined
invariant_of-self-in_default-joined c =
    let joined = c.in_default-joined.ensures in
    let both = sym c.in-Some.ensures.cases.0 ∙ c.entries.ensures.value ∙ c.in_default.ensures.pushed in
    let own = c.in_ok-open_harts.ensures.same (events c.self.inside.versions) c.self.invariant.own in
    let grow = harts-grow c.self.inside.model c.self.inside.versions c.in-Some.log.now c.args.entry c.in-Some.last.now
    c.open_harts.new.harts.items c.in-Some-get_mut.hart.now both own c.in_ok-open_harts.ensures.open
    c.in-Some-get_mut.ensures.value c.push-joined.new.self joined.model joined.number joined.pushed in
    record {
      lengths = (pushed c).lengths;
      history = (pushed c).history;
      own =
          subst (λ (es : List Event). AreHarts c.self.inside.model es (slice_set c.open_harts.new.harts.items
          c.args.entry.event.id.hart c.push-joined.new.self)) (sym (more c)) grow;
    }

pub returns-clause-pushed : goal.returns-clause-pushed
returns-clause-pushed c =
    let k = kept_of c.args.entry.event c.args.around.now in
    let log = c.in_default.ensures.pushed ∙ ap (λ (w : Past). w.log ++ c.args.entry ∷ []) c.self.view_is in
    let kept = (pushed c).cut ∙ ap (λ (w : Past). w.kept ++ k ∷ []) c.self.view_is in
    λ i. record { model = (c.self.view_is i).model; log = log i; kept = kept i }
