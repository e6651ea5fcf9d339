-- What a hart says of a new event, over the log.
use Rattle.rv_edges.proofs.Common.{common_steps, ◌≡◌, ◌≢◌, ◌<◌, List, [], ◌∷◌, ◌++◌, Contains, None, Some, sym}
use Rattle.rv_edges.proofs.Common.{ap, ◌∙◌, subst, arith, none-some, IsLoad, of_hart, writer, Paired, IsStale}
use Rattle.rv_edges.proofs.Common.{event_fault, Indexed, indexed-push, sound_of, named-is, writer-is, Id, Event}
use Rattle.rv_edges.proofs.Common.{MemoryModel, Link, Hart, followed, IsReturned, AreRuleLinks, own_contains}
use Rattle.rv_edges.proofs.Common.{contains_own, own-push, paired_to, paired_from, stale_to, stale_from}
use Rattle.rv_edges.proofs.Common.{hart_from}
use Rattle.std.proofs.Common.{rules}
use Rattle.rv_versions.specs.Reserved.{IsPartner}

module _ (model : MemoryModel) (log : List Event) (e : Event) (known : Indexed log)
    (sound : event_fault log e ≡ None) where
  abbrev own : Hart
  own = hart_from model log e.id.hart

  abbrev new : List Event
  new = log ++ e ∷ []

  -- the log with the event is indexed
  pub known' : Indexed new
  known' = indexed-push log e known (sound_of log e sound)

  -- the hart's events with the new one are those of the log with it
  pub own-new : of_hart e.id.hart new ≡ followed own e
  own-new = own-push log e e.id.hart (λ i. e.id.hart)

  -- a partner among the hart's events is one of the log
  pub partner_from : (lr : Event) → Contains own.events lr → Paired (followed own e) lr e → IsPartner log e lr
  partner_from lr c p =
      let f = own_contains log e.id.hart lr c in
      record { of_log = f.0; paired = search (paired_from, known', own-new) }

  -- and the other way round
  pub partner_to : (lr : Event) → IsPartner log e lr → Contains own.events lr × Paired (followed own e) lr e
  partner_to lr p = (
    contains_own log e.id.hart lr known p.of_log p.paired.earlier.hart,
    subst (λ (es : List Event). Paired es lr e) own-new (paired_to model new e.id.hart known' lr e p.paired),
  )

  -- a stale pair of the hart is one of the log
  pub stale_is : (s : Id) → IsStale (followed own e) e.id s → IsStale new e.id s
  stale_is s p = search (stale_from, known', own-new, rules)

  -- and the other way round
  pub stale_was : (s : Id) → IsStale new e.id s → IsStale (followed own e) e.id s
  stale_was s p = search (own-new, stale_to, known', rules)

  one_of : (a : Event) → own.events ≡ [] → Contains (followed own e) a → e ≡ a
  one_of a none c = grind (arith, common_steps)

  -- a hart without events has no store that makes a load stale, and no link
  pub none_stale_of : own.events ≡ [] → (s : Id) → IsStale new e.id s → ⊥
  none_stale_of none s p =
      let q : IsStale (followed own e) e.id s = stale_was s p in
      let a : e ≡ q.a = one_of q.a none (named-is (followed own e) e.id q.a q.load_named).0 in
      let b : e ≡ q.b = one_of q.b none (named-is (followed own e) s q.b q.store_named).0 in
      let less : q.b.id.seq < q.a.id.seq = q.earlier.seq in
      let at : q.b.id.seq ≡ q.a.id.seq = ap (λ (x : Event). x.id.seq) (sym b ∙ a) in
      omega (arith, less, at)

  -- a hart without events asks for no links
  pub none_linked : own.events ≡ [] → (links : List Link) → links ≡ [] → AreRuleLinks own e links
  none_linked none links is = grind (arith, common_steps)

-- the own store that the event returns, from the writer of what it returned
module _ (model : MemoryModel) (log : List Event) (e : Event) (known : Indexed log) where
  -- a version without a writer is no own store's
  pub returned_none : writer log e.word e.read ≡ None → IsReturned (hart_from model log e.id.hart) e None
  returned_none none w s =
      let c = own_contains log e.id.hart w s.of_hart in
      let is : writer log w.word w.wrote ≡ Some w = known.written w c.0 s.store in
      none-some w (sym none ∙ ap (λ x. writer log x e.read) s.returns.word ∙
      ap (λ v. writer log w.word v) s.returns.version ∙ is)

  -- an own store that the event returns
  pub returned_some : (w : Event) → writer log e.word e.read ≡ Some w → w.id.hart ≡ e.id.hart → IsLoad e →
      IsReturned (hart_from model log e.id.hart) e (Some w.id.seq)
  returned_some w is at load =
      let i = writer-is log e.word e.read w is in (
        w,
        record {
          of_hart = contains_own log e.id.hart w known i.of_log at;
          store = i.store;
          load = load;
          returns = record { word = i.word; version = i.version };
        },
        λ k. w.id.seq,
      )

  -- another hart's store is none
  pub returned_other : (w : Event) → writer log e.word e.read ≡ Some w → w.id.hart ≢ e.id.hart →
      IsReturned (hart_from model log e.id.hart) e None
  returned_other w is other x s =
      let c = own_contains log e.id.hart x s.of_hart in
      let has : writer log x.word x.wrote ≡ Some x = known.written x c.0 s.store in
      let same : writer log e.word e.read ≡ Some x = grind (arith, common_steps) in
      other (ap (λ (y : Event). y.id.hart) (Rattle.std.proofs.lemmas.Option.same_Some w x (sym is ∙ same)) ∙ c.1)
