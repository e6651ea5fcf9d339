-- An event has an edge to itself exactly where it or its LR returned what it stores.
use Rattle.rv_versions.proofs.Common.{◌≡◌, List, [], ◌∷◌, ◌++◌, Contains, Option, ◌↔◌, inl, inr, refl, sym, ◌∙◌}
use Rattle.rv_versions.proofs.Common.{arith, subst, same_Some, Contains-push, rules, common_steps, edge_of}
use Rattle.rv_versions.proofs.Common.{Indexed, Sound, indexed-push, writer-is, HasReason, IsEdge, Event}
use Rattle.rv_versions.proofs.Common.{MemoryModel, Reason, Preserved, Coherence, ReadsFrom, FromRead, AtomicIn}
use Rattle.rv_versions.proofs.Common.{AtomicOut, ReturnsOwn, IsReserved, Reservation}
use Rattle.rv_versions.proofs.Around.{reserved_is, reserved_of, writer_own, store-memory}
use Rattle.rv_versions.proofs.Paired.{in_new}

module _ (model : MemoryModel) (log : List Event) (e : Event) (reserved : Option Reservation) (known : Indexed log)
    (sound : Sound log e) (is : IsReserved log e reserved) where
  abbrev new : List Event
  new = log ++ e ∷ []

  known' : Indexed new
  known' = indexed-push log e known sound

  here : Contains new e
  here = Contains-push log e

  why_of : ReturnsOwn e reserved → (r : Reason) × HasReason model new r e e
  why_of h = search (writer_own, reserved_is, in_new, rules)

  own_of : (r : Reason) → HasReason model new r e e → ReturnsOwn e reserved
  own_of (Preserved k) h = let s = h.earlier.seq in absurd (omega arith)
  own_of Coherence h = let v = h.versions in absurd (omega arith)
  own_of ReadsFrom h = let f = writer-is new e.word e.read e h.is_writer in (f.store, inl (h.load, f.version))
  own_of FromRead h = absurd (h.other refl)
  own_of AtomicIn h =
      let f = writer-is new h.lr.word h.lr.read e h.is_writer in
      let r = reserved_of model log e reserved known sound is h.lr (record { of_log = h.of_log; paired = h.paired })
      in (
        f.store,
        inr (record {
          reservation = r.0;
          is_reserved = r.1;
          word = sym r.2 ∙ f.word;
          version = grind (arith, common_steps);
        }),
      )
  own_of AtomicOut h = absurd (h.other_hart refl)

  -- when the event has an edge to itself
  pub own_edge : ReturnsOwn e reserved ↔ ((r : Reason) × IsEdge model new e.id r e.id)
  own_edge = (to, from)
    where
      to : ReturnsOwn e reserved → (r : Reason) × IsEdge model new e.id r e.id
      to p =
          let w = why_of p in
          (w.0, edge_of model new known' w.0 e e here here (store-memory e p.0) (store-memory e p.0) w.1)

      from : (r : Reason) × IsEdge model new e.id r e.id → ReturnsOwn e reserved
      from (r, edge) =
          let a : edge.a ≡ e = same_Some edge.a e (sym edge.from_named ∙ known'.own e here) in
          let b : edge.b ≡ e = same_Some edge.b e (sym edge.to_named ∙ known'.own e here) in
          own_of r (subst (λ (x : Event). HasReason model new r e x) b (subst (λ
          (x : Event). HasReason model new r x edge.b) a edge.why))
