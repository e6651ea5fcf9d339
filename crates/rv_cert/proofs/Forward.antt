-- In a lawful order each edge goes forward, so no walk of edges closes.
use Rattle.std.proofs.lemmas.Grind.{common_steps}
use Rattle.std.proofs.Common.{rules}
use Rattle.rv_event.specs.declared.memory_model.MemoryModel.{MemoryModel}
use Rattle.std.proofs.Common.{◌<◌, ◌≤◌, List, [], ◌∷◌, Contains, ◌⊎◌, inl, inr, arith}
use Rattle.std.proofs.lemmas.Bool.{cases_order}
use Rattle.rv_event.specs.Log.{Earlier}
use Rattle.rv_event.specs.Orders.{place, Before, Lawful}
use Rattle.rv_event.specs.Edges.{HasReason, IsEdge, IsStale, IsFromRead}
use Rattle.rv_event.proofs.Names.{place-same, named-is}
use Rattle.rv_event.specs.declared.event.Id.{Id}
use Rattle.rv_event.specs.declared.event.Event.{Event}
use Rattle.rv_event.specs.declared.reason.Reason.{Reason}
use Rattle.rv_event.specs.declared.reason.Reason.TheVariants.{Preserved, Coherence, ReadsFrom, FromRead, AtomicIn}
use Rattle.rv_event.specs.declared.reason.Reason.TheVariants.{AtomicOut}
use Rattle.rv_cert.specs.Certificates.{start_of, IsWalk, IsClosedWalk, Certifies}
use Rattle.rv_cert.specs.declared.certificate.Certificate.{Certificate}
use Rattle.rv_cert.specs.declared.certificate.Certificate.TheVariants.{Circle, Stale}

module _ (model : MemoryModel) (log : List Event) (order : List Id) (lawful : Lawful model log order) where
  -- a load stands before each newer store: that store is no candidate, and the order is total
  from_read-forward : (a b : Event) → Contains log a → Contains log b → Contains order a.id → IsFromRead a b →
      Before order a b
  from_read-forward a b ca cb in_order h = search (cases_order, place-same, rules)

  -- the operation of any reason stands before the other
  reason-forward : (a b : Event) → Contains log a → Contains log b → Contains order a.id → (reason : Reason) →
      HasReason model log reason a b → Before order a b
  reason-forward a b ca cb in_order (Preserved k) h = lawful.program_order k a b h
  reason-forward a b ca cb in_order Coherence h = lawful.write_order a b ca cb h.first h.second h.word h.versions
  reason-forward a b ca cb in_order ReadsFrom h =
      go ((lawful.load_values b cb h.load).from_writer a h.is_writer).visible
    where
      go : Before order a b ⊎ Earlier a b → Before order a b
      go (inl before) = before
      go (inr earlier) = absurd (h.not_earlier earlier)
  reason-forward a b ca cb in_order FromRead h = from_read-forward a b ca cb in_order h
  reason-forward a b ca cb in_order AtomicIn h =
      (lawful.atomicity h.lr b h.of_log cb h.paired).after_writer a h.is_writer
  reason-forward a b ca cb in_order AtomicOut h =
      (lawful.atomicity h.lr a h.of_log ca h.paired).before_others b cb h.store h.word h.other_hart h.versions

  -- each edge goes forward in a lawful order
  pub edge-forward : (i j : Id) (reason : Reason) → IsEdge model log i reason j → place order i < place order j
  edge-forward i j reason e =
      let from = named-is log i e.a e.from_named in
      let to = named-is log j e.b e.to_named in
      let in_order : Contains order i = grind (arith, common_steps) in
      let before : Before order e.a e.b = reason-forward e.a e.b from.0 to.0 (rw from.1 at in_order) reason e.why in
      rw (from.1, to.1) before

  -- a walk never leads back
  walk-forward : (steps : List (Id × Reason)) (end : Id) → IsWalk model log steps end →
      place order (start_of steps end) ≤ place order end
  walk-forward [] end w = omega arith
  walk-forward (step ∷ rest) end w =
      let first = edge-forward step.0 (start_of rest end) step.1 w.0 in
      let others = walk-forward rest end w.1 in
      omega arith

  no_circle : (steps : List (Id × Reason)) → IsClosedWalk model log steps → ⊥
  no_circle [] w = w
  no_circle (step ∷ rest) w =
      let first = edge-forward step.0 (start_of rest step.0) step.1 w.0 in
      let others = walk-forward rest step.0 w.1 in
      omega arith

  no_stale : (load store : Id) → IsStale log load store → ⊥
  no_stale load store s = search (named-is, rules)

  -- so no log with a lawful order has a certificate
  pub no_certificate : (c : Certificate) → Certifies model log c → ⊥
  no_certificate (Circle steps) h = no_circle steps h
  no_certificate (Stale load store) h = no_stale load store h
