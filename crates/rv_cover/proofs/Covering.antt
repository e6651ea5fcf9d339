-- Kept links and the links listed for a new event carry every edge.
use Rattle.std.proofs.Common.{◌≡◌, ℕ, zero, suc, ◌+◌, ◌≤◌, List, [], ◌∷◌, ◌++◌, Contains, ◌⊎◌, inl, inr, sym, ap}
use Rattle.std.proofs.Common.{◌∙◌, ◌≢◌, arith, subst}
use Rattle.std.proofs.lemmas.List.Elements.{Contains-push_cases}
use Rattle.std.proofs.lemmas.Option.{same_Some}
use Rattle.std.proofs.lemmas.Grind.{common_steps}
use Rattle.rv_event.proofs.Names.{named-is}
use Rattle.rv_event.proofs.Indexed.{Indexed, Sound, indexed-push}
use Rattle.rv_event.proofs.Settled.{IsEdge-settled, HasReason-settled, grows-push}
use Rattle.rv_event.specs.Operations.{IsMemory, IsLoad, IsStore}
use Rattle.rv_event.specs.Log.{named, Earlier}
use Rattle.rv_event.specs.Preserved.{Rule}
use Rattle.rv_event.specs.Edges.{HasReason, IsEdge, IsCoherence, IsFromRead, IsAtomicOut}
use Rattle.rv_event.specs.declared.event.Id.{Id}
use Rattle.rv_event.specs.declared.event.Event.{Event}
use Rattle.rv_event.specs.declared.memory_model.MemoryModel.{MemoryModel}
use Rattle.rv_event.specs.declared.reason.Reason.{Reason}
use Rattle.rv_event.specs.declared.reason.Reason.TheVariants.{Preserved, Coherence, ReadsFrom, FromRead, AtomicIn}
use Rattle.rv_event.specs.declared.reason.Reason.TheVariants.{AtomicOut}
use Rattle.rv_cover.specs.Paths.{Path, one, more, Reaches, Covers}
use Rattle.rv_cover.specs.Carries.{IsSplit, Carries}
use Rattle.rv_cover.specs.Laws.{Either}

-- a path and one that goes on from its end
pub path-append : (X : Type 0) (Step : X → X → Type 0) (i j k : X) → Path X Step i j → Path X Step j k → Path X Step i k
path-append X Step i j k (one s) q = more s q
path-append X Step i j k (more {j = m} s p) q = more s (path-append X Step m j k p q)

-- a path of steps that are steps of another kind
pub path-map : (X : Type 0) (Step Other : X → X → Type 0) → ((i j : X) → Step i j → Other i j) → (i j : X) →
    Path X Step i j → Path X Other i j
path-map X Step Other f i j (one s) = one (f i j s)
path-map X Step Other f i j (more {j = m} s p) = more (f i m s) (path-map X Step Other f m j p)

-- an event stands after whatever reaches it
pub reaches-earlier : (model : MemoryModel) (log : List Event) (a b : Event) → Reaches model log a b → Earlier a b
reaches-earlier model log a b (one s) = s.1.earlier
reaches-earlier model log a b (more {j = m} s p) =
    let first : Earlier a m = s.1.earlier in
    let rest : Earlier m b = reaches-earlier model log m b p in
    let x = first.seq in
    let y = rest.seq in
    record { hart = first.hart ∙ rest.hart; seq = omega arith }

-- the reason of an edge between two events of the log, as an edge between their ids
pub edge_of : (model : MemoryModel) (log : List Event) → Indexed log → (reason : Reason) (a b : Event) →
    Contains log a → Contains log b → IsMemory a → IsMemory b → HasReason model log reason a b →
    IsEdge model log a.id reason b.id
edge_of model log known reason a b ca cb ma mb why = grind (arith, common_steps)

other_ids : (a b : Event) → Earlier a b → a.id ≢ b.id
other_ids a b e same = let s = e.seq in let t : a.id.seq ≡ b.id.seq = ap (λ (i : Id). i.seq) same in omega arith

store-memory : (a : Event) → IsStore a → IsMemory a
store-memory a s = grind arith

load-memory : (a : Event) → IsLoad a → IsMemory a
load-memory a s = grind arith

-- what rules reach, links reach
pub reaches-covered : (model : MemoryModel) (log : List Event) (Linked : Id → Id → Type 0) → Indexed log →
    Covers model log Linked → (a b : Event) → Reaches model log a b → Path Id Linked a.id b.id
reaches-covered model log Linked known covers a b (one s) =
    covers a.id b.id (Preserved s.0) (other_ids a b s.1.earlier)
    (edge_of model log known (Preserved s.0) a b s.1.from s.1.to s.1.from_memory s.1.to_memory s.1)
reaches-covered model log Linked known covers a b (more {j = m} s p) =
    path-append Id Linked a.id m.id b.id
    (covers a.id m.id (Preserved s.0) (other_ids a m s.1.earlier)
    (edge_of model log known (Preserved s.0) a m s.1.from s.1.to s.1.from_memory s.1.to_memory s.1))
    (reaches-covered model log Linked known covers m b p)

module _ (model : MemoryModel) (log : List Event) (e : Event) (Kept Listed : Id → Id → Type 0) (known : Indexed log)
    (sound : Sound log e) (covers : Covers model log Kept) (carries : Carries model log e Listed) where
  abbrev new : List Event
  new = log ++ e ∷ []

  abbrev Both : Id → Id → Type 0
  Both = Either Kept Listed

  kept : (i j : Id) → Path Id Kept i j → Path Id Both i j
  kept i j p = path-map Id Kept Both (λ i j k. inl k) i j p

  listed : (i j : Id) → Listed i j → Path Id Both i j
  listed i j l = one (inr l)

  join : (i j k : Id) → Path Id Both i j → Path Id Both j k → Path Id Both i k
  join i j k p q = path-append Id Both i j k p q

  not_split : (reason : Reason) (a b : Event) → (IsSplit model log new reason a b → ⊥) → Listed a.id b.id ⊎
      IsSplit model log new reason a b → Path Id Both a.id b.id
  not_split reason a b never (inl l) = listed a.id b.id l
  not_split reason a b never (inr s) = absurd (never s)

  -- no old event stands after the new one
  none_after : (b : Event) → Contains log b → Earlier e b → ⊥
  none_after b c earlier = grind (arith, common_steps)

  same_event : (a b : Event) → Contains log a → Contains log b → a.id ≡ b.id → a ≡ b
  same_event a b ca cb same = same_Some a b (sym (known.own a ca) ∙ ap (named log) same ∙ known.own b cb)

  old_edge : (reason : Reason) (a b : Event) → Contains log a → Contains log b → IsMemory a → IsMemory b → a.id ≢ b.id →
      HasReason model log reason a b → Path Id Both a.id b.id
  old_edge reason a b ca cb ma mb other why =
      kept a.id b.id (covers a.id b.id reason other (edge_of model log known reason a b ca cb ma mb why))

  old_coherence : (a b : Event) → Contains log a → Contains log b → IsCoherence a b → Path Id Both a.id b.id
  old_coherence a b ca cb h =
      old_edge Coherence a b ca cb (store-memory a h.first) (store-memory b h.second)
      (λ same. let w : a.wrote ≡ b.wrote = ap (λ (x : Event). x.wrote) (same_event a b ca cb same) in
      let v = h.versions in omega arith) h

  -- rules into the new event, the nearest first
  rule_into : (n : ℕ) (k : ℕ) (a : Event) → Contains log a → e.id.seq ≤ a.id.seq + n → Rule model new k a e →
      Path Id Both a.id e.id
  rule_into zero k a ca near r = let s = r.earlier.seq in absurd (omega arith)
  rule_into (suc n) k a ca near r = go (carries.into (Preserved k) a ca r.from_memory r.to_memory r)
      (λ c. rule_into n c)
    where
      go : Listed a.id e.id ⊎ IsSplit model log new (Preserved k) a e →
          ((j : ℕ) (c : Event) → Contains log c → e.id.seq ≤ c.id.seq + n → Rule model new j c e →
          Path Id Both c.id e.id) → Path Id Both a.id e.id
      go (inl l) again = listed a.id e.id l
      go (inr s) again =
          let later : Earlier a s.c = reaches-earlier model log a s.c s.splits.0 in
          let low = later.seq in
          join a.id s.c.id e.id (kept a.id s.c.id (reaches-covered model log Kept known covers a s.c s.splits.0))
          (again s.splits.1.0 s.c s.of_log (omega arith) s.splits.1.1)

  -- stores of lower versions, the nearest first
  coherence_into : (n : ℕ) (a : Event) → Contains log a → e.wrote ≤ a.wrote + n → IsCoherence a e →
      Path Id Both a.id e.id
  coherence_into zero a ca near h = let s = h.versions in absurd (omega arith)
  coherence_into (suc n) a ca near h = go
      (carries.into Coherence a ca (store-memory a h.first) (store-memory e h.second) h) (λ c. coherence_into n c)
    where
      go : Listed a.id e.id ⊎ IsSplit model log new Coherence a e →
          ((c : Event) → Contains log c → e.wrote ≤ c.wrote + n → IsCoherence c e → Path Id Both c.id e.id) →
          Path Id Both a.id e.id
      go (inl l) again = listed a.id e.id l
      go (inr s) again =
          let low = s.splits.0.versions in
          join a.id s.c.id e.id (old_coherence a s.c ca s.of_log s.splits.0)
          (again s.c s.of_log (omega arith) s.splits.1)

  -- stores of higher versions
  coherence_out : (n : ℕ) (b : Event) → Contains log b → b.wrote ≤ e.wrote + n → IsCoherence e b →
      Path Id Both e.id b.id
  coherence_out zero b cb near h = let s = h.versions in absurd (omega arith)
  coherence_out (suc n) b cb near h = go (carries.out Coherence b cb (store-memory e h.first)
      (store-memory b h.second) h) (λ c. coherence_out n c)
    where
      go : Listed e.id b.id ⊎ IsSplit model log new Coherence e b →
          ((c : Event) → Contains log c → c.wrote ≤ e.wrote + n → IsCoherence e c → Path Id Both e.id c.id) →
          Path Id Both e.id b.id
      go (inl l) again = listed e.id b.id l
      go (inr s) again =
          let low = s.splits.1.versions in
          join e.id s.c.id b.id (again s.c s.of_log (omega arith) s.splits.0)
          (old_coherence s.c b s.of_log cb s.splits.1)

  from_read_out : (n : ℕ) (b : Event) → Contains log b → b.wrote ≤ e.read + n → IsFromRead e b → Path Id Both e.id b.id
  from_read_out zero b cb near h = let s = h.versions in absurd (omega arith)
  from_read_out (suc n) b cb near h = go (carries.out FromRead b cb (load-memory e h.load) (store-memory b h.store) h)
      (λ c. from_read_out n c)
    where
      go : Listed e.id b.id ⊎ IsSplit model log new FromRead e b →
          ((c : Event) → Contains log c → c.wrote ≤ e.read + n → IsFromRead e c → Path Id Both e.id c.id) →
          Path Id Both e.id b.id
      go (inl l) again = listed e.id b.id l
      go (inr s) again =
          let low = s.splits.1.versions in
          join e.id s.c.id b.id (again s.c s.of_log (omega arith) s.splits.0)
          (old_coherence s.c b s.of_log cb s.splits.1)

  from_read_into : (a : Event) → Contains log a → IsFromRead a e → Path Id Both a.id e.id
  from_read_into a ca h = go (carries.into FromRead a ca (load-memory a h.load) (store-memory e h.store) h)
    where
      go : Listed a.id e.id ⊎ IsSplit model log new FromRead a e → Path Id Both a.id e.id
      go (inl l) = listed a.id e.id l
      go (inr s) = join a.id s.c.id e.id
          (old_edge FromRead a s.c ca s.of_log (load-memory a s.splits.0.load) (store-memory s.c s.splits.0.store)
          s.splits.0.other s.splits.0)
          (coherence_into e.wrote s.c s.of_log (omega arith) s.splits.1)

  atomic_out_into : (a : Event) → Contains log a → IsMemory a → IsMemory e → IsAtomicOut new a e →
      Path Id Both a.id e.id
  atomic_out_into a ca ma me h = go (carries.into AtomicOut a ca ma me h)
    where
      go : Listed a.id e.id ⊎ IsSplit model log new AtomicOut a e → Path Id Both a.id e.id
      go (inl l) = listed a.id e.id l
      go (inr s) =
          let first : IsAtomicOut new a s.c = s.splits.0 in
          let old : IsAtomicOut log a s.c = HasReason-settled model log new (grows-push log e) known
          (indexed-push log e known sound) a s.c ca s.of_log AtomicOut first in
          let other : a.id ≢ s.c.id = λ same. first.other_hart (ap (λ (i : Id). i.hart) (sym same)) in
          join a.id s.c.id e.id (old_edge AtomicOut a s.c ca s.of_log ma (store-memory s.c first.store) other old)
          (coherence_into e.wrote s.c s.of_log (omega arith) s.splits.1)

  atomic_out_out : (n : ℕ) (b : Event) → Contains log b → b.wrote ≤ n → IsMemory e → IsMemory b → IsAtomicOut new e b →
      Path Id Both e.id b.id
  atomic_out_out zero b cb near me mb h = let s = h.versions in absurd (omega arith)
  atomic_out_out (suc n) b cb near me mb h = go (carries.out AtomicOut b cb me mb h) (λ c. atomic_out_out n c)
    where
      go : Listed e.id b.id ⊎ IsSplit model log new AtomicOut e b →
          ((c : Event) → Contains log c → c.wrote ≤ n → IsMemory e → IsMemory c → IsAtomicOut new e c →
          Path Id Both e.id c.id) → Path Id Both e.id b.id
      go (inl l) again = listed e.id b.id l
      go (inr s) again =
          let low = s.splits.1.versions in
          join e.id s.c.id b.id (again s.c s.of_log (omega arith) me (store-memory s.c s.splits.0.store) s.splits.0)
          (old_coherence s.c b s.of_log cb s.splits.1)

  into : (reason : Reason) (a : Event) → Contains log a → IsMemory a → IsMemory e → HasReason model new reason a e →
      Path Id Both a.id e.id
  into (Preserved k) a ca ma me h = rule_into e.id.seq k a ca (omega arith) h
  into Coherence a ca ma me h = coherence_into e.wrote a ca (omega arith) h
  into FromRead a ca ma me h = from_read_into a ca h
  into ReadsFrom a ca ma me h = not_split ReadsFrom a e (λ s. s.splits) (carries.into ReadsFrom a ca ma me h)
  into AtomicIn a ca ma me h = not_split AtomicIn a e (λ s. s.splits) (carries.into AtomicIn a ca ma me h)
  into AtomicOut a ca ma me h = atomic_out_into a ca ma me h

  out : (reason : Reason) (b : Event) → Contains log b → IsMemory e → IsMemory b → HasReason model new reason e b →
      Path Id Both e.id b.id
  out (Preserved k) b cb me mb h = absurd (none_after b cb h.earlier)
  out Coherence b cb me mb h = coherence_out b.wrote b cb (omega arith) h
  out FromRead b cb me mb h = from_read_out b.wrote b cb (omega arith) h
  out ReadsFrom b cb me mb h = not_split ReadsFrom e b (λ s. s.splits) (carries.out ReadsFrom b cb me mb h)
  out AtomicIn b cb me mb h = not_split AtomicIn e b (λ s. s.splits) (carries.out AtomicIn b cb me mb h)
  out AtomicOut b cb me mb h = atomic_out_out b.wrote b cb (omega arith) me mb h

  -- the links cover every edge of the log with the event
  pub covered : Covers model new Both
  covered i j reason other edge = go (Contains-push_cases log e edge.a from.0) (Contains-push_cases log e edge.b to.0)
    where
      from : Contains new edge.a × (i ≡ edge.a.id)
      from = named-is new i edge.a edge.from_named

      to : Contains new edge.b × (j ≡ edge.b.id)
      to = named-is new j edge.b edge.to_named

      go : Contains log edge.a ⊎ (e ≡ edge.a) → Contains log edge.b ⊎ (e ≡ edge.b) → Path Id Both i j
      go (inl ca) (inl cb) = kept i j (covers i j reason other
          (IsEdge-settled model log new (grows-push log e) known (indexed-push log e known sound) i j
          reason edge ca cb))
      go (inl ca) (inr is) =
          let why : HasReason model new reason edge.a e = grind (arith, common_steps) in
          let m : IsMemory e = subst IsMemory (sym is) edge.to_memory in
          subst (λ (x : Id). Path Id Both i x) (ap (λ (x : Event). x.id) is ∙ sym to.1)
          (subst (λ (x : Id). Path Id Both x e.id) (sym from.1) (into reason edge.a ca edge.from_memory m why))
      go (inr is) (inl cb) =
          let why : HasReason model new reason e edge.b = grind (arith, common_steps) in
          let m : IsMemory e = subst IsMemory (sym is) edge.from_memory in
          subst (λ (x : Id). Path Id Both x j) (ap (λ (x : Event). x.id) is ∙ sym from.1)
          (subst (λ (x : Id). Path Id Both e.id x) (sym to.1) (out reason edge.b cb m edge.to_memory why))
      go (inr is) (inr is') = absurd (other (from.1 ∙ ap (λ (x : Event). x.id) (sym is ∙ is') ∙ sym to.1))
