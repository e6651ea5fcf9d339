-- What the accesses to a word say of the events of the log.
use Rattle.rv_versions.proofs.Common.{◌≡◌, ℕ, Bool, true, false, cond, List, Contains, Option, Some, None}
use Rattle.rv_versions.proofs.Common.{option_map, refl, sym, ap, ◌∙◌, same_Some, none-some, arith, rules}
use Rattle.rv_versions.proofs.Common.{common_steps, indexed_from_events, Indexed, writer-is, writer, IsLoad}
use Rattle.rv_versions.proofs.Common.{IsStore, Event, Id, access, id_of, pair_of, IsPair, beside, AreOfWord}
use Rattle.rv_versions.proofs.Common.{Access, Accesses, Reservation}
use Rattle.rv_event.specs.Operations.{is_load, is_store}
use Rattle.rv_versions.proofs.Beside.{beside_left, beside_of}
use Rattle.rv_versions.proofs.Paired.{one_partner}

-- the access of a store
abbrev pub store_access : Event → Access
store_access e = access e.word e.wrote e.id

-- the access of a load
abbrev pub load_access : Event → Access
load_access e = access e.word e.read e.id

-- the access is a store's
pub record FoundStore (log : List Event) (w : ℕ) (x : Access) : Type 0 where
  pub store : Event
  pub of_log : Contains log store
  pub is_store : IsStore store
  pub word : store.word ≡ w
  pub version : x.version ≡ store.wrote
  pub named : id_of x ≡ store.id

-- the access is a load's
pub record FoundLoad (log : List Event) (w : ℕ) (x : Access) : Type 0 where
  pub load : Event
  pub of_log : Contains log load
  pub is_load : IsLoad load
  pub word : load.word ≡ w
  pub version : x.version ≡ load.read
  pub named : id_of x ≡ load.id

-- the access is a pair's
pub record FoundPair (log : List Event) (w : ℕ) (x : Access) : Type 0 where
  pub sc : Event
  pub lr : Event
  pub of_log : Contains log sc
  pub pair : IsPair log lr sc
  pub word : lr.word ≡ w
  pub version : x.version ≡ lr.read
  pub named : id_of x ≡ sc.id

if-some : (b : Bool) (y x : Access) → cond b (Some y) None ≡ Some x → (b ≡ true) × (x ≡ y)
if-some true y x e = (refl, sym (same_Some y x e))
if-some false y x e = absurd (none-some x e)

module _ (log : List Event) (w : ℕ) (a : Accesses) (of : AreOfWord log w a) where
  -- the log is indexed
  pub indexed : Indexed log
  indexed = indexed_from_events log of.known.well_formed

  -- what the stores have is a store
  pub store_found : (x : Access) → Contains a.stores x → FoundStore log w x
  store_found x c =
      let o = (of.all.stores x).0 c in
      let h = (of.known.stores x).0 o.known in
      let g = if-some (is_store h.0.op) (store_access h.0) x h.2 in
      record {
        store = h.0;
        of_log = h.1;
        is_store = g.0;
        word = sym (ap (λ (y : Access). y.word) g.1) ∙ o.same;
        version = ap (λ (y : Access). y.version) g.1;
        named = ap id_of g.1;
      }

  -- and each store is there
  pub store_listed : (s : Event) → Contains log s → IsStore s → s.word ≡ w → Contains a.stores (store_access s)
  store_listed s c is same = (of.all.stores (store_access s)).1 (record {
    known = (of.known.stores (store_access s)).1 (s, c, ap (λ (b : Bool). cond b (Some (store_access s)) None) is);
    same = same;
  })

  -- what the loads have is a load
  pub load_found : (x : Access) → Contains a.loads x → FoundLoad log w x
  load_found x c =
      let o = (of.all.loads x).0 c in
      let h = (of.known.loads x).0 o.known in
      let g = if-some (is_load h.0.op) (load_access h.0) x h.2 in
      record {
        load = h.0;
        of_log = h.1;
        is_load = g.0;
        word = sym (ap (λ (y : Access). y.word) g.1) ∙ o.same;
        version = ap (λ (y : Access). y.version) g.1;
        named = ap id_of g.1;
      }

  -- and each load is there
  pub load_listed : (l : Event) → Contains log l → IsLoad l → l.word ≡ w → Contains a.loads (load_access l)
  load_listed l c is same = (of.all.loads (load_access l)).1 (record {
    known = (of.known.loads (load_access l)).1 (l, c, ap (λ (b : Bool). cond b (Some (load_access l)) None) is);
    same = same;
  })

  -- what the pairs have is a pair
  pub pair_found : (x : Access) → Contains a.pairs x → FoundPair log w x
  pair_found x c = let h = (of.known.pairs x).0 ((of.all.pairs x).0 c).known in go h.0.0 h.0.1 h.1 h.2
    where
      go : (s : Event) (r : Option Reservation) → Contains (beside log of.reserved) (s, r) → pair_of s r ≡ Some x →
          FoundPair log w x
      go s None d e = absurd (none-some x e)
      go s (Some r) d e =
          let h = of.known.reservations s (Some r) d in
          let same : access r.word r.version s.id ≡ x = same_Some (access r.word r.version s.id) x e in
          record {
            sc = s;
            lr = h.0;
            of_log = beside_left log of.reserved (s, Some r) d;
            pair = h.1;
            word = h.2 ∙ ap (λ (y : Access). y.word) same ∙ ((of.all.pairs x).0 c).same;
            version = ap (λ (y : Access). y.version) (sym same) ∙ sym h.3;
            named = ap id_of (sym same);
          }

  -- and each pair is there
  pub pair_listed : (s lr : Event) → Contains log s → IsPair log lr s → lr.word ≡ w →
      Contains a.pairs (access lr.word lr.read s.id)
  pair_listed s lr c p same = let b = beside_of log of.reserved of.known.as_long s c in
      (of.all.pairs (access lr.word lr.read s.id)).1 (record { known = go b.0 b.1; same = same })
    where
      go : (r : Option Reservation) → Contains (beside log of.reserved) (s, r) →
          Contains of.indexes.pairs (access lr.word lr.read s.id)
      go None d = absurd (of.known.reservations s None d lr p)
      go (Some r) d =
          let h = of.known.reservations s (Some r) d in
          let own : h.0 ≡ lr = one_partner log indexed h.0 lr s h.1 p in
          let is : access r.word r.version s.id ≡ access lr.word lr.read s.id =
          grind (arith, common_steps) in
          (of.known.pairs (access lr.word lr.read s.id)).1 ((s, Some r), d, ap Some is)

  -- the access of a version is its writer's
  pub writer_found : (v : ℕ) (x : Access) → Contains a.stores x → x.version ≡ v →
      Some (id_of x) ≡ option_map (λ (e : Event). e.id) (writer log w v)
  writer_found v x c at =
      let f = store_found x c in
      let own : writer log w v ≡ Some f.store = search (indexed, rules) in
      ap Some f.named ∙ sym (ap (option_map (λ (e : Event). e.id)) own)

  -- where there is none the version has no writer
  pub no_writer : (v : ℕ) → ((x : Access) → Contains a.stores x → x.version ≡ v → ⊥) →
      None ≡ option_map (λ (e : Event). e.id) (writer log w v)
  no_writer v none = go (writer log w v) refl
    where
      go : (o : Option Event) → writer log w v ≡ o → None ≡ option_map (λ (e : Event). e.id) o
      go None e = refl
      go (Some s) e =
          let is = writer-is log w v s e in
          absurd (none (store_access s) (store_listed s is.of_log is.store (sym is.word)) (sym is.version))

  -- one version, one store
  pub one_store : (x y : Access) → Contains a.stores x → Contains a.stores y → x.version ≡ y.version → x.hart ≡ y.hart
  one_store x y cx cy same =
      let p = writer_found y.version x cx same in
      let q = writer_found y.version y cy refl in
      ap (λ (i : Id). i.hart) (same_Some (id_of x) (id_of y) (p ∙ sym q))
