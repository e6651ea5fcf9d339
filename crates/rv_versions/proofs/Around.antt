-- The links are edges.
use Rattle.rv_versions.proofs.Common.{rules, ◌≡◌, ◌≢◌, ℕ, List, [], ◌∷◌, ◌++◌, Contains, Option, Some, None, refl}
use Rattle.rv_versions.proofs.Common.{sym, ap, ◌∙◌, arith, subst, same_Some, none-some, Contains-push}
use Rattle.rv_versions.proofs.Common.{common_steps, Indexed, Sound, indexed-push, writer-is, is_memory, IsLoad}
use Rattle.rv_versions.proofs.Common.{IsStore, IsMemory, writer, HasReason, IsEdge, Event, Id, Sc, MemoryModel}
use Rattle.rv_versions.proofs.Common.{Link, Reason, Preserved, Coherence, ReadsFrom, FromRead, AtomicIn}
use Rattle.rv_versions.proofs.Common.{AtomicOut, edge_of, IsPair, id_of, stored, returned, held, ComesBefore}
use Rattle.rv_versions.proofs.Common.{ComesAfter, AreTheirs, AreBefore, AreAfter, IsOfVersions, IsPartner}
use Rattle.rv_versions.proofs.Common.{IsReserved, Access, Accesses, Reservation}
use Rattle.rv_versions.proofs.Found.{store_found, load_found, pair_found}
use Rattle.rv_versions.proofs.Paired.{one_partner, is_new, in_new, none_after, grown, partner_of, pair_of_partner}

-- a store is a memory operation
pub store-memory : (a : Event) → IsStore a → IsMemory a
store-memory a s = grind arith

-- and so is a load
pub load-memory : (a : Event) → IsLoad a → IsMemory a
load-memory a s = grind arith

-- and an SC
pub sc-memory : (a : Event) → a.op ≡ Sc → IsMemory a
sc-memory a e = ap is_memory e

-- the version that an event stored is that of a store
pub stored-is : (e : Event) (n : ℕ) → stored e ≡ Some n → IsStore e × (n ≡ e.wrote)
stored-is e n s = grind (arith, common_steps)

-- the version that it returned is that of a load
pub returned-is : (e : Event) (n : ℕ) → returned e ≡ Some n → IsLoad e × (n ≡ e.read)
returned-is e n s = grind (arith, common_steps)

-- the version that its LR returned is that of its reservation
pub held-is : (reserved : Option Reservation) (n : ℕ) → held reserved ≡ Some n →
    (r : Reservation) × (reserved ≡ Some r) × (n ≡ r.version)
held-is None n s = absurd (none-some n s)
held-is (Some r) n s = (r, refl, sym (same_Some r.version n s))

-- an event of the log whose access it is, and why it comes before the new event or after it
pub record Warrant (log : List Event) (Why : Event → Type 0) (e : Event) (x : Access) : Type 0 where
  pub other : Event
  pub of_log : Contains log other
  pub other_memory : IsMemory other
  pub own_memory : IsMemory e
  pub why : Why other
  pub named : id_of x ≡ other.id

-- the link is an edge, by no rule, between the event and another one
pub record Warranted (Edge : Link → Type 0) (e : Event) (l : Link) : Type 0 where
  pub edge : Edge l
  pub of_versions : IsOfVersions l.reason
  pub other : l.id ≢ e.id

module _ (model : MemoryModel) (log : List Event) (e : Event) (reserved : Option Reservation) (known : Indexed log)
    (sound : Sound log e) (is : IsReserved log e reserved) where
  -- the log with the event
  abbrev pub new : List Event
  new = log ++ e ∷ []

  known' : Indexed new
  known' = indexed-push log e known sound

  -- ---- the partner

  -- what is reserved is what the partner returned
  pub reserved_is : (r : Reservation) → reserved ≡ Some r →
      (lr : Event) × IsPartner log e lr × (lr.word ≡ r.word) × (lr.read ≡ r.version)
  reserved_is r some = subst (IsReserved log e) some is

  -- the LR that is paired with the event is what is reserved
  pub reserved_of : (lr : Event) → IsPair new lr e →
      (r : Reservation) × (reserved ≡ Some r) × (lr.word ≡ r.word) × (lr.read ≡ r.version)
  reserved_of lr p = go reserved refl is
    where
      go : (o : Option Reservation) → reserved ≡ o → IsReserved log e o →
          (r : Reservation) × (reserved ≡ Some r) × (lr.word ≡ r.word) × (lr.read ≡ r.version)
      go None q h = absurd (h lr (partner_of log e known sound lr p))
      go (Some r) q h =
          let same : h.0 ≡ lr = one_partner new known' h.0 lr e (pair_of_partner log e known sound h.0 h.1) p in
          (r, q, ap (λ (x : Event). x.word) (sym same) ∙ h.2, ap (λ (x : Event). x.read) (sym same) ∙ h.3)

  -- ---- writers

  writer_new : (w v : ℕ) (a : Event) → writer log w v ≡ Some a → writer new w v ≡ Some a
  writer_new w v a h =
      let f = writer-is log w v a h in
      subst (λ n. writer new w n ≡ Some a) (sym f.version) (subst (λ n. writer new n a.wrote ≡ Some a) (sym f.word)
      (known'.written a (in_new log e known sound a f.of_log) f.store))

  -- the event is the writer of what it writes
  pub writer_own : (w v : ℕ) → IsStore e → w ≡ e.word → v ≡ e.wrote → writer new w v ≡ Some e
  writer_own w v s p q = grind (arith, common_steps, known', Contains-push)

  -- ---- what is linked has its reason

  -- why an event comes before the new one
  abbrev pub Into : Reason → Event → Type 0
  Into reason a = HasReason model new reason a e

  -- why one comes after it
  abbrev pub Out : Reason → Event → Type 0
  Out reason b = HasReason model new reason e b

  module _ (own lr : Accesses) (theirs : AreTheirs log e reserved own lr) where
    -- why an access comes before the event
    pub warrant_before : (low unparted : ℕ) (reason : Reason) (x : Access) →
        ComesBefore own lr e reserved low unparted reason x → Warrant log (Into reason) e x
    warrant_before low unparted (Preserved k) x p = absurd p
    warrant_before low unparted Coherence x (c, (n, s, from, below)) =
        let f = store_found log e.word own theirs.of_own x c in
        let is = stored-is e n s in
        record {
          other = f.store;
          of_log = f.of_log;
          other_memory = store-memory f.store f.is_store;
          own_memory = store-memory e is.0;
          why = grind (arith, common_steps);
          named = f.named;
        }
    warrant_before low unparted ReadsFrom x (c, s, other) =
        let f = store_found log e.word own theirs.of_own x c in
        let is = returned-is e x.version s in
        let w : writer log e.word e.read ≡ Some f.store = grind (arith, common_steps) in
        record {
          other = f.store;
          of_log = f.of_log;
          other_memory = store-memory f.store f.is_store;
          own_memory = load-memory e is.0;
          why = record {
            load = is.0;
            is_writer = writer_new e.word e.read f.store w;
            not_earlier = grind (arith, common_steps);
          };
          named = f.named;
        }
    warrant_before low unparted FromRead x (c, (n, s, from, below)) =
        let f = load_found log e.word own theirs.of_own x c in
        let is = stored-is e n s in
        record {
          other = f.load;
          of_log = f.of_log;
          other_memory = load-memory f.load f.is_load;
          own_memory = store-memory e is.0;
          why = grind (arith, common_steps, is_new);
          named = f.named;
        }
    warrant_before low unparted AtomicIn x (c, s) =
        let r = held-is reserved x.version s in
        let f = store_found log r.0.word lr (theirs.of_lr r.0 r.1) x c in
        let h = reserved_is r.0 r.1 in
        let w : writer log h.0.word h.0.read ≡ Some f.store = grind (arith, common_steps) in
        record {
          other = f.store;
          of_log = f.of_log;
          other_memory = store-memory f.store f.is_store;
          own_memory = sc-memory e h.1.paired.is_sc;
          why = search (in_new, writer_new, rules);
          named = f.named;
        }
    warrant_before low unparted AtomicOut x (c, (n, s, from, below), other) =
        let f = pair_found log e.word own theirs.of_own x c in
        let is = stored-is e n s in
        record {
          other = f.sc;
          of_log = f.of_log;
          other_memory = sc-memory f.sc f.pair.paired.is_sc;
          own_memory = store-memory e is.0;
          why = record {
            lr = f.lr;
            of_log = in_new log e known sound f.lr f.pair.of_log;
            paired = grown log e known sound f.lr f.sc f.of_log f.pair.paired;
            store = is.0;
            word = sym f.word;
            other_hart = grind (arith, common_steps);
            versions = grind (arith, common_steps);
          };
          named = f.named;
        }

    -- and why one comes after it
    pub warrant_after : (next above foreign : ℕ) (reason : Reason) (x : Access) →
        ComesAfter own lr e reserved next above foreign reason x → Warrant log (Out reason) e x
    warrant_after next above foreign (Preserved k) x p = absurd p
    warrant_after next above foreign Coherence x (c, (n, s, over, upto)) =
        let f = store_found log e.word own theirs.of_own x c in
        let is = stored-is e n s in
        record {
          other = f.store;
          of_log = f.of_log;
          other_memory = store-memory f.store f.is_store;
          own_memory = store-memory e is.0;
          why = grind (arith, common_steps);
          named = f.named;
        }
    warrant_after next above foreign ReadsFrom x (c, s) =
        let f = load_found log e.word own theirs.of_own x c in
        let is = stored-is e x.version s in
        record {
          other = f.load;
          of_log = f.of_log;
          other_memory = load-memory f.load f.is_load;
          own_memory = store-memory e is.0;
          why = search (writer_own, none_after, rules);
          named = f.named;
        }
    warrant_after next above foreign FromRead x (c, (n, s, over, upto)) =
        let f = store_found log e.word own theirs.of_own x c in
        let is = returned-is e n s in
        record {
          other = f.store;
          of_log = f.of_log;
          other_memory = store-memory f.store f.is_store;
          own_memory = load-memory e is.0;
          why = grind (arith, common_steps, is_new);
          named = f.named;
        }
    warrant_after next above foreign AtomicIn x (c, s) =
        let f = pair_found log e.word own theirs.of_own x c in
        let is = stored-is e x.version s in
        record {
          other = f.sc;
          of_log = f.of_log;
          other_memory = sc-memory f.sc f.pair.paired.is_sc;
          own_memory = store-memory e is.0;
          why = record {
            lr = f.lr;
            of_log = in_new log e known sound f.lr f.pair.of_log;
            paired = grown log e known sound f.lr f.sc f.of_log f.pair.paired;
            is_writer = writer_own f.lr.word f.lr.read is.0 f.word (sym f.version ∙ is.1);
          };
          named = f.named;
        }
    warrant_after next above foreign AtomicOut x (c, (n, s, over, upto), other) =
        let r = held-is reserved n s in
        let f = store_found log r.0.word lr (theirs.of_lr r.0 r.1) x c in
        let h = reserved_is r.0 r.1 in
        record {
          other = f.store;
          of_log = f.of_log;
          other_memory = store-memory f.store f.is_store;
          own_memory = sc-memory e h.1.paired.is_sc;
          why = grind (arith, common_steps);
          named = f.named;
        }

  -- a link into the event is an edge, by no rule, from another event
  pub warranted_before : (links : List Link) → AreBefore log e reserved links → (l : Link) → Contains links l →
      Warranted (λ (k : Link). IsEdge model new k.id k.reason e.id) e l
  warranted_before links b l h =
      let o = b.linked.only l h in
      let w = warrant_before b.own b.lr b.theirs b.low b.unparted l.reason o.0 o.1 in
      let same : l.id ≡ w.other.id = o.2 ∙ w.named in
      record {
        edge = subst (λ (i : Id). IsEdge model new i l.reason e.id) (sym same)
            (edge_of model new known' l.reason w.other e (in_new log e known sound w.other w.of_log)
            (Contains-push log e) w.other_memory w.own_memory w.why);
        of_versions = λ k is_rule. subst (λ (q : Reason). ComesBefore b.own b.lr e reserved b.low b.unparted q o.0)
            is_rule o.1;
        other = subst (λ (i : Id). i ≢ e.id) (sym same) (is_new log e known sound w.other w.of_log);
      }

  -- and one out of it is an edge to another event
  pub warranted_after : (links : List Link) → AreAfter log e reserved links → (l : Link) → Contains links l →
      Warranted (λ (k : Link). IsEdge model new e.id k.reason k.id) e l
  warranted_after links a l h =
      let o = a.linked.only l h in
      let w = warrant_after a.own a.lr a.theirs a.next a.above a.foreign l.reason o.0 o.1 in
      let same : l.id ≡ w.other.id = o.2 ∙ w.named in
      record {
        edge = subst (λ (i : Id). IsEdge model new e.id l.reason i) (sym same)
            (edge_of model new known' l.reason e w.other (Contains-push log e)
            (in_new log e known sound w.other w.of_log) w.own_memory w.other_memory w.why);
        of_versions = λ k is_rule.
            subst (λ (q : Reason). ComesAfter a.own a.lr e reserved a.next a.above a.foreign q o.0) is_rule o.1;
        other = subst (λ (i : Id). i ≢ e.id) (sym same) (is_new log e known sound w.other w.of_log);
      }
