-- None of the listed links of coherence and from-read could be left out.
use Rattle.rv_versions.proofs.Common.{◌≡◌, ◌<◌, ◌≤◌, List, Contains, Option, sym, ◌∙◌, arith, subst, none-some}
use Rattle.rv_versions.proofs.Common.{common_steps, IsNextLower, IsNextHigher, IsNearest, Indexed, IsStore, Event}
use Rattle.rv_versions.proofs.Common.{Link, Coherence, FromRead, link, AreBefore, AreAfter, Reservation}
use Rattle.rv_versions.proofs.Around.{stored-is, returned-is}
use Rattle.rv_versions.proofs.Found.{store_access, store_found, load_found, store_listed}
use Rattle.rv_versions.proofs.Paired.{same_event}

module _ (log : List Event) (e : Event) (reserved : Option Reservation) (known : Indexed log) (links : List Link) where
  module _ (l : AreBefore log e reserved links) where
    -- a linked store is of the next lower version
    pub next_lower : (s : Event) → Contains log s → Contains links (link s.id Coherence) →
        IsNextLower log e.word e.wrote s
    next_lower s c h =
        let o = l.linked.only (link s.id Coherence) h in
        let f = store_found log e.word l.own l.theirs.of_own o.0 o.1.0 in
        let n = stored-is e o.1.1.0 o.1.1.1 in
        let is_low = l.is_low o.1.1.0 o.1.1.1 in
        subst (IsNextLower log e.word e.wrote) (same_event log known f.store s f.of_log c (sym f.named ∙ sym o.2))
        (record {
          of_log = f.of_log;
          store = f.is_store;
          same = f.word;
          below = omega (arith, f.version, n.1, o.1.1.3);
          highest = λ a ca store word low.
              let upto : a.wrote ≤ l.low = is_low.none (store_access a)
              (store_listed log e.word l.own l.theirs.of_own a ca store word) (omega (arith, n.1)) in
              omega (arith, f.version, o.1.1.2);
        })

    -- no store's version stands over what a linked load returned
    pub none_over : (a s : Event) → Contains log a → Contains log s → Contains links (link a.id FromRead) →
        IsStore s → s.word ≡ e.word → a.read < s.wrote → s.wrote < e.wrote → ⊥
    none_over a s ca cs h store word over under =
        let o = l.linked.only (link a.id FromRead) h in
        let f = load_found log e.word l.own l.theirs.of_own o.0 o.1.0 in
        let n = stored-is e o.1.1.0 o.1.1.1 in
        let upto : s.wrote ≤ l.low = (l.is_low o.1.1.0 o.1.1.1).none (store_access s)
        (store_listed log e.word l.own l.theirs.of_own s cs store word) (omega (arith, n.1)) in
        let same : f.load ≡ a = same_event log known f.load a f.of_log ca (sym f.named ∙ sym o.2) in
        let read : f.load.read ≡ a.read = grind (arith, common_steps) in
        omega (arith, f.version, o.1.1.2)

  module _ (l : AreAfter log e reserved links) where
    -- a linked store is of the next higher version
    pub next_higher : (t : Event) → Contains log t → Contains links (link t.id Coherence) →
        IsNextHigher log e.word e.wrote t
    next_higher t c h =
        let o = l.linked.only (link t.id Coherence) h in
        let f = store_found log e.word l.own l.theirs.of_own o.0 o.1.0 in
        let n = stored-is e o.1.1.0 o.1.1.1 in
        subst (IsNextHigher log e.word e.wrote) (same_event log known f.store t f.of_log c (sym f.named ∙ sym o.2))
        (record {
          of_log = f.of_log;
          store = f.is_store;
          same = f.word;
          above = omega (arith, f.version, n.1, o.1.1.2);
          lowest = λ a ca store word high.
              let least : o.0.version ≤ a.wrote = (l.is_next o.1.1.0 o.1.1.1).nearest o.0 (store_access a) o.1.0
              (store_listed log e.word l.own l.theirs.of_own a ca store word) o.1.1.3 (omega (arith, n.1))
              (none-some a.id.hart) in
              omega (arith, f.version);
        })

    -- one that overwrites what the event returned is of the next higher version than that
    pub next_above : (t : Event) → Contains log t → Contains links (link t.id FromRead) →
        IsNextHigher log e.word e.read t
    next_above t c h =
        let o = l.linked.only (link t.id FromRead) h in
        let f = store_found log e.word l.own l.theirs.of_own o.0 o.1.0 in
        let n = returned-is e o.1.1.0 o.1.1.1 in
        subst (IsNextHigher log e.word e.read) (same_event log known f.store t f.of_log c (sym f.named ∙ sym o.2))
        (record {
          of_log = f.of_log;
          store = f.is_store;
          same = f.word;
          above = omega (arith, f.version, n.1, o.1.1.2);
          lowest = λ a ca store word high.
              let least : o.0.version ≤ a.wrote = (l.is_above o.1.1.0 o.1.1.1).nearest o.0 (store_access a) o.1.0
              (store_listed log e.word l.own l.theirs.of_own a ca store word) o.1.1.3 (omega (arith, n.1))
              (none-some a.id.hart) in
              omega (arith, f.version);
        })

-- links go to the nearest versions
pub nearest : (log : List Event) (e : Event) (reserved : Option Reservation) → Indexed log →
    (before after : List Link) → AreBefore log e reserved before →
    AreAfter log e reserved after → IsNearest log e before after
nearest log e reserved known before after b a = record {
  coherence_before = next_lower log e reserved known before b;
  coherence_after = next_higher log e reserved known after a;
  from_read_after = next_above log e reserved known after a;
  from_read_before = λ x s cx cs l store other word over under.
      none_over log e reserved known before b x s cx cs l store word over under;
}
