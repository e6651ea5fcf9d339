-- What is behind the rows that a row lists.
use Rattle.std.proofs.Common.{ℕ, suc, ◌≡◌, ◌≢◌, ◌<◌, ◌⊎◌, inl, inr, List, [], ◌∷◌, Contains, length, get_or, refl}
use Rattle.std.proofs.Common.{sym, ap}
use Rattle.std.proofs.Common.{◌∙◌, subst, arith}
use Rattle.std.proofs.lemmas.Bool.{cases_eq}
use Rattle.std.proofs.lemmas.List.Elements.{Contains-get_or}
use Rattle.rv_event.proofs.Growing.{Any-contains, Any-from_contains}
use Rattle.rv_event.proofs.Names.{Contains-cons}
use Rattle.rv_event.specs.Relations.{Behind, DependsOn, IsCarrier, Lists, listed, through}
use Rattle.rv_event.specs.declared.event.DepKind.{DepKind}
use Rattle.rv_event.specs.declared.event.DepKind.TheVariants.{DataOf}
use Rattle.rv_event.specs.declared.event.Event.{Event}
use Rattle.rv_event.specs.declared.event.Id.{Id}
use Rattle.rv_event.specs.declared.event.Op.TheVariants as op
use Rattle.rv_flow.specs.Carriers as flow
use Rattle.rv_flow.specs.declared.carrier.Carrier.{Carrier}
use Rattle.rv_commits.specs.Rows.{AreRows, ListsJust}

-- a row is that of a carrier, or of none
find-carrier : (carriers : List Carrier) (n : ℕ) →
    ((c : Carrier) × Contains carriers c × (c.number ≡ n)) ⊎ flow.IsEvent carriers n
find-carrier [] n = inr (λ c cc. let low = cc.1 in absurd (omega (low, arith)))
find-carrier (c ∷ rest) n = elim (cases_eq c.number n) [
  | inl same ↦ inl (c, (0, omega arith, refl), same)
  | inr apart ↦ elim (find-carrier rest n) [
    | inl found ↦ inl (found.0, (suc found.1.0, (let low = found.1.1 in omega (low, arith)), found.1.2), found.2)
    | inr none ↦ inr (λ x cx. elim (Contains-cons c rest x cx) [
      | inl is ↦ (λ same. apart (ap (λ (y : Carrier). y.number) is ∙ same))
      | inr inside ↦ none x inside
    ])
  ]
]

module _ {hart : ℕ} {carriers : List Carrier} {rows : List Event} (are : AreRows hart carriers rows) where
  -- a row stands at the place of its number
  place : (x : Event) → (cx : Contains rows x) → x.id ≡ record { hart = hart; seq = cx.0 }
  place x cx = sym (ap (λ (y : Event). y.id) cx.2) ∙ are.numbered cx.0 x cx.1

  seq-is : (x : Event) → (cx : Contains rows x) → x.id.seq ≡ cx.0
  seq-is x cx = ap (λ (i : Id). i.seq) (place x cx)

  hart-is : (x : Event) → (cx : Contains rows x) → x.id.hart ≡ hart
  hart-is x cx = ap (λ (i : Id). i.hart) (place x cx)

  at-seq : (x : Event) → Contains rows x → get_or rows x.id.seq x ≡ x
  at-seq x cx = ap (λ (k : ℕ). get_or rows k x) (seq-is x cx) ∙ cx.2

  low : (x : Event) → Contains rows x → x.id.seq < length rows
  low x cx = let is = seq-is x cx in let inside = cx.1 in omega (is, inside, arith)

  -- a row that is no carrier is an event's
  event-of : (a : Event) → Contains rows a → a.op ≢ op.Carrier → flow.IsEvent carriers a.id.seq
  event-of a ca apart c cc same =
      apart (ap (λ (x : Event). x.op) (sym (at-seq a ca)) ∙
      ap (λ (k : ℕ). (get_or rows k a).op) (sym same) ∙ (are.carried c a cc).op)

  -- and one that is a carrier has a carrier's list
  carrier-of : (m : Event) → Contains rows m → m.op ≡ op.Carrier →
      (c : Carrier) × Contains carriers c × (c.number ≡ m.id.seq) × ListsJust DataOf m c.list.parts.items
  carrier-of m cm is = elim (find-carrier carriers m.id.seq) [
    | inl found ↦ (
      found.0,
      found.1,
      found.2,
      subst (λ (x : Event). ListsJust DataOf x found.0.list.parts.items)
          (ap (λ (k : ℕ). get_or rows k m) found.2 ∙ at-seq m cm) (are.carried found.0 m found.1).lists,
    )
    | inr none ↦ absurd (are.others m.id.seq m (low m cm) none (ap (λ (x : Event). x.op) (at-seq m cm) ∙ is))
  ]

  -- what is behind a row of the trace is behind its number
  behind-number : (m a : Event) → Contains rows m → Contains rows a → a.op ≢ op.Carrier → Behind rows m a →
      flow.Behind carriers m.id.seq a.id.seq
  behind-number m a cm ca apart (listed is lists) =
      let c = carrier-of m cm is.0 in
      subst (λ (k : ℕ). flow.Behind carriers k a.id.seq) c.2
      (flow.through {c = c.0} c.1 ((c.3 a.id.seq).0 lists.1) (flow.itself (event-of a ca apart)))
  behind-number m a cm ca apart (through {m = n} is cn lists rest) =
      let c = carrier-of m cm is.0 in
      subst (λ (k : ℕ). flow.Behind carriers k a.id.seq) c.2
      (flow.through {c = c.0} c.1 ((c.3 n.id.seq).0 lists.1) (behind-number n a cn ca apart rest))

  -- the row of a carrier
  abbrev row-of : Carrier → Event → Event
  row-of c d = get_or rows c.number d

  row-here : (c : Carrier) (d : Event) → Contains carriers c → Contains rows (row-of c d)
  row-here c d cc = Contains-get_or rows c.number d (are.are.before c cc)

  row-id : (c : Carrier) (d : Event) → Contains carriers c → (row-of c d).id ≡ record { hart = hart; seq = c.number }
  row-id c d cc = are.numbered c.number d (are.are.before c cc)

  row-carrier : (c : Carrier) (d : Event) → Contains carriers c → IsCarrier (row-of c d)
  row-carrier c d cc = (
    (are.carried c d cc).op,
    (let at = ap (λ (i : Id). i.seq) (row-id c d cc) in let before = are.are.before c cc in
        let few = are.are.few in omega (at, before, few, arith)),
  )

  -- what is behind the number of a row that a carrier lists is behind the carrier's row
  behind-row : (a : Event) → Contains rows a → (c : Carrier) → Contains carriers c → (p n : ℕ) →
      Contains c.list.parts.items p → flow.Behind carriers p n → a.id.seq ≡ n → Behind rows (row-of c a) a
  behind-row a ca c cc p n part (flow.itself event) is =
      let row = row-of c a in
      let before = (are.are.each c cc).parts.before p part in
      let at = ap (λ (i : Id). i.seq) (row-id c a cc) in
      listed (row-carrier c a cc) (
        record {
          hart = hart-is a ca ∙ sym (ap (λ (i : Id). i.hart) (row-id c a cc));
          seq = omega (is, before, at, arith);
        },
        subst (λ (k : ℕ). Contains row.deps (record { kind = DataOf; seq = k })) (sym is)
            (((are.carried c a cc).lists p).1 part),
      )
  behind-row a ca c cc p n part (flow.through {c = b} cb inner rest) is =
      let row = row-of c a in
      let next = row-of b a in
      let before = (are.are.each c cc).parts.before p part in
      let at = ap (λ (i : Id). i.seq) (row-id c a cc) in
      let there = ap (λ (i : Id). i.seq) (row-id b a cb) in
      through (row-carrier c a cc) (row-here b a cb) (
        record {
          hart = ap (λ (i : Id). i.hart) (row-id b a cb) ∙ sym (ap (λ (i : Id). i.hart) (row-id c a cc));
          seq = omega (there, before, at, arith);
        },
        subst (λ (k : ℕ). Contains row.deps (record { kind = DataOf; seq = k })) (sym there)
            (((are.carried c a cc).lists b.number).1 part),
      ) (behind-row a ca b cb _ n inner rest is)

  module _ (kind : DepKind) (e : Event) (parts : List ℕ) (of-hart : e.id.hart ≡ hart) (lists : ListsJust kind e parts)
      (before : (p : ℕ) → Contains parts p → p < e.id.seq) (a : Event) (ca : Contains rows a)
      (apart : a.op ≢ op.Carrier) where
    pub depends-behind : DependsOn rows kind e a → flow.IsBehind carriers parts a.id.seq
    depends-behind (inl own) = (a.id.seq, (lists a.id.seq).0 own.1, flow.itself (event-of a ca apart))
    depends-behind (inr any) =
        let found = Any-contains (λ m. Lists kind e m × Behind rows m a) rows any in
        (found.0.id.seq, (lists found.0.id.seq).0 found.2.0.1, behind-number found.0 a found.1 ca apart found.2.1)

    from-part : (p n : ℕ) → Contains parts p → flow.Behind carriers p n → a.id.seq ≡ n → DependsOn rows kind e a
    from-part p n part (flow.itself event) is = inl (
      record { hart = hart-is a ca ∙ sym of-hart; seq = (let low = before p part in omega (is, low, arith)) },
      subst (λ (k : ℕ). Contains e.deps (record { kind = kind; seq = k })) (sym is) ((lists p).1 part),
    )
    from-part p n part (flow.through {c = c} cc inner rest) is =
        let row = row-of c a in
        let there = ap (λ (i : Id). i.seq) (row-id c a cc) in
        inr (Any-from_contains (λ m. Lists kind e m × Behind rows m a) rows row (row-here c a cc) (
          (
            record {
              hart = ap (λ (i : Id). i.hart) (row-id c a cc) ∙ sym of-hart;
              seq = (let first = before p part in omega (first, there, arith));
            },
            subst (λ (k : ℕ). Contains e.deps (record { kind = kind; seq = k })) (sym there) ((lists c.number).1 part),
          ),
          behind-row a ca c cc _ n inner rest is,
        ))

    pub behind-depends : flow.IsBehind carriers parts a.id.seq → DependsOn rows kind e a
    behind-depends found = from-part found.0 a.id.seq found.1 found.2 refl
