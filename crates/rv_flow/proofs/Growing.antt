-- What is behind a row, as carriers are added.
use Rattle.std.proofs.Common.{◌≡◌, ℕ, ◌+◌, ◌<◌, List, [], ◌∷◌, ◌++◌, length, Contains, ◌⊎◌, ◌↔◌}
use Rattle.std.proofs.Common.{inl, inr, sym, ap, refl, subst, ◌∙◌, arith}
use Rattle.std.proofs.lemmas.List.{append-nil, append_assoc, length_push}
use Rattle.std.proofs.lemmas.List.Elements.{Contains-append_cases, Contains-append_left, Contains-push}
use Rattle.std.proofs.lemmas.List.Elements.{Contains-push_cases}
use Rattle.rv_rows.specs.Bits.{Has}
use Rattle.rv_flow.specs.Carriers.{AreCarriers, AreEvents, AreParts, Behind, IsBehind, IsCarrier, IsEvent, IsGrown}
use Rattle.rv_flow.specs.Carriers.{IsList}
use Rattle.rv_flow.specs.Carriers.{itself, through}
use Rattle.rv_flow.specs.declared.carrier.Carrier.{Carrier}
use Rattle.rv_flow.specs.declared.carrier.PartList.{PartList}

-- behind an event is that event alone
event-alone : (all : List Carrier) (e n : ℕ) → IsEvent all e → Behind all e n → e ≡ n
event-alone all e n is (itself _) = refl
event-alone all e n is (through {c = c} has part rest) = absurd (is c has refl)

-- a row that is no carrier was added
pub row-more : (all : List Carrier) (next : ℕ) → AreCarriers all next → next < 4096 → IsGrown all next all (next + 1)
row-more all next are few = record {
  more = [];
  kept = sym (append-nil all);
  later = λ c has. (let low = has.1 in absurd (omega (low, arith)));
  next = omega arith;
  are = record {
    few = omega (few, arith);
    before = λ c has. (let low = are.before c has in omega (low, arith));
    each = are.each;
  };
}

module _ (old new : List Carrier) (next next' : ℕ) (are : AreCarriers old next) (grown : IsGrown old next new next')
  where
    has-still : (c : Carrier) → Contains old c → Contains new c
    has-still c has =
        subst (λ (all : List Carrier). Contains all c) (sym grown.kept) (Contains-append_left old grown.more c has)

    had : (c : Carrier) → c.number < next → Contains new c → Contains old c
    had c low has =
        elim (Contains-append_cases old grown.more c
        (subst (λ (all : List Carrier). Contains all c) grown.kept has)) [
          | inl was ↦ was
          | inr came ↦ (let late = grown.later c came in absurd (omega (late, low, arith)))
        ]

    -- an event is one still
    pub event-still : (n : ℕ) → n < next → IsEvent old n → IsEvent new n
    event-still n low is c has same = is c (had c (omega (low, same, arith)) has) same

    event-was : (n : ℕ) → IsEvent new n → IsEvent old n
    event-was n is c has same = is c (has-still c has) same

    -- behind a row of before is what was
    behind-still : (p n : ℕ) → p < next → Behind old p n → Behind new p n
    behind-still p n low (itself is) = itself (event-still p low is)
    behind-still p n low (through {c = c} {p = q} has part rest) =
        let before = (are.each c has).parts.before q part in
        through (has-still c has) part (behind-still q n (omega (before, low, arith)) rest)

    behind-was : (p n : ℕ) → p < next → Behind new p n → Behind old p n
    behind-was p n low (itself is) = itself (event-was p is)
    behind-was p n low (through {c = c} {p = q} has part rest) =
        let was = had c low has in
        let before = (are.each c was).parts.before q part in
        through was part (behind-was q n (omega (before, low, arith)) rest)

    pub behind-kept : (p n : ℕ) → p < next → Behind old p n ↔ Behind new p n
    behind-kept p n low = (behind-still p n low, behind-was p n low)

    -- so it is with a list
    pub any-kept : (parts : List ℕ) (n : ℕ) → AreParts next parts → IsBehind old parts n ↔ IsBehind new parts n
    any-kept parts n are-parts = (
      λ h. (h.0, h.1, behind-still h.0 n (are-parts.before h.0 h.1) h.2),
      λ h. (h.0, h.1, behind-was h.0 n (are-parts.before h.0 h.1) h.2),
    )

    pub parts-kept : (parts : List ℕ) → AreParts next parts → AreParts next' parts
    parts-kept parts are-parts = record {
      few = are-parts.few;
      before = λ p has. (let low = are-parts.before p has in let more = grown.next in omega (low, more, arith));
    }

    pub list-kept : (list : PartList) → IsList old next list → IsList new next' list
    list-kept list is = record {
      parts = parts-kept list.parts.items is.parts;
      events = λ n. (
        λ h. (any-kept list.parts.items n is.parts).0 ((is.events n).0 h),
        λ h. (is.events n).1 ((any-kept list.parts.items n is.parts).1 h),
      );
    }

-- events are events still
pub events-still : (old new : List Carrier) (next next' : ℕ) (row : List ℕ) → AreCarriers old next →
    IsGrown old next new next' → AreEvents old next row → AreEvents new next' row
events-still old new next next' row are grown events n has =
    let known = events n has in
    let low = known.1 in
    let more = grown.next in
    (event-still old new next next' are grown n low known.0, omega (low, more, arith))

-- what grew may grow on
pub grown-on : {old new all : List Carrier} {next next' last : ℕ} → IsGrown old next new next' →
    IsGrown new next' all last → IsGrown old next all last
grown-on {old} {new} {all} grown on = record {
  more = grown.more ++ on.more;
  kept = on.kept ∙ ap (λ (l : List Carrier). l ++ on.more) grown.kept ∙ append_assoc old grown.more on.more;
  later = λ c has. elim (Contains-append_cases grown.more on.more c has) [
    | inl first ↦ grown.later c first
    | inr second ↦ (let late = on.later c second in let more = grown.next in omega (late, more, arith))
  ];
  next = let more = grown.next in let further = on.next in omega (more, further, arith);
  are = on.are;
}

-- ---- one more carrier
module _ (all : List Carrier) (next : ℕ) (are : AreCarriers all next) (few : next < 4096) (c : Carrier)
    (number : c.number ≡ next) (list : IsList all next c.list) (some : 0 < length c.list.parts.items) where
  abbrev pub with-carrier : List Carrier
  with-carrier = all ++ c ∷ []

  has-old : (d : Carrier) → Contains all d → Contains with-carrier d
  has-old d has = Contains-append_left all (c ∷ []) d has

  still : (p n : ℕ) → p < next → Behind all p n → Behind with-carrier p n
  still p n low (itself is) = itself λ d has same. elim (Contains-push_cases all c d has) [
    | inl old ↦ is d old same
    | inr new ↦ (let equal : d.number ≡ next = ap (λ (x : Carrier). x.number) (sym new) ∙ number in
        absurd (omega (low, equal, same, arith)))
  ]
  still p n low (through {c = d} {p = q} has part rest) =
      let before = (are.each d has).parts.before q part in
      through (has-old d has) part (still q n (omega (before, low, arith)) rest)

  was : (p n : ℕ) → p < next → Behind with-carrier p n → Behind all p n
  was p n low (itself is) = itself (λ d has same. is d (has-old d has) same)
  was p n low (through {c = d} {p = q} has part rest) = elim (Contains-push_cases all c d has) [
    | inl old ↦ (
        let before = (are.each d old).parts.before q part in
        through old part (was q n (omega (before, low, arith)) rest))
    | inr new ↦ (let equal : d.number ≡ next = ap (λ (x : Carrier). x.number) (sym new) ∙ number in
        absurd (omega (low, equal, arith)))
  ]

  -- behind the new one is what is behind its list
  listed : (n : ℕ) → IsBehind all c.list.parts.items n → Behind with-carrier c.number n
  listed n (p, part, rest) =
      through (Contains-push all c) part (still p n (list.parts.before p part) rest)

  listed-was : (p n : ℕ) → p ≡ next → Behind with-carrier p n → IsBehind all c.list.parts.items n
  listed-was p n is (itself event) = absurd (event c (Contains-push all c) (number ∙ sym is))
  listed-was p n is (through {c = d} {p = q} has part rest) = elim (Contains-push_cases all c d has) [
    | inl old ↦ (let low = are.before d old in absurd (omega (low, is, arith)))
    | inr new ↦ (
        let mine : Contains c.list.parts.items q =
        subst (λ (x : Carrier). Contains x.list.parts.items q) (sym new) part in
        (q, mine, was q n (list.parts.before q mine) rest))
  ]

  pub is-carrier : IsCarrier with-carrier c
  is-carrier = record {
    some = some;
    parts = subst (λ (k : ℕ). AreParts k c.list.parts.items) (sym number) list.parts;
    events = λ n. (
      λ h. listed n ((list.events n).0 h),
      λ h. (list.events n).1 (listed-was c.number n number h),
    );
  }

  old-carrier : (d : Carrier) → Contains all d → IsCarrier with-carrier d
  old-carrier d has = record {
    some = (are.each d has).some;
    parts = (are.each d has).parts;
    events = λ n. (
      λ h. still d.number n (are.before d has) (((are.each d has).events n).0 h),
      λ h. ((are.each d has).events n).1 (was d.number n (are.before d has) h),
    );
  }

  -- the carriers with it
  pub are-more : AreCarriers with-carrier (next + 1)
  are-more = record {
    few = omega (few, arith);
    before = λ d has. elim (Contains-push_cases all c d has) [
      | inl old ↦ (let low = are.before d old in omega (low, arith))
      | inr new ↦ (
          let equal : d.number ≡ next = ap (λ (x : Carrier). x.number) (sym new) ∙ number in
          omega (equal, arith))
    ];
    each = λ d has. elim (Contains-push_cases all c d has) [
      | inl old ↦ old-carrier d old
      | inr new ↦ subst (λ (x : Carrier). IsCarrier with-carrier x) new is-carrier
    ];
  }

  pub one-more : (new : List Carrier) → new ≡ with-carrier → IsGrown all next new (next + 1)
  one-more new is = record {
    more = c ∷ [];
    kept = is;
    later = λ d has. elim (Contains-push_cases [] c d has) [
      | inl none ↦ (let low = none.1 in absurd (omega (low, arith)))
      | inr new ↦ (
          let equal : d.number ≡ next = ap (λ (x : Carrier). x.number) (sym new) ∙ number in
          omega (equal, arith))
    ];
    next = omega arith;
    are = subst (λ (l : List Carrier). AreCarriers l (next + 1)) (sym is) are-more;
  }

-- ---- one more part of a list
-- an event is behind itself alone
pub behind-event : (all : List Carrier) (e : ℕ) → IsEvent all e → (n : ℕ) → (e ≡ n) ↔ Behind all e n
behind-event all e is n = (
  λ same. subst (λ (k : ℕ). Behind all e k) same (itself is),
  event-alone all e n is,
)

pub one-part : (all : List Carrier) (next : ℕ) (list list' : PartList) (p : ℕ) (More : ℕ → Type 0) →
    IsList all next list → length list.parts.items < 8 → p < next → ((n : ℕ) → More n ↔ Behind all p n) →
    list'.parts.items ≡ list.parts.items ++ p ∷ [] →
    ((n : ℕ) → Has list'.events n ↔ (Has list.events n ⊎ More n)) → IsList all next list'
one-part all next list list' p More is room low behind parts events = record {
  parts = record {
    few = (
        let long = ap length parts in let more = length_push list.parts.items p in omega (room, long, more, arith));
    before = λ q has. elim (was q has) [
      | inl old ↦ is.parts.before q old
      | inr new ↦ omega (low, new, arith)
    ];
  };
  events = λ n. (
    λ has. elim ((events n).0 has) [
      | inl old ↦ (let h = (is.events n).0 old in (h.0, kept h.0 h.1, h.2))
      | inr new ↦ (p, added, (behind n).0 new)
    ],
    λ h. elim (was h.0 h.1) [
      | inl old ↦ (events n).1 (inl ((is.events n).1 (h.0, old, h.2)))
      | inr new ↦ (events n).1 (inr ((behind n).1 (subst (λ (k : ℕ). Behind all k n) (sym new) h.2)))
    ],
  );
}
  where
    was : (q : ℕ) → Contains list'.parts.items q → Contains list.parts.items q ⊎ (p ≡ q)
    was q has = Contains-push_cases list.parts.items p q (subst (λ (l : List ℕ). Contains l q) parts has)

    kept : (q : ℕ) → Contains list.parts.items q → Contains list'.parts.items q
    kept q has = subst (λ (l : List ℕ). Contains l q) (sym parts)
        (Contains-append_left list.parts.items (p ∷ []) q has)

    added : Contains list'.parts.items p
    added = subst (λ (l : List ℕ). Contains l p) (sym parts) (Contains-push list.parts.items p)

-- the list that has the new carrier alone
pub folded : (all : List Carrier) (next : ℕ) → AreCarriers all next → next < 4096 → (c : Carrier) → c.number ≡ next →
    IsList all next c.list → 0 < length c.list.parts.items → (new : List Carrier) → new ≡ all ++ c ∷ [] →
    (one : PartList) →
    one.parts.items ≡ next ∷ [] → ((n : ℕ) → Has one.events n ↔ Has c.list.events n) → IsList new (next + 1) one
folded all next are few c number list some new is one parts events = record {
  parts = record {
    few = let long = ap length parts in omega (long, arith);
    before = λ p has. (let same = the-one p has in omega (same, arith));
  };
  events = λ n. (
    λ h. (
      next,
      subst (λ (l : List ℕ). Contains l next) (sym parts) (Contains-push [] next),
      subst (λ (k : ℕ). Behind new k n) number ((behind.events n).0 ((events n).0 h)),
    ),
    λ h. (events n).1 ((behind.events n).1 (subst (λ (k : ℕ). Behind new k n)
        (sym (the-one h.0 h.1) ∙ sym number) h.2)),
  );
}
  where
    the-one : (p : ℕ) → Contains one.parts.items p → next ≡ p
    the-one p has = elim (Contains-push_cases [] next p (subst (λ (l : List ℕ). Contains l p) parts has)) [
      | inl none ↦ (let low = none.1 in absurd (omega (low, arith)))
      | inr same ↦ same
    ]

    behind : IsCarrier new c
    behind = subst (λ (l : List Carrier). IsCarrier l c) (sym is) (is-carrier all next are few c number list some)

-- what is behind a list of a set's events is the set
pub behind-list : (all : List Carrier) (next : ℕ) (list : PartList) (middle set : List ℕ) → IsList all next list →
    ((n : ℕ) → Has list.events n ↔ Has middle n) → ((n : ℕ) → Has middle n ↔ Has set n) →
    (n : ℕ) → Has set n ↔ IsBehind all list.parts.items n
behind-list all next list middle set is first second n = (
  λ h. (is.events n).0 ((first n).1 ((second n).1 h)),
  λ h. (second n).0 ((first n).0 ((is.events n).1 h)),
)
