-- What is behind the carriers of a hart, as the hart grows.
use Rattle.rv_hart.proofs.Common.{◌≡◌, ℕ, ◌<◌, ◌≤◌, ◌↔◌, List, [], ◌∷◌, ◌++◌, length, get_or, Contains, inl, inr}
use Rattle.rv_hart.proofs.Common.{refl, sym, ap, ◌∙◌, subst, arith}
use Rattle.rv_hart.proofs.Common.{Any-contains, Any-from_contains, Contains-append_left}
use Rattle.rv_hart.proofs.Common.{Behind, DependsOn, IsCarrier, Lists, Event, DepKind, DataOf, Hart}
use Rattle.rv_hart.proofs.Common.{AreCarriedRows, IsCarried}
use Rattle.std.proofs.lemmas.List.{get_or_append_left, length-append}
use Rattle.rv_event.specs.Relations.{listed, through}
use Rattle.rv_hart.proofs.Common.{All, Contains-get_or, Has, has_bit, cases_eq, followed, get_or_at, length_push}
use Rattle.rv_hart.proofs.HartFacts.{Fits, Known, event_at, fits_of, known_with}
use Rattle.rv_hart.specs.Sets.{IsNextOf}
use Rattle.rv_hart.specs.declared.sets.Sets.{Sets}

-- behind a carrier is what it depends on by the data that it lists
pub behind-depends : (events : List Event) (c a : Event) → Behind events c a → IsCarrier c × DependsOn events DataOf c a
behind-depends events c a (listed carrier l) = (carrier, inl l)
behind-depends events c a (through {m = m} carrier cm l rest) =
    (carrier, inr (Any-from_contains (λ n. Lists DataOf c n × Behind events n a) events m cm (l, rest)))

pub depends-behind : (events : List Event) (c a : Event) → IsCarrier c → DependsOn events DataOf c a → Behind events c a
depends-behind events c a carrier (inl l) = listed carrier l
depends-behind events c a carrier (inr any) =
    let found = Any-contains (λ n. Lists DataOf c n × Behind events n a) events any in
    through carrier found.1 found.2.0 found.2.1

module _ {h : Hart} (known : Known h) (before after : List Event) (is : h.events ≡ before ++ after) where
  long : length before ≤ length h.events
  long = rw is (let more = length-append before after in omega (more, arith))

  same-place : (k : ℕ) (d : Event) → k < length before → get_or h.events k d ≡ get_or before k d
  same-place k d low = ap (λ (l : List Event). get_or l k d) is ∙ get_or_append_left before after d k low

  -- the first events are those of the first numbers
  pub front-number : (c : Event) → Contains before c → c.id.seq < length before
  front-number c (k, low, at) =
      let number : c.id.seq ≡ k = sym (ap (λ (x : Event). x.id.seq) (same-place k c low ∙ at)) ∙
      known.at k c (omega (low, long, arith)) in
      omega (low, number, arith)

  pub number-front : (m : Event) → Contains h.events m → m.id.seq < length before → Contains before m
  number-front m cm low = (m.id.seq, low, sym (same-place m.id.seq m low) ∙ event_at known m m cm)

  whole : (m : Event) → Contains before m → Contains h.events m
  whole m cm = subst (λ (l : List Event). Contains l m) (sym is) (Contains-append_left before after m cm)

  -- what is behind one of them was so before
  behind-front : (c a : Event) → c.id.seq < length before → Behind h.events c a → Behind before c a
  behind-front c a low (listed carrier l) = listed carrier l
  behind-front c a low (through {m = m} carrier cm l rest) =
      let earlier = l.0.seq in
      let low' : m.id.seq < length before = omega (earlier, low, arith) in
      through carrier (number-front m cm low') l (behind-front m a low' rest)

  behind-whole : (c a : Event) → Behind before c a → Behind h.events c a
  behind-whole c a (listed carrier l) = listed carrier l
  behind-whole c a (through {m = m} carrier cm l rest) = through carrier (whole m cm) l (behind-whole m a rest)

  -- so are the dependencies of one of them, and of the next
  pub depends-front : (kind : DepKind) (x a : Event) → x.id.seq ≤ length before → DependsOn h.events kind x a →
      DependsOn before kind x a
  depends-front kind x a low (inl l) = inl l
  depends-front kind x a low (inr any) =
      let found = Any-contains (λ m. Lists kind x m × Behind h.events m a) h.events any in
      let m = found.0 in
      let earlier = found.2.0.0.seq in
      let low' : m.id.seq < length before = omega (earlier, low, arith) in
      inr (Any-from_contains (λ n. Lists kind x n × Behind before n a) before m (number-front m found.1 low')
      (found.2.0, behind-front m a low' found.2.1))

  pub depends-whole : (kind : DepKind) (x a : Event) → DependsOn before kind x a → DependsOn h.events kind x a
  depends-whole kind x a (inl l) = inl l
  depends-whole kind x a (inr any) =
      let found = Any-contains (λ m. Lists kind x m × Behind before m a) before any in
      inr (Any-from_contains (λ n. Lists kind x n × Behind h.events n a) h.events found.0 (whole found.0 found.1)
      (found.2.0, behind-whole found.0 a found.2.1))

  -- what is behind is earlier
  pub behind-earlier : (c a : Event) → Behind h.events c a → a.id.seq < c.id.seq
  behind-earlier c a (listed carrier l) = l.0.seq
  behind-earlier c a (through {m = m} carrier cm l rest) =
      let first = l.0.seq in let second = behind-earlier m a rest in omega (first, second, arith)

  pub depends-earlier : (kind : DepKind) (x a : Event) → DependsOn h.events kind x a → a.id.seq < x.id.seq
  depends-earlier kind x a (inl l) = l.0.seq
  depends-earlier kind x a (inr any) =
      let found = Any-contains (λ m. Lists kind x m × Behind h.events m a) h.events any in
      let first = found.2.0.0.seq in
      let second = behind-earlier found.0 a found.2.1 in
      omega (first, second, arith)

  pub carried-same : (s j : ℕ) → j < length before → IsCarried h.events s j ↔ IsCarried before s j
  carried-same s j low = (to, from)
    where
      to : IsCarried h.events s j → IsCarried before s j
      to x =
          let at = x.c_at in
          let low' : x.c.id.seq < length before = omega (low, at, arith) in
          let earlier = behind-earlier x.c x.a x.behind in
          record {
            a = x.a;
            c = x.c;
            a_of_list = number-front x.a x.a_of_list (omega (earlier, low', arith));
            c_of_list = number-front x.c x.c_of_list low';
            a_at = x.a_at;
            c_at = x.c_at;
            memory = x.memory;
            behind = behind-front x.c x.a low' x.behind;
          }

      from : IsCarried before s j → IsCarried h.events s j
      from x = record {
        a = x.a;
        c = x.c;
        a_of_list = whole x.a x.a_of_list;
        c_of_list = whole x.c x.c_of_list;
        a_at = x.a_at;
        c_at = x.c_at;
        memory = x.memory;
        behind = behind-whole x.c x.a x.behind;
      }

  -- the rows of all are those of the first
  pub rows-front : (rows : List (List ℕ)) → AreCarriedRows h.events rows → AreCarriedRows before rows
  rows-front rows are = record {
    long = let all = are.long in omega (all, long, arith);
    says = λ j s low. (
      λ has. (carried-same s j low).0 ((are.says j s (omega (low, long, arith))).0 has),
      λ x. (are.says j s (omega (low, long, arith))).1 ((carried-same s j low).1 x),
    );
  }

module _ {h : Hart} {e : Event} (f : Fits h e) where
  here-low : (s j : ℕ) → j < length h.events → IsCarried (followed h e) s j ↔ IsCarried h.events s j
  here-low = carried-same (known_with f) h.events (e ∷ []) refl

  -- one row more, with one event more
  pub carried-push : (rows : List (List ℕ)) (last : List ℕ) → AreCarriedRows h.events rows →
      length rows ≡ length h.events → ((s : ℕ) → Has last s ↔ IsCarried (followed h e) s e.id.seq) →
      AreCarriedRows (followed h e) (rows ++ last ∷ [])
  carried-push rows last are count new = record {
    long = let one = length_push rows last in let more = length_push h.events e in omega (one, more, count, arith);
    says = λ j s low. elim (cases_eq j (length rows)) [
      | inl end ↦ (
          let row : get_or (rows ++ last ∷ []) j [] ≡ last = get_or_at rows last [] [] j (sym end) in
          let number : j ≡ e.id.seq = end ∙ count ∙ sym f.seq in (
            λ has. subst (λ (k : ℕ). IsCarried (followed h e) s k) (sym number)
                ((new s).0 (subst (λ (r : List ℕ). Has r s) row has)),
            λ x. subst (λ (r : List ℕ). Has r s) (sym row)
                ((new s).1 (subst (λ (k : ℕ). IsCarried (followed h e) s k) number x)),
          ))
      | inr apart ↦ (
          let more = length_push h.events e in
          let low' : j < length h.events = omega (low, more, apart, count, arith) in
          let row : get_or (rows ++ last ∷ []) j [] ≡ get_or rows j [] =
          get_or_append_left rows (last ∷ []) [] j (omega (low', count, arith)) in (
            λ has. (here-low s j low').1 ((are.says j s low').0 (subst (λ (r : List ℕ). Has r s) row has)),
            λ x. subst (λ (r : List ℕ). Has r s) (sym row) ((are.says j s low').1 ((here-low s j low').0 x)),
          ))
    ];
  }

  -- and one less
  pub carried-pop : (rows : List (List ℕ)) (last : List ℕ) → AreCarriedRows (followed h e) (rows ++ last ∷ []) →
      length rows ≡ length h.events → AreCarriedRows h.events rows
  carried-pop rows last are count = record {
    long = omega (count, arith);
    says = λ j s low.
        let more = length_push h.events e in
        let low' : j < length (followed h e) = omega (low, more, arith) in
        let row : get_or (rows ++ last ∷ []) j [] ≡ get_or rows j [] =
        get_or_append_left rows (last ∷ []) [] j (omega (low, count, arith)) in (
          λ has. (here-low s j low).0 ((are.says j s low').0 (subst (λ (r : List ℕ). Has r s) (sym row) has)),
          λ x. subst (λ (r : List ℕ). Has r s) row ((are.says j s low').1 ((here-low s j low).1 x)),
        );
  }

  -- the numbers of the new event's row are below its own
  pub carried-low : (row : List ℕ) → ((s : ℕ) → Has row s ↔ IsCarried (followed h e) s e.id.seq) → (s : ℕ) → Has row s →
      s ≤ length h.events
  carried-low row says s has =
      let x = (says s).0 has in
      let earlier = behind-earlier (known_with f) h.events (e ∷ []) refl x.c x.a x.behind in
      let at = x.a_at in
      let number = x.c_at in
      let last = f.seq in
      omega (earlier, at, number, last, arith)

-- a row with the same numbers
pub carried-means : (events : List Event) (j : ℕ) (row last : List ℕ) → ((s : ℕ) → has_bit last s ≡ has_bit row s) →
    ((s : ℕ) → Has row s ↔ IsCarried events s j) → (s : ℕ) → Has last s ↔ IsCarried events s j
carried-means events j row last same mean s = (λ x. (mean s).0 (sym (same s) ∙ x), λ b. same s ∙ (mean s).1 b)

-- dependencies of a hart's events have rows
pub kept-of : {h : Hart} → Known h → (w : Event) → Contains h.events w → (rows : List (List ℕ)) →
    length h.events ≤ length rows → All (λ d. d.seq < length rows) w.deps
kept-of {h} known w cw rows long i x inside =
    let within = known.below w cw in
    let below = known.deps w cw (get_or w.deps i x) (Contains-get_or w.deps i x inside) in
    omega (below, within, long, arith)

pub kept-events : {h : Hart} → Known h → (rows : List (List ℕ)) → length h.events ≤ length rows →
    All (λ e. All (λ d. d.seq < length rows) e.deps) h.events
kept-events {h} known rows long k d low =
    kept-of known (get_or h.events k d) (Contains-get_or h.events k d low) rows long

pub kept-own : {h : Hart} {e : Event} → Fits h e → (rows : List (List ℕ)) → length h.events ≤ length rows →
    All (λ d. d.seq < length rows) e.deps
kept-own {h} {e} f rows long i x inside =
    let below = f.deps (get_or e.deps i x) (Contains-get_or e.deps i x inside) in
    let at = f.seq in
    omega (below, at, long, arith)

-- a row more tells the same of the others
pub carried-longer : (events : List Event) (rows rows' : List (List ℕ)) (last : List ℕ) → rows' ≡ rows ++ last ∷ [] →
    AreCarriedRows events rows → AreCarriedRows events rows'
carried-longer events rows rows' last is are = subst (AreCarriedRows events) (sym is) (record {
  long = let all = are.long in let one = length_push rows last in omega (all, one, arith);
  says = λ j s low.
      let all = are.long in
      let row : get_or (rows ++ last ∷ []) j [] ≡ get_or rows j [] =
      get_or_append_left rows (last ∷ []) [] j (omega (low, all, arith)) in (
        λ has. (are.says j s low).0 (subst (λ (r : List ℕ). Has r s) row has),
        λ x. subst (λ (r : List ℕ). Has r s) (sym row) ((are.says j s low).1 x),
      );
})

module _ {e : Event} {sets : Sets} {rows : List (List ℕ)} (next : IsNextOf e sets rows) where
  -- the next event of some hart fits it
  pub next-fits : Fits next.h e
  next-fits = fits_of next.h e next.is_hart next.follows

  -- there is room for its row
  pub next-few : length rows < 4096
  next-few = let room = next-fits.room in let count = next.one_each in omega (room, count, arith)
