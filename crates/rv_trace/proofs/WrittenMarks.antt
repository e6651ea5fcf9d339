-- Operations with their annotations, as they are printed and read.
use Rattle.std.proofs.Common.{◌≡◌, ◌&&◌, ◌==◌, ℕ, List, length, refl, sym, ap, ◌∙◌, subst, inl, inr, true, false}
use Rattle.std.proofs.Common.{Some, None, Option, Ok, Err, Result, Bool}
use Rattle.std.specs.Prelude.{bytes_eq, codes, if◌then◌else◌}
use Rattle.std.proofs.lemmas.Bool.{cases_Bool}
use Rattle.rv_event.specs.Operations.{has_word, is_load, is_store}
use Rattle.rv_event.specs.Rows.{marks_text, op_text}
use Rattle.rv_event.specs.declared.event.Op.{Op}
use Rattle.rv_event.specs.declared.event.Op.TheVariants as op
use Rattle.rv_event.specs.declared.event.Set.{Set}
use Rattle.rv_event.specs.declared.event.Set.TheVariants.{R, W, Rw}
use Rattle.rv_trace.specs.Operations.{Annotated, annotated, bare, columns_of, fence, fence_sets}
use Rattle.rv_trace.specs.Operations.{mnemonic, ordered}
use Rattle.rv_trace.specs.declared.dialect.Dialect.{Dialect}
use Rattle.rv_trace.specs.declared.fault.FaultKind.{FaultKind}
use Rattle.rv_trace.specs.declared.fault.FaultKind.TheVariants as fault
use Rattle.rv_trace.specs.declared.operation.Mnemonic.{Mnemonic}
use Rattle.rv_trace.specs.declared.operation.Mnemonic.TheVariants as name

-- what the texts of an operation and of its annotations are read as, and the columns that it has
pub record IsMarked (d : Dialect) (n : Mnemonic) (o : Annotated) : Type 0 where
  pub named : mnemonic d (op_text o.0) ≡ Ok n
  pub marked : annotated n (marks_text o.0 o.1 o.2) ≡ Ok o
  pub word : has_word o.0 ≡ (columns_of n).word
  pub read : is_load o.0 ≡ (columns_of n).read
  pub wrote : is_store o.0 ≡ (columns_of n).wrote

-- with no annotation
bare_is : (o : Op) (text : List ℕ) (p : Annotated) → bare o text ≡ Ok p → p ≡ (o, false, false)
bare_is o text p said = elim (cases_Bool (length text == 0)) [
  | inl none ↦ let h = rw none at said in cc h
  | inr some ↦ let h = rw some at said in absurd (cc h)
]

-- with the annotations that the operation may have
pub record IsOrdered (o : Op) (acquires releases : Bool) (p : Annotated) : Type 0 where
  pub same : p.0 ≡ o
  pub acquire : p.1 ≡ true → p.2 ≡ false → acquires ≡ true
  pub release : p.1 ≡ false → p.2 ≡ true → releases ≡ true

with_bits : (o : Op) (acquires releases a r : Bool) (p : Annotated) → (o, a, r) ≡ p →
    (a ≡ true → r ≡ false → acquires ≡ true) → (a ≡ false → r ≡ true → releases ≡ true) →
    IsOrdered o acquires releases p
with_bits o acquires releases a r p is left right =
    subst (IsOrdered o acquires releases) is (record { same = refl; acquire = left; release = right })

ordered_is : (o : Op) (acquires releases : Bool) (text : List ℕ) (p : Annotated) →
    ordered o acquires releases text ≡ Ok p → IsOrdered o acquires releases p
unfolding ordered
ordered_is o acquires releases text p said = elim (cases_Bool (length text == 0)) [
  | inl none ↦
      let h = rw none at said in with_bits o acquires releases false false p (cc h) (λ e. cc e) (λ _ e. cc e)
  | inr some ↦
      let h = rw some at said in
      elim (cases_Bool (bytes_eq text (codes "A") && acquires)) [
        | inl first ↦
            let g = rw first at h in
            with_bits o acquires releases true false p (cc g) (λ _ _. may (bytes_eq text (codes "A")) acquires first)
            (λ e. cc e)
        | inr other ↦
            let g = rw other at h in
            elim (cases_Bool (bytes_eq text (codes "R") && releases)) [
              | inl second ↦
                  let f = rw second at g in
                  with_bits o acquires releases false true p (cc f) (λ e. cc e)
                  (λ _ _. may (bytes_eq text (codes "R")) releases second)
              | inr third ↦
                  let f = rw third at g in
                  elim (cases_Bool (bytes_eq text (codes "AR"))) [
                    | inl whole ↦
                        let d = rw whole at f in
                        with_bits o acquires releases true true p (cc d) (λ _ e. cc e) (λ e. cc e)
                    | inr wrong ↦ let d = rw wrong at f in absurd (cc d)
                  ]
            ]
      ]
] where
  may : (a b : Bool) → (a && b) ≡ true → b ≡ true
  may true b e = e
  may false b e = absurd (cc e)

-- the bits that an LR, an SC or an AMO may have are read as they are printed
lr_marked : (d : Dialect) (a r : Bool) → (a ≡ false → r ≡ true → false ≡ true) → IsMarked d name.Lr (op.Lr, a, r)
unfolding mnemonic ordered
lr_marked d true true may = record { named = refl; marked = refl; word = refl; read = refl; wrote = refl }
lr_marked d true false may = record { named = refl; marked = refl; word = refl; read = refl; wrote = refl }
lr_marked d false true may = absurd (cc (may refl refl))
lr_marked d false false may = record { named = refl; marked = refl; word = refl; read = refl; wrote = refl }

sc_marked : (d : Dialect) (a r : Bool) → (a ≡ true → r ≡ false → false ≡ true) → IsMarked d name.Sc (op.Sc, a, r)
unfolding mnemonic ordered
sc_marked d true true may = record { named = refl; marked = refl; word = refl; read = refl; wrote = refl }
sc_marked d true false may = absurd (cc (may refl refl))
sc_marked d false true may = record { named = refl; marked = refl; word = refl; read = refl; wrote = refl }
sc_marked d false false may = record { named = refl; marked = refl; word = refl; read = refl; wrote = refl }

sf_marked : (d : Dialect) (a r : Bool) → (a ≡ true → r ≡ false → false ≡ true) →
    IsMarked d name.ScFailed (op.ScFailed, a, r)
unfolding mnemonic ordered
sf_marked d true true may = record { named = refl; marked = refl; word = refl; read = refl; wrote = refl }
sf_marked d true false may = absurd (cc (may refl refl))
sf_marked d false true may = record { named = refl; marked = refl; word = refl; read = refl; wrote = refl }
sf_marked d false false may = record { named = refl; marked = refl; word = refl; read = refl; wrote = refl }

amo_marked : (d : Dialect) (a r : Bool) → IsMarked d name.Amo (op.Amo, a, r)
unfolding mnemonic ordered
amo_marked d true true = record { named = refl; marked = refl; word = refl; read = refl; wrote = refl }
amo_marked d true false = record { named = refl; marked = refl; word = refl; read = refl; wrote = refl }
amo_marked d false true = record { named = refl; marked = refl; word = refl; read = refl; wrote = refl }
amo_marked d false false = record { named = refl; marked = refl; word = refl; read = refl; wrote = refl }

-- and so are the two sets of a fence
sets_read : (a b : Set) → fence_sets (marks_text (op.Fence a b) false false) ≡ Some (a, b)
unfolding fence_sets
sets_read R R = refl
sets_read R W = refl
sets_read R Rw = refl
sets_read W R = refl
sets_read W W = refl
sets_read W Rw = refl
sets_read Rw R = refl
sets_read Rw W = refl
sets_read Rw Rw = refl

fence_marked : (d : Dialect) (a b : Set) → IsMarked d name.Fence (op.Fence a b, false, false)
unfolding mnemonic
fence_marked d a b =
    record { named = refl; marked = rw (sets_read a b) refl; word = refl; read = refl; wrote = refl }

fence_is : (s : Option (Set × Set)) (p : Annotated) → fence s ≡ Ok p →
    (a : Set) × (b : Set) × (p ≡ (op.Fence a b, false, false))
fence_is None p said = absurd (cc said)
fence_is (Some q) p said = (q.0, q.1, cc said)

-- an operation that is read with its annotations is so printed
pub marked_of : (d : Dialect) (n : Mnemonic) (text : List ℕ) (p : Annotated) →
    (n ≡ name.Carrier → d.carriers ≡ true) → annotated n text ≡ Ok p → IsMarked d n p
unfolding mnemonic
marked_of d name.Load text p may said =
    subst (IsMarked d name.Load) (sym (bare_is op.Load text p said))
    (record { named = refl; marked = refl; word = refl; read = refl; wrote = refl })
marked_of d name.Store text p may said =
    subst (IsMarked d name.Store) (sym (bare_is op.Store text p said))
    (record { named = refl; marked = refl; word = refl; read = refl; wrote = refl })
marked_of d name.Lr text p may said =
    let h = ordered_is op.Lr true false text p said in
    subst (λ (o : Op). IsMarked d name.Lr (o, p.1, p.2)) (sym h.same) (lr_marked d p.1 p.2 h.release)
marked_of d name.Sc text p may said =
    let h = ordered_is op.Sc false true text p said in
    subst (λ (o : Op). IsMarked d name.Sc (o, p.1, p.2)) (sym h.same) (sc_marked d p.1 p.2 h.acquire)
marked_of d name.ScFailed text p may said =
    let h = ordered_is op.ScFailed false true text p said in
    subst (λ (o : Op). IsMarked d name.ScFailed (o, p.1, p.2)) (sym h.same) (sf_marked d p.1 p.2 h.acquire)
marked_of d name.Amo text p may said =
    let h = ordered_is op.Amo true true text p said in
    subst (λ (o : Op). IsMarked d name.Amo (o, p.1, p.2)) (sym h.same) (amo_marked d p.1 p.2)
marked_of d name.Fence text p may said =
    let h = fence_is (fence_sets text) p said in subst (IsMarked d name.Fence) (sym h.2) (fence_marked d h.0 h.1)
marked_of d name.FenceTso text p may said =
    subst (IsMarked d name.FenceTso) (sym (bare_is op.FenceTso text p said))
    (record { named = refl; marked = refl; word = refl; read = refl; wrote = refl })
marked_of d name.Branch text p may said =
    subst (IsMarked d name.Branch) (sym (bare_is op.Branch text p said))
    (record { named = refl; marked = refl; word = refl; read = refl; wrote = refl })
marked_of d name.Carrier text p may said =
    subst (IsMarked d name.Carrier) (sym (bare_is op.Carrier text p said))
    (record { named = rw (may refl) refl; marked = refl; word = refl; read = refl; wrote = refl })

-- where a chain of tests names a carrier, and this test names another, the rest does
past : (b : Bool) (n : Mnemonic) (rest : Result Mnemonic FaultKind) → (n ≡ name.Carrier → ⊥) →
    (if b then Ok n else rest) ≡ Ok name.Carrier → rest ≡ Ok name.Carrier
past true n rest other said = absurd (other (cc said))
past false n rest other said = said

-- a text names a carrier only in a dialect that has them
pub carrier_named : (d : Dialect) (text : List ℕ) (n : Mnemonic) → mnemonic d text ≡ Ok n → n ≡ name.Carrier →
    d.carriers ≡ true
unfolding mnemonic
carrier_named d text n said is = elim (cases_Bool d.carriers) [
  | inl has ↦ has
  | inr others ↦ absurd (none (last (bytes_eq text (codes "I")) d.carriers others (
      past _ name.Branch _ (λ e. cc e)
      (past _ name.FenceTso _ (λ e. cc e)
      (past _ name.Fence _ (λ e. cc e)
      (past _ name.Amo _ (λ e. cc e)
      (past _ name.ScFailed _ (λ e. cc e)
      (past _ name.Sc _ (λ e. cc e)
      (past _ name.Lr _ (λ e. cc e)
      (past _ name.Store _ (λ e. cc e)
      (past _ name.Load _ (λ e. cc e)
      (said ∙ ap Ok is)))))))))
      )))
]
  where
    none : (let r : Result Mnemonic FaultKind = Err fault.Op in r ≡ Ok name.Carrier) → ⊥
    none e = cc e

    last : (b c : Bool) → c ≡ false → (if b && c then Ok name.Carrier else Err fault.Op) ≡ Ok name.Carrier →
        (let r : Result Mnemonic FaultKind = Err fault.Op in r ≡ Ok name.Carrier)
    last true true no_carriers e = cc no_carriers
    last true false no_carriers e = e
    last false c no_carriers e = e
