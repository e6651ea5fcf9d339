-- The numbers of new carriers, as more come.
use Rattle.std.proofs.Common.{◌≡◌, ℕ, ◌+◌, List, [], ◌∷◌, ◌++◌, length, sym, ap, ◌∙◌, subst, inl, inr, arith}
use Rattle.std.proofs.lemmas.List.{get_or_append_left, get_or_at, length_push}
use Rattle.std.proofs.lemmas.Bool.{cases_lt}
use Rattle.std.specs.Prelude.{slice_index_or}
use Rattle.rv_flow.specs.Carriers.{AreNextRows, IsGrown}
use Rattle.rv_flow.specs.declared.carrier.Carrier.{Carrier}

-- without new carriers and rows there are none to number
pub none-numbered : (all : List Carrier) (next : ℕ) → AreNextRows all next all next
none-numbered all next = record {
  count = omega arith;
  each = λ i c after before. absurd (omega (after, before, arith));
}

-- one carrier more, which is the next row
pub one-numbered : (all new : List Carrier) (next : ℕ) (carrier : Carrier) → carrier.number ≡ next →
    new ≡ all ++ carrier ∷ [] → AreNextRows all next new (next + 1)
one-numbered all new next carrier numbered is = record {
  count = omega (long, arith);
  each = λ i c after before.
      let at : i ≡ length all = omega (after, before, long, arith) in
      let last : (slice_index_or new i c).number ≡ next =
      ap (λ (l : List Carrier). (slice_index_or l i c).number) is
      ∙ ap (λ (x : Carrier). x.number) (get_or_at all carrier [] c i (omega (at, arith)))
      ∙ numbered in
      omega (last, at, arith);
}
  where
    long : length new ≡ length all + 1
    long = ap length is ∙ length_push all carrier

-- those that came first, and those behind them
pub numbered-on : {all more most : List Carrier} {next further last : ℕ} →
    AreNextRows all next more further → AreNextRows more further most last → IsGrown more further most last →
    AreNextRows all next most last
numbered-on {all} {more} {most} {next} first second grown = record {
  count = let one = first.count in let two = second.count in omega (one, two, arith);
  each = λ i c after before. elim (cases_lt i (length more)) [
    | inl early ↦
        let same : slice_index_or most i c ≡ slice_index_or more i c =
        ap (λ (l : List Carrier). slice_index_or l i c) grown.kept
        ∙ get_or_append_left more grown.more c i early in
        subst (λ (x : Carrier). x.number + length all ≡ next + i) (sym same) (first.each i c after early)
    | inr late ↦
        let one = first.count in
        let own = second.each i c late before in
        omega (one, own, arith)
  ];
}
