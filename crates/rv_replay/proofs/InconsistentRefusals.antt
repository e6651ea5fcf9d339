-- What a pass refuses is not consistent.
use Rattle.rv_replay.proofs.Common.{arith, common_steps, ◌≡◌, ◌==◌, ◌↔◌, List, [], ◌∷◌, ◌++◌, sym, ◌∙◌, subst}
use Rattle.rv_replay.proofs.Common.{none-some, filter-append, events, Continues, Entry, MemoryModel}
use Rattle.rv_replay.proofs.Common.{no_longer_log, Outcome, Allowed, Forbidden, Malformed}
use Rattle.rv_replay.proofs.Common.{IsConsistent, IsReplayed, IsAllowed}
use Rattle.rv_event.specs.WellFormed.{entries_of}

-- a list continues its beginning
pub continued : (front back : List Entry) → Continues front (front ++ back)
continued front back hart = (entries_of hart back, filter-append (λ (x : Entry). hart == x.event.id.hart) front back)

-- a pass allows exactly what is consistent
pub exactly_allowed : (model : MemoryModel) (entries : List Entry) (outcome : Outcome) →
    IsReplayed model entries outcome → IsAllowed outcome ↔ IsConsistent model entries
exactly_allowed model entries (Allowed events operations waiting) told = (λ u. told.0, λ ok. tt)
exactly_allowed model entries (Malformed m) told = (
  λ none. absurd none,
  λ ok. absurd (none-some m.fault (sym (ok.well_formed told.0 told.2.after told.1 told.2.whole) ∙ told.3.fault)),
)
exactly_allowed model entries (Forbidden f) told =
    let evidence = told.0 ++ told.1 ∷ [] in
    let whole : entries ≡ evidence ++ told.2.after = grind (arith, common_steps) in (
      λ none. absurd none,
      λ ok. absurd (no_longer_log 4096 model evidence entries f.certificate ok.lawful.0 ok.well_formed
          (subst (λ (l : List Entry). Continues evidence l) (sym whole) (continued evidence told.2.after))
          told.3.certified
          ok.lawful.1),
    )
