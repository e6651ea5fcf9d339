-- How much the loads of a log test: how many could not have returned an older version. That one could
-- not is a matter of the manual's section 14.1; the measure is this project's own.
use Rattle.std.specs.Prelude.{ℕ, Bool, ◌≡◌, ◌⊎◌, ◌+◌, ◌*◌, ◌/◌, ◌&&◌, ◌==◌, List, [], ◌∷◌, codes, decimal, filter}
use Rattle.std.specs.Prelude.{if◌then◌else◌, length, map, max, min, nat_lt, slice_index_or, suc, zero}
use Rattle.std.specs.List.{fold, range_with_len}
use Rattle.rv_event.specs.Operations.{is_load, is_store}
use Rattle.rv_event.specs.Texts.{◌⋯◌}
use Rattle.rv_event.specs.declared.event.Entry.{Entry}
use Rattle.rv_event.specs.declared.event.Event.{Event}
use Rattle.rv_event.specs.declared.memory_model.MemoryModel.{MemoryModel}
use Rattle.rv_replay.specs.Replays.{IsConsistent}
use Rattle.rv_replay.specs.declared.strength.Strength.{Strength}

-- ---- older versions
-- a load that returned what a store wrote could have returned an older version
abbrev pub has_older : Event → Bool
has_older e = is_load e.op && nat_lt 0 e.read

-- whether a store wrote a version of the word that is older than this one
abbrev pub wrote_older : ℕ → ℕ → Event → Bool
wrote_older word version e = is_store e.op && ((e.word == word) && nat_lt e.wrote version)

-- the newest of those in a log, or the initial version
abbrev pub older_version : List Entry → ℕ → ℕ → ℕ
older_version log word version =
    fold (λ v x. max v x.event.wrote) 0 (filter (λ x. wrote_older word version x.event) log)

-- an entry, had its load returned this version
abbrev pub returned : ℕ → Entry → Entry
returned version x = record x { event = record x.event { read = version } }

-- the entries, had the one at a place
abbrev pub returned_at : ℕ → List Entry → ℕ → List Entry
returned_at version [] n = []
returned_at version (x ∷ rest) zero = returned version x ∷ rest
returned_at version (x ∷ rest) (suc n) = x ∷ returned_at version rest n

-- the same of the older version that a log has
abbrev pub put_back : List Entry → Entry → Entry
put_back log x = returned (older_version log x.event.word x.event.read) x

abbrev pub put_back_at : List Entry → List Entry → ℕ → List Entry
put_back_at log [] n = []
put_back_at log (x ∷ rest) zero = put_back log x ∷ rest
put_back_at log (x ∷ rest) (suc n) = x ∷ put_back_at log rest n

-- ---- which loads are put back
-- the places of those that could have returned an older version
abbrev pub places_from : ℕ → List Entry → List ℕ
places_from n [] = []
places_from n (x ∷ log) =
    if has_older x.event then n ∷ places_from (n + 1) log else places_from (n + 1) log

abbrev pub places : List Entry → List ℕ
places log = places_from 0 log

-- so many of these, evenly: of k, number i is the one of number i * length / k
abbrev pub evenly : ℕ → List ℕ → List ℕ
evenly k ns = map (λ i. slice_index_or ns (i * length ns / k) 0) (range_with_len 0 k)

-- at most 200 of them
abbrev pub chosen : List Entry → List ℕ
chosen log = evenly (min 200 (length (places log))) (places log)

-- ---- how many are refused so
-- so many of the logs are not consistent
abbrev pub AreRefused : MemoryModel → List (List Entry) → ℕ → Type 0
AreRefused model [] n = n ≡ 0
AreRefused model (log ∷ logs) n =
    (IsConsistent model log × AreRefused model logs n)
    ⊎ ((IsConsistent model log → ⊥) × ((m : ℕ) × (n ≡ m + 1) × AreRefused model logs m))

-- so many loads were put back, each by itself, and the model refuses so many of the logs
pub record IsStrength (model : MemoryModel) (log : List Entry) (s : Strength) : Type 0 where
  pub tried_are : s.tried ≡ length (chosen log)
  pub refused_are : AreRefused model (map (put_back_at log log) (chosen log)) s.refused

abbrev pub strength_text : Strength → List ℕ
strength_text s = decimal s.refused ⋯ codes " of " ⋯ decimal s.tried ⋯ codes " older reads would be refused"
