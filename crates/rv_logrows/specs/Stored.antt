-- The words and the stores of a log's instructions.
use Rattle.std.specs.Prelude.{ℕ, ◌≡◌, List, Option, Some, None, ⊤, unwrap_or, option_map}
use Rattle.rv_log.specs.declared.access.Access.{Access}
use Rattle.rv_log.specs.declared.record.Retired.{Retired}
use Rattle.rv_memory.specs.Words.{IsNumbered, IsSize}
use Rattle.rv_memory.specs.Words as words
use Rattle.rv_memory.specs.declared.words.Word.{Word}
use Rattle.rv_memory.specs.declared.words.WordFault.TheVariants as word_fault
use Rattle.rv_logrows.specs.declared.fault.LogFault.{LogFault}
use Rattle.rv_logrows.specs.declared.fault.LogFault.TheVariants as fault

-- how many bytes an instruction accesses
abbrev pub size_of : Option Access → ℕ
size_of access = unwrap_or (option_map (λ (a : Access). a.size) access) 0

-- the bytes that it accesses
abbrev pub word_by : Retired → Word
word_by r = record { address = r.address; size = size_of r.access }

-- the number of the word that it accesses, which may be a new one; 0 where it accesses none
abbrev pub IsNumberBy : Option Access → Retired → List Word → List Word → ℕ → Type 0
IsNumberBy (Some a) r old new n = IsNumbered old (word_by r) new n
IsNumberBy None r old new n = (n ≡ 0) × (new ≡ old)

abbrev pub IsWordOf : Retired → List Word → List Word → ℕ → Type 0
IsWordOf r old new n = IsNumberBy r.access r old new n

-- why an access has no word
abbrev pub IsWordRefused : Retired → List Word → LogFault → Type 0
IsWordRefused r old (fault.Misaligned word) =
    (word ≡ word_by r) × ((IsSize word.size × words.IsAligned word) → ⊥)
IsWordRefused r old (fault.MixedSizes word other) =
    (word ≡ word_by r) × words.IsRefused old word (word_fault.MixedSizes other)
IsWordRefused r old fault.Full = words.IsRefused old (word_by r) word_fault.Full
IsWordRefused r old fault.NoMemory = ⊤
IsWordRefused r old _ = ⊥
