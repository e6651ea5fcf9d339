-- Where the parts of a slot's state word lie: bit s is the pin of seat s, then come three flags and
-- the generation.
use Rattle.std.specs.Prelude.{ℕ}

-- how many seats have a pin
abbrev pub seats_at_most : ℕ
seats_at_most = 32

-- the number of the last of them
abbrev pub last_seat : ℕ
last_seat = 31

abbrev pub slots_at_least : ℕ
slots_at_least = 2

abbrev pub slots_at_most : ℕ
slots_at_most = 16

-- how many words a slot has: the state word and its content
abbrev pub slot_words : ℕ
slot_words = 59

abbrev pub claimed_bit : ℕ
claimed_bit = 32

abbrev pub full_bit : ℕ
full_bit = 33

abbrev pub done_bit : ℕ
done_bit = 34

-- the generation's lowest bit
abbrev pub generation_bit : ℕ
generation_bit = 35

-- a slot of this generation isn't freed any more
abbrev pub last_generation : ℕ
last_generation = 536870911
