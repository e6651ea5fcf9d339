-- What comes back from a look at a slot.
use Rattle.rv_slots.specs.declared.carrier.Looked.{Looked}
use Rattle.rv_slots.specs.declared.carrier.Looked.TheVariants.{Found, Nothing}

-- the lease or the seat that comes back is one of those
abbrev pub LooksFit : {S L : Type 0} → (S → Type 0) → (L → Type 0) → Looked S L → Type 0
LooksFit fits holds (Found chunk lease) = holds lease
LooksFit fits holds (Nothing seat) = fits seat
