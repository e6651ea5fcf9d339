-- What a `&` to a note shows: a copy of what the note owns. V is what the cell holds. Assumes
-- `Logic`.
use Rattle.std.proofs.Common.{ℕ, List, [], ◌∷◌, ◌++◌, ap, ◌∙◌}
use seplogic.Ra.Ura.{Ura}
use mir.Val.{Val, vstruct, of_list}
use base.Logic.{ent, sep}
use base.Fml.{Lft, Share, Fml, flft}
use types.Logic.{Logic, sem}
use types.Kit.{‵, ◌⊛◌, ◌$◌, ◌∵◌, !, qed, move, split, fsplit, fjoin, use1, use2, drop, updating, now, done}
use denote.RattleType.{RattleType}
use denote.Laws.{Is, Tells, Copy}
use denote.Memory.{part_at, shared_of, hidden_shr, cell_at}
use denote.Shadow.{pure_l, pure_i}
use denote.Opens.{Cuts-Halves, Opened, Opened-one, shr_open, shr_Shut}
use denote.Copied.{told_Cuts, told_out, told_in}
use denote.Struct.Struct.{Struct}
use denote.Struct.Owning.{shape}
use Rattle.once_cell.specs.Once.{noted}
use Rattle.once_cell.specs.contracts.race.note.Note as note
use Rattle.once_cell.proofs.Notes.{token, noted_twice}

-- a note in memory
abbrev pub NoteOf : RattleType → RattleType
NoteOf V = note.the_row V

-- the values of a note in memory, whatever it knows
abbrev pub values : (V : RattleType) → (NoteOf V).Denot → List Val
values V known = token ∷ []

-- a note tells what the cell holds
pub note_tells : (V : RattleType) → Tells (NoteOf V) (Is (NoteOf V)) (values V)
note_tells V known found is = is.0.1.0 ∙ ap (λ inner. vstruct (of_list (inner ++ [])) ∷ []) is.0.1.1.0.1.0

module _ {M : Type 1} {𝓤 : Ura M} (𝓛 : Logic 𝓤) (V : RattleType) where
  -- what a note owns can be had twice
  pub note_copy : Copy 𝓛 (NoteOf V)
  note_copy = record {
    twice = λ known found.
        let fields : Fml = (Struct (shape (note.the_type V))).own_val (tt, tt) found in
        let name : Fml = noted V known.cell known.known in
        qed 𝓛 (‵ ((NoteOf V).own_val known found) ∷ []) ∵ fsplit ! $ pure_l ! fields (λ are.
        use1 𝓛 (‵ name ⊛ ‵ name) (noted_twice 𝓛 V known.cell known.known) $ split ! $
        pure_i ! fields (λ outer. (tt, ((λ inner. (tt, tt)), tt))) are $ fjoin ! $ move ! (1 ∷ []) $
        pure_i ! fields (λ outer. (tt, ((λ inner. (tt, tt)), tt))) are $ fjoin ! $ done !);
  }

  module _ (known : (NoteOf V).Denot) (block offset : ℕ) where
    -- the note in memory, by a share of it
    abbrev pub part : Share → Fml
    part share = part_at (NoteOf V) share known block offset

    -- a share of a note in memory is cut and joined
    pub note_opened : Opened 𝓛 part (shared_of (NoteOf V) known block offset)
    note_opened = Opened-one 𝓛 part
        (Cuts-Halves 𝓛 part (told_Cuts 𝓛 (NoteOf V) (values V) (note_tells V) note_copy known block offset))

    -- what a lent note knows, with the token of the loan back
    pub note_shown : (life : Lft) (lived : Share) →
        ent 𝓤 (sep 𝓤 (sem 𝓛 (hidden_shr (NoteOf V) life known block offset)) (𝓛.A.lft life lived))
        (𝓛.H.⇛ (sep 𝓤 (sem 𝓛 (noted V known.cell known.known)) (𝓛.A.lft life lived)))
    note_shown life lived =
        let found : List Val = values V known in
        let owned : Fml = (NoteOf V).own_val known found in
        qed 𝓛 (‵ (hidden_shr (NoteOf V) life known block offset) ∷ ‵ (flft life lived) ∷ []) ∵ updating ! $
        shr_open ! tt part (shared_of (NoteOf V) known block offset) note_opened (λ share. move ! (1 ∷ []) $
        use1 𝓛 (‵ (cell_at share (NoteOf V).mir found block offset) ⊛ ‵ owned)
        (told_out 𝓛 (NoteOf V) (values V) (note_tells V) share known block offset) $
        split ! $ move ! (1 ∷ []) $ use1 𝓛 (‵ owned ⊛ ‵ owned) (note_copy.twice known found) $ split ! $
        fsplit ! $ drop ! $ move ! (2 ∷ 1 ∷ []) $ use2 𝓛 (‵ (part share))
        (told_in 𝓛 (NoteOf V) (values V) (note_tells V) share known block offset found) $
        move ! (2 ∷ 0 ∷ []) $ shr_Shut ! tt $ move ! (1 ∷ 0 ∷ []) $ now ! $ done !)
