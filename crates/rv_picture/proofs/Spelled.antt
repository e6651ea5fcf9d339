-- What is shown, with what is said of its row as XML has that.
use Rattle.std.proofs.Common.{◌≡◌, ◌∙◌, List, ap, arith}
use Rattle.std.specs.Option.{option_copied}
use Rattle.std.specs.Prelude.{option_map}
use Rattle.rv_event.specs.declared.event.Entry.{Entry}
use Rattle.rv_explain.specs.RowTexts.{Said}
use Rattle.rv_explain.specs.Showing.{IsShown}
use Rattle.rv_explain.specs.declared.shown.Shown.{Shown}
use Rattle.rv_picture.specs.Escaping.{xml_text}

-- the same entry, with the text spelled out, is shown by the texts that are
pub spelled-shown : (log : List Entry) (texts : Said) (s t : Shown) → IsShown log texts s →
    t.entry.now ≡ s.entry.now → t.place ≡ s.place → t.row ≡ s.row →
    option_copied t.text ≡ option_map xml_text (option_copied s.text) →
    IsShown log (λ source row. option_map xml_text (texts source row)) t
spelled-shown log texts s t is entry place row text = record {
  inside = let low = is.inside in omega (low, place, arith);
  entry = rw (place, entry) is.entry;
  row = rw (place, entry, row) is.row;
  text = rw (entry, row) (text ∙ ap (option_map xml_text) is.text);
}
