-- What is drawn, as the program has it.
use Rattle.std.specs.Prelude.{map, string_bytes}
use Rattle.rv_picture.specs.Pictures.{Plan}
use Rattle.rv_picture.specs.declared.drawing.Drawing.{Drawing}

abbrev pub plan_in : Drawing → Plan
plan_in d = record {
  names = d.scene.names.now;
  refused = d.scene.refused;
  width = d.grid.width;
  columns = d.columns.now;
  arrows = d.arrows.now;
  title = map string_bytes d.title.now;
  notes = map string_bytes d.notes.now;
}
