use Rattle.std.proofs.Common.{◌≡◌, ◌≤◌, All, length, map, string_bytes, take}
use Rattle.rv_list.specs.Names.{IsName, parts}
use Rattle.rv_list.proofs.names.names_in.Given as goal

-- the parts so far are names
abbrev pub invariant-loop-part : goal.invariant-loop-part
invariant-loop-part l = record {
  are : map string_bytes l.names.items ≡ take (length l.yielded) (parts l.line);
  all : All IsName (map string_bytes l.names.items);
  few : length l.names.items ≤ 8;
  count : length l.names.items ≡ length l.yielded;
}
