use Rattle.rv_cli.proofs.Common.{◌≡◌, map, take, string_bytes, texts}
use Rattle.rv_cli.proofs.words.copies.Given as goal

abbrev pub invariant-loop-name : goal.invariant-loop-name
invariant-loop-name l = map string_bytes l.list.items ≡ texts (take l.name-index l.names)
