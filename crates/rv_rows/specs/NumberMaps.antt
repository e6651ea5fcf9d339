-- What a map from numbers to numbers has.
use Rattle.std.specs.Prelude.{ℕ, Option, None, if◌then◌else◌, nat_eq, nat_lt, slice_index_or}
use Rattle.std.specs.HashMap.{get}
use Rattle.rv_rows.specs.declared.number_map.NumberMap.{NumberMap}

-- what a key has: below 4,096 in the table, where that is so long, and else in the other map
unfoldable pub number_of : NumberMap → ℕ → Option ℕ
number_of map key = if nat_lt key 4096 then slice_index_or map.near.items key None else get nat_eq map.far key
