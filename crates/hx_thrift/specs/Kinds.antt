-- The kinds of value in Apache Thrift's compact protocol: 1 true, 2 false, 3 i8, 4 i16, 5 i32, 6 i64, 7 double, 8 binary, 9 list, 10 set, 11 map, 12 struct.
use Rattle.std.specs.Prelude.{ℕ, ℤ, pos, negsuc, ◌+◌, ◌-◌, ◌*◌, ◌/◌, ◌%◌, ◌^◌, ◌≤◌, Bool, ◌&&◌, ◌==◌, nat_le, int_le, if◌then◌else◌}

abbrev pub i32_kind : ℕ
i32_kind = 5

abbrev pub i64_kind : ℕ
i64_kind = 6

abbrev pub binary_kind : ℕ
binary_kind = 8

abbrev pub list_kind : ℕ
list_kind = 9

abbrev pub struct_kind : ℕ
struct_kind = 12

pub record IsKind (kind : ℕ) : Type 0 where
  pub least : 1 ≤ kind
  pub greatest : kind ≤ 12

abbrev pub is_kind : ℕ → Bool
is_kind kind = nat_le 1 kind && nat_le kind 12

-- A flag that is an element, key or value takes a byte, as an i8 does; a flag that is a field is told by its kind.
abbrev pub part_kind : ℕ → ℕ
part_kind kind = if nat_le kind 2 then 3 else kind

-- the greatest length of a binary, and size of a list, set or map
abbrev pub max_size : ℕ
max_size = 2 ^ 31 - 1

-- an id of a field
abbrev pub is_id : ℤ → Bool
is_id id = int_le (pos 0) id && int_le id (pos 32767)

-- The zigzag number of a signed one: 0, -1, 1, -2, .. are 0, 1, 2, 3, ..
abbrev pub zigzag : ℤ → ℕ
zigzag (pos n) = 2 * n
zigzag (negsuc n) = 2 * n + 1

-- the signed number of a zigzag number
abbrev pub unzigzag : ℕ → ℤ
unzigzag n = if n % 2 == 0 then pos (n / 2) else negsuc (n / 2)

-- the greatest zigzag number of an i16, an i32 and an i64
abbrev pub max_zigzag : ℕ → ℕ
max_zigzag kind = if kind == 4 then 2 ^ 16 - 1 else if kind == 5 then 2 ^ 32 - 1 else 2 ^ 64 - 1
