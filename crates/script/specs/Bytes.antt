-- Bytes and texts.
use Rattle.std.specs.Prelude.{ℕ, List, [], ◌∷◌, codes, slice_index}
use Prim.Native.String.{String}

-- the first byte of a text
abbrev pub byte : String → ℕ
byte s = slice_index (codes s) 0

abbrev pub carriage_return : ℕ
carriage_return = 13

abbrev pub line_feed : ℕ
line_feed = 10

-- the end of a line that is written
abbrev pub line_end : List ℕ
line_end = carriage_return ∷ line_feed ∷ []
