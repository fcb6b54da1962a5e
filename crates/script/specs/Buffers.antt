-- Bytes in bounded memory.
use Rattle.std.specs.Prelude.{◌≡◌, ℕ, List, [], ◌++◌, take, ℤ, Some, None, Option}
use Rattle.std.specs.Fmt.{signed_decimal}
use Rattle.script.specs.declared.buffer.Buffer.{Buffer}

-- the bytes of a buffer
abbrev pub held : {n : ℕ} → Buffer n → List ℕ
held buffer = take buffer.len buffer.bytes

-- the bytes come to the end of the buffer, as far as there is room
abbrev pub Adds : {n : ℕ} → Buffer n → List ℕ → Buffer n → Type 0
Adds {n} before bs after = held after ≡ take n (held before ++ bs)

-- a number, or nothing
abbrev pub value_text : Option ℤ → List ℕ
value_text None = []
value_text (Some z) = signed_decimal z
