-- Numbers of decimal digits, pairs of hex digits, and hex digits in lower case.
use Rattle.std.specs.Prelude.{◌≡◌, ℕ, ◌^◌, ◌<◌, true, List, map, Ok}
use Rattle.std.specs.Char.{to_ascii_lowercase}
use Rattle.std.specs.Str.Parse.{IsNumeral, digits_value}
use Rattle.hex.specs.Hex.{is_hex_digit, pair_value}

-- the text is decimal digits, and this is their number
pub record IsNumber (text : List ℕ) (n : ℕ) : Type 0 where
  pub digits : IsNumeral 10 text
  pub value : n ≡ digits_value 10 text
  pub small : n < 10 ^ 18

-- where both are hex digits, they are those of the byte
abbrev pub IsPair : ℕ → ℕ → ℕ → Type 0
IsPair high low byte = is_hex_digit high ≡ true → is_hex_digit low ≡ true → (i : ℕ) →
    pair_value high low i ≡ Ok byte

-- hex digits in lower case
abbrev pub lower_hex : List ℕ → List ℕ
lower_hex digits = map to_ascii_lowercase digits
