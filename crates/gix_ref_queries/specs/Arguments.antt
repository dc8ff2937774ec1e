-- What a word of a command line is.
use Rattle.std.specs.Prelude.{◌≡◌, ◌==◌, ◌<◌, ◌^◌, ℕ, List, [], ◌∷◌, Bool, false}
use Rattle.std.specs.Str.Parse.{IsNumeral, digits_value}

-- a word begins with `-`
abbrev pub is_option : (word : List ℕ) → Bool
is_option [] = false
is_option (first ∷ word) = first == 45

-- decimal digits of a number of 32 bits
abbrev pub IsCount : (text : List ℕ) → ℕ → Type 0
IsCount text n = IsNumeral 10 text × (digits_value 10 text < 2 ^ 32) × (n ≡ digits_value 10 text)
