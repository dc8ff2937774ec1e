-- Digits of numbers.
use Rattle.std.proofs.Common.{ℕ, List, [], ◌∷◌, arith}
use Rattle.std.specs.Str.{IsAscii}
use Rattle.std.specs.Str.Parse.{AllDigits}
use Rattle.std.proofs.lemmas.Str.Ascii.{IsAscii-nil, IsAscii-cons}
use Rattle.std.proofs.lemmas.Str.Parse.{digit_from_value}

-- digits are text
pub digits_ascii : (digits : List ℕ) → AllDigits 10 digits → IsAscii digits
digits_ascii [] all = IsAscii-nil
digits_ascii (c ∷ digits) all = let r = digit_from_value c all.0 in IsAscii-cons c digits (omega arith) (digits_ascii digits all.1)
