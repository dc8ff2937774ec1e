-- Words in quotes, as C writes texts (`core.quotePath` of `git help config`).
use Rattle.std.specs.Prelude.{◌≡◌, ◌≢◌, ◌⊎◌, ◌+◌, ◌*◌, ◌-◌, ◌<◌, ◌≤◌, ℕ, List, [], ◌∷◌, ◌++◌, Option, Some, None, ◌==◌, if◌then◌else◌, map, Vec}
use Rattle.std.specs.declared.alloc.Global.{Global}

-- the byte that a letter after a backslash is for
abbrev pub escaped : ℕ → Option ℕ
escaped letter =
    if letter == 97 then Some 7
    else if letter == 98 then Some 8
    else if letter == 116 then Some 9
    else if letter == 110 then Some 10
    else if letter == 118 then Some 11
    else if letter == 102 then Some 12
    else if letter == 114 then Some 13
    else if letter == 34 then Some 34
    else if letter == 92 then Some 92
    else None

-- three octal digits
pub record IsOctal (high middle low byte : ℕ) : Type 0 where
  pub high_is : (48 ≤ high) × (high < 52)
  pub middle_is : (48 ≤ middle) × (middle < 56)
  pub low_is : (48 ≤ low) × (low < 56)
  pub byte_is : byte ≡ ((high - 48) * 64 + (middle - 48) * 8) + (low - 48)
  pub some : byte ≢ 0

-- the text after a backslash is for this byte, and then goes on
abbrev pub IsEscape : (text : List ℕ) → (byte : ℕ) → (rest : List ℕ) → Type 0
IsEscape text byte rest =
    ((letter : ℕ) × (text ≡ letter ∷ rest) × (escaped letter ≡ Some byte))
    ⊎ ((high middle low : ℕ) × (text ≡ high ∷ (middle ∷ (low ∷ rest)))
    × IsOctal high middle low byte)

-- what stands between quotes is for these bytes
pub data Unquotes : (quoted plain : List ℕ) → Type 0 where
  Ends : Unquotes [] []
  Goes : (byte : ℕ) (quoted plain : List ℕ) → byte ≢ 34 → byte ≢ 92 → Unquotes quoted plain →
      Unquotes (byte ∷ quoted) (byte ∷ plain)
  Escapes : (text : List ℕ) (byte : ℕ) (rest plain : List ℕ) → IsEscape text byte rest →
      Unquotes rest plain → Unquotes (92 ∷ text) (byte ∷ plain)

-- a word is for these bytes: those between its quotes, or its own
abbrev pub IsPlain : (word plain : List ℕ) → Type 0
IsPlain [] plain = plain ≡ []
IsPlain (byte ∷ word) plain =
    ((byte ≢ 34) × (plain ≡ byte ∷ word))
    ⊎ ((byte ≡ 34) × ((quoted : List ℕ) × (word ≡ quoted ++ 34 ∷ []) × Unquotes quoted plain))

-- words are for these, one by one
abbrev pub ArePlain : (words plain : List (List ℕ)) → Type 0
ArePlain [] [] = Unit {0}
ArePlain [] (p ∷ plain) = ⊥
ArePlain (w ∷ words) [] = ⊥
ArePlain (w ∷ words) (p ∷ plain) = IsPlain w p × ArePlain words plain

-- the bytes of texts
abbrev pub plain_texts : List (Vec ℕ Global) → List (List ℕ)
plain_texts texts = map (λ (text : Vec ℕ Global). text.items) texts
