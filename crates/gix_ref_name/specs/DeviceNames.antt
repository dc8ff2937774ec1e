-- Names that are devices on Windows, in each folder and with each extension.
use Rattle.std.specs.Prelude.{ℕ, List, [], ◌∷◌, Bool, ◌==◌, if◌then◌else◌, codes}
use Rattle.std.specs.List.{list_any}
use Rattle.std.specs.Str.{str_eq_ignore_ascii_case}
use Rattle.gix_ref_hash.specs.Bytes.{components}

abbrev pub devices : List (List ℕ)
devices =
    codes "AUX" ∷ codes "CON" ∷ codes "NUL" ∷ codes "PRN" ∷ codes "CONIN$" ∷ codes "CONOUT$"
    ∷ codes "COM1" ∷ codes "COM2" ∷ codes "COM3" ∷ codes "COM4" ∷ codes "COM5"
    ∷ codes "COM6" ∷ codes "COM7" ∷ codes "COM8" ∷ codes "COM9"
    ∷ codes "LPT0" ∷ codes "LPT1" ∷ codes "LPT2" ∷ codes "LPT3" ∷ codes "LPT4"
    ∷ codes "LPT5" ∷ codes "LPT6" ∷ codes "LPT7" ∷ codes "LPT8" ∷ codes "LPT9" ∷ []

-- what is before the first dot
abbrev pub stem : List ℕ → List ℕ
stem [] = []
stem (b ∷ rest) = if b == 46 then [] else b ∷ stem rest

-- the stem is a device, in whatever case its letters are
unfoldable pub is_device : List ℕ → Bool
is_device component = list_any (λ device. str_eq_ignore_ascii_case device (stem component)) devices

-- a component of the path is a device
abbrev pub has_device : List ℕ → Bool
has_device path = list_any is_device (components path)
