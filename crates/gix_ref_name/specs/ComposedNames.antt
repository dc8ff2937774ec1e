-- Names in composed and in decomposed Unicode (Unicode's Normalization Forms; `git config core.precomposeUnicode`).
use Rattle.std.specs.Prelude.{ℕ, List, ◌&&◌, chars, encode_utf8_all, if◌then◌else◌}
use Rattle.std.specs.Option.{is_none}
use Rattle.std.specs.Str.{is_utf8}
use Rattle.unicode_normalization.specs.Forms.{nfc, nfd}
use Rattle.gix_ref_name.specs.NameGrammar.{partial_error, full_error}

-- the bytes of the forms of a text
abbrev pub nfc_bytes : List ℕ → List ℕ
nfc_bytes text = encode_utf8_all (nfc (chars text))

abbrev pub nfd_bytes : List ℕ → List ℕ
nfd_bytes text = encode_utf8_all (nfd (chars text))

-- the NFC of a partial name that is UTF-8, where that is a partial name too; else the name
unfoldable pub composed : List ℕ → List ℕ
composed p = if is_utf8 p && is_none (partial_error (nfc_bytes p)) then nfc_bytes p else p

-- the NFD of a full name that is UTF-8, where that is a full name too; else the name
unfoldable pub decomposed : List ℕ → List ℕ
decomposed n = if is_utf8 n && is_none (full_error (nfd_bytes n)) then nfd_bytes n else n
