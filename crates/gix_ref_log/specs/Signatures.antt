-- Signatures: who made a change, and when, and their text. Git's page is `git commit-tree` (the committer's line).
use Rattle.std.specs.Prelude.{ℕ, ◌+◌, ◌-◌, ◌*◌, ◌/◌, ◌%◌, ◌≡◌, ◌≢◌, ◌<◌, ◌==◌, ◌⊎◌, ◌&&◌, ◌||◌, nat_lt, Bool, List, [], ◌∷◌, ◌++◌, length, take, drop, slice_index, if◌then◌else◌, ℤ, pos, negsuc, neg_ℤ, FitsSigned}
use Rattle.std.specs.List.{prefix_len, suffix_len}
use Rattle.std.specs.Char.{is_ascii_whitespace}
use Rattle.std.specs.Fmt.{signed_decimal}
use Rattle.std.specs.Int.{IsInRange, w64}
use Rattle.std.specs.Str.Parse.{IsNumeral, without_leading_sign, signed_digits_value}
use Rattle.gix_ref_hash.specs.Bytes.{NoByte, Cuts, CutsLast}
use Rattle.gix_ref_log.specs.declared.actor.Signature.{Signature}
use Rattle.gix_ref_log.specs.declared.actor.SignatureRef.{SignatureRef}

-- who, and when: seconds since 1970, and how many seconds the zone is east of UTC
pub record Who : Type 0 where
  pub name : List ℕ
  pub email : List ℕ
  pub seconds : ℤ
  pub offset : ℤ

abbrev pub signature_who : Signature → Who
signature_who s = record {
  name = s.name.items;
  email = s.email.items;
  seconds = s.time.seconds;
  offset = s.time.offset;
}

abbrev pub signature_ref_who : SignatureRef → Who
signature_ref_who s = record {
  name = s.name.now;
  email = s.email.now;
  seconds = s.time.seconds;
  offset = s.time.offset;
}

-- an optional `-`, then decimal digits, of a number of 64 bits
abbrev pub IsSeconds : List ℕ → ℤ → Type 0
IsSeconds text n = (slice_index text 0 ≢ 43) × (IsNumeral 10 (without_leading_sign text)
    × FitsSigned w64 (signed_digits_value 10 text)) × (n ≡ signed_digits_value 10 text)

abbrev pub IsDigit : ℕ → Type 0
IsDigit b = IsInRange 48 57 b

-- the seconds in two digits of hours and two of minutes
abbrev pub zone_seconds : ℕ → ℕ → ℕ → ℕ → ℕ
zone_seconds a b c d = (10 * (a - 48) + (b - 48)) * 3600 + (10 * (c - 48) + (d - 48)) * 60

-- a sign and four digits
abbrev pub IsZone : List ℕ → ℤ → Type 0
IsZone (sign ∷ a ∷ b ∷ c ∷ d ∷ []) n = ((sign ≡ 43) ⊎ (sign ≡ 45)) × IsDigit a × IsDigit b
    × IsDigit c × IsDigit d
    × (n ≡ (if sign == 45 then neg_ℤ (pos (zone_seconds a b c d)) else pos (zone_seconds a b c d)))
IsZone [] n = ⊥
IsZone (sign ∷ []) n = ⊥
IsZone (sign ∷ a ∷ []) n = ⊥
IsZone (sign ∷ a ∷ b ∷ []) n = ⊥
IsZone (sign ∷ a ∷ b ∷ c ∷ []) n = ⊥
IsZone (sign ∷ a ∷ b ∷ c ∷ d ∷ e ∷ rest) n = ⊥

-- less one space at the end
abbrev pub without_space : List ℕ → List ℕ
without_space n = if nat_lt 0 (length n) && slice_index n (length n - 1) == 32
    then take (length n - 1) n else n

-- The text of a signature: the name is all before the first `<`, less one space at its end; the email lies between
-- that and the last `>`; then a space, the seconds, a space and the zone, and nothing more.
pub record IsSignature (text : List ℕ) (who : Who) : Type 0 where
  pub front : List ℕ
  pub behind_name : List ℕ
  pub time : List ℕ
  pub digits : List ℕ
  pub zone : List ℕ
  pub name_cut : Cuts 60 text front behind_name
  pub name : who.name ≡ without_space front
  pub email : CutsLast 62 behind_name who.email (32 ∷ time)
  pub time_cut : Cuts 32 time digits zone
  pub seconds : IsSeconds digits who.seconds
  pub offset : IsZone zone who.offset

-- how most signatures end: `> `, the digits of the seconds, a space and the zone
pub record IsStamp (text : List ℕ) (seconds offset : ℤ) : Type 0 where
  pub digits : List ℕ
  pub zone : List ℕ
  pub whole : text ≡ 62 ∷ 32 ∷ (digits ++ 32 ∷ zone)
  pub no_space : NoByte 32 digits
  pub no_bracket : NoByte 62 (32 ∷ (digits ++ 32 ∷ zone))
  pub seconds_are : IsSeconds digits seconds
  pub offset_is : IsZone zone offset

-- `<`, `>` or LF
abbrev pub is_mark : ℕ → Bool
is_mark b = (b == 60) || (b == 62) || (b == 10)

-- no `<`, no `>` and no LF
abbrev pub IsPlainText : List ℕ → Type 0
IsPlainText text = NoByte 60 text × NoByte 62 text × NoByte 10 text

-- whole minutes, and not past 99:59 either way
abbrev pub IsWritableOffset : ℤ → Type 0
IsWritableOffset (pos n) = (n % 60 ≡ 0) × (n < 360000)
IsWritableOffset (negsuc n) = ((n + 1) % 60 ≡ 0) × (n + 1 < 360000)

-- a signature that can be written
pub record CanWrite (who : Who) : Type 0 where
  pub name : IsPlainText who.name
  pub email : IsPlainText who.email
  pub offset : IsWritableOffset who.offset

abbrev pub two_digits : ℕ → List ℕ
two_digits n = (48 + n / 10) ∷ (48 + n % 10) ∷ []

-- hours and minutes
abbrev pub clock_text : ℕ → List ℕ
clock_text minutes = two_digits (minutes / 60) ++ two_digits (minutes % 60)

-- a sign, hours and minutes
abbrev pub offset_text : ℤ → List ℕ
offset_text (pos n) = 43 ∷ clock_text (n / 60)
offset_text (negsuc n) = 45 ∷ clock_text ((n + 1) / 60)

-- how a signature is written: `name <email> seconds +hhmm`
abbrev pub signature_text : Who → List ℕ
signature_text who = who.name ++ 32 ∷ 60
    ∷ (who.email ++ 62 ∷ 32 ∷ (signed_decimal who.seconds ++ 32 ∷ offset_text who.offset))

-- without space, tab, LF, FF and CR at the front
abbrev pub without_first_blanks : List ℕ → List ℕ
without_first_blanks text = drop (prefix_len is_ascii_whitespace text) text

-- and at the end
abbrev pub without_last_blanks : List ℕ → List ℕ
without_last_blanks text = take (length text - suffix_len is_ascii_whitespace text) text

-- and at both
unfoldable pub trimmed : List ℕ → List ℕ
trimmed text = without_last_blanks (without_first_blanks text)

-- name and email without blanks at their ends
abbrev pub trimmed_who : Who → Who
trimmed_who who = record {
  name = trimmed who.name;
  email = trimmed who.email;
  seconds = who.seconds;
  offset = who.offset;
}
