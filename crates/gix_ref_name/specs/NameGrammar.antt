-- Which texts are names of references, and the errors for the others: a table of rules, in the order in which a
-- broken one is reported (`git check-ref-format`).
use Rattle.std.specs.Prelude.{◌≡◌, ◌≤◌, ◌<◌, ◌-◌, get_or, ℕ, ◌==◌, nat_eq, nat_le, Bool, true, false, not, ◌||◌, ◌&&◌, List, [], ◌∷◌, codes, Option, Some, None, if◌then◌else◌}
use Rattle.std.specs.List.{list_any, list_all, find, starts_with, ends_with}
use Rattle.std.specs.Cmp.Lexicographic.{pointwise}
use Rattle.std.specs.Option.{option_map}
use Rattle.gix_ref_hash.specs.Bytes.{is_empty, is_slash, occurs, components}
use Rattle.gix_ref_name.specs.declared.name.error.Error.{Error}
use Rattle.gix_ref_name.specs.declared.name.error.Error.TheVariants.{Empty, InvalidByte, Asterisk, StartsWithSlash, EndsWithSlash, RepeatedSlash, StartsWithDot, EndsWithDot, RepeatedDot, LockFileSuffix, ReflogPortion, SingleAt, SomeLowercase}

-- the bytes that no name has: below 0x20, the space, DEL, and `*`, `:`, `?`, `[`, `\`, `^`, `~`
abbrev pub is_invalid : ℕ → Bool
is_invalid b =
    nat_le b 32 || (b == 42) || (b == 58) || (b == 63) || (b == 91) || (b == 92) || (b == 94)
    || (b == 126) || (b == 127)

-- the error for such a byte
abbrev pub byte_error : ℕ → Error
byte_error b = if b == 42 then Asterisk else InvalidByte b

-- a letter, a digit, `-` or `_`, which no rule concerns, whatever is around it
abbrev pub is_plain : ℕ → Bool
is_plain b =
    (b == 45) || (nat_le 48 b && nat_le b 57) || (nat_le 65 b && nat_le b 90) || (b == 95)
    || (nat_le 97 b && nat_le b 122)

-- such a byte, or a slash after any byte but a slash
abbrev pub may_follow : (before : ℕ) → ℕ → Bool
may_follow before b = is_plain b || ((b == 47) && not (before == 47))

-- each byte of the name from the place `start` on, up to `end`, may follow the one before it
abbrev pub AllFollow : List ℕ → (start end : ℕ) → Type 0
AllFollow n start end = (k : ℕ) → start ≤ k → k < end →
    may_follow (get_or n (k - 1) 0) (get_or n k 0) ≡ true

-- the component begins with a dot
abbrev pub is_dotted : List ℕ → Bool
is_dotted c = starts_with nat_eq c (codes ".")

-- the component ends with `.lock`
abbrev pub is_locked : List ℕ → Bool
is_locked c = ends_with nat_eq c (codes ".lock")

abbrev pub reported_if : Bool → Error → Option Error
reported_if true e = Some e
reported_if false e = None

abbrev pub first_reported : List (Option Error) → Option Error
first_reported [] = None
first_reported (Some e ∷ rest) = Some e
first_reported (None ∷ rest) = first_reported rest

-- the rules for partial names, each with the error for a name that breaks it
abbrev pub partial_rules : List ℕ → List (Option Error)
partial_rules n =
    reported_if (is_empty n) Empty
    ∷ option_map byte_error (find is_invalid n)
    ∷ reported_if (starts_with nat_eq n (codes "/")) StartsWithSlash
    ∷ reported_if (ends_with nat_eq n (codes "/")) EndsWithSlash
    ∷ reported_if (occurs (codes "//") n) RepeatedSlash
    ∷ reported_if (list_any is_dotted (components n)) StartsWithDot
    ∷ reported_if (ends_with nat_eq n (codes ".")) EndsWithDot
    ∷ reported_if (occurs (codes "..") n) RepeatedDot
    ∷ reported_if (list_any is_locked (components n)) LockFileSuffix
    ∷ reported_if (occurs (codes "@{") n) ReflogPortion
    ∷ reported_if (pointwise nat_eq n (codes "@")) SingleAt
    ∷ []

-- the first rule that a partial name breaks
unfoldable pub partial_error : List ℕ → Option Error
partial_error n = first_reported (partial_rules n)

-- a byte of a pseudo name: `A` to `Z` or an underscore
abbrev pub is_pseudo_byte : ℕ → Bool
is_pseudo_byte b = (nat_le 65 b && nat_le b 90) || (b == 95)

-- the one rule more for full names: without a slash only bytes of a pseudo name
abbrev pub full_rule : List ℕ → Option Error
full_rule n =
    reported_if (not (list_any is_slash n) && not (list_all is_pseudo_byte n)) SomeLowercase

-- the first rule that a full name breaks
unfoldable pub full_error : List ℕ → Option Error
full_error n = first_reported (partial_error n ∷ full_rule n ∷ [])

abbrev pub IsPartialName : List ℕ → Type 0
IsPartialName n = partial_error n ≡ None

abbrev pub IsFullName : List ℕ → Type 0
IsFullName n = full_error n ≡ None
