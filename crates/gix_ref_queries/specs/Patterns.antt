-- Which names a pattern of `git for-each-ref` matches.
use denote.Ref.{Bor}
use Rattle.std.specs.Prelude.{◌≡◌, ℕ, ◌+◌, ◌≤◌, ◌==◌, Bool, map, ◌-◌, slice_index, slice_index_or, true, false, not, ◌&&◌, ◌||◌, List, [], ◌∷◌, length, take, drop, bytes_eq, if◌then◌else◌}
use Rattle.std.specs.List.{list_any}

-- `[`, `\`, or a `*` after a `*`; `after` says that a `*` came before
abbrev pub has_other_sign : (after : Bool) → (pattern : List ℕ) → Bool
has_other_sign after [] = false
has_other_sign after (sign ∷ pattern) = (sign == 91) || ((sign == 92)
    || (((sign == 42) && after) || has_other_sign (sign == 42) pattern))

abbrev pub is_empty : List ℕ → Bool
is_empty [] = true
is_empty (byte ∷ bytes) = false

-- a text ends with a slash
abbrev pub ends_in_slash : List ℕ → Bool
ends_in_slash text = slice_index text (length text - 1) == 47

-- a name goes on like this after the whole pattern: not at all, or with a component of its own
abbrev pub is_boundary : (pattern rest : List ℕ) → Bool
is_boundary pattern [] = true
is_boundary pattern (byte ∷ rest) = (byte == 47) || ends_in_slash pattern

-- the pattern is the name, or a front of it up to a slash
abbrev pub is_at_or_below : (pattern name : List ℕ) → Bool
is_at_or_below pattern name = bytes_eq (take (length pattern) name) pattern
    && is_boundary pattern (drop (length pattern) name)

-- a sign other than `*` is this byte: `?` is any but a slash
abbrev pub fits : (sign byte : ℕ) → Bool
fits sign byte = if sign == 63 then not (byte == 47) else sign == byte

-- one sign other than `*`, and what the rest of a pattern matches
abbrev pub one_sign : (sign : ℕ) → (rest : List ℕ → Bool) → (name : List ℕ) → Bool
one_sign sign rest [] = false
one_sign sign rest (byte ∷ name) = fits sign byte && rest name

-- any bytes but slashes, and what the rest of a pattern matches
abbrev pub any_bytes : (rest : List ℕ → Bool) → (name : List ℕ) → Bool
any_bytes rest [] = rest []
any_bytes rest (byte ∷ name) = rest (byte ∷ name) || (not (byte == 47) && any_bytes rest name)

-- a sign, and what the rest of a pattern matches
abbrev pub sign_then : (sign : ℕ) → (rest : List ℕ → Bool) → (name : List ℕ) → Bool
sign_then sign rest name = if sign == 42 then any_bytes rest name else one_sign sign rest name

-- a whole name is matched by `*`, which is any bytes of one component, `?`, which is one of them, and other signs, which are themselves
abbrev pub is_glob_of : (pattern name : List ℕ) → Bool
is_glob_of [] name = is_empty name
is_glob_of (sign ∷ pattern) name = sign_then sign (is_glob_of pattern) name

abbrev pub matches : (pattern name : List ℕ) → Bool
matches pattern name = is_at_or_below pattern name || is_glob_of pattern name

-- a name is asked for: by one of the patterns, or there is none
abbrev pub is_asked_by : (patterns : List (List ℕ)) → (name : List ℕ) → Bool
is_asked_by [] name = true
is_asked_by (pattern ∷ patterns) name = list_any (λ p. matches p name) (pattern ∷ patterns)

-- the bytes of words
abbrev pub texts : List (Bor (List ℕ)) → List (List ℕ)
texts words = map (λ (word : Bor (List ℕ)). word.now) words

-- What is matched of the ends of a name: at i, the name without its first i bytes.
pub record IsRow (rest : List ℕ → Bool) (name : List ℕ) (row : List Bool) : Type 0 where
  pub len : length row ≡ length name + 1
  pub at : (i : ℕ) → i ≤ length name → slice_index_or row i false ≡ rest (drop i name)
