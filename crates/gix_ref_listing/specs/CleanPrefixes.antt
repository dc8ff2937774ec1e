-- The prefixes that have a listing.
use Rattle.std.specs.Prelude.{◌≡◌, ◌-◌, ℕ, List, [], length, take, nat_eq, bytes_eq, codes, Bool, true, false, not, ◌&&◌, ◌||◌, if◌then◌else◌, Option, is_none}
use Rattle.std.specs.List.{starts_with, ends_with}
use Rattle.gix_ref_name.specs.declared.namespace.Namespace.{Namespace}
use Rattle.gix_ref_lookup.specs.CleanPaths.{is_clean}
use Rattle.gix_ref_listing.specs.declared.prefix.Error.{Error}
use Rattle.gix_ref_listing.specs.declared.prefix.Error.TheVariants.{EmptyPrefix, PrefixNotClean}

-- less one slash at the end
abbrev pub without_slash : List ℕ → List ℕ
without_slash prefix = if ends_with nat_eq prefix (codes "/")
    then take (length prefix - 1) prefix else prefix

-- A clean prefix: none, or a clean path that begins with no slash, and perhaps a slash.
abbrev pub is_clean_prefix : List ℕ → Bool
is_clean_prefix prefix = bytes_eq prefix []
    || (not (starts_with nat_eq prefix (codes "/")) && is_clean (without_slash prefix))

-- the empty prefix outside of a namespace
abbrev pub is_no_prefix : Option Namespace → List ℕ → Bool
is_no_prefix namespace prefix = bytes_eq prefix [] && is_none namespace

-- the prefix has a listing
abbrev pub IsAcceptedPrefix : Option Namespace → List ℕ → Type 0
IsAcceptedPrefix namespace prefix = (is_no_prefix namespace prefix ≡ false)
    × (is_clean_prefix prefix ≡ true)

-- why it has none
abbrev pub IsRefusedPrefix : Option Namespace → List ℕ → Error → Type 0
IsRefusedPrefix namespace prefix EmptyPrefix = is_no_prefix namespace prefix ≡ true
IsRefusedPrefix namespace prefix PrefixNotClean = (is_no_prefix namespace prefix ≡ false)
    × (is_clean_prefix prefix ≡ false)
IsRefusedPrefix namespace prefix other = ⊥
