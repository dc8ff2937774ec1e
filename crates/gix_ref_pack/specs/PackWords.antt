-- What the words after `pack-refs` ask for (`git pack-refs`).
use Rattle.std.specs.Prelude.{◌≡◌, ◌⊎◌, ℕ, List, [], ◌∷◌, Bool, true, false, bytes_eq, codes, map, Option, Some, None, if◌then◌else◌}
use Rattle.std.specs.Option.{option_map}
use denote.Ref.{Bor}
use Rattle.gix_ref_pack.specs.declared.words.Asked.{Asked}
use Rattle.gix_ref_pack.specs.declared.words.Flag.{Flag}
use Rattle.gix_ref_pack.specs.declared.words.Flag.TheVariants as flags

-- the bytes of words
abbrev pub texts : List (Bor (List ℕ)) → List (List ℕ)
texts words = map (λ (word : Bor (List ℕ)). word.now) words

-- What is asked for: whether all loose references are packed, whether their files are removed, and the path of the table of objects.
pub record PackAsked : Type 0 where
  pub is_all : Bool
  pub prune : Bool
  pub peeled : Option (List ℕ)

abbrev pub pack_asked : Asked → PackAsked
pack_asked asked = record {
  is_all = asked.is_all;
  prune = asked.prune;
  peeled = option_map (λ (path : Bor (List ℕ)). path.now) asked.peeled;
}

-- and without options
abbrev pub pack_alone : PackAsked
pack_alone = record { is_all = false; prune = true; peeled = None }

-- the option without a value that a word is
abbrev pub pack_flag_of : (word : List ℕ) → Option Flag
pack_flag_of word = if bytes_eq word (codes "--all") then Some flags.All
    else (if bytes_eq word (codes "--prune") then Some flags.Prune
    else (if bytes_eq word (codes "--no-prune") then Some flags.NoPrune else None))

abbrev pub with_pack_flag : Flag → PackAsked → PackAsked
with_pack_flag flags.All asked = record asked { is_all = true }
with_pack_flag flags.Prune asked = record asked { prune = true }
with_pack_flag flags.NoPrune asked = record asked { prune = false }

-- and the one with a path
abbrev pub with_peeled : (path : List ℕ) → PackAsked → PackAsked
with_peeled path asked = record asked { peeled = Some path }

-- a word is an option without a value
abbrev pub IsPackFlag : (word : List ℕ) → (old new : PackAsked) → Type 0
IsPackFlag word old new =
    (flag : Flag) × (pack_flag_of word ≡ Some flag) × (new ≡ with_pack_flag flag old)

-- these words are options, in any order; of several options of a kind the last counts
abbrev pub AsksToPack : (words : List (List ℕ)) → (old new : PackAsked) → Type 0
AsksToPack [] old new = new ≡ old
AsksToPack (word ∷ []) old new = IsPackFlag word old new
AsksToPack (word ∷ path ∷ words) old new =
    ((mid : PackAsked) × IsPackFlag word old mid × AsksToPack (path ∷ words) mid new)
    ⊎ ((word ≡ codes "--peeled") × AsksToPack words (with_peeled path old) new)
