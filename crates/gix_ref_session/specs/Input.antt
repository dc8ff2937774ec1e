-- What is heard of the input, where its bytes are known: commands one after the other.
use Rattle.std.specs.Prelude.{◌≡◌, ◌≢◌, ◌⊎◌, ◌<◌, ℕ, List, [], ◌∷◌, ◌++◌, Option, Some, IfSome, length}
use Rattle.std.specs.List.{flat_map}
use Rattle.std.specs.Io.BufRead.{first_piece, drop_through}
use Rattle.std.specs.Io.KnownBytes.{IsAtEnd, Keeps}
use Rattle.gix_ref_hash.specs.declared.hash.Kind.{Kind}
use Rattle.gix_ref_theory.specs.Sequences.{AreDone}
use Rattle.gix_ref_session.specs.Commands.{Heard, IsCommand, fields_after, words_of}
use Rattle.gix_ref_session.specs.Quotes.{ArePlain}
use Rattle.gix_ref_session.specs.declared.input.Format.{Format}
use Rattle.gix_ref_session.specs.declared.input.Format.TheVariants.{Lines, Nul}

-- the byte that ends a line or a field
abbrev pub end_of : Format → ℕ
end_of Lines = 10
end_of Nul = 0

-- bytes up to the first such byte are read, and it after them; at the end of the input it may be missing
abbrev pub HearsField : (end : ℕ) → (field : List ℕ) → (old new : Option (List ℕ)) → Type 0
HearsField end field old new = IfSome old (λ bytes. (bytes ≢ [])
    × (field ≡ first_piece end bytes) × (new ≡ Some (drop_through end bytes)))

-- the input is at its end, and stays there
abbrev pub HearsEnd : (old new : Option (List ℕ)) → Type 0
HearsEnd old new = IsAtEnd old × Keeps old new

-- further fields are read and added, a NUL before each: so many, or fewer where the input ends
pub record HearsMore (count : ℕ) (old new : Option (List ℕ)) (text now : List ℕ) : Type 0 where
  pub more : List (List ℕ)
  pub mid : Option (List ℕ)
  pub are : AreDone (HearsField 0) more old mid
  pub text_is : now ≡ text ++ flat_map (λ (field : List ℕ). 0 ∷ field) more
  pub all : ((length more ≡ count) × (new ≡ mid))
      ⊎ ((length more < count) × IsAtEnd mid × Keeps mid new)

-- the fields of a command with NULs are read: the first, and as many more as its verb has, or fewer where the input ends
pub record HearsFields (old new : Option (List ℕ)) (text : List ℕ) : Type 0 where
  pub first : List ℕ
  pub mid : Option (List ℕ)
  pub begins : HearsField 0 first old mid
  pub more : HearsMore (fields_after first) mid new first text

-- the text of a command is read: a line, or its fields
abbrev pub HearsText : Format → (old new : Option (List ℕ)) → List ℕ → Type 0
HearsText Lines old new text = HearsField 10 text old new
HearsText Nul old new text = HearsFields old new text

-- the words of a command, of which those of a line may be in quotes
abbrev pub AreWords : Format → (text : List ℕ) → (words : List (List ℕ)) → Type 0
AreWords Lines text words = ArePlain (words_of Lines text) words
AreWords Nul text words = words ≡ words_of Nul text

-- a command is read
pub record Hears (format : Format) (kind : Kind) (heard : Heard)
    (old new : Option (List ℕ)) : Type 0 where
  pub text : List ℕ
  pub words : List (List ℕ)
  pub reads : HearsText format old new text
  pub are : AreWords format text words
  pub is : IsCommand format kind words heard
