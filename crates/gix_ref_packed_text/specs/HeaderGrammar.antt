-- The first line of packed references (git pack-refs): words that say how they are sorted and peeled.
use Rattle.std.specs.Prelude.{◌≡◌, ◌==◌, ℕ, Bool, true, false, List, [], ◌∷◌, ◌++◌, codes, nat_eq, if◌then◌else◌}
use Rattle.std.specs.List.{slice_split}
use Rattle.std.specs.Cmp.Lexicographic.{pointwise}
use Rattle.gix_ref_packed_text.specs.declared.packed.decode.options.Header.{Header}
use Rattle.gix_ref_packed_text.specs.declared.packed.decode.options.Peeled.TheVariants.{Unspecified, Partial, Fully}
use Rattle.gix_ref_packed_text.specs.RecordGrammar.{Line}

-- what is between the spaces
abbrev pub words : List ℕ → List (List ℕ)
words = slice_split (λ b. b == 32)

abbrev pub is_word : List ℕ → List ℕ → Bool
is_word = pointwise nat_eq

-- what a word says; others are ignored
unfoldable pub said_by : Header → List ℕ → Header
said_by h word =
    if is_word word (codes "fully-peeled") then record h { peeled = Fully }
    else if is_word word (codes "peeled") then record h { peeled = Partial }
    else if is_word word (codes "sorted") then record h { sorted = true }
    else h

-- the last word about it decides
abbrev pub said : Header → List (List ℕ) → Header
said h [] = h
said h (word ∷ more) = said (said_by h word) more

abbrev pub silent : Header
silent = record { peeled = Unspecified; sorted = false }

-- `# pack-refs with: `, words and a newline, and the rest
pub record TakesHeader (text : List ℕ) (h : Header) (rest : List ℕ) : Type 0 where
  pub after : List ℕ
  pub line : List ℕ
  pub whole : text ≡ codes "# pack-refs with: " ++ after
  pub is_line : Line after line rest
  pub says : h ≡ said silent (words line)
