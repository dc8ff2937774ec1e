-- The words of `pack-refs`.
use Rattle.std.proofs.Common.{◌≡◌, ℕ, Bool, true, false, List, [], ◌∷◌, Option, Some, None, codes, inl, inr, refl, sym, ◌∙◌, ap, subst}
use Rattle.gix_ref_pack.specs.PackWords.{AsksToPack, IsPackFlag, PackAsked, pack_flag_of, with_pack_flag, with_peeled}
use Rattle.gix_ref_pack.specs.declared.words.Flag.{Flag}

some_same : {A : Type 0} (o : Option A) (a b : A) → o ≡ Some a → o ≡ Some b → a ≡ b
some_same {A = A} o a b one two = let both : ◌≡◌ {A = Option A} (Some a) (Some b) = sym one ∙ two in cc

some_none : {A : Type 0} (o : Option A) (a : A) → o ≡ Some a → o ≡ None → ⊥
some_none {A = A} o a one two = let both : ◌≡◌ {A = Option A} (Some a) None = sym one ∙ two in cc

-- a word is taken in one way
one_flag : (word : List ℕ) (old a b : PackAsked) → IsPackFlag word old a → IsPackFlag word old b → a ≡ b
one_flag word old a b x y = x.2 ∙ (ap (λ (flag : Flag). with_pack_flag flag old) (some_same (pack_flag_of word) x.0 y.0 x.1 y.1) ∙ sym y.2)

module _ (word : List ℕ) (old mid new : PackAsked) (flag : IsPackFlag word old mid) where
  -- an option without a value, and the words after it
  pub flag_on : (words : List (List ℕ)) → AsksToPack words mid new → AsksToPack (word ∷ words) old new
  flag_on [] more = subst (λ (o : PackAsked). IsPackFlag word old o) (sym more) flag
  flag_on (path ∷ words) more = inl (mid, flag, more)

  pub flag_off : (words : List (List ℕ)) → AsksToPack (word ∷ words) old new → AsksToPack words mid new
  flag_off [] one = one_flag word old new mid one flag
  flag_off (path ∷ words) (inl (m, one, more)) = subst (λ (o : PackAsked). AsksToPack (path ∷ words) o new) (one_flag word old m mid one flag) more
  flag_off (path ∷ words) (inr (is, more)) = absurd (some_none (pack_flag_of word) flag.0 flag.1 (ap pack_flag_of is))

-- `--peeled` and its path
pub path_off : (old new : PackAsked) (path : List ℕ) (words : List (List ℕ)) → AsksToPack (codes "--peeled" ∷ path ∷ words) old new → AsksToPack words (with_peeled path old) new
path_off old new path words (inl (m, one, more)) = absurd (some_none (pack_flag_of (codes "--peeled")) one.0 one.1 refl)
path_off old new path words (inr (is, more)) = more

-- the words that are left, where the path of `--peeled` may be the first
abbrev pub left : (wants_path : Bool) → (words : List (List ℕ)) → List (List ℕ)
left true words = codes "--peeled" ∷ words
left false words = words

-- a word is taken, and what is left asks for the same
abbrev pub IsStep : (wants now_wants : Bool) (old now : PackAsked) (word : List ℕ) (rest : List (List ℕ)) → Type 0
IsStep wants now_wants old now word rest = (new : PackAsked) →
    (AsksToPack (left now_wants rest) now new → AsksToPack (left wants (word ∷ rest)) old new)
    × (AsksToPack (left wants (word ∷ rest)) old new → AsksToPack (left now_wants rest) now new)

step_in : (wants now_wants : Bool) (old now : PackAsked) (word : List ℕ) (rest : List (List ℕ)) (w v : Bool) (o : PackAsked) → wants ≡ w → now_wants ≡ v → now ≡ o → IsStep w v old o word rest → IsStep wants now_wants old now word rest
step_in wants now_wants old now word rest w v o one two three step =
    subst (λ (b : Bool). IsStep b now_wants old now word rest) (sym one)
    (subst (λ (b : Bool). IsStep w b old now word rest) (sym two)
    (subst (λ (p : PackAsked). IsStep w v old p word rest) (sym three) step))

pub step_path : (wants now_wants : Bool) (old now : PackAsked) (word : List ℕ) (rest : List (List ℕ)) → wants ≡ true → now_wants ≡ false → now ≡ with_peeled word old → IsStep wants now_wants old now word rest
step_path wants now_wants old now word rest one two three =
    step_in wants now_wants old now word rest true false (with_peeled word old) one two three (λ new. (λ more. inr (refl, more), path_off old new word rest))

pub step_peeled : (wants now_wants : Bool) (old now : PackAsked) (word : List ℕ) (rest : List (List ℕ)) → wants ≡ false → now_wants ≡ true → now ≡ old → word ≡ codes "--peeled" → IsStep wants now_wants old now word rest
step_peeled wants now_wants old now word rest one two three is =
    step_in wants now_wants old now word rest false true old one two three
    (λ new. (λ more. subst (λ (w : List ℕ). AsksToPack (w ∷ rest) old new) (sym is) more, λ more. subst (λ (w : List ℕ). AsksToPack (w ∷ rest) old new) is more))

pub step_flag : (wants now_wants : Bool) (old now : PackAsked) (word : List ℕ) (rest : List (List ℕ)) → wants ≡ false → now_wants ≡ false → IsPackFlag word old now → IsStep wants now_wants old now word rest
step_flag wants now_wants old now word rest one two flag =
    step_in wants now_wants old now word rest false false now one two refl (λ new. (flag_on word old now new flag rest, flag_off word old now new flag rest))
