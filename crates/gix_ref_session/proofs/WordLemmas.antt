-- Words of the program.
use Rattle.std.proofs.Common.{◌≡◌, ℕ, suc, Bool, true, false, List, [], ◌∷◌, length, Option, Some, None, inl, inr, refl, sym, ◌∙◌, ap, subst}
use Rattle.gix_ref_log.specs.Signatures.{Who}
use Rattle.gix_ref_log.proofs.SignatureLemmas.{one_who}
use Rattle.gix_ref_queries.specs.Arguments.{is_option}
use Rattle.gix_ref_session.specs.Commands.{texts}
use Rattle.gix_ref_session.specs.Words.{AreOptions, IsFlag, IsRead, IsUnreadable, IsValued, Options, TakesValue, flag_of, no_options, options_in, valued_of, with_flag}
use Rattle.gix_ref_session.specs.declared.words.Flag.{Flag}
use Rattle.gix_ref_session.specs.declared.words.Parsed.{Parsed}
use Rattle.gix_ref_session.specs.declared.words.Valued.{Valued}
use Rattle.gix_ref_session.specs.declared.words.Valued.TheVariants as valued

some_same : {A : Type 0} (o : Option A) (a b : A) → o ≡ Some a → o ≡ Some b → a ≡ b
some_same {A = A} o a b one two = let both : ◌≡◌ {A = Option A} (Some a) (Some b) = sym one ∙ two in cc

some_none : {A : Type 0} (o : Option A) (a : A) → o ≡ Some a → o ≡ None → ⊥
some_none {A = A} o a one two = let both : ◌≡◌ {A = Option A} (Some a) None = sym one ∙ two in cc

true_false : (b : Bool) → b ≡ true → b ≡ false → ⊥
true_false b one two = let both : true ≡ false = sym one ∙ two in cc

pub no_words : {A : Type 0} (xs : List A) → length xs ≡ 0 → xs ≡ []
no_words [] none = refl
no_words (x ∷ xs) none = absurd (too_long (length xs) none)
  where
    too_long : (n : ℕ) → suc n ≡ 0 → ⊥
    too_long n is = cc

-- a word is taken in one way
pub one_flag : (word : List ℕ) (old a b : Options) → IsFlag word old a → IsFlag word old b → a ≡ b
one_flag word old a b x y = x.2 ∙ (ap (λ (flag : Flag). with_flag flag old) (some_same (flag_of word) x.0 y.0 x.1 y.1) ∙ sym y.2)

one_value : (option : Valued) (value : List ℕ) (old a b : Options) → TakesValue option value old a → TakesValue option value old b → a ≡ b
one_value valued.Namespace value old a b x y = x ∙ sym y
one_value valued.Committer value old a b x y = x.2 ∙ (ap (λ (who : Who). let o : Options = record old { committer = Some who } in o) (one_who value x.0 y.0 x.1 y.1) ∙ sym y.2)
one_value valued.Message value old a b x y = x ∙ sym y
one_value valued.LockTimeout value old a b x y = x.2 ∙ (ap (λ (n : ℕ). let o : Options = record old { lock_timeout = n } in o) (x.1.2 ∙ sym y.1.2) ∙ sym y.2)
one_value valued.PackedLockTimeout value old a b x y = x.2 ∙ (ap (λ (n : ℕ). let o : Options = record old { packed_lock_timeout = n } in o) (x.1.2 ∙ sym y.1.2) ∙ sym y.2)

pub one_valued : (word value : List ℕ) (old a b : Options) → IsValued word value old a → IsValued word value old b → a ≡ b
one_valued word value old a b x y =
    one_value y.1.0 value old a b (subst (λ (option : Valued). TakesValue option value old a) (some_same (valued_of word) x.1.0 y.1.0 x.1.1 y.1.1) x.1.2) y.1.2

-- no word is left, or the next one is no option
pub stops : (o : Options) → AreOptions [] o o []
stops o = (refl, refl)

pub stops_at : (word : List ℕ) (words : List (List ℕ)) (o : Options) → is_option word ≡ false → AreOptions (word ∷ words) o o (word ∷ words)
stops_at word [] o not = inl (not, refl, refl)
stops_at word (value ∷ words) o not = inl (not, refl, refl)

module _ (word : List ℕ) (is : is_option word ≡ true) (old mid new : Options) (rest : List (List ℕ)) where
  -- an option without a value, and the words after it
  pub flag_on : (words : List (List ℕ)) → IsFlag word old mid → AreOptions words mid new rest → AreOptions (word ∷ words) old new rest
  flag_on [] flag more = inr (is, subst (λ (o : Options). IsFlag word old o) (sym more.0) flag, more.1)
  flag_on (value ∷ words) flag more = inr (is, inl (mid, flag, more))

  pub flag_off : (words : List (List ℕ)) → IsFlag word old mid → AreOptions (word ∷ words) old new rest → AreOptions words mid new rest
  flag_off [] flag (inl (not, same, left)) = absurd (true_false (is_option word) is not)
  flag_off [] flag (inr (so, one, left)) = (one_flag word old new mid one flag, left)
  flag_off (value ∷ words) flag (inl (not, same, left)) = absurd (true_false (is_option word) is not)
  flag_off (value ∷ words) flag (inr (so, inl (m, one, more))) = subst (λ (o : Options). AreOptions (value ∷ words) o new rest) (one_flag word old m mid one flag) more
  flag_off (value ∷ words) flag (inr (so, inr (m, one, more))) = absurd (some_none (flag_of word) flag.0 flag.1 one.0)

  -- one with a value
  pub value_on : (value : List ℕ) (words : List (List ℕ)) → IsValued word value old mid → AreOptions words mid new rest → AreOptions (word ∷ value ∷ words) old new rest
  value_on value words taken more = inr (is, inr (mid, taken, more))

  pub value_off : (value : List ℕ) (words : List (List ℕ)) → IsValued word value old mid → AreOptions (word ∷ value ∷ words) old new rest → AreOptions words mid new rest
  value_off value words taken (inl (not, same, left)) = absurd (true_false (is_option word) is not)
  value_off value words taken (inr (so, inl (m, one, more))) = absurd (some_none (flag_of word) one.0 one.1 taken.0)
  value_off value words taken (inr (so, inr (m, one, more))) = subst (λ (o : Options). AreOptions words o new rest) (one_valued word value old m mid one taken) more

module _ (word : List ℕ) (is : is_option word ≡ true) (none : flag_of word ≡ None) (old new : Options) (rest : List (List ℕ)) where
  -- an option whose value is missing, or wrong
  pub no_value : AreOptions (word ∷ []) old new rest → ⊥
  no_value (inl (not, same, left)) = true_false (is_option word) is not
  no_value (inr (so, one, left)) = some_none (flag_of word) one.0 one.1 none

  pub wrong_value : (value : List ℕ) (words : List (List ℕ)) → ((mid : Options) → IsValued word value old mid → ⊥) → AreOptions (word ∷ value ∷ words) old new rest → ⊥
  wrong_value value words wrong (inl (not, same, left)) = true_false (is_option word) is not
  wrong_value value words wrong (inr (so, inl (m, one, more))) = some_none (flag_of word) one.0 one.1 none
  wrong_value value words wrong (inr (so, inr (m, one, more))) = wrong m one

-- the words after the first are options, and then these
abbrev pub AfterFirst : (words : List (List ℕ)) → (new : Options) → (rest : List (List ℕ)) → Type 0
AfterFirst [] new rest = ⊥
AfterFirst (dir ∷ words) new rest = AreOptions words no_options new rest

-- this is the first word
abbrev pub IsFirst : (words : List (List ℕ)) → (dir : List ℕ) → Type 0
IsFirst [] dir = ⊥
IsFirst (first ∷ words) dir = dir ≡ first

pub unreadable : (words : List (List ℕ)) → ((new : Options) (rest : List (List ℕ)) → AfterFirst words new rest → ⊥) → IsUnreadable words
unreadable [] none = _
unreadable (dir ∷ words) none = none

pub is_read : (words : List (List ℕ)) (parsed : Parsed) → IsFirst words parsed.line.dir.now → AfterFirst words (options_in parsed.line) (texts parsed.rest.now) → IsRead words parsed
is_read [] parsed first after = absurd first
is_read (dir ∷ words) parsed first after = (first, after)
