-- What words ask for.
use Rattle.std.proofs.Common.{◌≡◌, ◌≢◌, ℕ, Bool, true, false, List, [], ◌∷◌, ◌++◌, get_or, nat_eq, Option, Some, None, codes, inl, inr, refl, sym, ◌∙◌, ap, eq-eqb}
use Rattle.std.specs.Str.Parse.{digits_value}
use Rattle.gix_ref_files.specs.Files.{Meaning}
use Rattle.gix_ref_files.proofs.Moments.{weaken}
use Rattle.gix_ref_store.specs.Lookup.{LooksUp}
use Rattle.gix_ref_store.specs.Locks.{Unlocks}
use Rattle.gix_ref_store.specs.declared.file.store.Store.{Store}
use Rattle.gix_ref_queries.specs.Arguments.{IsCount, is_option}
use Rattle.gix_ref_queries.specs.Asks.{AsksMore, AsksNothing, EachAsked, IsEachOption, count_or_all, with_option}
use Rattle.gix_ref_queries.specs.declared.ask.Ask.TheVariants as asks
use Rattle.gix_ref_queries.specs.declared.ask.EachOption.{EachOption}
use Rattle.gix_ref_queries.specs.declared.ask.EachOption.TheVariants.{Format, Sort, Count}

true_false : (b : Bool) → b ≡ true → b ≡ false → ⊥
true_false b one two = let both : true ≡ false = sym one ∙ two in cc

-- texts that differ at a byte
apart : (k : ℕ) (word a b : List ℕ) → nat_eq (get_or a k 0) (get_or b k 0) ≡ false → word ≡ a → word ≡ b → ⊥
apart k word a b far one two = true_false (nat_eq (get_or a k 0) (get_or b k 0)) (eq-eqb (get_or a k 0) (get_or b k 0) (ap (λ (t : List ℕ). get_or t k 0) (sym one ∙ two))) far

first_same : (a b : List ℕ) (xs ys : List (List ℕ)) → a ∷ xs ≡ b ∷ ys → a ≡ b
first_same a b xs ys is = cc

rest_same : (a b : List ℕ) (xs ys : List (List ℕ)) → a ∷ xs ≡ b ∷ ys → xs ≡ ys
rest_same a b xs ys is = cc

-- the first words of commands differ at their third byte
first_apart : (a b : List ℕ) (xs ys : List (List ℕ)) → nat_eq (get_or a 2 0) (get_or b 2 0) ≡ false → a ∷ xs ≡ b ∷ ys → ⊥
first_apart a b xs ys far is = apart 2 a a b far refl (first_same a b xs ys is)

-- a text after the same front
same_rest : (word a b : List ℕ) → word ≡ codes "--format=" ++ a → word ≡ codes "--format=" ++ b → a ≡ b
same_rest word a b one two = cc

same_digits : (word a b : List ℕ) → word ≡ codes "--count=" ++ a → word ≡ codes "--count=" ++ b → a ≡ b
same_digits word a b one two = cc

same_count : (a b : List ℕ) (m n : ℕ) → a ≡ b → IsCount a m → IsCount b n → m ≡ n
same_count a b m n same x y = x.2 ∙ (ap (λ (t : List ℕ). digits_value 10 t) same ∙ sym y.2)

-- an option is set in one way
one_option : (word : List ℕ) (old : EachAsked) (a b : EachOption) → IsEachOption word a → IsEachOption word b → with_option a old ≡ with_option b old
one_option word old (Format f) (Format g) x y = ap (λ (t : List ℕ). let asked : EachAsked = record old { format = t } in asked) (same_rest word f.now g.now x y)
one_option word old (Format f) (Sort false) x y = absurd (apart 2 word (codes "--format=" ++ f.now) (codes "--sort=refname") refl x y)
one_option word old (Format f) (Sort true) x y = absurd (apart 2 word (codes "--format=" ++ f.now) (codes "--sort=-refname") refl x y)
one_option word old (Format f) (Count n) x y = absurd (apart 2 word (codes "--format=" ++ f.now) (codes "--count=" ++ y.0) refl x y.2)
one_option word old (Sort false) (Format g) x y = absurd (apart 2 word (codes "--sort=refname") (codes "--format=" ++ g.now) refl x y)
one_option word old (Sort false) (Sort false) x y = refl
one_option word old (Sort false) (Sort true) x y = absurd (apart 7 word (codes "--sort=refname") (codes "--sort=-refname") refl x y)
one_option word old (Sort false) (Count n) x y = absurd (apart 2 word (codes "--sort=refname") (codes "--count=" ++ y.0) refl x y.2)
one_option word old (Sort true) (Format g) x y = absurd (apart 2 word (codes "--sort=-refname") (codes "--format=" ++ g.now) refl x y)
one_option word old (Sort true) (Sort false) x y = absurd (apart 7 word (codes "--sort=-refname") (codes "--sort=refname") refl x y)
one_option word old (Sort true) (Sort true) x y = refl
one_option word old (Sort true) (Count n) x y = absurd (apart 2 word (codes "--sort=-refname") (codes "--count=" ++ y.0) refl x y.2)
one_option word old (Count m) (Format g) x y = absurd (apart 2 word (codes "--count=" ++ x.0) (codes "--format=" ++ g.now) refl x.2 y)
one_option word old (Count m) (Sort false) x y = absurd (apart 2 word (codes "--count=" ++ x.0) (codes "--sort=refname") refl x.2 y)
one_option word old (Count m) (Sort true) x y = absurd (apart 2 word (codes "--count=" ++ x.0) (codes "--sort=-refname") refl x.2 y)
one_option word old (Count m) (Count n) x y =
    ap (λ (c : Option ℕ). let asked : EachAsked = record old { count = c } in asked)
    (x.4 ∙ (ap count_or_all (same_count x.0 y.0 x.1 y.1 (same_digits word x.0 y.0 x.2 y.2) x.3 y.3) ∙ sym y.4))

-- and a word is taken in one
pub one_more : (word : List ℕ) (old a b : EachAsked) → AsksMore word old a → AsksMore word old b → a ≡ b
one_more word old a b (inl x) (inl y) = x.1 ∙ sym y.1
one_more word old a b (inl x) (inr y) = absurd (true_false (is_option word) y.0 x.0)
one_more word old a b (inr x) (inl y) = absurd (true_false (is_option word) x.0 y.0)
one_more word old a b (inr x) (inr y) = x.3 ∙ (one_option word old x.1 y.1 x.2 y.2 ∙ sym y.3)

-- words of `symbolic-ref` that ask for nothing
pub no_symbolic : (words : List (List ℕ)) → ((name : List ℕ) → words ≢ name ∷ []) → ((rest : List (List ℕ)) → words ≢ codes "--short" ∷ rest) → AsksNothing (codes "symbolic-ref" ∷ words)
no_symbolic words one short asks.Locks is = first_apart (codes "symbolic-ref") (codes "locks") words [] refl is
no_symbolic words one short asks.RemoveLocks is = first_apart (codes "symbolic-ref") (codes "locks") words (codes "--remove" ∷ []) refl is
no_symbolic words one short (asks.Symbolic false name) is = one name.now (rest_same (codes "symbolic-ref") (codes "symbolic-ref") words (name.now ∷ []) is)
no_symbolic words one short (asks.Symbolic true name) is = short (name.now ∷ []) (rest_same (codes "symbolic-ref") (codes "symbolic-ref") words (codes "--short" ∷ name.now ∷ []) is)
no_symbolic words one short (asks.Verify name) is = first_apart (codes "symbolic-ref") (codes "show-ref") words (codes "--verify" ∷ name.now ∷ []) refl is
no_symbolic words one short (asks.LogExists name) is = first_apart (codes "symbolic-ref") (codes "reflog") words (codes "exists" ∷ name.now ∷ []) refl is
no_symbolic words one short (asks.ShowLog name None) is = first_apart (codes "symbolic-ref") (codes "reflog") words (codes "show" ∷ name.now ∷ []) refl is
no_symbolic words one short (asks.ShowLog name (Some count)) is = first_apart (codes "symbolic-ref") (codes "reflog") words (codes "show" ∷ codes "-n" ∷ is.0 ∷ name.now ∷ []) refl is.2
no_symbolic words one short (asks.Each each) is = first_apart (codes "symbolic-ref") (codes "for-each-ref") words is.0 refl is.1

-- and words whose first is of no command
pub no_other : (words : List (List ℕ)) → ((rest : List (List ℕ)) → words ≢ codes "for-each-ref" ∷ rest) → ((rest : List (List ℕ)) → words ≢ codes "locks" ∷ rest) → ((rest : List (List ℕ)) → words ≢ codes "symbolic-ref" ∷ rest) →
    ((rest : List (List ℕ)) → words ≢ codes "show-ref" ∷ rest) → ((rest : List (List ℕ)) → words ≢ codes "reflog" ∷ rest) → AsksNothing words
no_other words each locks symbolic show log asks.Locks is = locks [] is
no_other words each locks symbolic show log asks.RemoveLocks is = locks (codes "--remove" ∷ []) is
no_other words each locks symbolic show log (asks.Symbolic false name) is = symbolic (name.now ∷ []) is
no_other words each locks symbolic show log (asks.Symbolic true name) is = symbolic (codes "--short" ∷ name.now ∷ []) is
no_other words each locks symbolic show log (asks.Verify name) is = show (codes "--verify" ∷ name.now ∷ []) is
no_other words each locks symbolic show log (asks.LogExists name) is = log (codes "exists" ∷ name.now ∷ []) is
no_other words each locks symbolic show log (asks.ShowLog name None) is = log (codes "show" ∷ name.now ∷ []) is
no_other words each locks symbolic show log (asks.ShowLog name (Some count)) is = log (codes "show" ∷ codes "-n" ∷ is.0 ∷ name.now ∷ []) is.2
no_other words each locks symbolic show log (asks.Each asked) is = each is.0 is.1

-- what only looks leaves the locks
pub still_locked : {F : Type 0} (honest : Type 0) (means : F → Meaning) (old new : Store F) → LooksUp honest means old new → honest → Unlocks means old new
still_locked honest means old new looked h = weaken (looked.leaves h) (λ T is. inl is)
