-- What the words of a command that only reads ask for, and those of `locks`, with what is answered (`git show-ref`, `git symbolic-ref`,
-- `git reflog`, `git for-each-ref`).
use Rattle.std.specs.Prelude.{◌≡◌, ◌⊎◌, ◌==◌, ℕ, List, [], ◌∷◌, ◌++◌, Bool, true, false, codes, Option, Some, None, if◌then◌else◌}
use Rattle.gix_ref_files.specs.Files.{FaultCounts, Meaning}
use Rattle.gix_ref_files.specs.declared.files.ReadAt.{Ghosts}
use Rattle.gix_ref_store.specs.declared.file.store.Store.{Store}
use Rattle.gix_ref_queries.specs.Answers.{ExistsAs, LocksAnswer, RemovesAnswer, SymbolicAs, VerifiesAs}
use Rattle.gix_ref_queries.specs.Arguments.{IsCount, is_option}
use Rattle.gix_ref_queries.specs.LogRows.{ShowAnswer}
use Rattle.gix_ref_queries.specs.Patterns.{texts}
use Rattle.gix_ref_queries.specs.Rows.{EachAnswer}
use Rattle.gix_ref_queries.specs.declared.answer.Answer.{Answer}
use Rattle.gix_ref_queries.specs.declared.ask.Ask.{Ask}
use Rattle.gix_ref_queries.specs.declared.ask.Ask.TheVariants as asks
use Rattle.gix_ref_queries.specs.declared.ask.Each.{Each}
use Rattle.gix_ref_queries.specs.declared.ask.EachOption.{EachOption}
use Rattle.gix_ref_queries.specs.declared.ask.EachOption.TheVariants.{Format, Sort, Count}

-- What `for-each-ref` asks for.
pub record EachAsked : Type 0 where
  pub format : List ℕ
  pub descending : Bool
  pub count : Option ℕ
  pub patterns : List (List ℕ)

abbrev pub each_asked : Each → EachAsked
each_asked each = record {
  format = each.format.now;
  descending = each.descending;
  count = each.count;
  patterns = texts each.patterns.items;
}

-- and what it does alone: each reference, in Git's own format
abbrev pub each_alone : EachAsked
each_alone = record {
  format = codes "%(objectname) %(objecttype)" ++ (9 ∷ codes "%(refname)");
  descending = false;
  count = None;
  patterns = [];
}

-- so many rows, where 0 is all of them
abbrev pub count_or_all : ℕ → Option ℕ
count_or_all n = if n == 0 then None else Some n

-- a word is this option
abbrev pub IsEachOption : (word : List ℕ) → EachOption → Type 0
IsEachOption word (Format format) = word ≡ codes "--format=" ++ format.now
IsEachOption word (Sort false) = word ≡ codes "--sort=refname"
IsEachOption word (Sort true) = word ≡ codes "--sort=-refname"
IsEachOption word (Count count) = (digits : List ℕ) × (n : ℕ)
    × (word ≡ codes "--count=" ++ digits) × IsCount digits n × (count ≡ count_or_all n)

abbrev pub with_option : EachOption → EachAsked → EachAsked
with_option (Format format) asked = record asked { format = format.now }
with_option (Sort descending) asked = record asked { descending = descending }
with_option (Count count) asked = record asked { count = count }

abbrev pub with_pattern : (pattern : List ℕ) → EachAsked → EachAsked
with_pattern pattern asked = record asked { patterns = asked.patterns ++ pattern ∷ [] }

-- a word after `for-each-ref` is a pattern, or an option, which begins with `-`
abbrev pub AsksMore : (word : List ℕ) → (old new : EachAsked) → Type 0
AsksMore word old new =
    ((is_option word ≡ false) × (new ≡ with_pattern word old))
    ⊎ ((is_option word ≡ true)
    × (option : EachOption) × IsEachOption word option × (new ≡ with_option option old))

-- and each of these words is, in any order; of several options of a kind the last counts
abbrev pub AsksEach : (words : List (List ℕ)) → (old new : EachAsked) → Type 0
AsksEach [] old new = new ≡ old
AsksEach (word ∷ words) old new = (mid : EachAsked) × AsksMore word old mid × AsksEach words mid new

-- words ask for this
abbrev pub Asks : (words : List (List ℕ)) → Ask → Type 0
Asks words asks.Locks = words ≡ codes "locks" ∷ []
Asks words asks.RemoveLocks = words ≡ codes "locks" ∷ codes "--remove" ∷ []
Asks words (asks.Symbolic false name) = words ≡ codes "symbolic-ref" ∷ name.now ∷ []
Asks words (asks.Symbolic true name) =
    words ≡ codes "symbolic-ref" ∷ codes "--short" ∷ name.now ∷ []
Asks words (asks.Verify name) = words ≡ codes "show-ref" ∷ codes "--verify" ∷ name.now ∷ []
Asks words (asks.LogExists name) = words ≡ codes "reflog" ∷ codes "exists" ∷ name.now ∷ []
Asks words (asks.ShowLog name None) = words ≡ codes "reflog" ∷ codes "show" ∷ name.now ∷ []
Asks words (asks.ShowLog name (Some count)) = (digits : List ℕ) × IsCount digits count
    × (words ≡ codes "reflog" ∷ codes "show" ∷ codes "-n" ∷ digits ∷ name.now ∷ [])
Asks words (asks.Each each) = (rest : List (List ℕ))
    × (words ≡ codes "for-each-ref" ∷ rest) × AsksEach rest each_alone (each_asked each)

-- and these for nothing
abbrev pub AsksNothing : (words : List (List ℕ)) → Type 0
AsksNothing words = (ask : Ask) → Asks words ask → ⊥

module _ {F R : Type 0} (G : Ghosts R) (honest : Type 0) (means : F → Meaning)
    (faults : F → FaultCounts) where
  -- what is answered
  abbrev pub IsAnswered : (old new : Store F) → Ask → Answer → Type 0
  IsAnswered old new asks.Locks answer = LocksAnswer means faults honest old new answer
  IsAnswered old new asks.RemoveLocks answer = RemovesAnswer means faults honest old new answer
  IsAnswered old new (asks.Symbolic short name) answer =
      SymbolicAs G honest means faults old short name.now answer
  IsAnswered old new (asks.Verify name) answer =
      VerifiesAs G honest means faults old name.now answer
  IsAnswered old new (asks.LogExists name) answer =
      ExistsAs means faults honest old new name.now answer
  IsAnswered old new (asks.ShowLog name count) answer =
      ShowAnswer honest means faults G old new name.now count answer
  IsAnswered old new (asks.Each each) answer = EachAnswer honest means faults G old new
      each.format.now (texts each.patterns.items) each.descending each.count answer

  -- what is answered to words: nothing where they ask for nothing, and then nothing has changed
  abbrev pub IsAnswerTo : (old new : Store F) → (words : List (List ℕ)) → Option Answer → Type 0
  IsAnswerTo old new words None = AsksNothing words × (new ≡ old)
  IsAnswerTo old new words (Some answer) =
      (ask : Ask) × Asks words ask × IsAnswered old new ask answer
