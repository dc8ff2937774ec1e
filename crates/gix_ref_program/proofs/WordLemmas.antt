-- Words that are no line, and those that are one.
use Rattle.std.proofs.Common.{◌≡◌, inl, inr, ℕ, length, arith, List, [], ◌∷◌, ◌++◌, Bool, true, false, Option, Some, None, MatchOption, codes, refl, sym, ◌∙◌, ap, subst}
use Rattle.std.specs.Prelude.{bytes_eq, ◌==◌}
use Rattle.std.proofs.lemmas.Bool.{eqb-true}
use Rattle.gix_ref_theory.proofs.Writes.{same as same_bytes}
use Rattle.gix_ref_hash.specs.Ids.{IsHex, IsHexOf, ReadsId, id_kind}
use Rattle.gix_ref_hash.specs.declared.hash.ObjectId.{ObjectId}
use Rattle.gix_ref_hash.specs.declared.hash.Kind.{Kind}
use Rattle.gix_ref_hash.specs.declared.hash.Kind.TheVariants as kinds
use Rattle.gix_ref_hash.proofs.IdLemmas.{reads_whole}
use Rattle.gix_ref_program.specs.Words.{Asked, Update, Symbolic, Delete, Show, Listing, Log, Script, LineAsked, first_is, IsOldWord, IsUpdate, IsDeletion, IsCommand, IsOption, IsSigned, AreWordsOf, deref_words, kind_words, option_words, command_asked}
use Rattle.gix_ref_log.specs.Signatures.{Who}
use Rattle.gix_ref_program.specs.declared.words.Command.{Command}

no_way : {X : Type 0} → true ≡ false → X
no_way e = cc

heads : {x y : List ℕ} {xs ys : List (List ℕ)} → x ∷ xs ≡ y ∷ ys → x ≡ y
heads e = cc

tails : {x y : List ℕ} {xs ys : List (List ℕ)} → x ∷ xs ≡ y ∷ ys → xs ≡ ys
tails e = cc

-- digits that read as an id are hex
pub is_hex : (digits : List ℕ) (id : ObjectId) → ReadsId digits id → IsHex digits
is_hex digits id reads = by (id_kind id) (reads_whole digits id reads).0
  where
    by : (kind : Kind) → IsHexOf kind digits → IsHex digits
    by kinds.Sha1 h = inl h
    by kinds.Sha256 h = inr h

pub no_old : (words : List (List ℕ)) (digits : List ℕ) → words ≡ digits ∷ [] → (IsHex digits → ⊥) → (old : Option ObjectId) → IsOldWord words old → ⊥
no_old words digits are no_hex None none = cc
no_old words digits are no_hex (Some id) (d, reads, same) = no_hex (subst IsHex (heads (sym same ∙ are)) (is_hex d id reads))

pub no_update : (words : List (List ℕ)) (name digits : List ℕ) (rest : List (List ℕ)) → words ≡ name ∷ (digits ∷ rest) → (IsHex digits → ⊥) →
    (n : List ℕ) (id : ObjectId) (old : Option ObjectId) → IsUpdate words n id old → ⊥
no_update words name digits rest are no_hex n id old u = no_hex (subst IsHex (heads (tails (sym u.words_are ∙ are))) (is_hex u.digits id u.reads))

-- two readings of `[--deref]`, where no NAME is that option
same_deref : (deref given : Bool) (rest after : List (List ℕ)) → deref_words deref ++ rest ≡ deref_words given ++ after →
    (deref ≡ false → first_is (deref_words deref ++ rest) (codes "--deref") ≡ false) → (first_is after (codes "--deref") ≡ true → ⊥) → (given ≡ deref) × (after ≡ rest)
same_deref true true rest after same other no_option = (refl, sym (tails same))
same_deref false false rest after same other no_option = (refl, sym same)
same_deref true false rest after same other no_option = absurd (no_option (ap (λ ws. first_is ws (codes "--deref")) (sym same)))
same_deref false true rest after same other no_option = no_way (sym (ap (λ ws. first_is ws (codes "--deref")) same) ∙ other refl)

-- a name that is not the option does not stand as it
no_deref : (words : List (List ℕ)) (name : List ℕ) (rest : List (List ℕ)) → words ≡ name ∷ rest → (name ≡ codes "--deref" → ⊥) → first_is words (codes "--deref") ≡ true → ⊥
no_deref words name rest are no_option is = no_option (same_bytes name (codes "--deref") (subst (λ ws. first_is ws (codes "--deref") ≡ true) are is))

-- a command that begins with `update`
pub updates : (words after rest : List (List ℕ)) (deref : Bool) (r : Option Command) → words ≡ codes "update" ∷ after → after ≡ deref_words deref ++ rest →
    (deref ≡ false → first_is after (codes "--deref") ≡ false) →
    MatchOption r ((name : List ℕ) (id : ObjectId) (old : Option ObjectId) → IsUpdate rest name id old → ⊥) (λ command. IsCommand (codes "update" ∷ (deref_words deref ++ rest)) (command_asked command)) →
    MatchOption r ((asked : Asked) → IsCommand words asked → ⊥) (λ command. IsCommand words (command_asked command))
updates words after rest deref (Some command) are option_are not_first holds = subst (λ ws. IsCommand ws (command_asked command)) (sym (are ∙ ap (λ ws. codes "update" ∷ ws) option_are)) holds
updates words after rest deref None are option_are not_first none = by
  where
    by : (asked : Asked) → IsCommand words asked → ⊥
    by (Update given name id old) (behind, same, u) =
        none name id old (subst (λ ws. IsUpdate ws name id old)
        (same_deref deref given rest behind (sym option_are ∙ tails (sym are ∙ same)) (λ is. subst (λ ws. first_is ws (codes "--deref") ≡ false) option_are (not_first is))
        (no_deref behind name (u.digits ∷ u.rest) u.words_are u.no_option)).1 u)
    by (Symbolic name target) same = no_way (ap (bytes_eq (codes "update")) (heads (sym are ∙ same)))
    by (Delete given name old) (behind, same, u) = no_way (ap (bytes_eq (codes "update")) (heads (sym are ∙ same)))
    by (Show name) same = no_way (ap (bytes_eq (codes "update")) (heads (sym are ∙ same)))
    by (Listing prefix) same = no_way (ap (bytes_eq (codes "update")) (heads (sym are ∙ same)))
    by (Log name) same = no_way (ap (bytes_eq (codes "update")) (heads (sym are ∙ same)))
    by (Script path) same = no_way (ap (bytes_eq (codes "update")) (heads (sym are ∙ same)))

-- and one that begins with `delete`
pub deletions : (words after rest : List (List ℕ)) (deref : Bool) (r : Option Command) → words ≡ codes "delete" ∷ after → after ≡ deref_words deref ++ rest →
    (deref ≡ false → first_is after (codes "--deref") ≡ false) →
    MatchOption r ((name : List ℕ) (old : Option ObjectId) → IsDeletion rest name old → ⊥) (λ command. IsCommand (codes "delete" ∷ (deref_words deref ++ rest)) (command_asked command)) →
    MatchOption r ((asked : Asked) → IsCommand words asked → ⊥) (λ command. IsCommand words (command_asked command))
deletions words after rest deref (Some command) are option_are not_first holds = subst (λ ws. IsCommand ws (command_asked command)) (sym (are ∙ ap (λ ws. codes "delete" ∷ ws) option_are)) holds
deletions words after rest deref None are option_are not_first none = by
  where
    by : (asked : Asked) → IsCommand words asked → ⊥
    by (Delete given name old) (behind, same, u) =
        none name old (subst (λ ws. IsDeletion ws name old)
        (same_deref deref given rest behind (sym option_are ∙ tails (sym are ∙ same)) (λ is. subst (λ ws. first_is ws (codes "--deref") ≡ false) option_are (not_first is))
        (no_deref behind name u.rest u.words_are u.no_option)).1 u)
    by (Update given name id old) (behind, same, u) = no_way (ap (bytes_eq (codes "delete")) (heads (sym are ∙ same)))
    by (Symbolic name target) same = no_way (ap (bytes_eq (codes "delete")) (heads (sym are ∙ same)))
    by (Show name) same = no_way (ap (bytes_eq (codes "delete")) (heads (sym are ∙ same)))
    by (Listing prefix) same = no_way (ap (bytes_eq (codes "delete")) (heads (sym are ∙ same)))
    by (Log name) same = no_way (ap (bytes_eq (codes "delete")) (heads (sym are ∙ same)))
    by (Script path) same = no_way (ap (bytes_eq (codes "delete")) (heads (sym are ∙ same)))

-- no command begins with a word that begins with `-`
no_dash : (option : List ℕ) (command : List (List ℕ)) (asked : Asked) → IsCommand command asked → first_is command (45 ∷ option) ≡ false
no_dash option command (Update deref name id old) (behind, same, u) = ap (λ ws. first_is ws (45 ∷ option)) same
no_dash option command (Symbolic name target) same = ap (λ ws. first_is ws (45 ∷ option)) same
no_dash option command (Delete deref name old) (behind, same, u) = ap (λ ws. first_is ws (45 ∷ option)) same
no_dash option command (Show name) same = ap (λ ws. first_is ws (45 ∷ option)) same
no_dash option command (Listing prefix) same = ap (λ ws. first_is ws (45 ∷ option)) same
no_dash option command (Log name) same = ap (λ ws. first_is ws (45 ∷ option)) same
no_dash option command (Script path) same = ap (λ ws. first_is ws (45 ∷ option)) same

-- nor do words of another option before words that do not
behind_other : (option other : List ℕ) (value : Option (List ℕ)) (rest : List (List ℕ)) → bytes_eq other option ≡ false → first_is rest option ≡ false → first_is (option_words other value ++ rest) option ≡ false
behind_other option other None rest differ none = none
behind_other option other (Some value) rest differ none = differ

-- two readings of `[OPTION VALUE]`
same_option : (option : List ℕ) (words : List (List ℕ)) (value given : Option (List ℕ)) (rest after : List (List ℕ)) → bytes_eq option option ≡ true → IsOption option words value rest →
    words ≡ option_words option given ++ after → first_is after option ≡ false → (given ≡ value) × (after ≡ rest)
same_option option words None None rest after is read are none = (refl, sym are ∙ read.words_are)
same_option option words (Some value) (Some given) rest after is read are none = (ap Some (heads (tails (sym are ∙ read.words_are))), tails (tails (sym are ∙ read.words_are)))
same_option option words None (Some given) rest after is read are none = no_way (sym is ∙ (sym (ap (λ ws. first_is ws option) are) ∙ read.not_first refl))
same_option option words (Some value) None rest after is read are none = no_way (sym is ∙ (sym (ap (λ ws. first_is ws option) (sym are ∙ read.words_are)) ∙ none))

-- the option alone is no reading
no_value : (option : List ℕ) (words : List (List ℕ)) (given : Option (List ℕ)) (after : List (List ℕ)) → bytes_eq option option ≡ true → words ≡ option ∷ [] →
    words ≡ option_words option given ++ after → first_is after option ≡ false → ⊥
no_value option words (Some given) after is alone are none = cc
no_value option words None after is alone are none = no_way (sym is ∙ (sym (ap (λ ws. first_is ws option) (sym are ∙ alone)) ∙ none))

-- the words of a line, read from the first on
module _ (words : List (List ℕ)) (line : LineAsked) (l : AreWordsOf words line) where
  abbrev behind_as : List (List ℕ)
  behind_as = option_words (codes "--message") line.message ++ l.command

  abbrev behind_namespace : List (List ℕ)
  behind_namespace = option_words (codes "--as") l.signature ++ behind_as

  abbrev behind_kind : List (List ℕ)
  behind_kind = option_words (codes "--namespace") line.namespace ++ behind_namespace

  no_sha256 : first_is behind_kind (codes "--sha256") ≡ false
  no_sha256 =
      behind_other (codes "--sha256") (codes "--namespace") line.namespace behind_namespace refl
      (behind_other (codes "--sha256") (codes "--as") l.signature behind_as refl
      (behind_other (codes "--sha256") (codes "--message") line.message l.command refl (no_dash _ l.command line.asked l.is_command)))

  no_namespace : first_is behind_namespace (codes "--namespace") ≡ false
  no_namespace =
      behind_other (codes "--namespace") (codes "--as") l.signature behind_as refl
      (behind_other (codes "--namespace") (codes "--message") line.message l.command refl (no_dash _ l.command line.asked l.is_command))

  no_as : first_is behind_as (codes "--as") ≡ false
  no_as = behind_other (codes "--as") (codes "--message") line.message l.command refl (no_dash _ l.command line.asked l.is_command)

  no_message : first_is l.command (codes "--message") ≡ false
  no_message = no_dash _ l.command line.asked l.is_command

  at_kind : (dir : List ℕ) (first rest : List (List ℕ)) (kind : Kind) → words ≡ dir ∷ first → first ≡ kind_words kind ++ rest →
      (kind ≡ kinds.Sha1 → first_is first (codes "--sha256") ≡ false) → rest ≡ behind_kind
  at_kind dir first rest kind are option_are not_first =
      by kind line.kind behind_kind (sym option_are ∙ tails (sym are ∙ l.words_are)) (λ is. subst (λ ws. first_is ws (codes "--sha256") ≡ false) option_are (not_first is)) no_sha256
    where
      by : (kind given : Kind) (after : List (List ℕ)) → kind_words kind ++ rest ≡ kind_words given ++ after → (kind ≡ kinds.Sha1 → first_is (kind_words kind ++ rest) (codes "--sha256") ≡ false) →
          first_is after (codes "--sha256") ≡ false → rest ≡ after
      by kinds.Sha1 kinds.Sha1 after same other none = same
      by kinds.Sha256 kinds.Sha256 after same other none = tails same
      by kinds.Sha1 kinds.Sha256 after same other none = no_way (sym (ap (λ ws. first_is ws (codes "--sha256")) same) ∙ other refl)
      by kinds.Sha256 kinds.Sha1 after same other none = no_way (ap (λ ws. first_is ws (codes "--sha256")) same ∙ none)

-- Words that are read one part after the other: where one of them is none, no line has these words; else a line has them.
module _ (words : List (List ℕ)) (dir : List ℕ) (first behind : List (List ℕ)) (kind : Kind) (are : words ≡ dir ∷ first) (option_are : first ≡ kind_words kind ++ behind) (not_first : kind ≡ kinds.Sha1 → first_is first (codes "--sha256") ≡ false) (namespace : Option (List ℕ)) (behind2 : List (List ℕ)) (n : IsOption (codes "--namespace") behind namespace behind2) where
  at_namespace : (line : LineAsked) (l : AreWordsOf words line) → (line.namespace ≡ namespace) × (behind_namespace words line l ≡ behind2)
  at_namespace line l = same_option (codes "--namespace") behind namespace line.namespace behind2 (behind_namespace words line l) refl n (at_kind words line l dir first behind kind are option_are not_first) (no_namespace words line l)

  pub no_signature : behind2 ≡ codes "--as" ∷ [] → (line : LineAsked) → AreWordsOf words line → ⊥
  no_signature alone line l = no_value (codes "--as") behind2 l.signature (behind_as words line l) refl alone (sym (at_namespace line l).1) (no_as words line l)

  module _ (signature : Option (List ℕ)) (behind3 : List (List ℕ)) (s : IsOption (codes "--as") behind2 signature behind3) where
    at_signature : (line : LineAsked) (l : AreWordsOf words line) → (l.signature ≡ signature) × (behind_as words line l ≡ behind3)
    at_signature line l = same_option (codes "--as") behind2 signature l.signature behind3 (behind_as words line l) refl s (sym (at_namespace line l).1) (no_as words line l)

    pub no_text : behind3 ≡ codes "--message" ∷ [] → (line : LineAsked) → AreWordsOf words line → ⊥
    no_text alone line l = no_value (codes "--message") behind3 line.message l.command refl alone (sym (at_signature line l).1) (no_message words line l)

    pub no_committer : ((committer : Option Who) → IsSigned signature committer → ⊥) → (line : LineAsked) → AreWordsOf words line → ⊥
    no_committer none line l = none line.committer (subst (λ text. IsSigned text line.committer) (at_signature line l).0 l.is_signed)

    module _ (message : Option (List ℕ)) (behind4 : List (List ℕ)) (m : IsOption (codes "--message") behind3 message behind4) where
      pub no_command : ((asked : Asked) → IsCommand behind4 asked → ⊥) → (line : LineAsked) → AreWordsOf words line → ⊥
      no_command none line l =
          none line.asked (subst (λ ws. IsCommand ws line.asked)
          (same_option (codes "--message") behind3 message line.message behind4 l.command refl m (sym (at_signature line l).1) (no_message words line l)).1 l.is_command)

      pub is_line : (committer : Option Who) (asked : Asked) → IsSigned signature committer → IsCommand behind4 asked →
          AreWordsOf words (record { dir = dir; kind = kind; namespace = namespace; committer = committer; message = message; asked = asked })
      is_line committer asked signed command = record {
        signature = signature;
        command = behind4;
        is_signed = signed;
        is_command = command;
        words_are =
            are ∙ ap (λ ws. dir ∷ ws) (option_are ∙ ap (λ ws. kind_words kind ++ ws)
            (n.words_are ∙ ap (λ ws. option_words (codes "--namespace") namespace ++ ws)
            (s.words_are ∙ ap (λ ws. option_words (codes "--as") signature ++ ws) m.words_are)));
      }

-- a list without elements
pub empty : {A : Type 0} (xs : List A) → true ≡ (length xs == 0) → xs ≡ []
empty [] h = refl
empty (x ∷ xs) h = absurd (omega (arith, eqb-true (length (x ∷ xs)) 0 (sym h)))
