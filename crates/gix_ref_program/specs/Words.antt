-- The words of the program: `DIR [--sha256] [--namespace NAME] [--as SIGNATURE] [--message TEXT] COMMAND`.
use Rattle.std.specs.Prelude.{◌≡◌, ◌≢◌, ℕ, List, [], ◌∷◌, ◌++◌, Bool, true, false, bytes_eq, codes, map, Option, Some, None, String}
use Rattle.std.specs.String.{string_bytes}
use Rattle.std.specs.declared.alloc.Global.{Global}
use Rattle.std.specs.Borrow.{Bor}
use Rattle.std.specs.Option.{option_map}
use Rattle.gix_ref_hash.specs.Ids.{ReadsId}
use Rattle.gix_ref_hash.specs.declared.hash.ObjectId.{ObjectId}
use Rattle.gix_ref_hash.specs.declared.hash.Kind.{Kind}
use Rattle.gix_ref_hash.specs.declared.hash.Kind.TheVariants as kinds
use Rattle.gix_ref_log.specs.Signatures.{Who, IsSignature, signature_ref_who}
use Rattle.gix_ref_log.specs.declared.actor.SignatureRef.{SignatureRef}
use Rattle.gix_ref_program.specs.declared.words.Command.{Command}
use Rattle.gix_ref_program.specs.declared.words.Command.TheVariants as commands
use Rattle.gix_ref_program.specs.declared.words.Line.{Line as Parsed}

-- What a command asks for.
pub data Asked : Type 0 where
  Update : (deref : Bool) (name : List ℕ) (id : ObjectId) (old : Option ObjectId) → Asked
  Symbolic : (name target : List ℕ) → Asked
  Delete : (deref : Bool) (name : List ℕ) (old : Option ObjectId) → Asked
  Show : (name : List ℕ) → Asked
  Listing : (prefix : Option (List ℕ)) → Asked
  Log : (name : List ℕ) → Asked
  Script : (path : List ℕ) → Asked

-- What a line asks for, and where.
pub record LineAsked : Type 0 where
  pub dir : List ℕ
  pub kind : Kind
  pub namespace : Option (List ℕ)
  pub committer : Option Who
  pub message : Option (List ℕ)
  pub asked : Asked

-- the bytes of words
abbrev pub texts : List (Bor (List ℕ)) → List (List ℕ)
texts words = map (λ (word : Bor (List ℕ)). word.now) words

-- those of words that are text
abbrev pub string_texts : List (String Global) → List (List ℕ)
string_texts words = map string_bytes words

-- the bytes of a word, if one is given
abbrev pub text_given : Option (Bor (List ℕ)) → Option (List ℕ)
text_given word = option_map (λ (text : Bor (List ℕ)). text.now) word

-- who it is that a signature names, if one is given
abbrev pub who_given : Option SignatureRef → Option Who
who_given signature = option_map signature_ref_who signature

-- no script
abbrev pub IsNoScript : Asked → Type 0
IsNoScript (Script path) = ⊥
IsNoScript asked = Unit {0}

-- a command that writes: one transaction
abbrev pub IsWrite : Asked → Type 0
IsWrite (Update deref name id old) = Unit {0}
IsWrite (Symbolic name target) = Unit {0}
IsWrite (Delete deref name old) = Unit {0}
IsWrite (Show name) = ⊥
IsWrite (Listing prefix) = ⊥
IsWrite (Log name) = ⊥
IsWrite (Script path) = ⊥

-- a command that writes, or a script of such
abbrev pub MayWrite : Asked → Type 0
MayWrite (Script path) = Unit {0}
MayWrite asked = IsWrite asked

-- the first of these words is this one
abbrev pub first_is : List (List ℕ) → List ℕ → Bool
first_is [] word = false
first_is (first ∷ rest) word = bytes_eq first word

-- `[OLD]`
abbrev pub IsOldWord : List (List ℕ) → Option ObjectId → Type 0
IsOldWord words None = words ≡ []
IsOldWord words (Some id) = (digits : List ℕ) × ReadsId digits id × (words ≡ digits ∷ [])

-- `NAME ID [OLD]`, where NAME is not the option `--deref`
pub record IsUpdate (words : List (List ℕ)) (name : List ℕ) (id : ObjectId)
    (old : Option ObjectId) : Type 0 where
  pub digits : List ℕ
  pub rest : List (List ℕ)
  pub no_option : name ≢ codes "--deref"
  pub reads : ReadsId digits id
  pub expected : IsOldWord rest old
  pub words_are : words ≡ name ∷ (digits ∷ rest)

-- and words that are none
abbrev pub IsNoUpdate : List (List ℕ) → Type 0
IsNoUpdate words = (name : List ℕ) (id : ObjectId) (old : Option ObjectId) →
    IsUpdate words name id old → ⊥

-- `NAME [OLD]`, where NAME is not the option `--deref`
pub record IsDeletion (words : List (List ℕ)) (name : List ℕ) (old : Option ObjectId) : Type 0 where
  pub rest : List (List ℕ)
  pub no_option : name ≢ codes "--deref"
  pub expected : IsOldWord rest old
  pub words_are : words ≡ name ∷ rest

-- and words that are none
abbrev pub IsNoDeletion : List (List ℕ) → Type 0
IsNoDeletion words = (name : List ℕ) (old : Option ObjectId) → IsDeletion words name old → ⊥

-- `[--deref]`
abbrev pub deref_words : Bool → List (List ℕ)
deref_words true = codes "--deref" ∷ []
deref_words false = []

-- `[PREFIX]`
abbrev pub prefix_words : Option (List ℕ) → List (List ℕ)
prefix_words None = []
prefix_words (Some prefix) = prefix ∷ []

-- `update [--deref] NAME ID [OLD]`, `symbolic NAME TARGET`, `delete [--deref] NAME [OLD]`, `show NAME`, `list [PREFIX]`,
-- `log NAME`, or `script FILE`
abbrev pub IsCommand : List (List ℕ) → Asked → Type 0
IsCommand words (Update deref name id old) =
    (rest : List (List ℕ)) × (words ≡ codes "update" ∷ (deref_words deref ++ rest))
    × IsUpdate rest name id old
IsCommand words (Symbolic name target) = words ≡ codes "symbolic" ∷ (name ∷ (target ∷ []))
IsCommand words (Delete deref name old) =
    (rest : List (List ℕ)) × (words ≡ codes "delete" ∷ (deref_words deref ++ rest))
    × IsDeletion rest name old
IsCommand words (Show name) = words ≡ codes "show" ∷ (name ∷ [])
IsCommand words (Listing prefix) = words ≡ codes "list" ∷ prefix_words prefix
IsCommand words (Log name) = words ≡ codes "log" ∷ (name ∷ [])
IsCommand words (Script path) = words ≡ codes "script" ∷ (path ∷ [])

-- `[--sha256]`
abbrev pub kind_words : Kind → List (List ℕ)
kind_words kinds.Sha1 = []
kind_words kinds.Sha256 = codes "--sha256" ∷ []

-- `[OPTION VALUE]`
abbrev pub option_words : List ℕ → Option (List ℕ) → List (List ℕ)
option_words option None = []
option_words option (Some value) = option ∷ (value ∷ [])

-- this option comes first with this value, or it does not come first; and these words follow
pub record IsOption (option : List ℕ) (words : List (List ℕ)) (value : Option (List ℕ))
    (rest : List (List ℕ)) : Type 0 where
  pub not_first : value ≡ None → first_is words option ≡ false
  pub words_are : words ≡ option_words option value ++ rest

-- the text of `--as` is the signature of this committer
abbrev pub IsSigned : Option (List ℕ) → Option Who → Type 0
IsSigned None None = Unit {0}
IsSigned (Some text) (Some who) = IsSignature text who
IsSigned signature committer = ⊥

-- and that of no committer
abbrev pub IsNoSignature : Option (List ℕ) → Type 0
IsNoSignature signature = (committer : Option Who) → IsSigned signature committer → ⊥

-- the words of a line
pub record AreWordsOf (words : List (List ℕ)) (line : LineAsked) : Type 0 where
  pub signature : Option (List ℕ)
  pub command : List (List ℕ)
  pub is_signed : IsSigned signature line.committer
  pub is_command : IsCommand command line.asked
  pub words_are : words
      ≡ line.dir ∷ (kind_words line.kind ++ (option_words (codes "--namespace") line.namespace
      ++ (option_words (codes "--as") signature
      ++ (option_words (codes "--message") line.message ++ command))))

-- what the values of the code mean

abbrev pub command_asked : Command → Asked
command_asked (commands.Update deref name id old) = Update deref name.now id old
command_asked (commands.Symbolic name target) = Symbolic name.now target.now
command_asked (commands.Delete deref name old) = Delete deref name.now old
command_asked (commands.Show name) = Show name.now
command_asked (commands.List prefix) = Listing (text_given prefix)
command_asked (commands.Log name) = Log name.now
command_asked (commands.Script path) = Script path.now

-- what each of these commands asks for
abbrev pub commands_asked : List Command → List Asked
commands_asked all = map command_asked all

abbrev pub line_asked : Parsed → LineAsked
line_asked line = record {
  dir = line.dir.now;
  kind = line.object_hash;
  namespace = text_given line.namespace;
  committer = who_given line.committer;
  message = text_given line.message;
  asked = command_asked line.command;
}

-- what the command of a line asks for
abbrev pub asked_in : Parsed → Asked
asked_in line = (line_asked line).asked
