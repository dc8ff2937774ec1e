-- The commands of `git update-ref --stdin`, and how they are written.
use Rattle.std.specs.Prelude.{◌≡◌, ◌≢◌, ◌⊎◌, ◌==◌, ℕ, Bool, List, [], ◌∷◌, ◌++◌, nat_eq, map, codes, Option, Some, None, if◌then◌else◌}
use Rattle.std.specs.Borrow.{Bor}
use Rattle.std.specs.List.{slice_split, starts_with}
use Rattle.std.specs.Option.{option_map}
use Rattle.gix_ref_hash.specs.Bytes.{is_space}
use Rattle.gix_ref_hash.specs.Ids.{ReadsId, null_id}
use Rattle.gix_ref_hash.specs.declared.hash.Kind.{Kind}
use Rattle.gix_ref_hash.specs.declared.hash.ObjectId.{ObjectId}
use Rattle.gix_ref_session.specs.declared.command.Asked.{Asked}
use Rattle.gix_ref_session.specs.declared.command.Asked.TheVariants as asks
use Rattle.gix_ref_session.specs.declared.command.Command.{Command}
use Rattle.gix_ref_session.specs.declared.command.Command.TheVariants as commands
use Rattle.gix_ref_session.specs.declared.command.OldTarget.{OldTarget}
use Rattle.gix_ref_session.specs.declared.command.OldTarget.TheVariants as olds
use Rattle.gix_ref_session.specs.declared.input.Format.{Format}
use Rattle.gix_ref_session.specs.declared.input.Format.TheVariants.{Lines, Nul}

-- the value before a symbolic update
pub data OldAsk : Type 0 where
  OldName : (name : List ℕ) → OldAsk
  OldId : (id : ObjectId) → OldAsk

-- what a command asks of a reference
pub data Ask : Type 0 where
  Update : (new : ObjectId) (old : Option ObjectId) → Ask
  Create : (new : ObjectId) → Ask
  Delete : (old : Option ObjectId) → Ask
  Verify : (old : Option ObjectId) → Ask
  SymrefUpdate : (target : List ℕ) (old : Option OldAsk) → Ask
  SymrefCreate : (target : List ℕ) → Ask
  SymrefDelete : (old : Option (List ℕ)) → Ask
  SymrefVerify : (old : Option (List ℕ)) → Ask

-- it is asked of a symbolic reference
abbrev pub IsSymbolic : Ask → Type 0
IsSymbolic (SymrefUpdate target old) = Unit {0}
IsSymbolic (SymrefCreate target) = Unit {0}
IsSymbolic (SymrefDelete old) = Unit {0}
IsSymbolic (SymrefVerify old) = Unit {0}
IsSymbolic ask = ⊥

-- a command that is heard
pub data Heard : Type 0 where
  Edit : (name : List ℕ) (ask : Ask) → Heard
  NoDeref : Heard
  Start : Heard
  Prepare : Heard
  Commit : Heard
  Abort : Heard

-- the bytes of words
abbrev pub texts : List (Bor (List ℕ)) → List (List ℕ)
texts words = map (λ (word : Bor (List ℕ)). word.now) words

abbrev pub is_nul : ℕ → Bool
is_nul byte = byte == 0

-- How they are written: a command is words, parted by a space each in lines. With NULs these part the words, and the first one has the
-- verb, a space and the name.

abbrev pub words_of : Format → List ℕ → List (List ℕ)
words_of Lines text = slice_split is_space text
words_of Nul text = slice_split is_nul text

-- an id; an empty field is the null id
abbrev pub IsIdField : Kind → List ℕ → ObjectId → Type 0
IsIdField kind field id = ((field ≡ []) × (id ≡ null_id kind)) ⊎ ReadsId field id

-- NEW, and the fields after it
pub record IsNewId (kind : Kind) (fields : List (List ℕ)) (id : ObjectId)
    (rest : List (List ℕ)) : Type 0 where
  pub field : List ℕ
  pub are : fields ≡ field ∷ rest
  pub is : IsIdField kind field id

-- `[OLD]`; with NULs an empty field is a missing one
abbrev pub IsOldId : Format → Kind → (fields : List (List ℕ)) → Option ObjectId → Type 0
IsOldId Lines kind fields None = fields ≡ []
IsOldId Nul kind fields None = fields ≡ [] ∷ []
IsOldId Lines kind fields (Some id) = (field : List ℕ) × (fields ≡ field ∷ [])
    × IsIdField kind field id
IsOldId Nul kind fields (Some id) = (field : List ℕ) × (fields ≡ field ∷ [])
    × (field ≢ []) × IsIdField kind field id

-- NEW-TARGET, and the fields after it
pub record IsTarget (fields : List (List ℕ)) (target : List ℕ) (rest : List (List ℕ)) : Type 0 where
  pub are : fields ≡ target ∷ rest
  pub some : target ≢ []

-- `[OLD-TARGET]`
abbrev pub IsOldName : Format → (fields : List (List ℕ)) → Option (List ℕ) → Type 0
IsOldName Lines fields None = fields ≡ []
IsOldName Nul fields None = fields ≡ [] ∷ []
IsOldName Lines fields (Some name) = fields ≡ name ∷ []
IsOldName Nul fields (Some name) = (fields ≡ name ∷ []) × (name ≢ [])

-- `[ref OLD-TARGET | oid OLD-OID]`; with NULs two empty fields are a missing one
abbrev pub IsOldTarget : Format → Kind → (fields : List (List ℕ)) → Option OldAsk → Type 0
IsOldTarget Lines kind fields None = fields ≡ []
IsOldTarget Nul kind fields None = fields ≡ [] ∷ ([] ∷ [])
IsOldTarget format kind fields (Some (OldName name)) = fields ≡ codes "ref" ∷ (name ∷ [])
IsOldTarget format kind fields (Some (OldId id)) =
    (field : List ℕ) × (fields ≡ codes "oid" ∷ (field ∷ [])) × IsIdField kind field id

-- what a verb asks with these fields after REF
abbrev pub IsAsk : Format → Kind → (verb : List ℕ) → (fields : List (List ℕ)) → Ask → Type 0
IsAsk format kind verb fields (Update new old) = (verb ≡ codes "update")
    × ((rest : List (List ℕ)) × IsNewId kind fields new rest × IsOldId format kind rest old)
IsAsk format kind verb fields (Create new) = (verb ≡ codes "create")
    × IsNewId kind fields new [] × (new ≢ null_id kind)
IsAsk format kind verb fields (Delete old) = (verb ≡ codes "delete")
    × IsOldId format kind fields old × (old ≢ Some (null_id kind))
IsAsk format kind verb fields (Verify old) = (verb ≡ codes "verify")
    × IsOldId format kind fields old
IsAsk format kind verb fields (SymrefUpdate target old) = (verb ≡ codes "symref-update")
    × ((rest : List (List ℕ)) × IsTarget fields target rest × IsOldTarget format kind rest old)
IsAsk format kind verb fields (SymrefCreate target) = (verb ≡ codes "symref-create")
    × IsTarget fields target []
IsAsk format kind verb fields (SymrefDelete old) = (verb ≡ codes "symref-delete")
    × IsOldName format fields old
IsAsk format kind verb fields (SymrefVerify old) = (verb ≡ codes "symref-verify")
    × IsOldName format fields old

-- nothing is what a verb asks with these fields
abbrev pub IsNoAsk : Format → Kind → (verb : List ℕ) → (fields : List (List ℕ)) → Type 0
IsNoAsk format kind verb fields = (ask : Ask) → IsAsk format kind verb fields ask → ⊥

-- the verb, the name, and the fields after it
abbrev pub IsVerbAndName : Format → (words : List (List ℕ)) → (verb name : List ℕ) →
    (fields : List (List ℕ)) → Type 0
IsVerbAndName Lines words verb name fields = words ≡ verb ∷ (name ∷ fields)
IsVerbAndName Nul words verb name fields = words ≡ (verb ++ 32 ∷ name) ∷ fields

abbrev pub no_deref_words : Format → List (List ℕ)
no_deref_words Lines = codes "option" ∷ (codes "no-deref" ∷ [])
no_deref_words Nul = codes "option no-deref" ∷ []

-- the command that one word is
abbrev pub IsWord : List ℕ → Heard → Type 0
IsWord word Start = word ≡ codes "start"
IsWord word Prepare = word ≡ codes "prepare"
IsWord word Commit = word ≡ codes "commit"
IsWord word Abort = word ≡ codes "abort"
IsWord word heard = ⊥

-- the command that words are, if they are one word
abbrev pub IsOneWord : (words : List (List ℕ)) → Heard → Type 0
IsOneWord words heard = (word : List ℕ) × (words ≡ word ∷ []) × IsWord word heard

-- the command that words are
abbrev pub IsCommand : Format → Kind → (words : List (List ℕ)) → Heard → Type 0
IsCommand format kind words (Edit name ask) = (verb : List ℕ) × (fields : List (List ℕ))
    × IsVerbAndName format words verb name fields × (name ≢ []) × IsAsk format kind verb fields ask
IsCommand format kind words NoDeref = words ≡ no_deref_words format
IsCommand format kind words heard = IsOneWord words heard

-- words that are no command
abbrev pub IsNoCommand : Format → Kind → (words : List (List ℕ)) → Type 0
IsNoCommand format kind words = (heard : Heard) → IsCommand format kind words heard → ⊥

-- how many fields follow the first one of a command with NULs
abbrev pub fields_after : List ℕ → ℕ
fields_after text =
    if starts_with nat_eq text (codes "update ") then 2
    else if starts_with nat_eq text (codes "symref-update ") then 3
    else if starts_with nat_eq text (codes "create ") then 1
    else if starts_with nat_eq text (codes "delete ") then 1
    else if starts_with nat_eq text (codes "verify ") then 1
    else if starts_with nat_eq text (codes "symref-create ") then 1
    else if starts_with nat_eq text (codes "symref-delete ") then 1
    else if starts_with nat_eq text (codes "symref-verify ") then 1
    else 0

-- what the values of the code mean

abbrev pub old_target_of : OldTarget → OldAsk
old_target_of (olds.Name name) = OldName name.now
old_target_of (olds.Id id) = OldId id

abbrev pub ask_of : Asked → Ask
ask_of (asks.Update new old) = Update new old
ask_of (asks.Create new) = Create new
ask_of (asks.Delete old) = Delete old
ask_of (asks.Verify old) = Verify old
ask_of (asks.SymrefUpdate target old) = SymrefUpdate target.now (option_map old_target_of old)
ask_of (asks.SymrefCreate target) = SymrefCreate target.now
ask_of (asks.SymrefDelete old) = SymrefDelete (option_map (λ name. name.now) old)
ask_of (asks.SymrefVerify old) = SymrefVerify (option_map (λ name. name.now) old)

abbrev pub heard_of : Command → Heard
heard_of (commands.Edit name asked) = Edit name.now (ask_of asked)
heard_of commands.NoDeref = NoDeref
heard_of commands.Start = Start
heard_of commands.Prepare = Prepare
heard_of commands.Commit = Commit
heard_of commands.Abort = Abort
