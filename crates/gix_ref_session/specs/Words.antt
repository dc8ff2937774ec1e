-- The words of `refs-session` after its name: the git folder, options, and the words of a command.
use Rattle.std.specs.Prelude.{◌≡◌, ◌⊎◌, ℕ, List, [], ◌∷◌, Bool, true, false, codes, Option, Some, None, bytes_eq, if◌then◌else◌}
use Rattle.std.specs.Option.{option_map}
use denote.Ref.{Bor}
use Rattle.gix_ref_hash.specs.declared.hash.Kind.{Kind}
use Rattle.gix_ref_hash.specs.declared.hash.Kind.TheVariants.{Sha1, Sha256}
use Rattle.gix_ref_log.specs.Signatures.{Who, IsSignature, signature_ref_who}
use Rattle.gix_ref_queries.specs.Arguments.{IsCount, is_option}
use Rattle.gix_ref_session.specs.Commands.{texts}
use Rattle.gix_ref_session.specs.declared.input.Format.{Format}
use Rattle.gix_ref_session.specs.declared.input.Format.TheVariants as formats
use Rattle.gix_ref_session.specs.declared.words.Flag.{Flag}
use Rattle.gix_ref_session.specs.declared.words.Flag.TheVariants as flags
use Rattle.gix_ref_session.specs.declared.words.Valued.{Valued}
use Rattle.gix_ref_session.specs.declared.words.Valued.TheVariants as valued
use Rattle.gix_ref_session.specs.declared.words.Line.{Line}
use Rattle.gix_ref_session.specs.declared.words.Parsed.{Parsed}

-- What options say.
pub record Options : Type 0 where
  pub namespace : Option (List ℕ)
  pub without_syncs : Bool
  pub format : Format
  pub object_hash : Kind
  pub committer : Option Who
  pub message : List ℕ
  pub create_reflog : Bool
  pub lock_timeout : ℕ
  pub packed_lock_timeout : ℕ

-- what is so without options
abbrev pub no_options : Options
no_options = record {
  namespace = None;
  without_syncs = false;
  format = formats.Lines;
  object_hash = Sha1;
  committer = None;
  message = [];
  create_reflog = false;
  lock_timeout = 100;
  packed_lock_timeout = 1000;
}

-- the options of a line
abbrev pub options_in : Line → Options
options_in line = record {
  namespace = option_map (λ (name : Bor (List ℕ)). name.now) line.namespace;
  without_syncs = line.without_syncs;
  format = line.session.format;
  object_hash = line.session.object_hash;
  committer = option_map signature_ref_who line.session.committer;
  message = line.session.message.now;
  create_reflog = line.session.create_reflog;
  lock_timeout = line.session.lock_timeout;
  packed_lock_timeout = line.session.packed_lock_timeout;
}

-- the option without a value that a word is
abbrev pub flag_of : (word : List ℕ) → Option Flag
flag_of word = if bytes_eq word (codes "-z") then Some flags.Nul
    else (if bytes_eq word (codes "--sha256") then Some flags.Sha256
    else (if bytes_eq word (codes "--create-reflog") then Some flags.CreateReflog
    else (if bytes_eq word (codes "--without-syncs") then Some flags.WithoutSyncs else None)))

abbrev pub with_flag : Flag → Options → Options
with_flag flags.Nul options = record options { format = formats.Nul }
with_flag flags.Sha256 options = record options { object_hash = Sha256 }
with_flag flags.CreateReflog options = record options { create_reflog = true }
with_flag flags.WithoutSyncs options = record options { without_syncs = true }

-- and the one with a value
abbrev pub valued_of : (word : List ℕ) → Option Valued
valued_of word = if bytes_eq word (codes "--namespace") then Some valued.Namespace
    else (if bytes_eq word (codes "--as") then Some valued.Committer
    else (if bytes_eq word (codes "-m") then Some valued.Message
    else (if bytes_eq word (codes "--message") then Some valued.Message
    else (if bytes_eq word (codes "--lock-timeout") then Some valued.LockTimeout
    else (if bytes_eq word (codes "--packed-lock-timeout") then Some valued.PackedLockTimeout
    else None)))))

-- an option with this value
abbrev pub TakesValue : Valued → (value : List ℕ) → (old new : Options) → Type 0
TakesValue valued.Namespace value old new = new ≡ record old { namespace = Some value }
TakesValue valued.Committer value old new =
    (who : Who) × IsSignature value who × (new ≡ record old { committer = Some who })
TakesValue valued.Message value old new = new ≡ record old { message = value }
TakesValue valued.LockTimeout value old new =
    (n : ℕ) × IsCount value n × (new ≡ record old { lock_timeout = n })
TakesValue valued.PackedLockTimeout value old new =
    (n : ℕ) × IsCount value n × (new ≡ record old { packed_lock_timeout = n })

-- a word is an option without a value
abbrev pub IsFlag : (word : List ℕ) → (old new : Options) → Type 0
IsFlag word old new = (flag : Flag) × (flag_of word ≡ Some flag) × (new ≡ with_flag flag old)

-- and one with this value
abbrev pub IsValued : (word value : List ℕ) → (old new : Options) → Type 0
IsValued word value old new = (flag_of word ≡ None)
    × ((option : Valued) × (valued_of word ≡ Some option) × TakesValue option value old new)

-- a word is no option with this value
abbrev pub IsNotValued : (word value : List ℕ) → (old : Options) → Type 0
IsNotValued word value old = (new : Options) → IsValued word value old new → ⊥

-- Words are options, of which the last of several counts, and then these, of which the first is no option.
abbrev pub AreOptions : (words : List (List ℕ)) → (old new : Options) → (rest : List (List ℕ)) →
    Type 0
AreOptions [] old new rest = (new ≡ old) × (rest ≡ [])
AreOptions (word ∷ []) old new rest =
    ((is_option word ≡ false) × (new ≡ old) × (rest ≡ word ∷ []))
    ⊎ ((is_option word ≡ true) × IsFlag word old new × (rest ≡ []))
AreOptions (word ∷ value ∷ words) old new rest =
    ((is_option word ≡ false) × (new ≡ old) × (rest ≡ word ∷ value ∷ words))
    ⊎ ((is_option word ≡ true)
    × (((mid : Options) × IsFlag word old mid × AreOptions (value ∷ words) mid new rest)
    ⊎ ((mid : Options) × IsValued word value old mid × AreOptions words mid new rest)))

-- what words are read as: the folder, the options, and what comes after them
abbrev pub IsRead : (words : List (List ℕ)) → Parsed → Type 0
IsRead [] parsed = ⊥
IsRead (dir ∷ words) parsed = (parsed.line.dir.now ≡ dir)
    × AreOptions words no_options (options_in parsed.line) (texts parsed.rest.now)

-- they cannot be read
abbrev pub IsUnreadable : (words : List (List ℕ)) → Type 0
IsUnreadable [] = Unit {0}
IsUnreadable (dir ∷ words) = (options : Options) (rest : List (List ℕ)) →
    AreOptions words no_options options rest → ⊥
