-- A session: transactions one after the other, with an answer to each command (`git update-ref --stdin`).
use Rattle.std.specs.Prelude.{◌≡◌, ◌≢◌, ◌⊎◌, ℕ, List, [], ◌∷◌, ◌++◌, Bool, true, false, ◌||◌, codes, Option, is_some, Result, Ok, Err}
use Rattle.std.specs.Io.KnownBytes.{Appends, IsAtEnd, Keeps}
use Rattle.gix_ref_files.specs.declared.files.ReadAt.{Ghosts}
use Rattle.gix_ref_files.specs.Files.{Meaning, FaultCounts, Leaves, Loses}
use Rattle.gix_ref_files.specs.Tree.{Tree}
use Rattle.gix_ref_edits.specs.declared.transaction.RefEdit.{RefEdit}
use Rattle.gix_ref_object.specs.declared.object.Find.{Ghosts as Finder}
use Rattle.gix_ref_packed.specs.OpenFiles.{HasReadFault}
use Rattle.gix_ref_theory.specs.Sequences.{AreDone, IsWithinSteps}
use Rattle.gix_ref_transaction.specs.declared.prepare.error.Error.{Error as Cause}
use Rattle.gix_ref_store.specs.Lookup.{LooksUp}
use Rattle.gix_ref_store.specs.Prepared.{HasGoodRecords, IsAtRest, tree_of}
use Rattle.gix_ref_store.specs.Store.{files_of}
use Rattle.gix_ref_store.specs.declared.file.store.Store.{Store}
use Rattle.gix_ref_store.specs.declared.file.transaction.Plan.{Plan}
use Rattle.gix_ref_store.specs.declared.file.transaction.Prepared.{Prepared}
use Rattle.gix_ref_program.specs.declared.update.UpdateError.TheVariants as errors
use Rattle.gix_ref_program.specs.Writes.{IsKept}
use Rattle.gix_ref_session.specs.Clashes.{IsLookFailure}
use Rattle.gix_ref_session.specs.Commands.{Heard, Commit, Abort}
use Rattle.gix_ref_session.specs.Gathering.{AreGathered, Gathering, IsUnheard, IsUnsaid, StopsShort}
use Rattle.gix_ref_session.specs.Input.{Hears}
use Rattle.gix_ref_session.specs.Transactions.{CommitFailed, IsCommitted, IsNamedAll, IsNotNamed, IsRefused, IsRolledBack, IsTransactionLoss, IsTransactionStop, IsTried, Led, WhenPrepared}
use Rattle.gix_ref_session.specs.Waiting.{HasWaited}
use Rattle.gix_ref_session.specs.declared.fatal.Fatal.{Fatal}
use Rattle.gix_ref_session.specs.declared.fatal.Fatal.TheVariants as fatals
use Rattle.gix_ref_session.specs.declared.gather.Closing.{Closing}
use Rattle.gix_ref_session.specs.declared.gather.Closing.TheVariants as closings
use Rattle.gix_ref_session.specs.declared.session.Session.{Session}

-- A session on its way: the bytes that are left of its input and those that were written, where they are known; its store; and
-- whether only `start` begins the next transaction.
pub record Way (F : Type 0) : Type 0 where
  pub input : Option (List ℕ)
  pub output : Option (List ℕ)
  pub store : Store F
  pub needs_start : Bool

-- A transaction of a session: its commands before the one that ends them, that one, what was gathered, and what is left of the
-- input.
pub record Turn : Type 0 where
  pub heards : List Heard
  pub closing : Closing
  pub gathered : Gathering
  pub rest : Option (List ℕ)

-- a point of a session, before a transaction that `start` has to begin, or need not
abbrev pub way_on : {F : Type 0} → (needs_start : Bool) → (input output : Option (List ℕ)) →
    Store F → Way F
way_on needs_start input output store = record {
  input = input;
  output = output;
  store = store;
  needs_start = needs_start;
}

abbrev pub way : {F : Type 0} → (input output : Option (List ℕ)) → Store F → Way F
way = way_on false

-- it ends so, on the way from one input, output and store to others
abbrev pub OnWay : {F I O : Type 0} → (remaining : I → Option (List ℕ)) →
    (contents : O → Option (List ℕ)) → (Ends : (s t : Way F) → Result Bool Fatal → Type 0) →
    (input : I) → (out : O) → (old : Store F) → (rest : I) → (now : O) → (new : Store F) →
    Result Bool Fatal → Type 0
OnWay remaining contents Ends input out old rest now new result =
    Ends (way (remaining input) (contents out) old) (way (remaining rest) (contents now) new) result

-- how `commit` is answered: it was done and that was said; or the writer failed; or it failed
abbrev pub AnswersCommit : Result (Unit {0}) Fatal → (out now : Option (List ℕ)) →
    Result Bool Fatal → Type 0
AnswersCommit (Ok done) out now (Ok true) = Appends out now (codes "commit: ok\n")
AnswersCommit (Ok done) out now (Err fatal) = IsUnsaid fatal
AnswersCommit (Err fatal) out now (Err error) = (error ≡ fatal) × Appends out now []
AnswersCommit committed out now result = ⊥

-- how `abort` is answered: that was said, or the writer failed
abbrev pub AnswersAbort : (out now : Option (List ℕ)) → Result Bool Fatal → Type 0
AnswersAbort out now (Ok true) = Appends out now (codes "abort: ok\n")
AnswersAbort out now (Ok false) = ⊥
AnswersAbort out now (Err fatal) = IsUnsaid fatal

-- another command than these
abbrev pub IsOther : Heard → Type 0
IsOther Commit = ⊥
IsOther Abort = ⊥
IsOther heard = Unit {0}

-- another command than `commit` and `abort` is read
abbrev pub HearsOther : Session → (input rest : Option (List ℕ)) → Type 0
HearsOther session input rest = (heard : Heard) × IsOther heard
    × Hears session.format session.object_hash heard input rest

-- why what is prepared is not closed: another command is read, or none
abbrev pub IsUnclosed : Session → (input rest : Option (List ℕ)) → Fatal → Type 0
IsUnclosed session input rest fatal = ((fatal ≡ fatals.Prepared) × HearsOther session input rest)
    ⊎ IsUnheard session input rest fatal

-- the writer failed before anything was read; or it was said that all is prepared, and no more, and then nothing was read that closes it
abbrev pub StaysUnclosed : Session → (input rest out now : Option (List ℕ)) → Fatal → Type 0
StaysUnclosed session input rest out now fatal = (IsUnsaid fatal × Keeps input rest)
    ⊎ (IsUnclosed session input rest fatal × Appends out now (codes "prepare: ok\n"))

-- what is heard after `prepare: ok`
abbrev pub HeardClosing : Session → (input rest out now : Option (List ℕ)) →
    Result Closing Fatal → Type 0
HeardClosing session input rest out now (Ok closings.Commit) =
    Hears session.format session.object_hash Commit input rest
    × Appends out now (codes "prepare: ok\n")
HeardClosing session input rest out now (Ok closings.Abort) =
    Hears session.format session.object_hash Abort input rest
    × Appends out now (codes "prepare: ok\n")
HeardClosing session input rest out now (Ok closings.End) =
    IsAtEnd input × Appends out now (codes "prepare: ok\n")
HeardClosing session input rest out now (Ok closings.Prepare) = ⊥
HeardClosing session input rest out now (Err fatal) =
    StaysUnclosed session input rest out now fatal

-- `commit` is heard: it is what closes the edits, or after `prepare: ok` it is read; at the end of the input nothing is
abbrev pub IsCommitHeard : Session → Closing → (input rest : Option (List ℕ)) → Type 0
IsCommitHeard session closings.Prepare input rest =
    Hears session.format session.object_hash Commit input rest
IsCommitHeard session closing input rest = Keeps input rest

-- what was answered before a commit
abbrev pub said_before : Closing → List ℕ
said_before closings.Prepare = codes "prepare: ok\n"
said_before closing = []

module _ {F R : Type 0} (G : Ghosts R) (honest : Type 0) (means : F → Meaning)
    (faults : F → FaultCounts) (session : Session) where
  -- how prepared edits are closed by what was heard, with the answer
  abbrev pub ClosedBy : Closing → (old new : Store F) → List RefEdit →
      (out now : Option (List ℕ)) → Result Bool Fatal → Type 0
  ClosedBy closings.Commit old new edits out now (Ok true) =
      IsCommitted honest means faults session.committer old new edits
      × Appends out now (codes "commit: ok\n")
  ClosedBy closings.Commit old new edits out now (Err fatal) =
      (CommitFailed honest means faults session.committer (HasReadFault G.faults) fatal
      old new edits × Appends out now [])
      ⊎ (IsUnsaid fatal × IsCommitted honest means faults session.committer old new edits)
  ClosedBy closings.Abort old new edits out now (Ok true) =
      IsRolledBack honest means faults old new edits × Appends out now (codes "abort: ok\n")
  ClosedBy closings.Abort old new edits out now (Err fatal) = IsUnsaid fatal
      × IsRolledBack honest means faults old new edits
  ClosedBy closings.End old new edits out now (Ok false) =
      IsRolledBack honest means faults old new edits × Appends out now []
  ClosedBy heard old new edits out now result = ⊥

  -- and so where they are those of a prepared transaction
  abbrev pub FinishedBy : {T : Type 0} {Find : Finder T} → Closing → Prepared F (Plan T Find) R →
      (new : Store F) → (out now : Option (List ℕ)) → Result Bool Fatal → Type 0
  FinishedBy heard prepared new out now result = WhenPrepared honest means faults prepared
      (λ old edits. ClosedBy heard old new edits out now result)

  -- how prepared edits came to be given up: nothing was read that closes them; or `abort` was, and its answer not written
  abbrev pub IsGivenUp : (s t : Way F) → Fatal → Type 0
  IsGivenUp s t fatal = StaysUnclosed session s.input t.input s.output t.output fatal
      ⊎ (IsUnsaid fatal × Hears session.format session.object_hash Abort s.input t.input)

  -- How edits that were prepared from a store end, after this command. With `true` the session goes on: they were committed, before
  -- that was answered; or, after `prepare`, given up by `abort`. With `false` the input has ended: without `start` they were
  -- committed, and after `prepare` given up.
  abbrev pub PreparedEnds : Closing → (s t : Way F) → (edits : List RefEdit) →
      Result Bool Fatal → Type 0
  PreparedEnds closings.Commit s t edits (Ok true) =
      IsCommitted honest means faults session.committer s.store t.store edits
      × Keeps s.input t.input × Appends s.output t.output (codes "commit: ok\n")
  PreparedEnds closings.End s t edits (Ok false) =
      IsCommitted honest means faults session.committer s.store t.store edits
      × Keeps s.input t.input × Appends s.output t.output []
  PreparedEnds closings.Prepare s t edits (Ok true) =
      (IsCommitted honest means faults session.committer s.store t.store edits
      × Hears session.format session.object_hash Commit s.input t.input
      × Appends s.output t.output (codes "prepare: ok\n" ++ codes "commit: ok\n"))
      ⊎ (IsRolledBack honest means faults s.store t.store edits
      × Hears session.format session.object_hash Abort s.input t.input
      × Appends s.output t.output (codes "prepare: ok\n" ++ codes "abort: ok\n"))
  PreparedEnds closings.Prepare s t edits (Ok false) =
      IsRolledBack honest means faults s.store t.store edits
      × IsAtEnd s.input × Appends s.output t.output (codes "prepare: ok\n")
  -- their commit failed; or after `prepare` they were not closed, and given up; or `abort` was read, they were given up, and the writer
  -- failed; or it did after they were committed, where that is answered
  PreparedEnds closing s t edits (Err fatal) =
      (CommitFailed honest means faults session.committer (HasReadFault G.faults) fatal
      s.store t.store edits
      × IsCommitHeard session closing s.input t.input
      × Appends s.output t.output (said_before closing))
      ⊎ (((closing ≡ closings.Prepare) × IsRolledBack honest means faults s.store t.store edits
      × IsGivenUp s t fatal)
      ⊎ ((closing ≢ closings.End) × IsUnsaid fatal
      × IsCommitted honest means faults session.committer s.store t.store edits
      × IsCommitHeard session closing s.input t.input))
  PreparedEnds closing s t edits result = ⊥

  -- a prepared transaction ends so, after this command
  abbrev pub Finishes : {I O T : Type 0} {Find : Finder T} → (remaining : I → Option (List ℕ)) →
      (contents : O → Option (List ℕ)) → Closing → Prepared F (Plan T Find) R → (new : Store F) →
      (input : I) → (out : O) → (rest : I) → (now : O) → Result Bool Fatal → Type 0
  Finishes remaining contents closing prepared new input out rest now result =
      WhenPrepared honest means faults prepared (λ old edits. PreparedEnds closing
      (way (remaining input) (contents out) old) (way (remaining rest) (contents now) new)
      edits result)

  -- and so where nothing more is read
  abbrev pub EndsAtOnce : {T : Type 0} {Find : Finder T} → Closing →
      Prepared F (Plan T Find) R → (new : Store F) → (input out now : Option (List ℕ)) →
      Result Bool Fatal → Type 0
  EndsAtOnce closing prepared new input out now result =
      WhenPrepared honest means faults prepared (λ old edits. PreparedEnds closing
      (way input out old) (way input now new) edits result)

  -- They were given up at once, since not each update that was given is of the reference that it names.
  pub record GivenUpAtOnce (given edits : List RefEdit) (s t : Way F)
      (result : Result Bool Fatal) : Type 0 where
    pub fatal : Fatal
    pub is : result ≡ Err fatal
    pub why : IsNotNamed honest means faults given fatal s.store t.store edits
    pub input : t.input ≡ s.input
    pub output : t.output ≡ s.output

  -- so, or each is of the reference that it names, and they end as above
  abbrev pub NamedEnds : Closing → (given : List RefEdit) → (s t : Way F) → (edits : List RefEdit) →
      Result Bool Fatal → Type 0
  NamedEnds closing given s t edits result = GivenUpAtOnce given edits s t result
      ⊎ (IsNamedAll honest means faults given s.store edits
      × PreparedEnds closing s t edits result)

  -- a prepared transaction of edits that were given ends so
  abbrev pub FinishesNamed : {I O T : Type 0} {Find : Finder T} →
      (remaining : I → Option (List ℕ)) → (contents : O → Option (List ℕ)) → Closing →
      (given : List RefEdit) → Prepared F (Plan T Find) R → (new : Store F) →
      (input : I) → (out : O) → (rest : I) → (now : O) → Result Bool Fatal → Type 0
  FinishesNamed remaining contents closing given prepared new input out rest now result =
      WhenPrepared honest means faults prepared (λ old edits. NamedEnds closing given
      (way (remaining input) (contents out) old) (way (remaining rest) (contents now) new)
      edits result)

  -- edits were not prepared, by the first cause against them
  pub record NotPrepared (edits : List RefEdit) (s t : Way F)
      (result : Result Bool Fatal) : Type 0 where
    pub error : Cause
    pub is : result ≡ Err (fatals.Update (errors.Prepare error))
    pub refused : IsRefused honest means faults session.committer (HasReadFault G.faults)
        (errors.Prepare error) s.store t.store edits
    pub input : t.input ≡ s.input
    pub output : t.output ≡ s.output

  -- how edits end that come of those that were given: they were not prepared; or they were, and ended as above
  abbrev pub MakeEnds : Closing → (given edits : List RefEdit) → (s t : Way F) →
      Result Bool Fatal → Type 0
  MakeEnds closing given edits s t result = NotPrepared edits s t result
      ⊎ NamedEnds closing given s t edits result

  -- it ends before they are begun, by a look that failed or by a clash of names
  pub record OnlyLooked (edits : List RefEdit) (s t : Way F)
      (result : Result Bool Fatal) : Type 0 where
    pub fatal : Fatal
    pub is : result ≡ Err fatal
    pub why : IsLookFailure honest means faults G s.store (is_some session.committer) edits fatal
    pub looked : LooksUp honest means s.store t.store
    pub input : t.input ≡ s.input
    pub output : t.output ≡ s.output

  -- How a try of these edits ends: it was only looked; or symbolic references led them to others, which ended as above.
  abbrev pub TryEnds : Closing → (edits : List RefEdit) → (s t : Way F) → Result Bool Fatal → Type 0
  TryEnds closing edits s t result = OnlyLooked edits s t result
      ⊎ Led honest means faults (is_some session.committer) (λ at new led. MakeEnds closing edits led
      (way s.input s.output at) (way t.input t.output new) result) edits s.store t.store

  -- how a transaction ends: as a try, after some that a lock of another's refused, which was waited for, or beside which `HEAD` was
  -- switched
  pub record Settles (closing : Closing) (edits : List RefEdit) (s t : Way F)
      (result : Result Bool Fatal) : Type 0 where
    pub tries : List Fatal
    pub mid : Store F
    pub were : AreDone
        (IsTried honest means faults session.committer (HasReadFault G.faults) edits)
        tries s.store mid
    pub ends : TryEnds closing edits (record s { store = mid }) t result
    pub waited : HasWaited session tries result

  -- Its end. Given up by `abort`, or since the input ends after `start`, or before a command, it changes nothing.
  abbrev pub Closes : Closing → (edits : List RefEdit) → (gives_up : Bool) → (s t : Way F) →
      Result Bool Fatal → Type 0
  Closes closings.Abort edits gives_up s t (Ok true) =
      (t.store ≡ s.store) × Keeps s.input t.input × Appends s.output t.output (codes "abort: ok\n")
  Closes closings.Abort edits gives_up s t (Err fatal) =
      (t.store ≡ s.store) × Keeps s.input t.input × IsUnsaid fatal
  Closes closings.Abort edits gives_up s t (Ok false) = ⊥
  Closes closings.End edits true s t (Ok false) =
      (t.store ≡ s.store) × Keeps s.input t.input × Appends s.output t.output []
  Closes closings.End edits true s t result = ⊥
  Closes closing edits gives_up s t result = Settles closing edits s t result

  -- how a transaction went
  pub record TurnEnds (turn : Turn) (s t : Way F) (result : Result Bool Fatal) : Type 0 where
    pub gathered : AreGathered session s.needs_start turn.heards turn.closing s.input s.output
        turn.gathered turn.rest
    pub ends : Closes turn.closing turn.gathered.edits (turn.gathered.started || s.needs_start)
        (record s { input = turn.rest; output = turn.gathered.output }) t result

  -- a stop in a transaction leaves this tree
  abbrev pub IsTurnStop : Tree → Turn → Way F → Type 0
  IsTurnStop T turn s = (T ≡ tree_of means s.store)
      ⊎ IsTransactionStop honest means faults session.committer (HasReadFault G.faults)
      turn.gathered.edits s.store T

  -- A loss of power in it leaves this tree: each file that was settled is as before, or it is what one in the transaction of its
  -- edits leaves.
  abbrev pub IsTurnLoss : Tree → Turn → Way F → Type 0
  IsTurnLoss T turn s = IsKept means (files_of s.store) T
      ⊎ IsTransactionLoss honest means faults session.committer (HasReadFault G.faults)
      turn.gathered.edits s.store T

  -- How the next transaction went, and what a stop and a loss of power in it leave.
  pub record Turns (s t : Way F) (result : Result Bool Fatal) : Type 0 where
    pub turn : Turn
    pub ends : TurnEnds turn s t result
    pub leaves : honest → Leaves (means (files_of s.store)) (means (files_of t.store))
        (λ T. IsTurnStop T turn s)
    pub lost : honest → HasGoodRecords means s.store → IsAtRest means s.store →
        Loses (means (files_of s.store)) (means (files_of t.store)) (λ T. IsTurnLoss T turn s)

  -- it was closed, and only `start` begins the next one
  pub record TurnDone (turn : Turn) (s t : Way F) : Type 0 where
    pub ends : TurnEnds turn s t (Ok true)
    pub needs_start : t.needs_start ≡ true

  -- the commands of one were not heard to their end: nothing changes
  pub record NotHeard (s t : Way F) (fatal : Fatal) : Type 0 where
    pub store : t.store ≡ s.store
    pub short : StopsShort session s.needs_start s.input t.input s.output t.output fatal

  -- how a step of a session comes out: a transaction, or the commands of none
  abbrev pub TurnComes : (s t : Way F) → Result Bool Fatal → Type 0
  TurnComes s t result = Turns s t result
      ⊎ ((fatal : Fatal) × (result ≡ Err fatal) × NotHeard s t fatal)

  -- and so of the next transaction; after it only `start` begins one
  abbrev pub NextTurnComes : (needs_start : Bool) → (input out : Option (List ℕ)) →
      (old : Store F) → (rest now : Option (List ℕ)) → (new : Store F) →
      Result Bool Fatal → Type 0
  NextTurnComes needs_start input out old rest now new result =
      TurnComes (way_on needs_start input out old) (way_on true rest now new) result

  -- how a session ends: with this transaction, or before the commands of one were heard
  abbrev pub SessionEnds : {E : Type 0} → (rest : List Turn) → (s t : Way F) →
      Result E Fatal → Type 0
  SessionEnds (turn ∷ []) s t (Ok value) = TurnEnds turn s t (Ok false)
  SessionEnds (turn ∷ []) s t (Err fatal) = TurnEnds turn s t (Err fatal)
  SessionEnds [] s t (Err fatal) = NotHeard s t fatal
  SessionEnds rest s t result = ⊥

  -- A stop in a session of these transactions: each was closed after the one before, up to one, in which the stop comes, or after
  -- the last of them.
  abbrev pub IsSessionStop : List Turn → Way F → Tree → Type 0
  IsSessionStop turns first T =
      IsWithinSteps TurnDone (λ s. T ≡ tree_of means s.store) (IsTurnStop T) turns first

  -- And a loss of power: each file that was settled before the transaction in which it comes is as it was then, or as that transaction
  -- has it.
  abbrev pub IsSessionLoss : List Turn → Way F → Tree → Type 0
  IsSessionLoss turns first T =
      IsWithinSteps TurnDone (λ s. IsKept means (files_of s.store) T) (IsTurnLoss T) turns first

  -- A session: transactions that were closed, and how it ended; and what a stop and a loss of power in it leave. The disk has to be at
  -- rest as it begins, and `packed-refs` well formed or missing, as they are after each transaction then.
  pub record Serves {E : Type 0} (first last : Way F) (result : Result E Fatal) : Type 0 where
    pub turns : List Turn
    pub rest : List Turn
    pub state : Way F
    pub were : AreDone TurnDone turns first state
    pub ends : SessionEnds rest state last result
    pub leaves : honest → Leaves (means (files_of first.store)) (means (files_of last.store))
        (IsSessionStop (turns ++ rest) first)
    pub lost : honest → HasGoodRecords means first.store → IsAtRest means first.store →
        Loses (means (files_of first.store)) (means (files_of last.store))
        (IsSessionLoss (turns ++ rest) first)
