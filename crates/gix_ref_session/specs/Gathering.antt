-- The commands of a transaction before it is closed, and their answers.
use Rattle.std.specs.Prelude.{◌≡◌, ◌≢◌, ◌⊎◌, ℕ, List, [], ◌∷◌, ◌++◌, Bool, true, false, codes, Option, Some, None, MatchOption}
use Rattle.std.specs.Io.KnownBytes.{Appends, IsAtEnd, Keeps}
use Rattle.gix_ref_edits.specs.declared.transaction.RefEdit.{RefEdit}
use Rattle.gix_ref_theory.specs.Sequences.{AreDone}
use Rattle.gix_ref_session.specs.Commands.{Heard, Ask, Edit, NoDeref, Start, Prepare, Commit, Abort, IsNoCommand, heard_of}
use Rattle.gix_ref_session.specs.Edits.{IsEditOf, IsNoEdit}
use Rattle.gix_ref_session.specs.Input.{AreWords, Hears, HearsEnd, HearsText}
use Rattle.gix_ref_session.specs.declared.command.Command.{Command}
use Rattle.gix_ref_session.specs.declared.fatal.Fatal.{Fatal}
use Rattle.gix_ref_session.specs.declared.fatal.Fatal.TheVariants as fatals
use Rattle.gix_ref_session.specs.declared.gather.Closing.{Closing}
use Rattle.gix_ref_session.specs.declared.gather.Gathered.{Gathered}
use Rattle.gix_ref_session.specs.declared.gather.Closing.TheVariants as closings
use Rattle.gix_ref_session.specs.declared.session.Session.{Session}

-- the writer failed
abbrev pub IsUnsaid : Fatal → Type 0
IsUnsaid (fatals.Write error) = Unit {0}
IsUnsaid fatal = ⊥

-- the reader failed, or there was no memory
abbrev pub IsStopped : Fatal → Type 0
IsStopped (fatals.Read error) = Unit {0}
IsStopped fatals.Memory = Unit {0}
IsStopped fatal = ⊥

-- a text is told as no command
abbrev pub IsReportOf : (text : List ℕ) → Fatal → Type 0
IsReportOf text (fatals.Malformed told) = told.text.items ≡ text
IsReportOf text fatal = ⊥

-- and it is none
abbrev pub IsMalformed : Session → (text : List ℕ) → Fatal → Type 0
IsMalformed session text fatal = IsReportOf text fatal
    × ((words : List (List ℕ)) → AreWords session.format text words →
    IsNoCommand session.format session.object_hash words)

-- a text is read that is no command
abbrev pub HearsNone : Session → Fatal → (old new : Option (List ℕ)) → Type 0
HearsNone session fatal old new = (text : List ℕ)
    × HearsText session.format old new text × IsMalformed session text fatal

-- why no command is read, and what is left of the input
abbrev pub IsUnheard : Session → (input rest : Option (List ℕ)) → Fatal → Type 0
IsUnheard session input rest fatal = IsStopped fatal ⊎ HearsNone session fatal input rest

-- the next command is read, or the input is at its end
abbrev pub HearsNext : Session → (old new : Option (List ℕ)) → Option Command → Type 0
HearsNext session old new found = MatchOption found (HearsEnd old new)
    (λ command. Hears session.format session.object_hash (heard_of command) old new)

-- A transaction on its way: the bytes that are left of the input and those that were written, where they are known; its edits;
-- whether `start` came, and whether the next edit follows symbolic references.
pub record Gathering : Type 0 where
  pub input : Option (List ℕ)
  pub output : Option (List ℕ)
  pub edits : List RefEdit
  pub started : Bool
  pub deref : Bool

-- what a command does to it, with the answer
abbrev pub Takes : Session → Heard → (s t : Gathering) → Type 0
Takes session Start s t = (s.started ≡ false) × (t.started ≡ true) × (t.edits ≡ s.edits)
    × (t.deref ≡ s.deref) × Appends s.output t.output (codes "start: ok\n")
Takes session NoDeref s t = (t.started ≡ s.started) × (t.edits ≡ s.edits)
    × (t.deref ≡ false) × Keeps s.output t.output
Takes session (Edit name ask) s t = (t.started ≡ s.started) × (t.deref ≡ true)
    × Keeps s.output t.output
    × ((edit : RefEdit) × IsEditOf session s.deref name ask edit × (t.edits ≡ s.edits ++ edit ∷ []))
Takes session heard s t = ⊥

-- a command is read, and done; where `start` is needed, it comes first
pub record Gathers (session : Session) (needs_start : Bool) (heard : Heard)
    (s t : Gathering) : Type 0 where
  pub hears : Hears session.format session.object_hash heard s.input t.input
  pub begun : needs_start ≡ true → (s.started ≡ true) ⊎ (heard ≡ Start)
  pub takes : Takes session heard s t

-- the command that ends the commands of a transaction
abbrev pub IsClosing : Closing → Heard → Type 0
IsClosing closings.Prepare heard = heard ≡ Prepare
IsClosing closings.Commit heard = heard ≡ Commit
IsClosing closings.Abort heard = heard ≡ Abort
IsClosing closings.End heard = ⊥

-- it is read, or the input ends
abbrev pub HearsClosing : Session → Closing → (old new : Option (List ℕ)) → Type 0
HearsClosing session closings.End old new = IsAtEnd old × Keeps old new
HearsClosing session closing old new = (heard : Heard) × IsClosing closing heard
    × Hears session.format session.object_hash heard old new

-- before its first command
abbrev pub nothing_gathered : (input output : Option (List ℕ)) → Gathering
nothing_gathered input output = record {
  input = input;
  output = output;
  edits = [];
  started = false;
  deref = true;
}

-- the commands of a transaction were read and done, and then the one that ends them was read
pub record AreGathered (session : Session) (needs_start : Bool) (heards : List Heard)
    (closing : Closing) (input output : Option (List ℕ)) (g : Gathering)
    (rest : Option (List ℕ)) : Type 0 where
  pub were : AreDone (Gathers session needs_start) heards (nothing_gathered input output) g
  pub closed : HearsClosing session closing g.input rest
  pub begun : needs_start ≡ true → (g.started ≡ true) ⊎ (closing ≡ closings.End)

-- a command is out of place: `start` is needed before it; or it is a second one
abbrev pub IsOutOfPlace : (needs_start : Bool) → Heard → Gathering → Fatal → Type 0
IsOutOfPlace needs_start heard s fatals.Closed =
    (needs_start ≡ true) × (s.started ≡ false) × (heard ≢ Start)
IsOutOfPlace needs_start heard s fatals.Restarted = (heard ≡ Start) × (s.started ≡ true)
IsOutOfPlace needs_start heard s fatal = ⊥

-- it gives no edit
abbrev pub GivesNoEdit : Heard → Gathering → Fatal → Type 0
GivesNoEdit (Edit name ask) s fatal = IsNoEdit s.deref name ask fatal
GivesNoEdit heard s fatal = ⊥

-- the answer to a first `start` is not written
abbrev pub IsStartUnsaid : Heard → Gathering → Fatal → Type 0
IsStartUnsaid heard s fatal = (heard ≡ Start) × (s.started ≡ false) × IsUnsaid fatal

-- why a command is not done
abbrev pub IsNotDone : (needs_start : Bool) → Heard → Gathering → Fatal → Type 0
IsNotDone needs_start heard s fatal = ((fatal ≡ fatals.Memory) ⊎ IsStartUnsaid heard s fatal)
    ⊎ (IsOutOfPlace needs_start heard s fatal ⊎ GivesNoEdit heard s fatal)

-- why the next one is not: none is read, or it is not done; and what is left of the input
abbrev pub CannotGoOn : Session → (needs_start : Bool) → Gathering → (rest : Option (List ℕ)) →
    Fatal → Type 0
CannotGoOn session needs_start s rest fatal = IsUnheard session s.input rest fatal
    ⊎ ((heard : Heard) × Hears session.format session.object_hash heard s.input rest
    × IsNotDone needs_start heard s fatal)

-- what was gathered so far, with what is known of the input and the output
abbrev pub as_gathering : (input output : Option (List ℕ)) → Gathered → Gathering
as_gathering input output gathered = record {
  input = input;
  output = output;
  edits = gathered.edits.items;
  started = gathered.is_started;
  deref = gathered.deref;
}

-- the edit that is asked of a name is added to what was gathered; the next one follows symbolic references
abbrev pub AddsAsked : Session → (name : List ℕ) → Ask → (old new : Gathered) → Type 0
AddsAsked session name ask old new = (edit : RefEdit)
    × IsEditOf session old.deref name ask edit
    × (new.edits.items ≡ old.edits.items ++ edit ∷ [])
    × (new.is_started ≡ old.is_started) × (new.deref ≡ true)

-- a command that ends the commands of a transaction leaves what was gathered as it is
pub record Stays (s t : Gathering) : Type 0 where
  pub edits : t.edits ≡ s.edits
  pub started : t.started ≡ s.started
  pub output : t.output ≡ s.output

-- a command is done, or it ends the commands
abbrev pub TakesOrCloses : Session → Heard → Option Closing →
    (s t : Gathering) → Type 0
TakesOrCloses session heard None s t = Takes session heard s t
TakesOrCloses session heard (Some closing) s t = IsClosing closing heard × Stays s t

-- the next command is read and done, or it ends the commands
abbrev pub GathersOrCloses : Session → (needs_start : Bool) → Option Closing →
    (s t : Gathering) → Type 0
GathersOrCloses session needs_start None s t =
    (heard : Heard) × Gathers session needs_start heard s t
GathersOrCloses session needs_start (Some closing) s t =
    HearsClosing session closing s.input t.input × Stays s t
    × (needs_start ≡ true → (s.started ≡ true) ⊎ (closing ≡ closings.End))

-- a command is handled: done, or it ends the commands; from an input, an output and what was gathered to others
abbrev pub IsHandled : Session → Heard → (input rest out now : Option (List ℕ)) →
    (old new : Gathered) → Option Closing → Type 0
IsHandled session heard input rest out now old new closing = TakesOrCloses session heard closing
    (as_gathering input out old) (as_gathering rest now new)

-- a transaction goes on: so the next command is read and handled
abbrev pub GoesOn : Session → (needs_start : Bool) → (input rest out now : Option (List ℕ)) →
    (old new : Gathered) → Option Closing → Type 0
GoesOn session needs_start input rest out now old new closing =
    GathersOrCloses session needs_start closing
    (as_gathering input out old) (as_gathering rest now new)

-- the commands of a transaction were not heard to their end: some were, and their answers written
pub record StopsShort (session : Session) (needs_start : Bool)
    (input rest output now : Option (List ℕ)) (fatal : Fatal) : Type 0 where
  pub heards : List Heard
  pub gathered : Gathering
  pub were : AreDone (Gathers session needs_start) heards (nothing_gathered input output) gathered
  pub why : CannotGoOn session needs_start gathered rest fatal
  pub said : IsUnsaid fatal ⊎ Appends gathered.output now []

-- they were
pub record IsGathered (session : Session) (needs_start : Bool) (closing : Closing)
    (input output rest now : Option (List ℕ)) (gathered : Gathered) : Type 0 where
  pub heards : List Heard
  pub g : Gathering
  pub are : AreGathered session needs_start heards closing input output g rest
  pub stays : Stays g (as_gathering g.input now gathered)
