-- How long the locks that others hold are waited for, and how often edits are tried again.
use Rattle.std.specs.Prelude.{◌≡◌, ◌<◌, ◌≤◌, ℕ, ◌+◌, List, [], ◌∷◌, Bool, Result, Err}
use Rattle.gix_ref_name.specs.declared.name.FullName.{FullName}
use Rattle.gix_ref_transaction.specs.declared.prepare.error.Error.TheVariants as causes
use Rattle.gix_ref_program.specs.declared.update.UpdateError.TheVariants as errors
use Rattle.gix_ref_session.specs.Transactions.{IsTriedAgain}
use Rattle.gix_ref_session.specs.declared.fatal.Fatal.{Fatal}
use Rattle.gix_ref_session.specs.declared.fatal.Fatal.TheVariants as fatals
use Rattle.gix_ref_session.specs.declared.session.Patience.{Patience}
use Rattle.gix_ref_session.specs.declared.session.Session.{Session}

-- how often edits are tried again where `HEAD` is switched meanwhile
abbrev pub most_switches : ℕ
most_switches = 3

-- whether a try met the lock of a reference, that of `packed-refs`, or a switch of `HEAD`: 1 where it did
abbrev pub meets_lock : Fatal → ℕ
meets_lock (fatals.Update (errors.Prepare (causes.LockAcquire name))) = 1
meets_lock fatal = 0

abbrev pub meets_packed : Fatal → ℕ
meets_packed (fatals.Update (errors.Prepare causes.PackedTransactionAcquire)) = 1
meets_packed fatal = 0

abbrev pub meets_switch : Fatal → ℕ
meets_switch (fatals.Switched name) = 1
meets_switch fatal = 0

-- how many of these tries did
abbrev pub times_met : (meets : Fatal → ℕ) → (tries : List Fatal) → ℕ
times_met meets [] = 0
times_met meets (fatal ∷ tries) = meets fatal + times_met meets tries

-- There is no more than one try for each millisecond that a lock is waited for, and it is given up on only after that many; and so
-- for the switches of `HEAD`.
pub record HasWaited (session : Session) (tries : List Fatal)
    (result : Result Bool Fatal) : Type 0 where
  pub no_longer : times_met meets_lock tries ≤ session.lock_timeout
  pub no_longer_packed : times_met meets_packed tries ≤ session.packed_lock_timeout
  pub no_more_switches : times_met meets_switch tries ≤ most_switches
  pub lock : (name : FullName) →
      result ≡ Err (fatals.Update (errors.Prepare (causes.LockAcquire name))) →
      times_met meets_lock tries ≡ session.lock_timeout
  pub packed : result ≡ Err (fatals.Update (errors.Prepare causes.PackedTransactionAcquire)) →
      times_met meets_packed tries ≡ session.packed_lock_timeout
  pub switched : (name : FullName) → result ≡ Err (fatals.Switched name) →
      times_met meets_switch tries ≡ most_switches

-- there is one try less, for what was met
pub record IsLessAfter (fatal : Fatal) (before left : Patience) : Type 0 where
  pub again : IsTriedAgain fatal
  pub lock : before.lock ≡ left.lock + meets_lock fatal
  pub packed : before.packed ≡ left.packed + meets_packed fatal
  pub switches : before.switches ≡ left.switches + meets_switch fatal
  pub fewer : left.lock + left.packed + left.switches < before.lock + before.packed + before.switches

-- none is left for it
pub record NoneIsLeft (fatal : Fatal) (left : Patience) : Type 0 where
  pub lock : (name : FullName) →
      fatal ≡ fatals.Update (errors.Prepare (causes.LockAcquire name)) → left.lock ≡ 0
  pub packed : fatal ≡ fatals.Update (errors.Prepare causes.PackedTransactionAcquire) →
      left.packed ≡ 0
  pub switches : (name : FullName) → fatal ≡ fatals.Switched name → left.switches ≡ 0
