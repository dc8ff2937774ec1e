-- The steps of a commit of `packed-refs`: what each leaves at the place and at its lock.
use Rattle.std.proofs.Common.{◌≡◌, ◌≢◌, ◌⊎◌, inl, inr, ℕ, List, length, Option, Some, None, false, refl, sym, ap, ◌∙◌, subst, arith, codes, length-append, Vec, Global, Result, Ok, Err, OnOk, IfOk, MatchResult}
use Rattle.gix_ref_files.proofs.Meeting.{no_fewer_starts, met_wider}
use Rattle.gix_ref_files.specs.Calls.{Renaming, RemovingFile}
use Rattle.gix_ref_files.specs.Files.{FaultCounts, NoFewer}
use Rattle.gix_ref_files.specs.Lock.{lock_of}
use Rattle.gix_ref_files.specs.Tree.{Tree, Path, Content, put, moved, is_file, is_folder}
use Rattle.gix_ref_files.specs.Tree.Content.{File}
use Rattle.gix_ref_files.proofs.Puts.{put_at, put_other, moved_to, moved_other}
use Rattle.gix_ref_target.specs.PackedRecords.{Record}
use Rattle.gix_ref_hash.specs.declared.hash.Kind.{Kind}
use Rattle.gix_ref_packed.specs.Buffers.{buffer_text, HoldsRecords}
use Rattle.gix_ref_packed.specs.declared.packed.buffer.Buffer.{Buffer}
use Rattle.gix_ref_packed_transaction.specs.Changes.{AreDistinct, ChangeValue, IsChanged}
use Rattle.gix_ref_packed_transaction.specs.declared.error.Error.{Error}
use Rattle.gix_ref_packed_transaction.specs.declared.error.Error.TheVariants.{Commit, Iteration, Io, Memory}
use Rattle.gix_ref_packed_text.specs.declared.outcome.Rewrite.{Rewrite}
use Rattle.gix_ref_packed_text.specs.declared.outcome.Rewrite.TheVariants.{Unchanged, Removed, Text}
use Rattle.gix_ref_transaction.specs.PrepareSteps.{FillsLock}
use Rattle.gix_ref_packed_transaction.specs.PackedTransactions.{IsMadeOf, IsOldOrRewritten, IsRewritten, IsUnbegun, OnlyAt, OnlyLockChanges, OnlyLockGoes, HoldsRewrite, IsBeforeOrRewritten, SaysWhyPacked}
use Rattle.gix_ref_packed_transaction.specs.internal.LockSteps.{IsUnlocked, IsWhyNotPut}

pub lock_elsewhere : (place : Path) → place ≢ lock_of place
lock_elsewhere place same = absurd (omega (ap (λ (p : Path). length p) same, length-append place (codes ".lock"), arith))

module _ (before : Tree) (place : Path) where
  -- nothing but the lock has changed since
  pub off_lock : (rewrite : Rewrite) (mid T : Tree) → IsOldOrRewritten rewrite place before mid → OnlyLockChanges place mid T → IsOldOrRewritten rewrite place before T
  off_lock rewrite mid T was only =
      let there : T place ≡ mid place = only place (lock_elsewhere place) in
      (λ q not_place not_lock. only q not_lock ∙ was.0 q not_place not_lock, subst (λ (c : Option Content). (c ≡ before place) ⊎ HoldsRewrite rewrite (before place) c) (sym there) was.1)

  pub as_before : (rewrite : Rewrite) (T : Tree) → OnlyLockChanges place before T → IsOldOrRewritten rewrite place before T
  as_before rewrite T only = off_lock rewrite before T (λ q not_place not_lock. refl, inl refl) only

  pub unlocked : (T : Tree) → IsUnlocked place before T → IsRewritten Unchanged place before T
  unlocked T done = record { is = done.0 place (lock_elsewhere place); unlocked = done.1; only = λ q not_place not_lock. done.0 q not_lock }

  -- the file is removed, or not yet
  pub removing : (T : Tree) → RemovingFile before place T → IsOldOrRewritten Removed place before T
  removing T (inl same) = (λ q not_place not_lock. ap (λ (S : Tree). S q) same, inl (ap (λ (S : Tree). S place) same))
  removing T (inr gone) = (
    λ q not_place not_lock. ap (λ (S : Tree). S q) gone.1 ∙ put_other before place q None (λ same. not_place (sym same)),
    inr (ap (λ (S : Tree). is_file (S place)) gone.1 ∙ ap is_file (put_at before place None)),
  )

  -- the lock gets its text
  pub filling : (rewrite : Rewrite) (T : Tree) → FillsLock before (lock_of place) T → IsOldOrRewritten rewrite place before T
  filling rewrite T (inl same) = as_before rewrite T (λ q not_lock. ap (λ (S : Tree). S q) same)
  filling rewrite T (inr put) = as_before rewrite T (λ q not_lock. ap (λ (S : Tree). S q) put.1 ∙ put_other before (lock_of place) q (Some (File put.0)) (λ same. not_lock (sym same)))

  -- the lock, which has the text, is renamed to the place
  module _ (t : Vec ℕ Global) where
    abbrev pub filled : Tree
    filled = put before (lock_of place) (Some (File t.items))

    abbrev pub renamed : Tree
    renamed = moved filled (lock_of place) place

    only_renamed : OnlyAt place before renamed
    only_renamed q not_place not_lock =
        moved_other filled (lock_of place) place q (λ same. not_lock (sym same)) (λ same. not_place (sym same))
        ∙ put_other before (lock_of place) q (Some (File t.items)) (λ same. not_lock (sym same))

    has_text : renamed place ≡ Some (File t.items)
    has_text = moved_to filled (lock_of place) place ∙ put_at before (lock_of place) (Some (File t.items))

    no_lock : is_file (renamed (lock_of place)) ≡ false
    no_lock = ap is_file (put_other (put filled (lock_of place) None) place (lock_of place) (filled (lock_of place)) (lock_elsewhere place) ∙ put_at filled (lock_of place) None)

    pub is_renamed : (mid new T : Tree) → mid ≡ filled → new ≡ moved mid (lock_of place) place → T ≡ new → IsRewritten (Text t) place before T
    is_renamed mid new T is moves same =
        subst (λ (S : Tree). IsRewritten (Text t) place before S) (sym (same ∙ moves ∙ ap (λ (S : Tree). moved S (lock_of place) place) is)) (record { is = has_text; unlocked = no_lock; only = only_renamed })

    pub renaming : (mid T : Tree) → mid ≡ filled → Renaming mid (lock_of place) place T → IsOldOrRewritten (Text t) place before T
    renaming mid T is (inl same) = filling (Text t) T (inr (t.items, same ∙ is))
    renaming mid T is (inr moves) = (
      subst (λ (S : Tree). OnlyAt place before S) (sym (moves.1 ∙ ap (λ (S : Tree). moved S (lock_of place) place) is)) only_renamed,
      inr (ap (λ (S : Tree). S place) (moves.1 ∙ ap (λ (S : Tree). moved S (lock_of place) place) is) ∙ has_text),
    )

pub when_ok : {X E Q : Type 0} (r : Result X E) → Q → OnOk r Q
when_ok (Ok x) holds = holds
when_ok (Err e) holds = tt

pub on_ok : {X E P Q : Type 0} (r : Result X E) → (P → Q) → OnOk r P → OnOk r Q
on_ok (Ok x) step holds = step holds
on_ok (Err e) step holds = tt

-- the file that was made of the records of a buffer
pub made_of : (kind : Kind) (changes : List ChangeValue) (o : Option Buffer) (buffer : Buffer) → o ≡ Some buffer → (r : Result Rewrite Error) →
    ((rs : List Record) → HoldsRecords kind rs (buffer_text buffer) → AreDistinct changes → MatchResult r (IsChanged kind changes rs) (λ error. error ≡ Memory)) → IfOk r (IsMadeOf kind o changes)
made_of kind changes None buffer is r made = absurd (cc is)
made_of kind changes (Some other) buffer is (Err e) made = tt
made_of kind changes (Some other) buffer is (Ok rewrite) made = λ rs holds apart. made rs (subst (λ (b : Buffer). HoldsRecords kind rs (buffer_text b)) (some_is is) holds) apart
  where
    some_is : Some other ≡ Some buffer → other ≡ buffer
    some_is same = cc

-- what a commit leaves that has failed
module _ (kind : Kind) (records : Option Buffer) (changes : List ChangeValue) (place : Path) (before : Tree) where
  pub left_as_before : (T : Tree) → OnlyLockChanges place before T → IsBeforeOrRewritten kind records changes place before T
  left_as_before T only = (λ q not_place not_lock. only q not_lock, inl (only place (lock_elsewhere place)))

  pub left_rewritten : (rewrite : Rewrite) → IsMadeOf kind records changes rewrite → (T : Tree) → IsOldOrRewritten rewrite place before T → IsBeforeOrRewritten kind records changes place before T
  left_rewritten rewrite made T (only, inl same) = (only, inl same)
  left_rewritten rewrite made T (only, inr holds) = (only, inr (rewrite, made, holds))

-- a lock that was renamed is gone
pub lock_moved : (place : Path) (T : Tree) → is_file (moved T (lock_of place) place (lock_of place)) ≡ false
lock_moved place T = ap is_file (put_other (put T (lock_of place) None) place (lock_of place) (T (lock_of place)) (lock_elsewhere place) ∙ put_at T (lock_of place) None)

-- why it has failed, once the lock is gone
pub why_after : (honest : Type 0) (kind : Kind) (records : Option Buffer) (place : Path) (before mid now : FaultCounts) (S T : Tree) (error : Error) →
    NoFewer mid now → (honest → OnlyLockGoes place S T) → IsWhyNotPut honest place before mid S error → SaysWhyPacked honest kind records place before now T error
why_after honest kind records place before mid now S T (Commit error) later goes (inl risen, not_memory) = (inl (met_wider (no_fewer_starts before) later risen), not_memory)
why_after honest kind records place before mid now S T (Commit error) later goes (inr there, not_memory) =
    (inr (λ is. ap is_folder ((goes is).0 place (lock_elsewhere place)) ∙ there is), not_memory)
why_after honest kind records place before mid now S T (Io error) later goes why = (met_wider (no_fewer_starts before) later why.0, why.1)
why_after honest kind records place before mid now S T (Iteration line) later goes why = absurd why
why_after honest kind records place before mid now S T Memory later goes why = absurd why

-- a rewrite that was not put in place was begun
pub begun : (honest : Type 0) (place : Path) (before now : FaultCounts) (T : Tree) (error : Error) → IsWhyNotPut honest place before now T error → IsUnbegun error → ⊥
begun honest place before now T (Commit error) why unbegun = unbegun
begun honest place before now T (Io error) why unbegun = unbegun
begun honest place before now T (Iteration line) why unbegun = why
begun honest place before now T Memory why unbegun = why
