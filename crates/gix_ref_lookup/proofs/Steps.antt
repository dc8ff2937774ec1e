-- One step of a lookup after another.
use Rattle.std.proofs.Common.{◌≡◌, ℕ, List, refl, sym, ◌∙◌, ap, subst}
use Rattle.gix_ref_files.specs.Files.{FaultCounts, Meaning}
use Rattle.gix_ref_files.specs.ReadOnly.{OnlyReads}
use Rattle.gix_ref_files.specs.Tree.{Tree}
use Rattle.gix_ref_files.specs.declared.files.ReadAt.{Ghosts}
use Rattle.gix_ref_files.proofs.ReadOnly.{reads_more}
use Rattle.gix_ref_theory.specs.OnRealTrees.{view_of}
use Rattle.std.specs.Prelude.{IfOk, MatchResult}
use Rattle.gix_ref_lookup.specs.Lookups.{AreAsked, AreStillAsked, CandidateFails, HasNothing, IsCandidate, IsSeen, IsSound, meaning_in}
use Rattle.gix_ref_lookup.specs.LookupCalls.{Answer, FindsCandidate, LooksOn, SeesCandidate}
use Rattle.gix_ref_lookup.specs.declared.find.error.Error.{Error}
use Rattle.gix_ref_lookup.specs.declared.find.lookup.Lookup.{Lookup}
use Rattle.gix_ref_lookup.specs.declared.find.records.Records.{Records as Asked}
use Rattle.gix_ref_lookup.specs.declared.settings.Settings.{Settings}
use Rattle.gix_ref_lookup.proofs.Looking.{fails_from, hit_from, packed_refs_at, still_asked}
use Rattle.gix_ref_lookup.proofs.Missing.{missing_from}
use Rattle.gix_ref_lookup.proofs.Opening.{if_ok, none_or_some}

-- nothing is still at the path that is kept
pub kept_after : {F : Type 0} (honest : Type 0) (means : F → Meaning) (faults : F → FaultCounts) (before now : F) (path : List ℕ) → OnlyReads honest means faults before now →
    (honest → HasNothing (means before).tree path) → honest → HasNothing (means now).tree path
kept_after honest means faults before now path reads kept h = subst (λ (T : Tree). HasNothing T path) (sym (reads.leaves h).tree) (kept h)

-- what holds of a lookup holds of what it was made of
pub as_made : {F R : Type 0} {G : Ghosts R} (lookup : Lookup F R G) (files : F) (settings : Settings) (records : Asked R G) →
    lookup.files.now ≡ files → lookup.settings ≡ settings → lookup.records.now ≡ records →
    (P : F → Settings → Asked R G → Type 0) → P lookup.files.now lookup.settings lookup.records.now → P files settings records
as_made {F} {R} {G} lookup files settings records same_files same_settings same_records P is =
    subst (λ (f : F). P f settings records) same_files (subst (λ (s : Settings). P lookup.files.now s records) same_settings (subst (λ (r : Asked R G). P lookup.files.now lookup.settings r) same_records is))

module _ {F R : Type 0} {G : Ghosts R} (honest : Type 0) (means : F → Meaning) (faults : F → FaultCounts) where
  -- a step, and then another one
  pub looks_more : (a b d : Lookup F R G) → LooksOn honest means faults a b → LooksOn honest means faults b d → LooksOn honest means faults a d
  looks_more a b d first next = record {
    files = next.files ∙ first.files;
    records = next.records ∙ first.records;
    settings = next.settings ∙ first.settings;
    nothing = λ kept. next.nothing (first.nothing kept);
    reads = reads_more honest means faults a.files.now b.files.now d.files.now first.reads next.reads;
    asked = λ h. still_asked a.settings.kind (packed_refs_at a.settings (means a.files.now).tree) (packed_refs_at a.settings (means b.files.now).tree) a.records.now b.records.now d.records.now
        (ap (packed_refs_at a.settings) (first.reads.leaves h).tree) (first.asked h)
        (subst (λ (s : Settings). AreStillAsked s.kind (packed_refs_at s (means b.files.now).tree) b.records.now d.records.now) first.settings (next.asked h));
  }

  module _ (old mid : Lookup F R G) (leaves : LooksOn honest means faults old mid) where
    -- what holds of the settings and the tree after a step holds before it
    pub before_step : honest → (P : Settings → Tree → Type 0) → P mid.settings (means mid.files.now).tree → P old.settings (means old.files.now).tree
    before_step h P is = subst (λ (s : Settings). P s (means old.files.now).tree) leaves.settings (subst (λ (T : Tree). P mid.settings T) (leaves.reads.leaves h).tree is)

    -- and the other way round
    pub after_step : honest → (P : Settings → Tree → Type 0) → P old.settings (means old.files.now).tree → P mid.settings (means mid.files.now).tree
    after_step h P is = subst (λ (s : Settings). P s (means mid.files.now).tree) (sym leaves.settings) (subst (λ (T : Tree). P old.settings T) (sym (leaves.reads.leaves h).tree) is)

    -- what a candidate is found as after a step is what it is found as in the lookup
    pub found_after : (name : List ℕ) (result : Answer) → FindsCandidate honest means mid name result → FindsCandidate honest means old name result
    found_after name result found h rs are =
        before_step h (λ s T. AreAsked s.kind (packed_refs_at s T) mid.records.now rs → MatchResult result (IsCandidate (meaning_in s) (view_of T) rs name) IsSound) (found h rs) ((leaves.asked h).asked rs are)

    pub seen_after : (name : List ℕ) (result : Answer) → SeesCandidate honest means mid name result → SeesCandidate honest means old name result
    seen_after name result seen h readers =
        let still = leaves.asked h in
        let T = (means old.files.now).tree in
        if_ok result (λ found. none_or_some found
        (missing_from old.settings T T old.records.now mid.records.now refl still.none still.searched name)
        (hit_from honest old.settings T T old.records.now mid.records.now (λ k. refl) (λ k. (leaves.asked k).readers) (λ k. (leaves.asked k).searched) (λ k. (leaves.asked k).of_file) h name))
        (before_step h (λ s T. IfOk result (IsSeen s (view_of T) mid.records.now name)) (seen h (still.readers readers)))

    -- and so is why it fails
    pub fails_after : (new : Lookup F R G) (name : List ℕ) (error : Error) → faults mid.files.now ≡ faults old.files.now →
        CandidateFails honest mid.settings (means mid.files.now).tree mid.records.now (faults mid.files.now) (faults new.files.now) name error →
        CandidateFails honest old.settings (means old.files.now).tree old.records.now (faults old.files.now) (faults new.files.now) name error
    fails_after new name error count why =
        fails_from honest old.settings (means old.files.now).tree (means mid.files.now).tree old.records.now mid.records.now (λ h. (leaves.reads.leaves h).tree)
        (λ h. (leaves.asked h).readers) (λ h. (leaves.asked h).searched) (λ h. (leaves.asked h).of_file) (faults old.files.now) (faults mid.files.now) (faults new.files.now) name error count
        (subst (λ (s : Settings). CandidateFails honest s (means mid.files.now).tree mid.records.now (faults mid.files.now) (faults new.files.now) name error) leaves.settings why)
