-- One item of a listing after the other.
use Rattle.std.specs.Prelude.{◌≡◌, ◌⊎◌, List, [], ◌∷◌, Option, Some, None, Result, Ok, Err}
use Rattle.gix_ref_files.specs.Files.{Meaning, disk_of, Leaves, Passes, FaultCounts, NoFewer}
use Rattle.gix_ref_files.specs.Calls.{Unchanged}
use Rattle.gix_ref_files.specs.DiskCalls.{Untouched}
use Rattle.gix_ref_theory.specs.OnRealTrees.{view_of}
use Rattle.gix_ref_name.specs.Names.{full_ref_bytes}
use Rattle.gix_ref_packed_text.specs.declared.raw.Reference.{Reference}
use Rattle.gix_ref_lookup.specs.Lookups.{meaning_in}
use Rattle.gix_ref_lookup.specs.declared.settings.Settings.{Settings}
use Rattle.gix_ref_listing.specs.OwedNames.{Given, OwesNames, PaysItem, with_name}
use Rattle.gix_ref_listing.specs.PackedTexts.{Text, IsRecordOf}
use Rattle.gix_ref_listing.specs.OwnRecords.{Own, own_of, AreAhead}
use Rattle.gix_ref_listing.specs.Listings.{Listed, merged_listing}
use Rattle.gix_ref_listing.specs.Listings.Listed.{InPacked}
use Rattle.gix_ref_listing.specs.GoneFiles.{IsFoundOrGone, IsGivenItem}
use Rattle.gix_ref_listing.specs.Items.{IsAllowed}
use Rattle.gix_ref_listing.specs.Walks.{FoundEntry}
use Rattle.gix_ref_listing.specs.declared.own_records.OwnRecord.{OwnRecord}
use Rattle.gix_ref_listing.specs.declared.error.Error.{Error}
use Rattle.gix_ref_listing.specs.declared.merge.Merge.{Merge}

-- nothing is left
abbrev pub IsDrained : Merge → Type 0
IsDrained m = (m.found.entries ≡ []) × (m.packed.first ≡ None)

-- these are yet to come, without a line that is no record
abbrev pub AreYet : Settings → Merge → List Listed → Type 0
AreYet settings m listed = (owns : List Own) × AreAhead settings m.packed owns
    × (listed ≡ merged_listing m.found.entries owns)

-- What lending a record does: it is the first of those that are yet to come, of which there are some, and the store prohibits
-- nothing at the place of its name.
pub record GivesRecord (settings : Settings) (s t : Merge) (own : OwnRecord) : Type 0 where
  pub gives : (listed : List Listed) → AreYet settings s listed → (more : List Listed)
      × (listed ≡ InPacked (own_of own) ∷ more) × AreYet settings t more
  pub pays : (text : Text) (given : Given) → OwesNames settings text given s →
      IsRecordOf settings text (own_of own)
      × OwesNames settings text (with_name (full_ref_bytes own.name) given) t
  pub found : t.found.entries ≡ s.found.entries
  pub allowed : IsAllowed (meaning_in settings) (full_ref_bytes own.name)
  pub goes_on : IsDrained s → ⊥

-- no fault was counted, unless the item is a fault
abbrev pub CountsNone : (before now : FaultCounts) → Option (Result Reference Error) → Type 0
CountsNone before now None = now ≡ before
CountsNone before now (Some (Ok r)) = now ≡ before
CountsNone before now (Some (Err e)) = Unit {0}

module _ {F : Type 0} (honest : Type 0) (means : F → Meaning) (faults : F → FaultCounts) where
  -- the item is the first of these, and the rest is yet to come; or none is left
  abbrev pub GivesItem : Settings → (before now : F) → List Listed →
      Option (Result Reference Error) → Merge → Type 0
  GivesItem settings before now listed None t = (listed ≡ []) × AreYet settings t []
  GivesItem settings before now listed (Some item) t =
      (one : Listed) × (more : List Listed) × (listed ≡ one ∷ more) × AreYet settings t more
      × IsGivenItem honest settings (view_of (means before).tree) (faults before) (faults now) one
      item

  -- over any text: what a walk found stays, except for its first where the item is that one
  abbrev pub GivesFound : Settings → (before now : F) → List FoundEntry →
      Option (Result Reference Error) → List FoundEntry → Type 0
  GivesFound settings before now found r left = (left ≡ found)
      ⊎ ((e : FoundEntry) × (item : Result Reference Error) × (found ≡ e ∷ left)
      × (r ≡ Some item) × IsFoundOrGone honest settings (view_of (means before).tree)
      (faults before) (faults now) e.1 item)

  -- What giving an item does: it is the first of those that are yet to come; no file changes, and the disk does not; a fault that is
  -- counted is told by the item; and what has ended stays ended, whatever the texts are.
  pub record GivesNext (settings : Settings) (before now : F) (s : Merge)
      (r : Option (Result Reference Error)) (t : Merge) : Type 0 where
    pub gives : (listed : List Listed) → AreYet settings s listed →
        GivesItem settings before now listed r t
    -- over any text: what is given was found or read from it, and each name that is due is given, or a fault
    pub pays : (text : Text) (given : Given) → OwesNames settings text given s →
        PaysItem settings text given s.found.entries r t
    pub found : GivesFound settings before now s.found.entries r t.found.entries
    pub rises : NoFewer (faults before) (faults now)
    pub counts : CountsNone (faults before) (faults now) r
    pub leaves : honest → Leaves (means before) (means now) (Unchanged (means before).tree)
    pub passes : honest → Passes (means before) (means now) (Untouched (disk_of (means before)))
    pub ends : r ≡ None → IsDrained t
    pub stays_ended : IsDrained s → r ≡ None
