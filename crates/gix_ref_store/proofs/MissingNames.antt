-- What a lookup says of names that are nothing, in the words of a store.
use Rattle.std.proofs.Common.{◌≡◌, ◌⊎◌, ℕ, List, [], ◌∷◌, None, subst}
use Rattle.std.specs.List.{AllByRecursion}
use Rattle.std.specs.Prelude.{option_to_list}
use Rattle.gix_ref_hash.specs.declared.hash.Kind.{Kind}
use Rattle.gix_ref_name.specs.Candidates.{candidates, remote_head}
use Rattle.gix_ref_files.specs.declared.files.ReadAt.{Ghosts}
use Rattle.gix_ref_theory.specs.Readings.{Store}
use Rattle.gix_ref_theory.specs.Views.{View}
use Rattle.gix_ref_lookup.specs.Lookups.{AreMissing, IsMissing, FindsNone, HasNoKey, meaning_in}
use Rattle.gix_ref_lookup.specs.declared.settings.Settings.{Settings}
use Rattle.gix_ref_lookup.specs.declared.find.records.Records.{Records}

all_wider : {X : Type 0} {P Q : X → Type 0} (xs : List X) → ((x : X) → P x → Q x) → AllByRecursion P xs → AllByRecursion Q xs
all_wider [] wider all = tt
all_wider (x ∷ xs) wider all = (wider x all.0, all_wider xs wider all.1)

module _ {R : Type 0} {G : Ghosts R} (a b : Settings) (view : View) (records : Records R G) (same : meaning_in a ≡ meaning_in b) (kinds : a.kind ≡ b.kind) where
  -- by settings that mean the same
  pub missing_by : (n : List ℕ) → IsMissing a view records n → IsMissing b view records n
  missing_by n one = record {
    loose = subst (λ (s : Store). view (s.place n) ≡ None) same one.loose;
    packed = subst (λ (kind : Kind). HasNoKey (meaning_in b) n ⊎ FindsNone kind (view (meaning_in b).packed_path) records) kinds
        (subst (λ (s : Store). HasNoKey s n ⊎ FindsNone a.kind (view s.packed_path) records) same one.packed);
  }

-- and so of each candidate
pub same_missing : {R : Type 0} {G : Ghosts R} (a b : Settings) (view : View) (records : Records R G) (p : List ℕ) → meaning_in a ≡ meaning_in b → a.kind ≡ b.kind → AreMissing a view records p → AreMissing b view records p
same_missing a b view records p same kinds missing = record {
  candidates = all_wider (candidates p) (missing_by a b view records same kinds) missing.candidates;
  head = subst (λ (s : Store). AllByRecursion (λ (n : List ℕ). view (s.place n) ≡ None) (option_to_list (remote_head p))) same missing.head;
}
