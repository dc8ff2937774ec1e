-- A name that is no full name has no record; what a key has as a result.
use Rattle.std.proofs.Common.{◌≡◌, ℕ, List, [], ◌∷◌, Option, Some, None, Bool, true, false, cond, refl, sym, ◌∙◌, ap, subst}
use Rattle.std.specs.Cmp.Lexicographic.{bytes_decides}
use Rattle.std.specs.Prelude.{bytes_eq}
use Rattle.gix_ref_hash.specs.declared.hash.Kind.{Kind}
use Rattle.gix_ref_name.specs.NameGrammar.{IsFullName}
use Rattle.gix_ref_target.specs.PackedRecords.{Record, record_named}
use Rattle.gix_ref_files.specs.declared.files.ReadAt.{Ghosts}
use Rattle.gix_ref_packed.specs.Buffers.{HoldsRecords}
use Rattle.gix_ref_packed_text.specs.RecordGrammar.{Records as AreRecords}
use Rattle.gix_ref_theory.specs.Readings.{reading_by, reading_of_record}
use Rattle.gix_ref_theory.specs.Lookups.{hit_name, hit_peeled}
use Rattle.gix_ref_packed_text.specs.declared.raw.Reference.{Reference}
use Rattle.gix_ref_lookup.specs.StoreLayout.{namespace_text}
use Rattle.gix_ref_lookup.specs.declared.settings.Settings.{Settings}
use Rattle.gix_ref_lookup.specs.Lookups.{AreAsked, ArePackedRecords, IsOfKey, IsByRecord, HasKey, HasNoKey, meaning_in}
use Rattle.gix_ref_lookup.specs.declared.find.records.Records.{Records}
use Rattle.gix_ref_lookup.specs.declared.find.records.Records.TheVariants as sources

none_valid : (kind : Kind) (text : List ℕ) (rs : List Record) (key : List ℕ) → AreRecords kind text rs → (IsFullName key → ⊥) → record_named key rs ≡ None
none_valid kind text [] key are bad = refl
none_valid kind text (r ∷ rs) key are bad = by (bytes_eq r.name key) refl (none_valid kind are.0 rs key are.2 bad)
  where
    by : (b : Bool) → bytes_eq r.name key ≡ b → record_named key rs ≡ None → cond b (Some r) (record_named key rs) ≡ None
    by true same later = absurd (bad (subst IsFullName ((bytes_decides r.name key).0 same) are.1.valid))
    by false other later = later

held_none : (kind : Kind) (rs : List Record) (text key : List ℕ) → HoldsRecords kind rs text → (IsFullName key → ⊥) → record_named key rs ≡ None
held_none kind rs text key holds bad = sym (holds.named key) ∙ none_valid kind text holds.held key holds.records bad

-- nor has it one in a file that is not open yet
packed_none : (kind : Kind) (file : Option (List ℕ)) (rs : List Record) (key : List ℕ) → ArePackedRecords kind file rs → (IsFullName key → ⊥) → record_named key rs ≡ None
packed_none kind None rs key are bad = ap (record_named key) are
packed_none kind (Some text) rs key are bad = none_valid kind are.1.whole.0 rs key are.1.whole.2 bad

-- nor among the records that a lookup asks
named_none : {R : Type 0} {G : Ghosts R} (kind : Kind) (file : Option (List ℕ)) (r : Records R G) (rs : List Record) (key : List ℕ) → AreAsked kind file r rs → (IsFullName key → ⊥) → record_named key rs ≡ None
named_none kind file sources.None rs key are bad = ap (record_named key) are
named_none kind file sources.Unopened rs key are bad = packed_none kind file rs key are bad
named_none kind file (sources.Held buffer) rs key are bad = held_none _ rs _ key are bad
named_none kind file (sources.Open packed) rs key are bad = held_none kind rs _ key are.2 bad

-- what a key has as a result is what each name of the key has
pub of_key : (settings : Settings) (rs : List Record) (name key : List ℕ) (found : Option Reference) → HasKey (meaning_in settings) name key →
    IsOfKey (namespace_text settings.namespace.now) rs key found → IsByRecord (meaning_in settings) rs name found
of_key settings rs name key None keyed is = ap (λ k. reading_by (meaning_in settings) k None rs) keyed ∙ ap reading_of_record is
of_key settings rs name key (Some r) keyed is = (
  is.0 ∙ ap (λ k. hit_name (meaning_in settings) name k None) (sym keyed),
  ap (λ k. reading_by (meaning_in settings) k None rs) keyed ∙ is.1,
  is.2 ∙ ap (λ k. hit_peeled k None rs) (sym keyed),
)

-- a name without a key reads nothing among records
pub without_key : {R : Type 0} {G : Ghosts R} (settings : Settings) (kind : Kind) (file : Option (List ℕ)) (r : Records R G) (rs : List Record) (name : List ℕ) → AreAsked kind file r rs →
    HasNoKey (meaning_in settings) name → IsByRecord (meaning_in settings) rs name None
without_key settings kind file r rs name are none = go ((meaning_in settings).key name) refl
  where
    go : (key : Option (List ℕ)) → (meaning_in settings).key name ≡ key → IsByRecord (meaning_in settings) rs name None
    go None keyed = ap (λ k. reading_by (meaning_in settings) k None rs) keyed
    go (Some key) keyed = ap (λ k. reading_by (meaning_in settings) k None rs) keyed ∙ ap reading_of_record (named_none kind file r rs key are (none key keyed))
