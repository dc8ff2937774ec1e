-- What a loose file and a record say as a result of a lookup.
use Rattle.std.proofs.Common.{◌≡◌, ◌≢◌, ℕ, ◌==◌, ◌&&◌, List, [], ◌∷◌, ◌++◌, append_assoc, Option, Some, None, Bool, true, false, if◌then◌else◌, length, refl, sym, ◌∙◌, ap, arith}
use Rattle.std.specs.List.{list_any}
use Rattle.hex.proofs.HexLemmas.{decode_of-ok}
use Rattle.gix_ref_hash.specs.Ids.{ReadsId, id_bytes, id_kind, kind_len}
use Rattle.gix_ref_hash.specs.declared.hash.ObjectId.{ObjectId}
use Rattle.gix_ref_hash.specs.declared.hash.ObjectId.TheVariants as ids
use Rattle.gix_ref_hash.specs.declared.hash.Kind.{Kind}
use Rattle.gix_ref_target.specs.PackedRecords.{Record, id_read, id_in, id_with}
use Rattle.gix_ref_target.specs.Targets.{TargetValue, stripped_target}
use Rattle.gix_ref_target.specs.Targets.TargetValue.{object_id, symbolic_name}
use Rattle.gix_ref_theory.specs.Readings.{Store, as_read, reading_by, reading_of_loose}
use Rattle.gix_ref_theory.specs.Readings.Reading.{Is, Fault}
use Rattle.gix_ref_theory.specs.Lookups.{hit_name, hit_peeled}
use Rattle.gix_ref_theory.specs.Views.{View}
use Rattle.gix_ref_packed_text.specs.declared.raw.Reference.{Reference}
use Rattle.gix_ref_name.specs.DeviceNames.{is_device}
use Rattle.gix_ref_lookup.specs.Lookups.{IsLooseHit, IsCandidate, IsByRecord}
use Rattle.gix_ref_target.specs.Layout.{Layout, LiesIn, below}
use Rattle.gix_ref_lookup.specs.StoreLayout.{git_options}
use Rattle.gix_ref_lookup.specs.LooseText.{HoldsTarget}
use Rattle.gix_ref_lookup.proofs.LooseLemmas.{held_is}
use Rattle.gix_ref_theory.specs.ConcreteStore.{store_of}

-- a target as it is read is the one less the namespace
read_as : (f : Layout) (kind : Kind) (p : Bool) (t : TargetValue) → as_read (store_of f (git_options kind p)) t ≡ stripped_target f.namespace t
read_as f kind p (object_id id) = refl
read_as f kind p (symbolic_name name) = refl

-- the reading by a text that holds a target
pub holds_reading : (f : Layout) (kind : Kind) (p : Bool) (text : List ℕ) (held target : TargetValue) → HoldsTarget kind text held → target ≡ stripped_target f.namespace held →
    let s = store_of f (git_options kind p) in reading_of_loose s (s.target_of text) ≡ Is target
holds_reading f kind p text held target holds less =
    ap (reading_of_loose (store_of f (git_options kind p))) (held_is kind text held holds) ∙ ap Is (read_as f kind p held ∙ sym less)

-- digits that are read as an id
pub digits_read : (digits : List ℕ) (id : ObjectId) → ReadsId digits id → id_read digits ≡ Some id
digits_read digits id reads =
    let parts = decode_of-ok digits (id_bytes id) reads.digits in
    ap id_in reads.digits ∙ whole id (omega (arith, parts.2, reads.len))
  where
    whole : (id : ObjectId) → length (id_bytes id) ≡ kind_len (id_kind id) → id_with (id_bytes id) ≡ Some id
    whole (ids.Sha1 bytes) len = ap (λ n. if n == 20 then Some (ids.Sha1 bytes) else if n == 32 then Some (ids.Sha256 bytes) else None) len
    whole (ids.Sha256 bytes) len = ap (λ n. if n == 20 then Some (ids.Sha1 bytes) else if n == 32 then Some (ids.Sha256 bytes) else None) len

-- a candidate by its loose file
pub loose_candidate : (s : Store) (view : View) (rs : List Record) (name : List ℕ) (r : Reference) →
    s.is_prohibited (s.place name) ≡ false → IsLooseHit s view name r → IsCandidate s view rs name (Some r)
loose_candidate s view rs name r allowed hit = (
  hit.0 ∙ ap (hit_name s name (s.key name)) (sym hit.1.1),
  ap (λ b. if b then Fault else reading_by s (s.key name) (view (s.place name)) rs) allowed ∙ (ap (λ file. reading_by s (s.key name) file rs) hit.1.1 ∙ hit.1.2),
  hit.2 ∙ ap (λ file. hit_peeled (s.key name) file rs) (sym hit.1.1),
)

-- and by its record
pub packed_candidate : (s : Store) (view : View) (rs : List Record) (name : List ℕ) (found : Option Reference) →
    s.is_prohibited (s.place name) ≡ false → view (s.place name) ≡ None → IsByRecord s rs name found → IsCandidate s view rs name found
packed_candidate s view rs name None allowed absent by =
    ap (λ b. if b then Fault else reading_by s (s.key name) (view (s.place name)) rs) allowed ∙ (ap (λ file. reading_by s (s.key name) file rs) absent ∙ by)
packed_candidate s view rs name (Some r) allowed absent by = (
  by.0 ∙ ap (hit_name s name (s.key name)) (sym absent),
  ap (λ b. if b then Fault else reading_by s (s.key name) (view (s.place name)) rs) allowed ∙ (ap (λ file. reading_by s (s.key name) file rs) absent ∙ by.1),
  by.2 ∙ ap (λ file. hit_peeled (s.key name) file rs) (sym absent),
)

-- the devices of a path, where they are prohibited
pub any_device : (p : Bool) (parts : List (List ℕ)) → list_any (λ (part : List ℕ). p && is_device part) parts ≡ (p && list_any is_device parts)
any_device true parts = refl
any_device false [] = refl
any_device false (part ∷ parts) = any_device false parts

-- a path below a folder
pub below_true : (folder path rest : List ℕ) → path ≡ below folder rest → path ≡ below folder [] ++ rest
below_true folder path rest is = is ∙ sym (append_assoc folder (47 ∷ []) rest)

pub below_false : (folder path : List ℕ) → (LiesIn path folder → ⊥) → (rest : List ℕ) → path ≢ below folder [] ++ rest
below_false folder path apart rest is = apart (rest, is ∙ append_assoc folder (47 ∷ []) rest)
