-- InMemory runs of the iterator over the records of a prefix.
use Rattle.std.proofs.Common.{◌≡◌, ℕ, true, List, drop, subst, Some}
use Rattle.std.specs.Iterator.Runs.{EachRunFrom}
use Rattle.gix_ref_hash.specs.declared.hash.Kind.{Kind}
use Rattle.gix_ref_packed.specs.declared.packed.iter.Iter.{Iter}
use Rattle.gix_ref_target.specs.PackedRecords.{Record}
use Rattle.gix_ref_packed_text.specs.RecordGrammar.{Records, Rising}
use Rattle.gix_ref_packed.specs.Items.{AreRecords, ItemStep, unread}
use Rattle.gix_ref_packed_text.specs.Prefixes.{SplitsAt, records_prefixed}
use Rattle.gix_ref_packed.specs.YetToGive.{IsYet}
use Rattle.gix_ref_packed.proofs.ItemRuns.{each_records}
use Rattle.gix_ref_packed.proofs.OneItem.{yet_asked}
use Rattle.gix_ref_packed_text.proofs.LowerBounds.{prefixed_are}

abbrev pub EachSplits : Kind → List ℕ → List ℕ → ℕ → Type 0
EachSplits k text n start = (rs : List Record) → Records k text rs → Rising rs → SplitsAt k text rs n start

-- the same place splits the same text
all_splits : (k kind : Kind) (text t p wanted : List ℕ) (start : ℕ) → kind ≡ k → t ≡ text → wanted ≡ p → EachSplits kind t wanted start → EachSplits k text p start
all_splits k kind text t p wanted start same_kind same_text same_name each =
    subst (λ (x : Kind). EachSplits x text p start) same_kind (subst (λ (u : List ℕ). EachSplits kind u p start) same_text (subst (λ (n : List ℕ). EachSplits kind t n start) same_name each))

pub prefix_records : (s : Iter) (k kind : Kind) (text t p wanted : List ℕ) (number start : ℕ) (rs : List Record) → kind ≡ k → t ≡ text → wanted ≡ p
    → unread s ≡ record { kind = k; prefix = Some p; number = number; text = drop start text } → EachSplits kind t wanted start → Records k text rs → Rising rs
    → EachRunFrom ItemStep s (λ run. AreRecords (run.whole ≡ true) (records_prefixed p rs) run.items)
prefix_records s k kind text t p wanted number start rs same_kind same_text same_name is each h up =
    let split = all_splits k kind text t p wanted start same_kind same_text same_name each rs h up in
    subst (λ (xs : List Record). EachRunFrom ItemStep s (λ run. AreRecords (run.whole ≡ true) xs run.items)) (prefixed_are p k text rs start up split)
    (each_records s (record { kind = k; prefix = Some p; number = number; text = drop start text }) split.after is split.rest)

pub prefix_yet : (s : Iter) (k kind : Kind) (text t p wanted : List ℕ) (number start : ℕ) (rs : List Record) → kind ≡ k → t ≡ text → wanted ≡ p
    → unread s ≡ record { kind = k; prefix = Some p; number = number; text = drop start text } → EachSplits kind t wanted start → Records k text rs → Rising rs
    → IsYet s (records_prefixed p rs)
prefix_yet s k kind text t p wanted number start rs same_kind same_text same_name is each h up =
    let split = all_splits k kind text t p wanted start same_kind same_text same_name each rs h up in
    subst (IsYet s) (prefixed_are p k text rs start up split)
    (yet_asked s (record { kind = k; prefix = Some p; number = number; text = drop start text }) split.after is split.rest)
