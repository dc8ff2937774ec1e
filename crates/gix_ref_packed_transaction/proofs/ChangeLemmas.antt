-- Changes of records, as edits of a rewrite, and in another order.
use Rattle.std.proofs.Common.{◌≡◌, ◌||◌, ◌⊎◌, inl, inr, ℕ, List, [], ◌∷◌, Option, Bool, true, false, if◌then◌else◌, bytes_eq, refl, sym, ap, ◌∙◌, subst}
use Rattle.std.specs.Prelude.{is_some}
use Rattle.std.specs.List.{All, AllByRecursion, IsDistinct, list_any}
use Rattle.std.specs.List.Sorted.{IsPermutation, IsStrictlySortedBy}
use Rattle.std.specs.Ordering.{nat_cmp}
use Rattle.std.specs.Cmp.Lexicographic.{slice_cmp}
use Rattle.std.specs.declared.cmp.Ordering.TheVariants.{Less}
use Rattle.std.proofs.lemmas.Bool.{true≢false, false≢true, cond-true, cond-false}
use Rattle.std.proofs.lemmas.List.Elements.{All-nil, All-cons, All-head, All-tail, All-weaker}
use Rattle.std.proofs.lemmas.List.Sorted.{All-permutation, IsPermutation-sym, list_any-IsPermutation}
use Rattle.gix_ref_hash.specs.declared.hash.Kind.{Kind}
use Rattle.gix_ref_target.specs.PackedRecords.{Record, record_named}
use Rattle.gix_ref_packed_text.specs.RecordGrammar.{Below}
use Rattle.gix_ref_packed.specs.Buffers.{HoldsRecords}
use Rattle.gix_ref_packed_text.specs.declared.edit.RecordEdit.{RecordEdit}
use Rattle.gix_ref_packed_text.specs.declared.outcome.Rewrite.{Rewrite}
use Rattle.gix_ref_packed_text.specs.declared.outcome.Rewrite.TheVariants.{Unchanged, Removed, Text}
use Rattle.gix_ref_packed_text.specs.MergedRecords.{IsMerged}
use Rattle.gix_ref_packed_text.specs.RecordEdits.{KeysAscend, record_after, record_put}
use Rattle.gix_ref_packed_text.specs.Rewrites.{IsReadableIfAny, IsRewrite, are_altered}
use Rattle.gix_ref_theory.proofs.Writes.{same, same_true}
use Rattle.gix_ref_packed_transaction.specs.Changes.{AreChanged, AreReadable, ChangeValue, IsChanged, change_some, changes_one, edit_values, keys_in, record_by, record_left}

-- ---- as edits of a rewrite

-- what they make of a record
after_is : (edits : List RecordEdit) (key : List ℕ) (old : Option Record) → record_after edits key old ≡ record_by (edit_values edits) key old
after_is [] key old = refl
after_is (e ∷ edits) key old = ap (λ o. if bytes_eq e.key.now key then record_put e else o) (after_is edits key old)

-- whether they alter the records
altered_is : (edits : List RecordEdit) (rs : List Record) → are_altered edits rs ≡ change_some (edit_values edits) rs
altered_is [] rs = refl
altered_is (e ∷ edits) rs = ap (λ b. (is_some e.put || is_some (record_named e.key.now rs)) || b) (altered_is edits rs)

-- the same by records that each name has the same of
changes_alike : (changes : List ChangeValue) (rs ss : List Record) → ((n : List ℕ) → record_named n rs ≡ record_named n ss) → change_some changes rs ≡ change_some changes ss
changes_alike [] rs ss alike = refl
changes_alike (c ∷ changes) rs ss alike =
    ap (λ o. (is_some c.1 || is_some o) || change_some changes rs) (alike c.0) ∙ ap (λ b. changes_one ss c || b) (changes_alike changes rs ss alike)

-- they are in the order of their keys
above : (key : List ℕ) (edits : List RecordEdit) → AllByRecursion (λ k. slice_cmp nat_cmp key k ≡ Less) (keys_in (edit_values edits)) → All (λ (e : RecordEdit). Below key e.key.now) edits
above key [] h = All-nil (λ (e : RecordEdit). Below key e.key.now)
above key (e ∷ edits) h = All-cons (λ (x : RecordEdit). Below key x.key.now) e edits h.0 (above key edits h.1)

ascend : (edits : List RecordEdit) → IsStrictlySortedBy (slice_cmp nat_cmp) (keys_in (edit_values edits)) → KeysAscend edits
unfolding IsStrictlySortedBy
ascend [] h = tt
ascend (e ∷ edits) h = (above e.key.now edits h.0, ascend edits h.1)

pub changes_ascend : (changes : List ChangeValue) (edits : List RecordEdit) → edit_values edits ≡ changes → IsStrictlySortedBy (slice_cmp nat_cmp) (keys_in changes) → KeysAscend edits
changes_ascend changes edits are sorted = ascend edits (subst (λ cs. IsStrictlySortedBy (slice_cmp nat_cmp) (keys_in cs)) (sym are) sorted)

readable : (kind : Kind) (edits : List RecordEdit) → AreReadable kind (edit_values edits) → All (λ e. IsReadableIfAny kind (record_put e)) edits
readable kind [] h = All-nil (λ (e : RecordEdit). IsReadableIfAny kind (record_put e))
readable kind (e ∷ edits) h =
    All-cons (λ (x : RecordEdit). IsReadableIfAny kind (record_put x)) e edits
    (All-head (λ (c : ChangeValue). IsReadableIfAny kind (record_left c)) (e.key.now, e.put) (edit_values edits) h)
    (readable kind edits (All-tail (λ (c : ChangeValue). IsReadableIfAny kind (record_left c)) (e.key.now, e.put) (edit_values edits) h))

module _ (kind : Kind) (rs held : List Record) (named : (n : List ℕ) → record_named n held ≡ record_named n rs) where
  merged_is : (edits : List RecordEdit) (new : List Record) → IsMerged edits held new → AreChanged (edit_values edits) rs new
  merged_is edits new m = record {
    each = λ key. m.each key ∙ (after_is edits key (record_named key held) ∙ ap (record_by (edit_values edits) key) (named key));
    ascending = m.ascending;
  }

  found : (edits : List RecordEdit) (b : Bool) → are_altered edits held ≡ b → change_some (edit_values edits) rs ≡ b
  found edits b is = sym (altered_is edits held ∙ changes_alike (edit_values edits) held rs named) ∙ is

  by_edits : (edits : List RecordEdit) (w : Rewrite) → IsRewrite kind edits held w → IsChanged kind (edit_values edits) rs w
  by_edits edits Unchanged is = found edits false is
  by_edits edits Removed is = (found edits true is.0, merged_is edits [] is.1)
  by_edits edits (Text text) is = (
    found edits true is.0,
    record {
      new = is.1.new;
      changed = merged_is edits is.1.new is.1.merged;
      some = is.1.some;
      is_text = is.1.is_text;
      well = λ can. is.1.reads_back (readable kind edits can);
    },
  )

-- a rewrite of the records that a text holds
pub rewrite_changed : (kind : Kind) (rs : List Record) (text : List ℕ) (changes : List ChangeValue) (edits : List RecordEdit) (w : Rewrite) → (holds : HoldsRecords kind rs text) → edit_values edits ≡ changes →
    IsRewrite kind edits holds.held w → IsChanged kind changes rs w
rewrite_changed kind rs text changes edits w holds are is = subst (λ cs. IsChanged kind cs rs w) are (by_edits kind rs holds.held holds.named edits w is)

-- and one of no records
pub rewrite_made : (kind : Kind) (changes : List ChangeValue) (edits : List RecordEdit) (w : Rewrite) → edit_values edits ≡ changes → IsRewrite kind edits [] w → IsChanged kind changes [] w
rewrite_made kind changes edits w are is = subst (λ cs. IsChanged kind cs [] w) are (by_edits kind [] [] (λ n. refl) edits w is)

-- ---- in another order

-- the change is one of these
abbrev pub Among : ChangeValue → List ChangeValue → Type 0
Among c [] = ⊥
Among c (d ∷ changes) = (d ≡ c) ⊎ Among c changes

all_among : (changes : List ChangeValue) → All (λ (c : ChangeValue). Among c changes) changes
all_among [] = All-nil (λ (c : ChangeValue). Among c [])
all_among (d ∷ changes) =
    All-cons (λ (c : ChangeValue). Among c (d ∷ changes)) d changes (inl refl)
    (All-weaker (λ (c : ChangeValue). Among c changes) (λ (c : ChangeValue). Among c (d ∷ changes)) (λ c within. inr within) changes (all_among changes))

among_of : (P : ChangeValue → Type 0) (changes : List ChangeValue) (c : ChangeValue) → All P changes → Among c changes → P c
among_of P [] c all within = absurd within
among_of P (d ∷ changes) c all (inl here) = subst P here (All-head P d changes all)
among_of P (d ∷ changes) c all (inr later) = among_of P changes c (All-tail P d changes all) later

among_moved : (xs ys : List ChangeValue) (c : ChangeValue) → IsPermutation xs ys → Among c xs → Among c ys
among_moved xs ys c moved within = among_of (λ d. Among d ys) xs c (All-permutation (λ (d : ChangeValue). Among d ys) ys xs (IsPermutation-sym xs ys moved) (all_among ys)) within

-- a change of this key
abbrev pub is_of : List ℕ → ChangeValue → Bool
is_of key c = bytes_eq c.0 key

none_by : (changes : List ChangeValue) (key : List ℕ) (old : Option Record) → list_any (is_of key) changes ≡ false → record_by changes key old ≡ old
none_by [] key old none = refl
none_by (c ∷ changes) key old none = by (bytes_eq c.0 key) none (none_by changes key old)
  where
    by : (b : Bool) → (b || list_any (is_of key) changes) ≡ false → (list_any (is_of key) changes ≡ false → record_by changes key old ≡ old) → (if b then record_left c else record_by changes key old) ≡ old
    by true is later = absurd (true≢false is)
    by false is later = later is

-- the first change of a key decides
pub record First (changes : List ChangeValue) (key : List ℕ) : Type 0 where
  pub change : ChangeValue
  pub within : Among change changes
  pub keyed : change.0 ≡ key
  pub decides : (old : Option Record) → record_by changes key old ≡ record_left change

first_by : (changes : List ChangeValue) (key : List ℕ) → list_any (is_of key) changes ≡ true → First changes key
first_by [] key some = absurd (false≢true some)
first_by (c ∷ changes) key some = by (λ any. first_by changes key any) (bytes_eq c.0 key) refl some
  where
    by : (list_any (is_of key) changes ≡ true → First changes key) → (b : Bool) → bytes_eq c.0 key ≡ b → (b || list_any (is_of key) changes) ≡ true → First (c ∷ changes) key
    by more true is any = record {
      change = c;
      within = inl refl;
      keyed = same c.0 key is;
      decides = λ old. cond-true (bytes_eq c.0 key) (record_left c) (record_by changes key old) is;
    }
    by more false is any = let later = more any in record {
      change = later.change;
      within = inr later.within;
      keyed = later.keyed;
      decides = λ old. cond-false (bytes_eq c.0 key) (record_left c) (record_by changes key old) is ∙ later.decides old;
    }

differs : (key : List ℕ) (changes : List ChangeValue) (c : ChangeValue) → AllByRecursion (λ k. bytes_eq key k ≡ false) (keys_in changes) → Among c changes → bytes_eq key c.0 ≡ false
differs key [] c all within = absurd within
differs key (d ∷ changes) c all (inl here) = subst (λ (x : ChangeValue). bytes_eq key x.0 ≡ false) here all.0
differs key (d ∷ changes) c all (inr later) = differs key changes c all.1 later

-- of distinct keys one change has a key
unique : (changes : List ChangeValue) → IsDistinct bytes_eq (keys_in changes) → (c d : ChangeValue) → Among c changes → Among d changes → c.0 ≡ d.0 → c ≡ d
unfolding IsDistinct
unique [] distinct c d one other equal = absurd one
unique (x ∷ changes) distinct c d (inl one) (inl other) equal = sym one ∙ other
unique (x ∷ changes) distinct c d (inl one) (inr other) equal =
    let apart = differs x.0 changes d distinct.0 other in
    absurd (true≢false (sym (same_true x.0 d.0 (ap (λ (y : ChangeValue). y.0) one ∙ equal)) ∙ apart))
unique (x ∷ changes) distinct c d (inr one) (inl other) equal =
    let apart = differs x.0 changes c distinct.0 one in
    absurd (true≢false (sym (same_true x.0 c.0 (ap (λ (y : ChangeValue). y.0) other ∙ sym equal)) ∙ apart))
unique (x ∷ changes) distinct c d (inr one) (inr other) equal = unique changes distinct.1 c d one other equal

-- in whatever order, they make the same of a record
pub moved_by : (xs ys : List ChangeValue) → IsPermutation xs ys → IsDistinct bytes_eq (keys_in xs) → (key : List ℕ) (old : Option Record) → record_by ys key old ≡ record_by xs key old
moved_by xs ys moved distinct key old = by (list_any (is_of key) xs) refl
  where
    both : list_any (is_of key) xs ≡ list_any (is_of key) ys
    both = list_any-IsPermutation (is_of key) xs ys moved

    by : (b : Bool) → list_any (is_of key) xs ≡ b → record_by ys key old ≡ record_by xs key old
    by false none = none_by ys key old (sym both ∙ none) ∙ sym (none_by xs key old none)
    by true some =
        let f = first_by xs key some in
        let g = first_by ys key (sym both ∙ some) in
        let equal = unique xs distinct f.change g.change f.within (among_moved ys xs g.change (IsPermutation-sym xs ys moved) g.within) (f.keyed ∙ sym g.keyed) in
        g.decides old ∙ (ap record_left (sym equal) ∙ sym (f.decides old))

pub moved_some : (xs ys : List ChangeValue) → IsPermutation xs ys → (rs : List Record) → change_some xs rs ≡ change_some ys rs
moved_some xs ys moved rs = list_any-IsPermutation (changes_one rs) xs ys moved
