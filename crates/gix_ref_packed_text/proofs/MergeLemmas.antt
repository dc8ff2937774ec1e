-- The merge, edit by edit, is what the edits make of each record.
use Rattle.std.proofs.Common.{◌≡◌, ◌≢◌, ℕ, ◌||◌, ◌⊎◌, inl, inr, Bool, true, false, List, [], ◌∷◌, ◌++◌, refl, sym, ◌∙◌, ap, subst, Option, Some, None, bytes_eq}
use Rattle.std.specs.Prelude.{option_to_list, is_some}
use Rattle.std.specs.Option.{option_map}
use Rattle.std.specs.List.{All}
use Rattle.std.specs.Cmp.Lexicographic.{slice_cmp}
use Rattle.std.specs.Ordering.{match_ordering, nat_cmp, is_eq, ordering_reverse}
use Rattle.std.specs.declared.cmp.Ordering.{Ordering}
use Rattle.std.specs.declared.cmp.Ordering.TheVariants.{Less, Equal, Greater}
use Rattle.std.proofs.lemmas.Bool.{cond-true, cond-false, cases_Bool}
use Rattle.std.proofs.lemmas.Cmp.{nat_list_cmp_total}
use Rattle.std.proofs.lemmas.Slice.Eq.{bytes_eq-Decides}
use Rattle.std.proofs.lemmas.Map.Text.{is_eq-slice_cmp}
use Rattle.std.proofs.lemmas.List.Elements.{All-head, All-tail, All-cons, All-nil, All-append, All-weaker}
use Rattle.gix_ref_target.specs.PackedRecords.{Record, record_named}
use Rattle.gix_ref_packed_text.specs.RecordGrammar.{Below, Ascending}
use Rattle.gix_ref_packed_text.specs.declared.edit.NewRecord.{NewRecord}
use Rattle.gix_ref_packed_text.specs.declared.edit.RecordEdit.{RecordEdit}
use Rattle.gix_ref_packed_text.specs.RecordEdits.{new_record, record_put, record_after, KeysAscend}
use Rattle.gix_ref_packed_text.specs.MergedRecords.{IsMerged}
use Rattle.gix_ref_packed_text.specs.internal.Merging.{put_by, merged_one, merged, alters_one}
use Rattle.gix_ref_packed_text.specs.internal.Passing.{IsNotAhead}

-- ---- the order of names

equal_to_itself : (o : Ordering) → o ≡ ordering_reverse o → o ≡ Equal
equal_to_itself Less h = cc
equal_to_itself Equal h = refl
equal_to_itself Greater h = cc

pub equal_cmp : (a b : List ℕ) → a ≡ b → slice_cmp nat_cmp a b ≡ Equal
equal_cmp a b same = ap (slice_cmp nat_cmp a) (sym same) ∙ equal_to_itself (slice_cmp nat_cmp a a) (nat_list_cmp_total.antisymm a a)

pub same_if_equal : (a b : List ℕ) → slice_cmp nat_cmp a b ≡ Equal → a ≡ b
same_if_equal a b equal = (bytes_eq-Decides a b).0 (sym (is_eq-slice_cmp a b) ∙ ap is_eq equal)

pub below_if_greater : (a b : List ℕ) → slice_cmp nat_cmp a b ≡ Greater → Below b a
below_if_greater a b greater = nat_list_cmp_total.antisymm b a ∙ ap ordering_reverse greater

pub below_apart : (a b : List ℕ) → Below a b → bytes_eq a b ≡ false
below_apart a b below = sym (is_eq-slice_cmp a b) ∙ ap is_eq below

above_apart : (a b : List ℕ) → Below b a → bytes_eq a b ≡ false
above_apart a b below = sym (is_eq-slice_cmp a b) ∙ ap is_eq (nat_list_cmp_total.antisymm a b ∙ ap ordering_reverse below)

pub below_all : (a b : List ℕ) (rs : List Record) → Below a b → All (λ r. Below b r.name) rs → All (λ r. Below a r.name) rs
below_all a b rs below = All-weaker (λ (r : Record). Below b r.name) (λ (r : Record). Below a r.name) (λ r. nat_list_cmp_total.trans a b r.name below) rs

pub below_keys : (a b : List ℕ) (es : List RecordEdit) → Below a b → All (λ d. Below b d.key.now) es → All (λ d. Below a d.key.now) es
below_keys a b es below = All-weaker (λ (d : RecordEdit). Below b d.key.now) (λ (d : RecordEdit). Below a d.key.now) (λ d. nat_list_cmp_total.trans a b d.key.now below) es

-- ---- one edit, step by step

pub merged_below : (e : RecordEdit) (more : List Record → List Record) (cs rs : List Record) → All (λ r. Below r.name e.key.now) cs → merged_one e more (cs ++ rs) ≡ cs ++ merged_one e more rs
merged_below e more [] rs all = refl
merged_below e more (r ∷ cs) rs all =
    ap (λ o. match_ordering o (r ∷ merged_one e more (cs ++ rs)) (put_by e ++ more (cs ++ rs)) (put_by e ++ more (r ∷ (cs ++ rs)))) (All-head (λ x. Below x.name e.key.now) r cs all)
    ∙ ap (λ xs. r ∷ xs) (merged_below e more cs rs (All-tail (λ x. Below x.name e.key.now) r cs all))

-- the first record has another name
abbrev pub IsOther : List ℕ → List Record → Type 0
IsOther key [] = Unit {0}
IsOther key (r ∷ rs) = r.name ≢ key

pub merged_behind : (e : RecordEdit) (more : List Record → List Record) (rs : List Record) → IsNotAhead e.key.now rs → IsOther e.key.now rs → merged_one e more rs ≡ put_by e ++ more rs
merged_behind e more [] ahead other = refl
merged_behind e more (r ∷ rs) ahead other = go (slice_cmp nat_cmp r.name e.key.now) refl
  where
    go : (o : Ordering) → slice_cmp nat_cmp r.name e.key.now ≡ o → match_ordering o (r ∷ merged_one e more rs) (put_by e ++ more rs) (put_by e ++ more (r ∷ rs)) ≡ put_by e ++ more (r ∷ rs)
    go Less is = absurd (ahead is)
    go Equal is = absurd (other (same_if_equal r.name e.key.now is))
    go Greater is = refl

pub merged_named : (e : RecordEdit) (more : List Record → List Record) (r : Record) (rs : List Record) → r.name ≡ e.key.now → merged_one e more (r ∷ rs) ≡ put_by e ++ more rs
merged_named e more r rs same = ap (λ o. match_ordering o (r ∷ merged_one e more rs) (put_by e ++ more rs) (put_by e ++ more (r ∷ rs))) (equal_cmp r.name e.key.now same)

-- whether it alters the records

pub alters_below : (e : RecordEdit) (more : List Record → Bool) (cs rs : List Record) → All (λ r. Below r.name e.key.now) cs → alters_one e more (cs ++ rs) ≡ alters_one e more rs
alters_below e more [] rs all = refl
alters_below e more (r ∷ cs) rs all =
    ap (λ o. match_ordering o (alters_one e more (cs ++ rs)) true (is_some e.put || more (r ∷ (cs ++ rs)))) (All-head (λ x. Below x.name e.key.now) r cs all)
    ∙ alters_below e more cs rs (All-tail (λ x. Below x.name e.key.now) r cs all)

pub alters_behind : (e : RecordEdit) (more : List Record → Bool) (rs : List Record) → IsNotAhead e.key.now rs → IsOther e.key.now rs → alters_one e more rs ≡ (is_some e.put || more rs)
alters_behind e more [] ahead other = refl
alters_behind e more (r ∷ rs) ahead other = go (slice_cmp nat_cmp r.name e.key.now) refl
  where
    go : (o : Ordering) → slice_cmp nat_cmp r.name e.key.now ≡ o → match_ordering o (alters_one e more rs) true (is_some e.put || more (r ∷ rs)) ≡ (is_some e.put || more (r ∷ rs))
    go Less is = absurd (ahead is)
    go Equal is = absurd (other (same_if_equal r.name e.key.now is))
    go Greater is = refl

pub alters_named : (e : RecordEdit) (more : List Record → Bool) (r : Record) (rs : List Record) → r.name ≡ e.key.now → alters_one e more (r ∷ rs) ≡ true
alters_named e more r rs same = ap (λ o. match_ordering o (alters_one e more rs) true (is_some e.put || more (r ∷ rs))) (equal_cmp r.name e.key.now same)

-- ---- what each key has

pub none_below : (name : List ℕ) (rs : List Record) → All (λ r. Below name r.name) rs → record_named name rs ≡ None
none_below name [] h = refl
none_below name (r ∷ rs) h =
    cond-false (bytes_eq r.name name) (Some r) (record_named name rs) (above_apart r.name name (All-head (λ x. Below name x.name) r rs h))
    ∙ none_below name rs (All-tail (λ x. Below name x.name) r rs h)

-- a key below those of the edits keeps its record
no_edit : (key : List ℕ) (es : List RecordEdit) (old : Option Record) → All (λ d. Below key d.key.now) es → record_after es key old ≡ old
no_edit key [] old h = refl
no_edit key (e ∷ es) old h =
    cond-false (bytes_eq e.key.now key) (record_put e) (record_after es key old) (above_apart e.key.now key (All-head (λ d. Below key d.key.now) e es h))
    ∙ no_edit key es old (All-tail (λ d. Below key d.key.now) e es h)

put_here : (key : List ℕ) (put : Option NewRecord) (xs : List Record) (name : List ℕ) → bytes_eq key name ≡ true → record_named name xs ≡ None → record_named name (option_to_list (option_map (new_record key) put) ++ xs) ≡ option_map (new_record key) put
put_here key None xs name here none = none
put_here key (Some new) xs name here none = cond-true (bytes_eq key name) (Some (new_record key new)) (record_named name xs) here

put_other : (key : List ℕ) (put : Option NewRecord) (xs : List Record) (name : List ℕ) → bytes_eq key name ≡ false → record_named name (option_to_list (option_map (new_record key) put) ++ xs) ≡ record_named name xs
put_other key None xs name other = refl
put_other key (Some new) xs name other = cond-false (bytes_eq key name) (Some (new_record key new)) (record_named name xs) other

-- what an edit puts before the merge of the records `rest`, which lack its key, where `rs` are those that it looks at
put_first : (e : RecordEdit) (es : List RecordEdit) (more : List Record → List Record) → All (λ d. Below e.key.now d.key.now) es →
    (rs rest : List Record) → ((name : List ℕ) → record_named name (more rest) ≡ record_after es name (record_named name rest)) → record_named e.key.now rest ≡ None →
    ((name : List ℕ) → bytes_eq e.key.now name ≡ false → record_named name rest ≡ record_named name rs) →
    (name : List ℕ) → record_named name (put_by e ++ more rest) ≡ record_after (e ∷ es) name (record_named name rs)
put_first e es more above rs rest later none alike name = go (cases_Bool (bytes_eq e.key.now name))
  where
    go : (bytes_eq e.key.now name ≡ true) ⊎ (bytes_eq e.key.now name ≡ false) → record_named name (put_by e ++ more rest) ≡ record_after (e ∷ es) name (record_named name rs)
    go (inl here) =
        let same : e.key.now ≡ name = (bytes_eq-Decides e.key.now name).0 here in
        let gone : record_named e.key.now (more rest) ≡ None = later e.key.now ∙ (no_edit e.key.now es (record_named e.key.now rest) above ∙ none) in
        put_here e.key.now e.put (more rest) name here (ap (λ n. record_named n (more rest)) (sym same) ∙ gone)
        ∙ sym (cond-true (bytes_eq e.key.now name) (record_put e) (record_after es name (record_named name rs)) here)
    go (inr other) =
        put_other e.key.now e.put (more rest) name other
        ∙ (later name
        ∙ (ap (record_after es name) (alike name other)
        ∙ sym (cond-false (bytes_eq e.key.now name) (record_put e) (record_after es name (record_named name rs)) other)))

-- the merge of one edit, where `more` is that of the later ones
named_one : (e : RecordEdit) (es : List RecordEdit) (more : List Record → List Record) → All (λ d. Below e.key.now d.key.now) es →
    ((rest : List Record) → Ascending rest → (name : List ℕ) → record_named name (more rest) ≡ record_after es name (record_named name rest)) →
    (rs : List Record) → Ascending rs → (name : List ℕ) → record_named name (merged_one e more rs) ≡ record_after (e ∷ es) name (record_named name rs)
named_one e es more above later [] up name = put_first e es more above [] [] (later [] tt) refl (λ n other. refl) name
named_one e es more above later (r ∷ rs) up name = go (slice_cmp nat_cmp r.name e.key.now) refl (named_one e es more above later rs up.1 name)
  where
    passed : (Below r.name e.key.now) → record_named name (merged_one e more rs) ≡ record_after (e ∷ es) name (record_named name rs) → (bytes_eq r.name name ≡ true) ⊎ (bytes_eq r.name name ≡ false) → record_named name (r ∷ merged_one e more rs) ≡ record_after (e ∷ es) name (record_named name (r ∷ rs))
    passed below behind (inl here) =
        let same : r.name ≡ name = (bytes_eq-Decides r.name name).0 here in
        let keys : All (λ d. Below r.name d.key.now) (e ∷ es) = All-cons (λ d. Below r.name d.key.now) e es below (below_keys r.name e.key.now es below above) in
        cond-true (bytes_eq r.name name) (Some r) (record_named name (merged_one e more rs)) here
        ∙ (sym (no_edit name (e ∷ es) (Some r) (subst (λ (n : List ℕ). All (λ d. Below n d.key.now) (e ∷ es)) same keys))
        ∙ ap (record_after (e ∷ es) name) (sym (cond-true (bytes_eq r.name name) (Some r) (record_named name rs) here)))
    passed below behind (inr other) =
        cond-false (bytes_eq r.name name) (Some r) (record_named name (merged_one e more rs)) other
        ∙ (behind
        ∙ ap (record_after (e ∷ es) name) (sym (cond-false (bytes_eq r.name name) (Some r) (record_named name rs) other)))

    go : (o : Ordering) → slice_cmp nat_cmp r.name e.key.now ≡ o → record_named name (merged_one e more rs) ≡ record_after (e ∷ es) name (record_named name rs) →
        record_named name (match_ordering o (r ∷ merged_one e more rs) (put_by e ++ more rs) (put_by e ++ more (r ∷ rs))) ≡ record_after (e ∷ es) name (record_named name (r ∷ rs))
    go Less is behind = passed is behind (cases_Bool (bytes_eq r.name name))
    go Equal is behind =
        let same : r.name ≡ e.key.now = same_if_equal r.name e.key.now is in
        put_first e es more above (r ∷ rs) rs (later rs up.1)
        (none_below e.key.now rs (subst (λ (n : List ℕ). All (λ s. Below n s.name) rs) same up.0))
        (λ n other. sym (cond-false (bytes_eq r.name n) (Some r) (record_named n rs) (ap (λ k. bytes_eq k n) same ∙ other)))
        name
    go Greater is behind =
        let below : Below e.key.now r.name = below_if_greater r.name e.key.now is in
        put_first e es more above (r ∷ rs) (r ∷ rs) (later (r ∷ rs) up)
        (none_below e.key.now (r ∷ rs) (All-cons (λ s. Below e.key.now s.name) r rs below (below_all e.key.now r.name rs below up.0)))
        (λ n other. refl)
        name

named_each : (es : List RecordEdit) → KeysAscend es → (rs : List Record) → Ascending rs → (name : List ℕ) → record_named name (merged es rs) ≡ record_after es name (record_named name rs)
named_each [] keys rs up name = refl
named_each (e ∷ es) keys rs up name = named_one e es (merged es) keys.0 (named_each es keys.1) rs up name

-- ---- what holds of the old records and of those that are put

-- the record that the edit puts, if it puts one, is so
abbrev pub PutsOnly : (Record → Type 0) → RecordEdit → Type 0
PutsOnly P e = (r : Record) → record_put e ≡ Some r → P r

all_put : (P : Record → Type 0) (o : Option Record) → ((r : Record) → o ≡ Some r → P r) → All P (option_to_list o)
all_put P None h = All-nil P
all_put P (Some r) h = All-cons P r [] (h r refl) (All-nil P)

merged_one_all : (P : Record → Type 0) (e : RecordEdit) (more : List Record → List Record) → PutsOnly P e → ((rs : List Record) → All P rs → All P (more rs)) → (rs : List Record) → All P rs → All P (merged_one e more rs)
merged_one_all P e more puts later [] all = All-append P (put_by e) (more []) (all_put P (record_put e) puts) (later [] all)
merged_one_all P e more puts later (r ∷ rs) all = go (slice_cmp nat_cmp r.name e.key.now) (merged_one_all P e more puts later rs (All-tail P r rs all))
  where
    go : (o : Ordering) → All P (merged_one e more rs) → All P (match_ordering o (r ∷ merged_one e more rs) (put_by e ++ more rs) (put_by e ++ more (r ∷ rs)))
    go Less behind = All-cons P r (merged_one e more rs) (All-head P r rs all) behind
    go Equal behind = All-append P (put_by e) (more rs) (all_put P (record_put e) puts) (later rs (All-tail P r rs all))
    go Greater behind = All-append P (put_by e) (more (r ∷ rs)) (all_put P (record_put e) puts) (later (r ∷ rs) all)

pub merged_all : (P : Record → Type 0) (es : List RecordEdit) → All (PutsOnly P) es → (rs : List Record) → All P rs → All P (merged es rs)
merged_all P [] puts rs all = all
merged_all P (e ∷ es) puts rs all = merged_one_all P e (merged es) (All-head (PutsOnly P) e es puts) (merged_all P es (All-tail (PutsOnly P) e es puts)) rs all

-- ---- the order

name_put : (key : List ℕ) (put : Option NewRecord) (r : Record) → option_map (new_record key) put ≡ Some r → r.name ≡ key
name_put key None r is = cc
name_put key (Some new) r is = let same : new_record key new ≡ r = cc in ap (λ x. x.name) (sym same)

-- edits of keys above a name put records above it
puts_above : (name : List ℕ) (es : List RecordEdit) → All (λ d. Below name d.key.now) es → All (PutsOnly (λ s. Below name s.name)) es
puts_above name es = All-weaker (λ (d : RecordEdit). Below name d.key.now) (PutsOnly (λ s. Below name s.name)) (λ d below r is. subst (λ (n : List ℕ). Below name n) (sym (name_put d.key.now d.put r is)) below) es

put_ascends : (key : List ℕ) (put : Option NewRecord) (xs : List Record) → All (λ s. Below key s.name) xs → Ascending xs → Ascending (option_to_list (option_map (new_record key) put) ++ xs)
put_ascends key None xs above up = up
put_ascends key (Some new) xs above up = (above, up)

ascends_one : (e : RecordEdit) (es : List RecordEdit) → All (λ d. Below e.key.now d.key.now) es → ((rest : List Record) → Ascending rest → Ascending (merged es rest)) → (rs : List Record) → Ascending rs → Ascending (merged_one e (merged es) rs)
ascends_one e es above later [] up = put_ascends e.key.now e.put (merged es []) (merged_all (λ s. Below e.key.now s.name) es (puts_above e.key.now es above) [] (All-nil (λ s. Below e.key.now s.name))) (later [] tt)
ascends_one e es above later (r ∷ rs) up = go (slice_cmp nat_cmp r.name e.key.now) refl (ascends_one e es above later rs up.1)
  where
    high : (rest : List Record) → All (λ s. Below e.key.now s.name) rest → All (λ s. Below e.key.now s.name) (merged es rest)
    high = merged_all (λ s. Below e.key.now s.name) es (puts_above e.key.now es above)

    go : (o : Ordering) → slice_cmp nat_cmp r.name e.key.now ≡ o → Ascending (merged_one e (merged es) rs) → Ascending (match_ordering o (r ∷ merged_one e (merged es) rs) (put_by e ++ merged es rs) (put_by e ++ merged es (r ∷ rs)))
    go Less is behind =
        let keys : All (λ d. Below r.name d.key.now) (e ∷ es) = All-cons (λ d. Below r.name d.key.now) e es is (below_keys r.name e.key.now es is above) in
        (merged_all (λ s. Below r.name s.name) (e ∷ es) (puts_above r.name (e ∷ es) keys) rs up.0, behind)
    go Equal is behind =
        let same : r.name ≡ e.key.now = same_if_equal r.name e.key.now is in
        put_ascends e.key.now e.put (merged es rs) (high rs (subst (λ (n : List ℕ). All (λ s. Below n s.name) rs) same up.0)) (later rs up.1)
    go Greater is behind =
        let below : Below e.key.now r.name = below_if_greater r.name e.key.now is in
        put_ascends e.key.now e.put (merged es (r ∷ rs)) (high (r ∷ rs) (All-cons (λ s. Below e.key.now s.name) r rs below (below_all e.key.now r.name rs below up.0))) (later (r ∷ rs) up)

ascends : (es : List RecordEdit) → KeysAscend es → (rs : List Record) → Ascending rs → Ascending (merged es rs)
ascends [] keys rs up = up
ascends (e ∷ es) keys rs up = ascends_one e es keys.0 (ascends es keys.1) rs up

pub is_merged : (es : List RecordEdit) → KeysAscend es → (rs : List Record) → Ascending rs → IsMerged es rs (merged es rs)
is_merged es keys rs up = record { each = named_each es keys rs up; ascending = ascends es keys rs up }
