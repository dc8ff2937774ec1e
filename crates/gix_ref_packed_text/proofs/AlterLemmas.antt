-- Whether edits alter the records of a text.
use Rattle.std.proofs.Common.{◌≡◌, ◌||◌, Bool, true, false, List, [], ◌∷◌, refl, sym, ◌∙◌, ap, Some, bytes_eq}
use Rattle.std.specs.Prelude.{is_some}
use Rattle.std.specs.List.{All, list_any}
use Rattle.std.specs.Cmp.Lexicographic.{slice_cmp}
use Rattle.std.specs.Ordering.{match_ordering, nat_cmp}
use Rattle.std.specs.declared.cmp.Ordering.{Ordering}
use Rattle.std.specs.declared.cmp.Ordering.TheVariants.{Less, Equal, Greater}
use Rattle.std.proofs.lemmas.Bool.{cond-true, cond-false}
use Rattle.std.proofs.lemmas.Slice.Eq.{bytes_eq-Decides}
use Rattle.std.proofs.lemmas.List.Elements.{All-head, All-tail, All-cons, All-weaker}
use Rattle.gix_ref_target.specs.PackedRecords.{Record, record_named}
use Rattle.gix_ref_packed_text.specs.RecordGrammar.{Below, Ascending}
use Rattle.gix_ref_packed_text.specs.declared.edit.RecordEdit.{RecordEdit}
use Rattle.gix_ref_packed_text.specs.RecordEdits.{KeysAscend}
use Rattle.gix_ref_packed_text.specs.Rewrites.{alters, are_altered}
use Rattle.gix_ref_packed_text.specs.internal.Merging.{alters_one, alters_some}
use Rattle.gix_ref_packed_text.proofs.MergeLemmas.{same_if_equal, below_if_greater, below_apart, below_all, below_keys, none_below}

same_any : (p q : RecordEdit → Bool) (es : List RecordEdit) → All (λ e. p e ≡ q e) es → list_any p es ≡ list_any q es
same_any p q [] all = refl
same_any p q (e ∷ es) all =
    let here : p e ≡ q e = All-head (λ x. p x ≡ q x) e es all in
    let later = same_any p q es (All-tail (λ x. p x ≡ q x) e es all) in cc

-- a record below an edit's key is not found by it
not_found : (r : Record) (rs : List Record) (e : RecordEdit) → Below r.name e.key.now → alters rs e ≡ alters (r ∷ rs) e
not_found r rs e below = ap (λ o. is_some e.put || is_some o) (sym (cond-false (bytes_eq r.name e.key.now) (Some r) (record_named e.key.now rs) (below_apart r.name e.key.now below)))

or_true : (x y : Bool) → true ≡ ((x || true) || y)
or_true true y = refl
or_true false y = refl

or_none : (x y z : Bool) → y ≡ z → (x || y) ≡ ((x || false) || z)
or_none true y z same = refl
or_none false y z same = same

alters_one_is : (e : RecordEdit) (es : List RecordEdit) (more : List Record → Bool) → All (λ d. Below e.key.now d.key.now) es → ((rest : List Record) → Ascending rest → more rest ≡ are_altered es rest) →
    (rs : List Record) → Ascending rs → alters_one e more rs ≡ are_altered (e ∷ es) rs
alters_one_is e es more above later [] up = or_none (is_some e.put) (more []) (are_altered es []) (later [] tt)
alters_one_is e es more above later (r ∷ rs) up = go (slice_cmp nat_cmp r.name e.key.now) refl (alters_one_is e es more above later rs up.1)
  where
    go : (o : Ordering) → slice_cmp nat_cmp r.name e.key.now ≡ o → alters_one e more rs ≡ are_altered (e ∷ es) rs → match_ordering o (alters_one e more rs) true (is_some e.put || more (r ∷ rs)) ≡ are_altered (e ∷ es) (r ∷ rs)
    go Less is behind =
        let keys : All (λ d. Below r.name d.key.now) (e ∷ es) = All-cons (λ d. Below r.name d.key.now) e es is (below_keys r.name e.key.now es is above) in
        behind ∙ same_any (alters rs) (alters (r ∷ rs)) (e ∷ es) (All-weaker (λ (d : RecordEdit). Below r.name d.key.now) (λ (d : RecordEdit). alters rs d ≡ alters (r ∷ rs) d) (not_found r rs) (e ∷ es) keys)
    go Equal is behind =
        let here : bytes_eq r.name e.key.now ≡ true = (bytes_eq-Decides r.name e.key.now).1 (same_if_equal r.name e.key.now is) in
        or_true (is_some e.put) (are_altered es (r ∷ rs))
        ∙ ap (λ o. (is_some e.put || is_some o) || are_altered es (r ∷ rs)) (sym (cond-true (bytes_eq r.name e.key.now) (Some r) (record_named e.key.now rs) here))
    go Greater is behind =
        let below : Below e.key.now r.name = below_if_greater r.name e.key.now is in
        or_none (is_some e.put) (more (r ∷ rs)) (are_altered es (r ∷ rs)) (later (r ∷ rs) up)
        ∙ ap (λ o. (is_some e.put || is_some o) || are_altered es (r ∷ rs)) (sym (none_below e.key.now (r ∷ rs) (All-cons (λ s. Below e.key.now s.name) r rs below (below_all e.key.now r.name rs below up.0))))

pub alters_is : (es : List RecordEdit) → KeysAscend es → (rs : List Record) → Ascending rs → alters_some es rs ≡ are_altered es rs
alters_is [] keys rs up = refl
alters_is (e ∷ es) keys rs up = alters_one_is e es (alters_some es) keys.0 (alters_is es keys.1) rs up
