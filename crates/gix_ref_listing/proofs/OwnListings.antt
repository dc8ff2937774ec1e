-- The records that a listing gives are those of its names, in their order.
use Rattle.std.proofs.Common.{◌≡◌, ◌⊎◌, inl, inr, ⊎_elim, ℕ, Bool, true, false, cond, List, [], ◌∷◌, ◌++◌, length, drop, refl, sym, ◌∙◌, ap, subst, append_assoc, nat_eq, Option, Some, None, is_some}
use Rattle.std.specs.Prelude.{bytes_eq, is_none}
use Rattle.std.specs.Cmp.Lexicographic.{slice_cmp, bytes_decides}
use Rattle.std.specs.Ordering.{nat_cmp, ordering_then}
use Rattle.std.specs.List.{All, AllByRecursion, starts_with, filter}
use Rattle.std.proofs.lemmas.List.Elements.{All-cons, All-head, All-tail}
use Rattle.std.proofs.lemmas.Slice.Eq.{starts_is, bytes_eq-Decides}
use Rattle.std.proofs.lemmas.Bool.Decides.{Decides-eqb}
use Rattle.gix_ref_name.specs.NameGrammar.{partial_error, IsPartialName}
use Rattle.gix_ref_target.specs.PackedRecords.{Record, record_named}
use Rattle.gix_ref_name.specs.declared.name.error.Error.{Error}
use Rattle.gix_ref_name.proofs.FrontLemmas.{begins_true}
use Rattle.gix_ref_packed_text.specs.RecordGrammar.{Below, Ascending}
use Rattle.gix_ref_packed_text.specs.Prefixes.{records_prefixed}
use Rattle.gix_ref_packed_text.proofs.LowerBounds.{same_byte}
use Rattle.gix_ref_packed_text.proofs.Halves.{not_itself}
use Rattle.gix_ref_theory.proofs.PlaceLaws.{cancel}
use Rattle.gix_ref_lookup.specs.Lookups.{meaning_in, Among}
use Rattle.gix_ref_lookup.specs.StoreLayout.{namespace_text}
use Rattle.gix_ref_lookup.specs.declared.settings.Settings.{Settings}
use Rattle.gix_ref_listing.specs.OwnRecords.{Own, own_name, own_records, with_own}
use Rattle.gix_ref_listing.specs.WholeListings.{IsPackedListed, key_in}
use Rattle.gix_ref_listing.proofs.MergedListings.{OwnRises}
use Rattle.gix_ref_listing.proofs.OwnLemmas.{own_inside, choose}
use Rattle.gix_ref_theory.specs.Edits.{is_key}

-- ---- names of keys

chosen : (a b c : Bool) (name found : List ℕ) → choose a b c name ≡ Some found → (a ≡ true) × (b ≡ true) × (c ≡ true) × (name ≡ found)
chosen true true true name found is = let same : name ≡ found = cc in (refl, refl, refl, same)
chosen true true false name found is = absurd (cc)
chosen true false c name found is = absurd (cc)
chosen false b c name found is = absurd (cc)

none_is : (o : Option Error) → is_none o ≡ true → o ≡ None
none_is None is = refl
none_is (Some e) is = absurd (cc)

key_of : (o : Option (List ℕ)) (key : List ℕ) → is_key o key ≡ true → o ≡ Some key
key_of None key is = absurd (cc)
key_of (Some own) key is = ap Some ((bytes_eq-Decides own key).0 is)

-- the name that has a key
pub named : (settings : Settings) (key name : List ℕ) → own_name settings key ≡ Some name → (key ≡ key_in settings name) × IsPartialName name × ((meaning_in settings).key name ≡ Some key)
unfolding own_name
named settings key name is =
    let front = namespace_text settings.namespace.now in
    let rest = drop (length front) key in
    let all = chosen (starts_with nat_eq key front) (is_none (partial_error rest)) (is_key ((meaning_in settings).key rest) key) rest name is in (
      (starts_is Decides-eqb key front (starts_with nat_eq key front) refl).0 all.0 ∙ ap (λ n. front ++ n) all.3,
      subst IsPartialName all.3 (none_is (partial_error rest) all.1),
      subst (λ n. (meaning_in settings).key n ≡ Some key) all.3 (key_of ((meaning_in settings).key rest) key all.2),
    )

-- ---- records of names

-- a record that has a name is the first of its name
find_in : (rs : List Record) (key : List ℕ) (r : Record) → record_named key rs ≡ Some r → Among (λ x. x ≡ r) rs × (r.name ≡ key)
find_in [] key r is = absurd (cc)
find_in (x ∷ rs) key r is = by (bytes_eq x.name key) refl (find_in rs key r) is
  where
    by : (b : Bool) → bytes_eq x.name key ≡ b → (record_named key rs ≡ Some r → Among (λ y. y ≡ r) rs × (r.name ≡ key)) → cond b (Some x) (record_named key rs) ≡ Some r → ((x ≡ r) ⊎ Among (λ y. y ≡ r) rs) × (r.name ≡ key)
    by true same more found = let here : x ≡ r = cc in (inl here, ap (λ (y : Record). y.name) (sym here) ∙ (bytes_decides x.name key).0 same)
    by false other more found = let later = more found in (inr later.0, later.1)

-- each of ascending records is found by its name
in_find : (rs : List Record) (r : Record) → Ascending rs → Among (λ x. x ≡ r) rs → record_named r.name rs ≡ Some r
in_find [] r up has = absurd has
in_find (x ∷ rs) r up has = ⊎_elim
    (λ here. ap (λ b. cond b (Some x) (record_named r.name rs)) ((bytes_decides x.name r.name).1 (ap (λ (y : Record). y.name) here)) ∙ ap Some here)
    (λ later. by (bytes_eq x.name r.name) refl (in_find rs r up.1 later) later) has
  where
    by : (b : Bool) → bytes_eq x.name r.name ≡ b → record_named r.name rs ≡ Some r → Among (λ y. y ≡ r) rs → cond b (Some x) (record_named r.name rs) ≡ Some r
    by true same found later = absurd (not_itself x.name (subst (λ n. Below x.name n) (sym ((bytes_decides x.name r.name).0 same)) (above rs up.0 later)))
      where
        above : (ys : List Record) → All (λ s. Below x.name s.name) ys → Among (λ y. y ≡ r) ys → Below x.name r.name
        above [] all has = absurd has
        above (y ∷ ys) all has = ⊎_elim (λ is. subst (λ (z : Record). Below x.name z.name) is (All-head (λ s. Below x.name s.name) y ys all)) (λ more. above ys (All-tail (λ s. Below x.name s.name) y ys all) more) has
    by false other found later = found

module _ (test : Record → Bool) where
  among_filter : (rs : List Record) (r : Record) → Among (λ x. x ≡ r) (filter test rs) → Among (λ x. x ≡ r) rs × (test r ≡ true)
  among_filter [] r has = absurd has
  among_filter (x ∷ rs) r has = by (test x) refl (among_filter rs r) has
    where
      by : (b : Bool) → test x ≡ b → (Among (λ y. y ≡ r) (filter test rs) → Among (λ y. y ≡ r) rs × (test r ≡ true)) → Among (λ y. y ≡ r) (cond b (x ∷ filter test rs) (filter test rs)) → ((x ≡ r) ⊎ Among (λ y. y ≡ r) rs) × (test r ≡ true)
      by true is more in_it = ⊎_elim (λ here. (inl here, ap test (sym here) ∙ is)) (λ later. let l = more later in (inr l.0, l.1)) in_it
      by false is more in_it = let l = more in_it in (inr l.0, l.1)

  filter_among : (rs : List Record) (r : Record) → Among (λ x. x ≡ r) rs → test r ≡ true → Among (λ x. x ≡ r) (filter test rs)
  filter_among [] r has is = absurd has
  filter_among (x ∷ rs) r has is = by (test x) refl (λ later. filter_among rs r later is)
    where
      by : (b : Bool) → test x ≡ b → (Among (λ y. y ≡ r) rs → Among (λ y. y ≡ r) (filter test rs)) → Among (λ y. y ≡ r) (cond b (x ∷ filter test rs) (filter test rs))
      by true tested more = ⊎_elim (λ here. inl here) (λ later. inr (more later)) has
      by false tested more = ⊎_elim (λ here. let bad : false ≡ true = sym tested ∙ (ap test here ∙ is) in absurd cc) (λ later. more later) has

  filter_above : (low : List ℕ) (rs : List Record) → All (λ s. Below low s.name) rs → All (λ s. Below low s.name) (filter test rs)
  filter_above low [] all = all
  filter_above low (x ∷ rs) all = by (test x) (filter_above low rs (All-tail (λ s. Below low s.name) x rs all))
    where
      P : Record → Type 0
      P = λ s. Below low s.name

      by : (b : Bool) → All P (filter test rs) → All P (cond b (x ∷ filter test rs) (filter test rs))
      by true more = All-cons P x (filter test rs) (All-head P x rs all) more
      by false more = more

  filter_ascends : (rs : List Record) → Ascending rs → Ascending (filter test rs)
  filter_ascends [] up = up
  filter_ascends (x ∷ rs) up = by (test x) (filter_ascends rs up.1)
    where
      by : (b : Bool) → Ascending (filter test rs) → Ascending (cond b (x ∷ filter test rs) (filter test rs))
      by true more = (filter_above x.name rs up.0, more)
      by false more = more

-- ---- those that a listing gives

below_behind : (front a b : List ℕ) → Below (front ++ a) (front ++ b) → Below a b
below_behind [] a b h = h
below_behind (x ∷ front) a b h = below_behind front a b (ap (λ o. ordering_then o (slice_cmp nat_cmp (front ++ a) (front ++ b))) (same_byte x) ∙ h)

module _ (settings : Settings) where
  owns_above : (low : Record) (name : List ℕ) → low.name ≡ key_in settings name → (rs : List Record) → All (λ s. Below low.name s.name) rs → AllByRecursion (λ (o : Own). Below name o.name) (own_records settings rs)
  owns_above low name is [] all = _
  owns_above low name is (r ∷ rs) all = by (own_name settings r.name) refl (owns_above low name is rs (All-tail (λ s. Below low.name s.name) r rs all))
    where
      P : Record → Type 0
      P = λ s. Below low.name s.name

      by : (o : Option (List ℕ)) → own_name settings r.name ≡ o → AllByRecursion (λ (x : Own). Below name x.name) (own_records settings rs) → AllByRecursion (λ (x : Own). Below name x.name) (with_own o r (own_records settings rs))
      by None none more = more
      by (Some n) some more = (
        below_behind (namespace_text settings.namespace.now) name n (subst (λ k. Below (key_in settings name) k) (named settings r.name n some).0 (subst (λ k. Below k r.name) is (All-head P r rs all))),
        more,
      )

  pub owns_rise : (rs : List Record) → Ascending rs → OwnRises (own_records settings rs)
  owns_rise [] up = _
  owns_rise (r ∷ rs) up = by (own_name settings r.name) refl (owns_rise rs up.1)
    where
      by : (o : Option (List ℕ)) → own_name settings r.name ≡ o → OwnRises (own_records settings rs) → OwnRises (with_own o r (own_records settings rs))
      by None none more = more
      by (Some n) some more = (owns_above r n (named settings r.name n some).0 rs up.0, more)

  -- each has its name, and is one of the records
  owns_are : (all rs : List Record) → ((r : Record) → Among (λ x. x ≡ r) rs → Among (λ x. x ≡ r) all) → AllByRecursion (λ (o : Own). (own_name settings o.of.name ≡ Some o.name) × Among (λ x. x ≡ o.of) all) (own_records settings rs)
  owns_are all [] keep = _
  owns_are all (r ∷ rs) keep = by (own_name settings r.name) refl (owns_are all rs (λ x has. keep x (inr has)))
    where
      by : (o : Option (List ℕ)) → own_name settings r.name ≡ o → AllByRecursion (λ (x : Own). (own_name settings x.of.name ≡ Some x.name) × Among (λ y. y ≡ x.of) all) (own_records settings rs) → AllByRecursion (λ (x : Own). (own_name settings x.of.name ≡ Some x.name) × Among (λ y. y ≡ x.of) all) (with_own o r (own_records settings rs))
      by None none more = more
      by (Some n) some more = ((some, keep r (inl refl)), more)

  -- and each record whose key is a name's own is there
  own_there : (rs : List Record) (r : Record) (name : List ℕ) → Among (λ x. x ≡ r) rs → own_name settings r.name ≡ Some name → Among (λ (o : Own). o.name ≡ name) (own_records settings rs)
  own_there [] r name has is = absurd has
  own_there (x ∷ rs) r name has is = by (own_name settings x.name) refl (λ later. own_there rs r name later is)
    where
      by : (o : Option (List ℕ)) → own_name settings x.name ≡ o → (Among (λ y. y ≡ r) rs → Among (λ (y : Own). y.name ≡ name) (own_records settings rs)) → Among (λ (y : Own). y.name ≡ name) (with_own o x (own_records settings rs))
      by None none more = ⊎_elim (λ here. let bad = sym none ∙ (ap (λ (y : Record). own_name settings y.name) here ∙ is) in absurd (cc)) more has
      by (Some n) some more = ⊎_elim (λ here. let same : Some n ≡ Some name = sym some ∙ (ap (λ (y : Record). own_name settings y.name) here ∙ is) in let eq : n ≡ name = cc in inl eq) (λ later. inr (more later)) has

module _ (settings : Settings) (held : List Record) (prefix : List ℕ) (up : Ascending held) where
  pub prefixed_rise : OwnRises (own_records settings (records_prefixed (key_in settings prefix) held))
  prefixed_rise = owns_rise settings (records_prefixed (key_in settings prefix) held) (filter_ascends (λ r. starts_with nat_eq r.name (key_in settings prefix)) held up)

  -- a name with a record is there
  pub prefixed_there : (name : List ℕ) → IsPackedListed settings held prefix name → Among (λ (o : Own). o.name ≡ name) (own_records settings (records_prefixed (key_in settings prefix) held))
  prefixed_there name listed = by (record_named (key_in settings name) held) refl listed.there
    where
      by : (o : Option Record) → record_named (key_in settings name) held ≡ o → is_some o ≡ true → Among (λ (x : Own). x.name ≡ name) (own_records settings (records_prefixed (key_in settings prefix) held))
      by None none some = absurd (cc)
      by (Some r) is some =
          let found = find_in held (key_in settings name) r is in
          let begins : starts_with nat_eq r.name (key_in settings prefix) ≡ true =
          begins_true (key_in settings prefix) r.name listed.begins.0 (found.1 ∙ (ap (λ n. namespace_text settings.namespace.now ++ n) listed.begins.1 ∙ sym (append_assoc (namespace_text settings.namespace.now) prefix listed.begins.0))) in
          let asked : is_key ((meaning_in settings).key name) r.name ≡ true = ap (λ k. is_key k r.name) listed.own ∙ (bytes_eq-Decides (key_in settings name) r.name).1 (sym found.1) in
          own_there settings (records_prefixed (key_in settings prefix) held) r name (filter_among (λ x. starts_with nat_eq x.name (key_in settings prefix)) held r found.0 begins)
          (own_inside settings r.name name true found.1 listed.valid asked)

  own_is : (o : Own) → (own_name settings o.of.name ≡ Some o.name) × Among (λ x. x ≡ o.of) (records_prefixed (key_in settings prefix) held) →
      IsPackedListed settings held prefix o.name × (record_named (key_in settings o.name) held ≡ Some o.of)
  own_is o (some, has) =
      let is = named settings o.of.name o.name some in
      let kept = among_filter (λ x. starts_with nat_eq x.name (key_in settings prefix)) held o.of has in
      let there = subst (λ k. record_named k held ≡ Some o.of) is.0 (in_find held o.of up kept.0) in
      let rest = drop (length (key_in settings prefix)) o.of.name in
      let whole : o.of.name ≡ key_in settings prefix ++ rest = (starts_is Decides-eqb o.of.name (key_in settings prefix) (starts_with nat_eq o.of.name (key_in settings prefix)) refl).0 kept.1 in (
        record {
          valid = is.1;
          begins = (rest, cancel (namespace_text settings.namespace.now) o.name (prefix ++ rest) (sym is.0 ∙ (whole ∙ append_assoc (namespace_text settings.namespace.now) prefix rest)));
          own = is.2 ∙ ap Some is.0;
          there = ap is_some there;
        },
        there,
      )

  -- and nothing else is there
  pub prefixed_are : AllByRecursion (λ (o : Own). IsPackedListed settings held prefix o.name × (record_named (key_in settings o.name) held ≡ Some o.of)) (own_records settings (records_prefixed (key_in settings prefix) held))
  prefixed_are = each (own_records settings (records_prefixed (key_in settings prefix) held)) (owns_are settings (records_prefixed (key_in settings prefix) held) (records_prefixed (key_in settings prefix) held) (λ r has. has))
    where
      each : (os : List Own) → AllByRecursion (λ (o : Own). (own_name settings o.of.name ≡ Some o.name) × Among (λ x. x ≡ o.of) (records_prefixed (key_in settings prefix) held)) os →
          AllByRecursion (λ (o : Own). IsPackedListed settings held prefix o.name × (record_named (key_in settings o.name) held ≡ Some o.of)) os
      each [] all = _
      each (o ∷ os) (here, more) = (own_is o here, each os more)
