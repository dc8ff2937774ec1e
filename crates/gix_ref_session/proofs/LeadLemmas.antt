-- Edits that are led, one by one.
use Rattle.std.proofs.Common.{◌≡◌, ℕ, zero, suc, ◌+◌, ◌<◌, length, get_or, take, arith, List, [], ◌∷◌, ◌++◌, Bool, true, false, if◌then◌else◌, ◌&&◌, ◌||◌, codes, Option, Some, None, ap, sym, subst, refl, ◌∙◌}
use Rattle.std.specs.Prelude.{is_none}
use Rattle.std.specs.Option.{option_map}
use Rattle.gix_ref_edits.specs.RefEdits.{name_of, new_of}
use Rattle.gix_ref_edits.specs.declared.transaction.RefEdit.{RefEdit}
use Rattle.gix_ref_files.specs.Files.{Meaning}
use Rattle.std.proofs.lemmas.Slice.Eq.{bytes_eq-Decides}
use Rattle.gix_ref_name.specs.NameGrammar.{full_error, partial_error}
use Rattle.gix_ref_name.specs.Names.{full_bytes}
use Rattle.gix_ref_name.specs.declared.name.error.Error.{Error as NameError}
use Rattle.gix_ref_name.specs.declared.name.FullName.{FullName}
use Rattle.gix_ref_target.specs.PackedRecords.{Record}
use Rattle.gix_ref_store.specs.Lookup.{AreRecordsIn, LooksUp}
use Rattle.gix_ref_store.specs.declared.file.store.Store.{Store}
use Rattle.gix_ref_target.specs.Targets.{TargetValue}
use Rattle.gix_ref_queries.specs.Resolving.{TargetsByName, NameEnd, targets_in, resolved}
use Rattle.gix_ref_queries.proofs.Names.{end_before, same_finds, same_records, sees_before}
use Rattle.gix_ref_session.specs.Leading.{AreLed, IsLed, LeadsBy, LeadsTo, SeesBranch, SeesLed, branch_of, is_followed, is_through_head, last_of, led_deref, led_name, name_or, next_of, updates, LeadsIn}

pub next_one : (xs : List RefEdit) (k : ℕ) (d : RefEdit) → k < length xs → take (k + 1) xs ≡ take k xs ++ get_or xs k d ∷ []
next_one [] k d lt = absurd (omega (arith, lt))
next_one (x ∷ xs) zero d lt = refl
next_one (x ∷ xs) (suc k) d lt =
    let more : suc k + 1 ≡ suc (k + 1) = omega arith in
    ap (λ (m : ℕ). take m (x ∷ xs)) more ∙ ap (λ (ys : List RefEdit). x ∷ ys) (next_one xs k d (omega (arith, lt)))

module _ (Leads : (edit led : RefEdit) → Type 0) where
  one_led : (edits led : List RefEdit) (e l : RefEdit) → AreLed Leads edits led → IsLed Leads e l → AreLed Leads (edits ++ e ∷ []) (led ++ l ∷ [])
  one_led [] [] e l are is = (is, tt)
  one_led [] (m ∷ led) e l are is = absurd are
  one_led (f ∷ edits) [] e l are is = absurd are
  one_led (f ∷ edits) (m ∷ led) e l (first, are) is = (first, one_led edits led e l are is)

  pub led_more : (edits : List RefEdit) (k : ℕ) (d : RefEdit) (led now : List RefEdit) (l : RefEdit) → k < length edits → AreLed Leads (take k edits) led → IsLed Leads (get_or edits k d) l → now ≡ led ++ l ∷ [] → AreLed Leads (take (k + 1) edits) now
  led_more edits k d led now l lt are is pushed =
      subst (λ (es : List RefEdit). AreLed Leads es now) (sym (next_one edits k d lt))
      (subst (λ (ls : List RefEdit). AreLed Leads (take k edits ++ get_or edits k d ∷ []) ls) (sym pushed) (one_led (take k edits) led (get_or edits k d) l are is))

-- What lookups find in the store before, which was only looked at.
module _ {F : Type 0} (honest : Type 0) (means : F → Meaning) (first mid : Store F) (looked : LooksUp honest means first mid) where
  -- the branch
  pub branch_in : (writes : Bool) (branch : Option FullName) → (honest → (records : List Record) → AreRecordsIn means mid records → option_map full_bytes branch ≡ branch_of (targets_in means mid records) writes) →
      honest → (records : List Record) → AreRecordsIn means first records → option_map full_bytes branch ≡ branch_of (targets_in means first records) writes
  branch_in writes branch is h records are = is h records (same_records honest means first mid records looked h are) ∙ ap (λ (find : TargetsByName). branch_of find writes) (same_finds honest means first mid records looked h)

  -- what was seen of the branch, and of an edit
  pub sees_branch_before : honest → (writes : Bool) (branch : Option (List ℕ)) → SeesBranch means mid writes branch → SeesBranch means first writes branch
  sees_branch_before h true branch (target, saw, is) = (target, sees_before honest means first mid (codes "HEAD") target looked h saw, is)
  sees_branch_before h false branch is = is

  led_before : honest → (branch : Option (List ℕ)) (edit led : RefEdit) → SeesLed means mid branch edit led → SeesLed means first branch edit led
  led_before h branch edit led s = record {
    own = s.own;
    own_seen = λ named up direct. sees_before honest means first mid (name_of edit) s.own looked h (s.own_seen named up direct);
    end = s.end;
    end_seen = λ not followed. end_before honest means first mid looked h 5 (name_of edit) s.end (s.end_seen not followed);
    leads = s.leads;
  }

  -- where an edit is led
  pub leads_in : (writes : Bool) (branch : Option FullName) (edit led : RefEdit) → (honest → (records : List Record) → AreRecordsIn means first records → option_map full_bytes branch ≡ branch_of (targets_in means first records) writes) →
      (honest → (records : List Record) → AreRecordsIn means mid records → LeadsTo (targets_in means mid records) (option_map full_bytes branch) edit led) → (honest → SeesBranch means first writes (option_map full_bytes branch)) → (honest → SeesLed means mid (option_map full_bytes branch) edit led) → LeadsIn honest means first writes edit led
  leads_in writes branch edit led is leads sees_branch sees = record {
    seen = λ h. (option_map full_bytes branch, sees_branch h, led_before h (option_map full_bytes branch) edit led (sees h));
    exact = λ h records are.
        subst (λ (find : TargetsByName). LeadsTo find (branch_of (targets_in means first records) writes) edit led) (same_finds honest means first mid records looked h)
        (subst (λ (b : Option (List ℕ)). LeadsTo (targets_in means mid records) b edit led) (is h records are) (leads h records (same_records honest means first mid records looked h are)));
  }

  -- the end of a chain
  pub ends_in : (records : List Record) (name : List ℕ) (last : Option (List ℕ)) → honest → last ≡ last_of (resolved (targets_in means mid records) 5 name) → last ≡ last_of (resolved (targets_in means first records) 5 name)
  ends_in records name last h is = is ∙ ap (λ (find : TargetsByName). last_of (resolved find 5 name)) (same_finds honest means first mid records looked h)

-- The name `HEAD` breaks no rule.
head_valid : full_error (codes "HEAD") ≡ None
unfolding full_error partial_error
head_valid = refl

pub no_error : (text : List ℕ) (error : NameError) → text ≡ codes "HEAD" → full_error text ≡ Some error → ⊥
no_error text error is breaks = none_some (sym head_valid ∙ (ap full_error (sym is) ∙ breaks))
  where
    none_some : None ≡ Some error → ⊥
    none_some e = cc

pub none_mapped : (name : Option FullName) → is_none name ≡ is_none (option_map full_bytes name)
none_mapped None = refl
none_mapped (Some name) = refl

-- an update of the branch, which is not followed
pub through_by : (own : Option TargetValue) (branch : List ℕ) (edit : RefEdit) (r : Bool) → branch ≡ name_of edit → updates edit.change ≡ true → edit.deref ≡ false → r ≡ is_none (next_of own) → r ≡ is_through_head own (Some branch) edit
through_by own branch edit r same up direct is =
    is ∙ sym (ap (λ (b : Bool). b && (updates edit.change && (edit.deref || is_none (next_of own)))) ((bytes_eq-Decides branch (name_of edit)).1 same)
    ∙ (ap (λ (b : Bool). b && (edit.deref || is_none (next_of own))) up ∙ ap (λ (b : Bool). b || is_none (next_of own)) direct))

-- a deletion that follows symbolic references follows them
pub follows : (edit : RefEdit) → is_followed edit ≡ true → edit.deref ≡ true
follows edit is = both edit.deref (is_none (new_of edit.change)) is
  where
    both : (a b : Bool) → a && b ≡ true → a ≡ true
    both true b is = refl
    both false b is = is

-- Where an edit is led.
module _ (own : Option TargetValue) (end : NameEnd) (branch : Option (List ℕ)) (edit led : RefEdit) where
  pub to_head : is_through_head own branch edit ≡ true → name_of led ≡ codes "HEAD" → led.deref ≡ true → LeadsBy own end branch edit led
  to_head through name deref = record {
    name_is = name ∙ sym (ap (λ (b : Bool). if b then codes "HEAD" else if is_followed edit then name_or (name_of edit) (last_of end) else name_of edit) through);
    deref_is = deref ∙ sym (ap (λ (b : Bool). if b then true else if is_followed edit then is_none (last_of end) else edit.deref) through);
  }

  not_to_head : is_through_head own branch edit ≡ false → (n : List ℕ) → n ≡ (if is_followed edit then name_or (name_of edit) (last_of end) else name_of edit) → n ≡ led_name own end branch edit
  not_to_head not n is = is ∙ sym (ap (λ (b : Bool). if b then codes "HEAD" else if is_followed edit then name_or (name_of edit) (last_of end) else name_of edit) not)

  deref_not : is_through_head own branch edit ≡ false → (d : Bool) → d ≡ (if is_followed edit then is_none (last_of end) else edit.deref) → d ≡ led_deref own end branch edit
  deref_not not d is = is ∙ sym (ap (λ (b : Bool). if b then true else if is_followed edit then is_none (last_of end) else edit.deref) not)

  pub to_end : is_through_head own branch edit ≡ false → is_followed edit ≡ true → (last : Option FullName) → option_map full_bytes last ≡ last_of end → name_of led ≡ name_or (name_of edit) (option_map full_bytes last) → led.deref ≡ is_none (option_map full_bytes last) → LeadsBy own end branch edit led
  to_end not followed last ends name deref = record {
    name_is = not_to_head not (name_of led) (name ∙ (ap (λ (l : Option (List ℕ)). name_or (name_of edit) l) ends ∙ sym (ap (λ (b : Bool). if b then name_or (name_of edit) (last_of end) else name_of edit) followed)));
    deref_is = deref_not not led.deref (deref ∙ (ap (λ (l : Option (List ℕ)). is_none l) ends ∙ sym (ap (λ (b : Bool). if b then is_none (last_of end) else edit.deref) followed)));
  }

  pub to_itself : is_through_head own branch edit ≡ false → is_followed edit ≡ false → name_of led ≡ name_of edit → led.deref ≡ edit.deref → LeadsBy own end branch edit led
  to_itself not stays name deref = record {
    name_is = not_to_head not (name_of led) (name ∙ sym (ap (λ (b : Bool). if b then name_or (name_of edit) (last_of end) else name_of edit) stays));
    deref_is = deref_not not led.deref (deref ∙ sym (ap (λ (b : Bool). if b then is_none (last_of end) else edit.deref) stays));
  }
