-- Splits: where a loose file leads, and rounds over lists of edits.
use Rattle.std.proofs.Common.{◌≡◌, ◌<◌, ◌+◌, ◌-◌, ℕ, zero, suc, List, [], ◌∷◌, ◌++◌, Option, None, Some, Bool, true, false, All, refl, sym, ap, ◌∙◌, subst, length, take, drop, get_or, map, arith, add-one, append-nil, append_assoc}
use Rattle.std.proofs.Math.ListN.{replicate, set}
use Rattle.std.proofs.lemmas.List.{map-append, length-map, length-take-le, take-map, take_more_set, take-append-drop, get_or-drop}
use Rattle.std.proofs.lemmas.List.Elements.{All-nil, All-cons, All-head, All-tail, All-append}
use Rattle.std.specs.Option.{option_map}
use Rattle.gix_ref_hash.specs.declared.hash.Kind.{Kind}
use Rattle.gix_ref_name.specs.Names.{full_bytes}
use Rattle.gix_ref_name.specs.declared.name.FullName.{FullName}
use Rattle.gix_ref_target.specs.Layout.{Layout}
use Rattle.gix_ref_target.specs.Targets.{TargetValue, target_name, target_value, stripped_target}
use Rattle.gix_ref_target.specs.Targets.TargetValue.{object_id, symbolic_name}
use Rattle.gix_ref_theory.specs.ConcreteStore.{store_of}
use Rattle.gix_ref_theory.specs.Readings.{Store, as_read}
use Rattle.gix_ref_lookup.specs.StoreLayout.{git_options}
use Rattle.gix_ref_lookup.specs.LooseFiles.{IsDecoded}
use Rattle.gix_ref_lookup.specs.declared.find.loose.Loose.{Loose}
use Rattle.gix_ref_lookup.specs.declared.find.loose.Loose.TheVariants as loose_files
use Rattle.gix_ref_lookup.proofs.LooseLemmas.{held_is, refused_none}
use Rattle.gix_ref_edits.specs.EditValues.{EditValue, edit_value}
use Rattle.gix_ref_edits.specs.RefEdits.{name_of}
use Rattle.gix_ref_edits.specs.SplitLists.{looked_up, child_list, referent, after_round, children, level, first_levels, IsSplitList}
use Rattle.gix_ref_edits.specs.declared.transaction.RefEdit.{RefEdit}
use Rattle.gix_ref_edits.proofs.Joining.{after_round-append}
use Rattle.gix_ref_transaction.specs.Causes.{decoded, IsMisnamed}
use Rattle.gix_ref_transaction.specs.Parents.{first_parents, level_parents, parent_list, parents_from, parents_given}
use Rattle.gix_ref_transaction.specs.Splits.{symbolic_name_in, values_of, AreDirect, CanFollow, IsFirstMisnamed}
use Rattle.gix_ref_transaction.specs.internal.SplitRounds.{name_by, led_to, led_by, after_by, child_values, children_by, parents_by}
use Rattle.gix_ref_transaction.specs.declared.prepare.error.Error.{Error}
use Rattle.gix_ref_transaction.proofs.Firsts.{next_of, seen_of}

-- where a loose file leads
module _ (f : Layout) (kind : Kind) (prohibits : Bool) where
  abbrev git : Store
  git = store_of f (git_options kind prohibits)

  same_target : (target : TargetValue) → stripped_target f.namespace target ≡ as_read git target
  same_target (object_id id) = refl
  same_target (symbolic_name n) = refl

  pub leads_is : (loose : Loose) (file : Option (List ℕ)) → IsDecoded kind file loose → name_by f.namespace loose ≡ symbolic_name_in git (decoded git file)
  leads_is loose_files.Nothing file told = sym (ap (λ b. symbolic_name_in git (decoded git b)) told)
  leads_is loose_files.Folder file told = sym (ap (λ b. symbolic_name_in git (decoded git b)) told)
  leads_is (loose_files.Holds target) file told =
      ap target_name (same_target (target_value target)) ∙ ap (symbolic_name_in git) (sym (ap (decoded git) told.1 ∙ held_is kind told.0 (target_value target) told.2))
  leads_is (loose_files.Undecodable error) file told =
      sym (ap (symbolic_name_in git) (ap (decoded git) told.1 ∙ refused_none kind told.0 error told.2 told.3))

-- The edits of a list up to a place, and one more.

read_of : {X : Type 0} (xs ys : List X) (i : ℕ) (x : X) → drop i xs ≡ drop i ys → x ≡ get_or xs i x → x ≡ get_or ys i x
read_of xs ys i x same is =
    let at : (zs : List _) → get_or (drop i zs) 0 x ≡ get_or zs i x = λ zs. get_or-drop i zs 0 x ∙ ap (λ n. get_or zs n x) (omega arith) in
    is ∙ sym (at xs) ∙ ap (λ zs. get_or zs 0 x) same ∙ at ys

pub values_more : (xs : List RefEdit) (i : ℕ) (x : RefEdit) → i < length xs → x ≡ get_or xs i x → values_of (take (i + 1) xs) ≡ values_of (take i xs) ++ edit_value x ∷ []
values_more xs i x lt is = ap values_of (seen_of xs i x lt is) ∙ map-append edit_value (take i xs) (x ∷ [])

-- the first that may not be looked up
pub first_misnamed : (s : Store) (xs : List RefEdit) (i : ℕ) (x : RefEdit) (error : Error) → i < length xs → x ≡ get_or xs i x → All (CanFollow s) (values_of (take i xs)) → x.deref ≡ true →
    IsMisnamed s (name_of x) error → IsFirstMisnamed s (values_of xs) error
first_misnamed s xs i x error lt is before follows fault = record {
  before = values_of (take i xs);
  edit = edit_value x;
  after = values_of (drop (i + 1) xs);
  parts = ap values_of (sym (take-append-drop i xs)) ∙ map-append edit_value (take i xs) (drop i xs) ∙ ap (λ (l : List RefEdit). values_of (take i xs) ++ values_of l) (sym (next_of xs i x lt is));
  can_follow = before;
  follows = follows;
  fault = fault;
}

-- one more that leads there
pub led_more : (find : List ℕ → Option (List ℕ)) (names : List (Option FullName)) (name : Option FullName) (edits : List EditValue) (edit : EditValue) →
    led_to names ≡ led_by find edits → option_map full_bytes name ≡ referent find edit.name edit.deref → led_to (names ++ name ∷ []) ≡ led_by find (edits ++ edit ∷ [])
led_more find names name edits edit before here =
    map-append (λ (n : Option FullName). option_map full_bytes n) names (name ∷ [])
    ∙ (ap (λ (l : List (Option (List ℕ))). l ++ option_map full_bytes name ∷ []) before
    ∙ (ap (λ (n : Option (List ℕ)). led_by find edits ++ n ∷ []) here ∙ sym (map-append (λ (e : EditValue). referent find e.name e.deref) edits (edit ∷ []))))

-- a round over one edit more
after_by-more : (edits : List EditValue) (led : List (Option (List ℕ))) (edit : EditValue) (name : Option (List ℕ)) → length edits ≡ length led → after_by (edits ++ edit ∷ []) (led ++ name ∷ []) ≡ after_by edits led ++ looked_up edit name ∷ []
after_by-more [] [] edit name len = refl
after_by-more [] (n ∷ led) edit name len = absurd (omega (arith, len))
after_by-more (e ∷ edits) [] edit name len = absurd (omega (arith, len))
after_by-more (e ∷ edits) (n ∷ led) edit name len = ap (λ (l : List EditValue). looked_up e n ∷ l) (after_by-more edits led edit name (omega (arith, len)))

pub after_by-length : (edits : List EditValue) (led : List (Option (List ℕ))) → length led ≡ length edits → length (after_by edits led) ≡ length edits
after_by-length [] led len = refl
after_by-length (e ∷ edits) [] len = absurd (omega (arith, len))
after_by-length (e ∷ edits) (n ∷ led) len = let rest = after_by-length edits led (omega (arith, len)) in omega (arith, rest)

children_by-more : (edits : List EditValue) (led : List (Option (List ℕ))) (edit : EditValue) (name : Option (List ℕ)) → length edits ≡ length led → children_by (edits ++ edit ∷ []) (led ++ name ∷ []) ≡ children_by edits led ++ child_list edit name
children_by-more [] [] edit name len = append-nil (child_list edit name)
children_by-more [] (n ∷ led) edit name len = absurd (omega (arith, len))
children_by-more (e ∷ edits) [] edit name len = absurd (omega (arith, len))
children_by-more (e ∷ edits) (n ∷ led) edit name len =
    ap (λ (l : List EditValue). child_list e n ++ l) (children_by-more edits led edit name (omega (arith, len))) ∙ sym (append_assoc (child_list e n) (children_by edits led) (child_list edit name))

parents_by-more : (place : ℕ) (led : List (Option (List ℕ))) (name : Option (List ℕ)) → parents_by place (led ++ name ∷ []) ≡ parents_by place led ++ parent_list (place + length led) name
parents_by-more place [] name = append-nil (parent_list place name) ∙ ap (λ (k : ℕ). parent_list k name) {x = place} {y = place + 0} (omega arith)
parents_by-more place (n ∷ led) name =
    let next : suc place + length led ≡ place + length (n ∷ led) = omega arith in
    ap (λ (l : List (Option ℕ)). parent_list place n ++ l) (parents_by-more (suc place) led name ∙ ap (λ (k : ℕ). parents_by (suc place) led ++ parent_list k name) next)
    ∙ sym (append_assoc (parent_list place n) (parents_by (suc place) led) (parent_list (place + length (n ∷ led)) name))

-- the parent of a child, where there is one
abbrev pub parent_of : ℕ → Option RefEdit → List (Option ℕ)
parent_of place None = []
parent_of place (Some child) = Some place ∷ []

pub parent_is : (place : ℕ) (edit : EditValue) (child : Option RefEdit) (name : Option (List ℕ)) → child_values child ≡ child_list edit name → parent_of place child ≡ parent_list place name
parent_is place edit None None is = refl
parent_is place edit (Some child) (Some name) is = refl
parent_is place edit None (Some name) is = absurd (omega (arith, ap length is))
parent_is place edit (Some child) None is = absurd (omega (arith, ap length is))

module _ (start now : List RefEdit) (names left : List (Option FullName)) (i : ℕ) (x y : RefEdit) (name : Option FullName) (lt : i < length start) (lt' : i < length now) (named : i < length names)
    (same : drop i now ≡ drop i start) (same' : drop i left ≡ drop i names) (is : x ≡ get_or now i x) (is' : name ≡ get_or left i name) where
  seen : values_of (take (i + 1) start) ≡ values_of (take i start) ++ edit_value x ∷ []
  seen = values_more start i x lt (read_of now start i x same is)

  names_seen : take (i + 1) (led_to names) ≡ take i (led_to names) ++ option_map full_bytes name ∷ []
  names_seen =
      let f : Option FullName → Option (List ℕ) = λ n. option_map full_bytes n in
      take-map f (i + 1) names ∙ (ap (map f) (seen_of names i name named (read_of left names i name same' is'))
      ∙ (map-append f (take i names) (name ∷ []) ∙ ap (λ (l : List (Option (List ℕ))). l ++ f name ∷ []) (sym (take-map f i names))))

  as_many : length (values_of (take i start)) ≡ length (take i (led_to names))
  as_many =
      let f : Option FullName → Option (List ℕ) = λ n. option_map full_bytes n in
      length-map (take i start) edit_value ∙ (length-take-le i start (omega (arith, lt)) ∙ sym (length-take-le i (led_to names) (omega (arith, named, length-map names f))))

  pub after_more : edit_value y ≡ looked_up (edit_value x) (option_map full_bytes name) → values_of (take i now) ≡ after_by (values_of (take i start)) (take i (led_to names)) →
      values_of (take (i + 1) (set now i y)) ≡ after_by (values_of (take (i + 1) start)) (take (i + 1) (led_to names))
  after_more here before =
      ap values_of (take_more_set now i y lt') ∙ (map-append edit_value (take i now) (y ∷ [])
      ∙ (ap (λ (l : List EditValue). l ++ edit_value y ∷ []) before ∙ (ap (λ (v : EditValue). after_by (values_of (take i start)) (take i (led_to names)) ++ v ∷ []) here
      ∙ (sym (after_by-more (values_of (take i start)) (take i (led_to names)) (edit_value x) (option_map full_bytes name) as_many)
      ∙ (ap (λ (l : List EditValue). after_by l (take i (led_to names) ++ option_map full_bytes name ∷ [])) (sym seen)
      ∙ ap (λ (l : List (Option (List ℕ))). after_by (values_of (take (i + 1) start)) l) (sym names_seen))))))

  pub children_more : (kids child : List EditValue) → child ≡ child_list (edit_value x) (option_map full_bytes name) → kids ≡ children_by (values_of (take i start)) (take i (led_to names)) →
      kids ++ child ≡ children_by (values_of (take (i + 1) start)) (take (i + 1) (led_to names))
  children_more kids child here before =
      ap (λ (l : List EditValue). l ++ child) before ∙ (ap (λ (l : List EditValue). children_by (values_of (take i start)) (take i (led_to names)) ++ l) here
      ∙ (sym (children_by-more (values_of (take i start)) (take i (led_to names)) (edit_value x) (option_map full_bytes name) as_many)
      ∙ (ap (λ (l : List EditValue). children_by l (take i (led_to names) ++ option_map full_bytes name ∷ [])) (sym seen)
      ∙ ap (λ (l : List (Option (List ℕ))). children_by (values_of (take (i + 1) start)) l) (sym names_seen))))

  pub parents_more : (place : ℕ) (parents parent : List (Option ℕ)) → parent ≡ parent_list (place + i) (option_map full_bytes name) → parents ≡ parents_by place (take i (led_to names)) →
      parents ++ parent ≡ parents_by place (take (i + 1) (led_to names))
  parents_more place parents parent here before =
      let f : Option FullName → Option (List ℕ) = λ n. option_map full_bytes n in
      let far : i ≡ length (take i (led_to names)) = sym (length-take-le i (led_to names) (omega (arith, named, length-map names f))) in
      ap (λ (l : List (Option ℕ)). l ++ parent) before
      ∙ (ap (λ (l : List (Option ℕ)). parents_by place (take i (led_to names)) ++ l) (here ∙ ap (λ (k : ℕ). parent_list (place + k) (f name)) far)
      ∙ (sym (parents_by-more place (take i (led_to names)) (f name)) ∙ ap (parents_by place) (sym names_seen)))

-- Where each leads by a finder, a round is one over that finder.
module _ (find : List ℕ → Option (List ℕ)) where
  pub after_by_is : (edits : List EditValue) → after_by edits (led_by find edits) ≡ after_round find edits
  unfolding after_round
  after_by_is [] = refl
  after_by_is (edit ∷ edits) = ap (λ (l : List EditValue). looked_up edit (referent find edit.name edit.deref) ∷ l) (after_by_is edits)

  pub children_by_is : (edits : List EditValue) → children_by edits (led_by find edits) ≡ children find edits
  unfolding children
  children_by_is [] = refl
  children_by_is (edit ∷ edits) = ap (λ (l : List EditValue). child_list edit (referent find edit.name edit.deref) ++ l) (children_by_is edits)

  pub parents_by_is : (place : ℕ) (edits : List EditValue) → parents_by place (led_by find edits) ≡ parents_from find place edits
  unfolding parents_from
  parents_by_is place [] = refl
  parents_by_is place (edit ∷ edits) = ap (λ (l : List (Option ℕ)). parent_list place (referent find edit.name edit.deref) ++ l) (parents_by_is (suc place) edits)

  -- n rounds, and one more
  pub done_none : (edits : List EditValue) → [] ≡ after_round find (first_levels find edits 0)
  unfolding after_round first_levels
  done_none edits = refl

  pub level_none : (edits : List EditValue) → edits ≡ level find edits 0
  unfolding level
  level_none edits = refl

  pub first_parents_none : (edits : List EditValue) → [] ≡ first_parents find edits 0
  unfolding first_parents
  first_parents_none edits = refl

  pub level_parents_none : (edits : List EditValue) → parents_given edits ≡ level_parents find edits 0
  unfolding level_parents
  level_parents_none edits = refl

  pub can_none : (P : EditValue → Type 0) (edits : List EditValue) → All P (first_levels find edits 0)
  unfolding first_levels
  can_none P edits = All-nil P

  pub done_more : (edits : List EditValue) (n : ℕ) (done back after : List EditValue) → done ≡ after_round find (first_levels find edits n) → back ≡ level find edits n → after ≡ after_round find back →
      done ++ after ≡ after_round find (first_levels find edits (n + 1))
  unfolding first_levels
  done_more edits n done back after first is changed =
      ap (λ (l : List EditValue). l ++ after) first ∙ (ap (λ (l : List EditValue). after_round find (first_levels find edits n) ++ l) (changed ∙ ap (after_round find) is)
      ∙ (sym (after_round-append find (first_levels find edits n) (level find edits n)) ∙ ap (λ m. after_round find (first_levels find edits m)) (sym (add-one n))))

  pub level_more : (edits : List EditValue) (n : ℕ) (back kids : List EditValue) → back ≡ level find edits n → kids ≡ children find back → kids ≡ level find edits (n + 1)
  unfolding level
  level_more edits n back kids is split = split ∙ (ap (children find) is ∙ ap (level find edits) (sym (add-one n)))

  pub first_parents_more : (edits : List EditValue) (n : ℕ) (done back : List (Option ℕ)) → done ≡ first_parents find edits n → back ≡ level_parents find edits n → done ++ back ≡ first_parents find edits (n + 1)
  unfolding first_parents
  first_parents_more edits n done back first is =
      ap (λ (l : List (Option ℕ)). l ++ back) first ∙ (ap (λ (l : List (Option ℕ)). first_parents find edits n ++ l) is ∙ ap (first_parents find edits) (sym (add-one n)))

  -- the children of a level, which begins where the edits that had their rounds end
  pub level_parents_more : (edits : List EditValue) (n place : ℕ) (done : List RefEdit) (back : List EditValue) (parents : List (Option ℕ)) → place ≡ length done → values_of done ≡ after_round find (first_levels find edits n) →
      back ≡ level find edits n → parents ≡ parents_from find place back → parents ≡ level_parents find edits (n + 1)
  unfolding level_parents after_round
  level_parents_more edits n place done back parents at first is here =
      let far : place ≡ length (first_levels find edits n) =
      at ∙ (sym (length-map done edit_value) ∙ (ap length first ∙ length-map (first_levels find edits n) (λ (e : EditValue). looked_up e (referent find e.name e.deref)))) in
      here ∙ (ap (λ (k : ℕ). parents_from find k back) far ∙ (ap (parents_from find (length (first_levels find edits n))) is ∙ ap (level_parents find edits) (sym (add-one n))))

  pub can_more : (P : EditValue → Type 0) (edits : List EditValue) (n : ℕ) (back : List EditValue) → back ≡ level find edits n → All P (first_levels find edits n) → All P back → All P (first_levels find edits (n + 1))
  unfolding first_levels
  can_more P edits n back is first here =
      subst (λ m. All P (first_levels find edits m)) (sym (add-one n)) (All-append P (first_levels find edits n) (level find edits n) first (subst (All P) is here))

  -- more levels go on after the first ones
  levels_on : (edits : List EditValue) (n m total : ℕ) → total ≡ m + n → (rest : List EditValue) × (first_levels find edits total ≡ first_levels find edits n ++ rest)
  unfolding first_levels
  levels_on edits n zero total is = ([], ap (first_levels find edits) {x = total} {y = n} (omega (arith, is)) ∙ sym (append-nil (first_levels find edits n)))
  levels_on edits n (suc m) zero is = absurd (omega (arith, is))
  levels_on edits n (suc m) (suc total) is =
      let before = levels_on edits n m total (omega (arith, is)) in
      (before.0 ++ level find edits total, ap (λ (l : List EditValue). l ++ level find edits total) before.1 ∙ append_assoc (first_levels find edits n) before.0 (level find edits total))

  pub misnamed_on : (s : Store) (edits : List EditValue) (n m : ℕ) (back : List EditValue) (error : Error) → n < m → back ≡ level find edits n → All (CanFollow s) (first_levels find edits n) →
      IsFirstMisnamed s back error → IsFirstMisnamed s (first_levels find edits m) error
  unfolding first_levels
  misnamed_on s edits n m back error lt is first fault =
      let on = levels_on edits (suc n) (m - suc n) m (omega (arith, lt)) in
      let front = first_levels find edits n in
      record {
        before = front ++ fault.before;
        edit = fault.edit;
        after = fault.after ++ on.0;
        parts = on.1 ∙ (ap (λ (l : List EditValue). (front ++ l) ++ on.0) (sym is ∙ fault.parts)
            ∙ (append_assoc front (fault.before ++ fault.edit ∷ fault.after) on.0 ∙ (ap (λ (l : List EditValue). front ++ l) (append_assoc fault.before (fault.edit ∷ fault.after) on.0)
            ∙ sym (append_assoc front fault.before (fault.edit ∷ fault.after ++ on.0)))));
        can_follow = All-append (CanFollow s) front fault.before first fault.can_follow;
        follows = fault.follows;
        fault = fault.fault;
      }

-- Where no edit follows, the split list is the list itself.
module _ (find : List ℕ → Option (List ℕ)) (s : Store) where
  stays : (edit : EditValue) → edit.deref ≡ false → looked_up edit (referent find edit.name edit.deref) ≡ edit
  stays edit off = ap (λ b. looked_up edit (referent find edit.name b)) off ∙ ap (λ b. record { name = edit.name; change = edit.change; deref = b }) (sym off)

  all_stay : (edits : List EditValue) → All (λ (e : EditValue). e.deref ≡ false) edits → after_round find edits ≡ edits
  unfolding after_round
  all_stay [] off = refl
  all_stay (edit ∷ edits) off =
      let Off : EditValue → Type 0 = λ e. e.deref ≡ false in
      ap (λ (e : EditValue). e ∷ after_round find edits) (stays edit (All-head Off edit edits off)) ∙ ap (λ (l : List EditValue). edit ∷ l) (all_stay edits (All-tail Off edit edits off))

  no_children : (edits : List EditValue) → All (λ (e : EditValue). e.deref ≡ false) edits → children find edits ≡ []
  unfolding children
  no_children [] off = refl
  no_children (edit ∷ edits) off =
      let Off : EditValue → Type 0 = λ e. e.deref ≡ false in
      ap (λ b. child_list edit (referent find edit.name b) ++ children find edits) (All-head Off edit edits off) ∙ no_children edits (All-tail Off edit edits off)

  levels_none : (edits : List EditValue) → All (λ (e : EditValue). e.deref ≡ false) edits → (k : ℕ) → level find edits (suc k) ≡ []
  unfolding level children
  levels_none edits off zero = no_children edits off
  levels_none edits off (suc k) = ap (children find) (levels_none edits off k)

  first_alone : (edits : List EditValue) → All (λ (e : EditValue). e.deref ≡ false) edits → (k : ℕ) → first_levels find edits (suc k) ≡ edits
  unfolding first_levels level
  first_alone edits off zero = refl
  first_alone edits off (suc k) = ap (λ (l : List EditValue). l ++ level find edits (suc k)) (first_alone edits off k) ∙ (ap (λ (l : List EditValue). edits ++ l) (levels_none edits off k) ∙ append-nil edits)

  pub direct_split : (edits : List EditValue) → All (λ (e : EditValue). e.deref ≡ false) edits → IsSplitList find edits edits
  direct_split edits off = record {
    ends = levels_none edits off 4;
    levels = sym (ap (after_round find) (first_alone edits off 4) ∙ all_stay edits off);
  }

  no_parents : (place : ℕ) (edits : List EditValue) → All (λ (e : EditValue). e.deref ≡ false) edits → parents_from find place edits ≡ []
  unfolding parents_from
  no_parents place [] off = refl
  no_parents place (edit ∷ edits) off =
      let Off : EditValue → Type 0 = λ e. e.deref ≡ false in
      ap (λ b. parent_list place (referent find edit.name b) ++ parents_from find (suc place) edits) (All-head Off edit edits off) ∙ no_parents (suc place) edits (All-tail Off edit edits off)

  later_parents : (edits : List EditValue) → All (λ (e : EditValue). e.deref ≡ false) edits → (k : ℕ) → level_parents find edits (suc k) ≡ []
  unfolding level_parents level
  later_parents edits off zero = no_parents (length (first_levels find edits zero)) edits off
  later_parents edits off (suc k) = ap (parents_from find (length (first_levels find edits (suc k)))) (levels_none edits off k) ∙ no_parents (length (first_levels find edits (suc k))) [] (All-nil (λ (e : EditValue). e.deref ≡ false))

  pub direct_parents : (edits : List EditValue) → All (λ (e : EditValue). e.deref ≡ false) edits → (k : ℕ) → parents_given edits ≡ first_parents find edits (suc k)
  unfolding first_parents level_parents
  direct_parents edits off zero = refl
  direct_parents edits off (suc k) = sym (append-nil (parents_given edits)) ∙ (ap (λ (l : List (Option ℕ)). l ++ []) (direct_parents edits off k) ∙ ap (λ (l : List (Option ℕ)). first_parents find edits (suc k) ++ l) (sym (later_parents edits off k)))

  pub direct_can : (edits : List EditValue) → All (λ (e : EditValue). e.deref ≡ false) edits → All (CanFollow s) (first_levels find edits 5)
  direct_can edits off = subst (All (CanFollow s)) (sym (first_alone edits off 4)) (λ k d lt follows. absurd (off_on (off k d lt) follows))
    where
      off_on : {b : Bool} → b ≡ false → b ≡ true → ⊥
      off_on h e = cc

-- only nothing is a copy of nothing
pub none_alone : (R : Option ℕ → Type 0) → ((n : ℕ) → R (Some n) → ⊥) → (parent : Option ℕ) → R parent → parent ≡ None
none_alone R never None is = refl
none_alone R never (Some n) is = absurd (never n is)

-- edits that are given have no parents
pub none_given : (edits : List RefEdit) → replicate (length edits) None ≡ parents_given (values_of edits)
none_given [] = refl
none_given (edit ∷ edits) = ap (λ (l : List (Option ℕ)). None ∷ l) (none_given edits)

pub direct_values : (edits : List RefEdit) → AreDirect edits → All (λ (e : EditValue). e.deref ≡ false) (values_of edits)
direct_values [] off = All-nil (λ (e : EditValue). e.deref ≡ false)
direct_values (edit ∷ edits) off =
    let Off : RefEdit → Type 0 = λ (e : RefEdit). e.deref ≡ false in
    All-cons (λ (e : EditValue). e.deref ≡ false) (edit_value edit) (values_of edits) (All-head Off edit edits off) (direct_values edits (All-tail Off edit edits off))
