-- Partial names, rule by rule and component by component: what a name is made of, and what may be put in front of it.
use Rattle.std.proofs.Common.{◌≡◌, ℕ, suc, ◌-◌, Bool, true, false, ◌||◌, ◌&&◌, List, [], ◌∷◌, ◌++◌, length, take, drop, refl, sym, ◌∙◌, ap, Option, Some, None, codes, nat_eq, cond, eqb, ne_eqb, eq-eqb, arith}
use Rattle.std.specs.List.{All, list_any, find, starts_with, ends_with}
use Rattle.std.specs.Cmp.Lexicographic.{pointwise}
use Rattle.std.specs.Option.{option_map}
use Rattle.std.proofs.lemmas.List.Splits.{slice_split_at, slice_split_none}
use Rattle.std.proofs.lemmas.List.Elements.{All-head, All-tail}
use Rattle.gix_ref_name.specs.declared.name.error.Error.{Error}
use Rattle.gix_ref_hash.specs.Bytes.{NoByte, is_empty, is_slash, occurs, components}
use Rattle.gix_ref_name.specs.NameGrammar.{is_invalid, byte_error, is_dotted, is_locked, reported_if, first_reported, partial_error, IsPartialName}
use Rattle.gix_ref_hash.proofs.ByteLemmas.{IsApart, apart}

-- every rule but the one that a name is not `@` alone
pub record IsPath (n : List ℕ) : Type 0 where
  pub some : is_empty n ≡ false
  pub valid : find is_invalid n ≡ None
  pub start : starts_with nat_eq n (codes "/") ≡ false
  pub end : ends_with nat_eq n (codes "/") ≡ false
  pub slashes : occurs (codes "//") n ≡ false
  pub dotted : list_any is_dotted (components n) ≡ false
  pub last_dot : ends_with nat_eq n (codes ".") ≡ false
  pub dots : occurs (codes "..") n ≡ false
  pub locked : list_any is_locked (components n) ≡ false
  pub portion : occurs (codes "@{") n ≡ false

-- what is between two slashes of a partial name
pub record IsComponent (c : List ℕ) : Type 0 where
  pub some : is_empty c ≡ false
  pub valid : find is_invalid c ≡ None
  pub no_slash : NoByte 47 c
  pub dotted : is_dotted c ≡ false
  pub dots : occurs (codes "..") c ≡ false
  pub locked : is_locked c ≡ false
  pub portion : occurs (codes "@{") c ≡ false

not_told : (b : Bool) (e : Error) (rest : List (Option Error)) → first_reported (reported_if b e ∷ rest) ≡ None → (b ≡ false) × (first_reported rest ≡ None)
not_told true e rest h = absurd (cc)
not_told false e rest h = (refl, h)

no_byte_told : (o : Option ℕ) (rest : List (Option Error)) → first_reported (option_map byte_error o ∷ rest) ≡ None → (o ≡ None) × (first_reported rest ≡ None)
no_byte_told (Some b) rest h = absurd (cc)
no_byte_told None rest h = (refl, h)

tells_not : (b : Bool) (e : Error) (rest : List (Option Error)) → b ≡ false → first_reported rest ≡ None → first_reported (reported_if b e ∷ rest) ≡ None
tells_not true e rest off h = absurd (cc)
tells_not false e rest off h = h

tells_no_byte : (o : Option ℕ) (rest : List (Option Error)) → o ≡ None → first_reported rest ≡ None → first_reported (option_map byte_error o ∷ rest) ≡ None
tells_no_byte (Some b) rest off h = absurd (cc)
tells_no_byte None rest off h = h

-- a partial name keeps each rule
pub rules_of : (n : List ℕ) → IsPartialName n → IsPath n × (pointwise nat_eq n (codes "@") ≡ false)
unfolding partial_error
rules_of n h =
    let r1 = not_told _ _ _ h in
    let r2 = no_byte_told _ _ r1.1 in
    let r3 = not_told _ _ _ r2.1 in
    let r4 = not_told _ _ _ r3.1 in
    let r5 = not_told _ _ _ r4.1 in
    let r6 = not_told _ _ _ r5.1 in
    let r7 = not_told _ _ _ r6.1 in
    let r8 = not_told _ _ _ r7.1 in
    let r9 = not_told _ _ _ r8.1 in
    let r10 = not_told _ _ _ r9.1 in
    let r11 = not_told _ _ _ r10.1 in (
      record {
        some = r1.0;
        valid = r2.0;
        start = r3.0;
        end = r4.0;
        slashes = r5.0;
        dotted = r6.0;
        last_dot = r7.0;
        dots = r8.0;
        locked = r9.0;
        portion = r10.0;
      },
      r11.0,
    )

-- what keeps each rule is a partial name
pub name_of_rules : (n : List ℕ) → IsPath n → pointwise nat_eq n (codes "@") ≡ false → IsPartialName n
unfolding partial_error
name_of_rules n p single =
    tells_not _ _ _ p.some (
    tells_no_byte _ _ p.valid (
    tells_not _ _ _ p.start (
    tells_not _ _ _ p.end (
    tells_not _ _ _ p.slashes (
    tells_not _ _ _ p.dotted (
    tells_not _ _ _ p.last_dot (
    tells_not _ _ _ p.dots (tells_not _ _ _ p.locked (tells_not _ _ _ p.portion (tells_not _ _ _ single refl)))
    )
    )
    )
    )
    )
    )
    )

pub or_none : (a b : Bool) → (a || b) ≡ false → (a ≡ false) × (b ≡ false)
or_none true b h = absurd (cc)
or_none false b h = (refl, h)

pub none_or : (a b : Bool) → a ≡ false → b ≡ false → (a || b) ≡ false
none_or true b h k = absurd (cc)
none_or false b h k = k

-- no byte of a kind in front, none after
find-append : (p : ℕ → Bool) (c n : List ℕ) → find p (c ++ n) ≡ None → (find p c ≡ None) × (find p n ≡ None)
find-append p [] n h = (refl, h)
find-append p (x ∷ c) n h = go (p x) refl (find-append p c n)
  where
    go : (b : Bool) → p x ≡ b → (find p (c ++ n) ≡ None → (find p c ≡ None) × (find p n ≡ None)) → (find p (x ∷ c) ≡ None) × (find p n ≡ None)
    go true here rest = let told : find p (x ∷ (c ++ n)) ≡ Some x = ap (λ v. cond v (Some x) (find p (c ++ n))) here in absurd (cc)
    go false other rest =
        let both = rest (sym (ap (λ v. cond v (Some x) (find p (c ++ n))) other) ∙ h) in
        (ap (λ v. cond v (Some x) (find p c)) other ∙ both.0, both.1)

append-find : (p : ℕ → Bool) (c n : List ℕ) → find p c ≡ None → find p n ≡ None → find p (c ++ n) ≡ None
append-find p [] n h k = k
append-find p (x ∷ c) n h k = go (p x) refl (λ h. append-find p c n h k)
  where
    go : (b : Bool) → p x ≡ b → (find p c ≡ None → find p (c ++ n) ≡ None) → find p (x ∷ (c ++ n)) ≡ None
    go true here rest = let told : find p (x ∷ c) ≡ Some x = ap (λ v. cond v (Some x) (find p c)) here in absurd (cc)
    go false other rest =
        ap (λ v. cond v (Some x) (find p (c ++ n))) other
        ∙ rest (sym (ap (λ v. cond v (Some x) (find p c)) other) ∙ h)

-- the last byte is that of what follows
pub last-cons : (x y : ℕ) (n : List ℕ) (z : ℕ) → ends_with nat_eq (x ∷ y ∷ n) (z ∷ []) ≡ ends_with nat_eq (y ∷ n) (z ∷ [])
last-cons x y n z =
    let long : length (x ∷ y ∷ n) - 1 ≡ suc (length n) = omega arith in
    let short : length (y ∷ n) - 1 ≡ length n = omega arith in
    ap (λ k. pointwise nat_eq (z ∷ []) (drop k (x ∷ y ∷ n))) long ∙ sym (ap (λ k. pointwise nat_eq (z ∷ []) (drop k (y ∷ n))) short)

last-append : (c : List ℕ) (y : ℕ) (n : List ℕ) (z : ℕ) → ends_with nat_eq (c ++ y ∷ n) (z ∷ []) ≡ ends_with nat_eq (y ∷ n) (z ∷ [])
last-append [] y n z = refl
last-append (x ∷ []) y n z = last-cons x y n z
last-append (x ∷ w ∷ c) y n z = last-cons x w (c ++ y ∷ n) z ∙ last-append (w ∷ c) y n z

-- after a slash, of what is not empty
last-behind : (c n : List ℕ) (z : ℕ) → is_empty n ≡ false → ends_with nat_eq (c ++ 47 ∷ n) (z ∷ []) ≡ ends_with nat_eq n (z ∷ [])
last-behind c [] z some = absurd (cc)
last-behind c (y ∷ n) z some = last-append c 47 (y ∷ n) z ∙ last-cons 47 y n z

and_false : (a : Bool) → (a && false) ≡ false
and_false true = refl
and_false false = refl

or_assoc : (a b c : Bool) → ((a || b) || c) ≡ (a || (b || c))
or_assoc true b c = refl
or_assoc false b c = refl

abbrev pair : ℕ → ℕ → List ℕ
pair a b = a ∷ b ∷ []

-- a slash in front adds no pair that begins with another byte
pair-behind : (a b : ℕ) (n : List ℕ) → eqb a 47 ≡ false → occurs (pair a b) (47 ∷ n) ≡ occurs (pair a b) n
pair-behind a b n no_a = ap (λ v. (v && pointwise nat_eq (b ∷ []) (take 1 n)) || occurs (pair a b) n) no_a

pair-append : (a b : ℕ) (c n : List ℕ) → eqb a 47 ≡ false → eqb b 47 ≡ false → occurs (pair a b) (c ++ 47 ∷ n) ≡ (occurs (pair a b) c || occurs (pair a b) n)
pair-append a b [] n no_a no_b = pair-behind a b n no_a
pair-append a b (x ∷ []) n no_a no_b =
    ap (λ v. (eqb a x && (v && true)) || occurs (pair a b) (47 ∷ n)) no_b
    ∙ ap (λ v. v || occurs (pair a b) (47 ∷ n)) (and_false (eqb a x))
    ∙ pair-behind a b n no_a
    ∙ sym (ap (λ v. (v || false) || occurs (pair a b) n) (and_false (eqb a x)))
pair-append a b (x ∷ y ∷ c) n no_a no_b =
    ap (λ v. (eqb a x && (eqb b y && true)) || v) (pair-append a b (y ∷ c) n no_a no_b)
    ∙ sym (or_assoc (eqb a x && (eqb b y && true)) (occurs (pair a b) (y ∷ c)) (occurs (pair a b) n))

no_slash_sym : (x : ℕ) → eqb x 47 ≡ false → eqb 47 x ≡ false
no_slash_sym x other = ne_eqb 47 x (λ same. let yes : eqb x 47 ≡ true = eq-eqb x 47 (sym same) in absurd cc)

-- two slashes are after what has none
slashes-append : (c n : List ℕ) → All (IsApart 47) c → occurs (codes "//") (c ++ 47 ∷ n) ≡ occurs (codes "//") (47 ∷ n)
slashes-append [] n h = refl
slashes-append (x ∷ c) n h =
    ap (λ v. (v && pointwise nat_eq (47 ∷ []) (take 1 (c ++ 47 ∷ n))) || occurs (codes "//") (c ++ 47 ∷ n)) (no_slash_sym x (All-head (IsApart 47) x c h))
    ∙ slashes-append c n (All-tail (IsApart 47) x c h)

pub cut : (c n : List ℕ) → NoByte 47 c → components (c ++ 47 ∷ n) ≡ c ∷ components n
cut c n none = slice_split_at is_slash c 47 n (apart 47 c none) refl

-- the first component of a path and what is after it
pub first_component : (c n : List ℕ) → NoByte 47 c → IsPath (c ++ 47 ∷ n) → IsComponent c × IsPath n
first_component c n none p =
    let valid = find-append is_invalid c (47 ∷ n) p.valid in
    let dotted = or_none _ _ (ap (list_any is_dotted) (sym (cut c n none)) ∙ p.dotted) in
    let locked = or_none _ _ (ap (list_any is_locked) (sym (cut c n none)) ∙ p.locked) in
    let dots = or_none _ _ (sym (pair-append 46 46 c n refl refl) ∙ p.dots) in
    let portion = or_none _ _ (sym (pair-append 64 123 c n refl refl) ∙ p.portion) in
    let slashes = or_none _ _ (sym (slashes-append c n (apart 47 c none)) ∙ p.slashes) in
    let behind = some_behind n p.end in (
      record {
        some = some_before c p.start;
        valid = valid.0;
        no_slash = none;
        dotted = dotted.0;
        dots = dots.0;
        locked = locked.0;
        portion = portion.0;
      },
      record {
        some = behind;
        valid = valid.1;
        start = slashes.0;
        end = sym (last-behind c n 47 behind) ∙ p.end;
        slashes = slashes.1;
        dotted = dotted.1;
        last_dot = sym (last-behind c n 46 behind) ∙ p.last_dot;
        dots = dots.1;
        locked = locked.1;
        portion = portion.1;
      },
    )
  where
    some_before : (c : List ℕ) → starts_with nat_eq (c ++ 47 ∷ n) (codes "/") ≡ false → is_empty c ≡ false
    some_before [] h = absurd (cc)
    some_before (x ∷ c) h = refl

    some_behind : (n : List ℕ) → ends_with nat_eq (c ++ 47 ∷ n) (codes "/") ≡ false → is_empty n ≡ false
    some_behind [] h = let yes : ends_with nat_eq (c ++ 47 ∷ []) (codes "/") ≡ true = last-append c 47 [] 47 in absurd (cc)
    some_behind (x ∷ n) h = refl

-- a path without a slash is one component
pub last_component : (c : List ℕ) → NoByte 47 c → IsPath c → IsComponent c
last_component c none p =
    let one : components c ≡ c ∷ [] = slice_split_none is_slash c (apart 47 c none) in
    record {
      some = p.some;
      valid = p.valid;
      no_slash = none;
      dotted = (or_none _ _ (ap (list_any is_dotted) (sym one) ∙ p.dotted)).0;
      dots = p.dots;
      locked = (or_none _ _ (ap (list_any is_locked) (sym one) ∙ p.locked)).0;
      portion = p.portion;
    }

-- a partial name after a component and a slash is one
pub behind_component : (c n : List ℕ) → IsComponent c → IsPartialName n → IsPartialName (c ++ 47 ∷ n)
behind_component c n h name =
    let p = (rules_of n name).0 in
    name_of_rules (c ++ 47 ∷ n) (record {
      some = some_whole c;
      valid = append-find is_invalid c (47 ∷ n) h.valid p.valid;
      start = no_start c h.some (apart 47 c h.no_slash);
      end = last-behind c n 47 p.some ∙ p.end;
      slashes = slashes-append c n (apart 47 c h.no_slash) ∙ none_or _ _ p.start p.slashes;
      dotted = ap (list_any is_dotted) (cut c n h.no_slash) ∙ none_or _ _ h.dotted p.dotted;
      last_dot = last-behind c n 46 p.some ∙ p.last_dot;
      dots = pair-append 46 46 c n refl refl ∙ none_or _ _ h.dots p.dots;
      locked = ap (list_any is_locked) (cut c n h.no_slash) ∙ none_or _ _ h.locked p.locked;
      portion = pair-append 64 123 c n refl refl ∙ none_or _ _ h.portion p.portion;
    }) (not_at c h.some)
  where
    some_whole : (c : List ℕ) → is_empty (c ++ 47 ∷ n) ≡ false
    some_whole [] = refl
    some_whole (x ∷ c) = refl

    no_start : (c : List ℕ) → is_empty c ≡ false → All (IsApart 47) c → starts_with nat_eq (c ++ 47 ∷ n) (codes "/") ≡ false
    no_start [] some h = absurd (cc)
    no_start (x ∷ c) some h = ap (λ v. v && true) (no_slash_sym x (All-head (IsApart 47) x c h))

    not_at : (c : List ℕ) → is_empty c ≡ false → pointwise nat_eq (c ++ 47 ∷ n) (codes "@") ≡ false
    not_at [] some = absurd (cc)
    not_at (x ∷ []) some = and_false (eqb x 64)
    not_at (x ∷ y ∷ c) some = and_false (eqb x 64)
