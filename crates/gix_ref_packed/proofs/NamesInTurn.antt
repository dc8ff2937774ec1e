-- The names that a partial name asks for, one after the other.
use Rattle.std.proofs.Common.{◌≡◌, ◌≢◌, ◌⊎◌, inl, inr, ⊎_elim, ℕ, Bool, true, false, not, ◌||◌, ◌&&◌, cond, List, [], ◌∷◌, ◌++◌, codes, nat_eq, length, drop, refl, sym, ◌∙◌, ap, subst, Option, Some, None, Result, Ok, Err, IsErrAnd, Contains, append-nil}
use Rattle.std.specs.List.{starts_with, list_any, list_all}
use Rattle.std.specs.Option.{option_map}
use Rattle.std.proofs.lemmas.Slice.Eq.{starts_is}
use Rattle.std.proofs.lemmas.Bool.Decides.{Decides-eqb}
use Rattle.gix_ref_hash.specs.declared.hash.Kind.{Kind}
use Rattle.gix_ref_name.specs.declared.name.error.Error.TheVariants.{SomeLowercase}
use Rattle.gix_ref_hash.specs.Bytes.{is_slash}
use Rattle.gix_ref_name.specs.NameGrammar.{IsFullName, IsPartialName, full_error, full_rule, first_reported, reported_if, is_pseudo_byte}
use Rattle.gix_ref_target.specs.Locations.{key_outside}
use Rattle.gix_ref_packed_text.specs.declared.packed.reference.Reference.{Reference}
use Rattle.gix_ref_packed.specs.declared.packed.find.ParseError.{ParseError}
use Rattle.gix_ref_packed.specs.declared.packed.find.Error.{Error}
use Rattle.gix_ref_packed.specs.declared.packed.find.Error.TheVariants.{RefnameValidation, Parse, Memory}
use Rattle.gix_ref_target.specs.PackedRecords.{Record, record_named}
use Rattle.gix_ref_packed_text.specs.RecordGrammar.{Forms, Ascending}
use Rattle.gix_ref_packed_text.specs.Positions.{IsNotMalformed}
use Rattle.gix_ref_packed_text.specs.Views.{record_of}
use Rattle.gix_ref_packed.specs.AskedNames.{key_alone, four_names, asked_keys, or_else, first_named}
use Rattle.gix_ref_packed.specs.Searches.{Finds, FindsOne, FindsPartial}
use Rattle.gix_ref_packed_text.proofs.RecordPlaces.{forms_of}
use Rattle.gix_ref_name.specs.Candidates.{is_full_ref_path}

pub asks_four : (p : List ℕ) → is_full_ref_path p ≡ false → asked_keys p ≡ four_names p
asks_four p partial = ap (λ b. cond b (key_alone (key_outside p)) (four_names p)) partial

pub asks_key : (p : List ℕ) (key : Option (List ℕ)) → is_full_ref_path p ≡ true → key ≡ key_outside p → asked_keys p ≡ key_alone key
asks_key p key rooted is = ap (λ b. cond b (key_alone (key_outside p)) (four_names p)) rooted ∙ ap key_alone (sym is)

-- an error that is this one
pub is_err : {A E : Type 0} (P : Result A E → Type 0) (r : Result A E) (e : E) → IsErrAnd r (λ x. x ≡ e) → P (Err e) → P r
is_err P (Ok x) e is h = absurd is
is_err P (Err x) e is h = subst (λ y. P (Err y)) (sym is) h

-- no record has the name
abbrev pub Misses : Kind → List ℕ → List ℕ → Type 0
Misses k t n = (rs : List Record) → Forms k t rs → Ascending rs → record_named n rs ≡ None

abbrev pub MissesAll : Kind → List ℕ → List (List ℕ) → Type 0
MissesAll k t [] = Unit {0}
MissesAll k t (n ∷ names) = Misses k t n × MissesAll k t names

pub missed : (k : Kind) (t n : List ℕ) (o : Option Reference) → o ≡ None → Finds {E = ParseError} k t n (Ok o) → Misses k t n
missed k t n o none finds = λ rs h up. sym (finds.forms rs h up) ∙ ap (option_map record_of) none

skip : (k : Kind) (t : List ℕ) (rs : List Record) → Forms k t rs → Ascending rs → (pre names : List (List ℕ)) → MissesAll k t pre → first_named (pre ++ names) rs ≡ first_named names rs
skip k t rs h up [] names m = refl
skip k t rs h up (n ∷ pre) names m = ap (λ o. or_else o (first_named (pre ++ names) rs)) (m.0 rs h up) ∙ skip k t rs h up pre names m.1

module _ (k : Kind) (t p : List ℕ) (pre post : List (List ℕ)) (n : List ℕ) (wanted : asked_keys p ≡ pre ++ n ∷ post) (before : MissesAll k t pre) (has : Contains (pre ++ n ∷ post) n) where
  first_is : (rs : List Record) → Forms k t rs → Ascending rs → (r : Record) → Some r ≡ record_named n rs → Some r ≡ first_named (asked_keys p) rs
  first_is rs h up r here =
      ap (λ o. or_else o (first_named post rs)) here ∙ sym (skip k t rs h up pre (n ∷ post) before) ∙ ap (λ names. first_named names rs) (sym wanted)

  pub found_for : (o : Option Reference) (r : Reference) → o ≡ Some r → Finds {E = ParseError} k t n (Ok o) → FindsPartial k t p (Ok (Some r))
  found_for None r is finds = absurd (cc)
  found_for (Some x) r is finds =
      let one : Finds {E = ParseError} k t n (Ok (Some r)) = subst (λ (o : Option Reference). Finds {E = ParseError} k t n (Ok o)) is finds in
      record {
        hit = record { wanted = subst (λ (names : List (List ℕ)). Contains names (record_of r).name) (sym wanted) (subst (Contains (pre ++ n ∷ post)) (sym one.hit.0) has); begins = one.hit.1 };
        none = tt;
        refused = tt;
        records = λ rs h up. first_is rs (forms_of k t rs h) up (record_of r) (one.records rs h up);
        forms = λ rs h up. first_is rs h up (record_of r) (one.forms rs h up);
      }

  pub failed_for : (e : ParseError) → Finds k t n (Err e) → FindsPartial k t p (Err Parse)
  failed_for e finds = record {
    hit = tt;
    none = tt;
    refused = (n, subst (λ (names : List (List ℕ)). Contains names n) (sym wanted) has, finds.refused);
    records = λ rs h up. absurd (finds.records rs h up);
    forms = λ rs h up. (n, subst (λ (names : List (List ℕ)). Contains names n) (sym wanted) has, finds.forms rs h up);
  }

  pub fails_for : (e : Error) → is_full_ref_path p ≡ false → FindsOne k t n (Err e) → FindsPartial k t p (Err e)
  fails_for Parse partial finds = failed_for finds.0 finds.1
  fails_for Memory partial finds = record { hit = tt; none = tt; refused = partial; records = λ rs h up. refl; forms = λ rs h up. tt }
  fails_for (RefnameValidation x) partial finds = absurd finds

pub none_left : (k : Kind) (t p : List ℕ) (names : List (List ℕ)) → asked_keys p ≡ names → MissesAll k t names → (names ≢ [] → IsNotMalformed k t) → FindsPartial k t p (Ok None)
none_left k t p names wanted before line = record { hit = tt; none = λ some. line (λ empty. some (wanted ∙ empty)); refused = tt; records = λ rs h up. none rs (forms_of k t rs h) up; forms = none }
  where
    none : (rs : List Record) → Forms k t rs → Ascending rs → None ≡ first_named (asked_keys p) rs
    none rs h up = sym (ap (λ xs. first_named xs rs) (wanted ∙ sym (append-nil names)) ∙ skip k t rs h up names [] before)

add_last : (k : Kind) (t : List ℕ) (pre : List (List ℕ)) (n : List ℕ) → MissesAll k t pre → Misses k t n → MissesAll k t (pre ++ n ∷ [])
add_last k t [] n before last = (last, tt)
add_last k t (m ∷ pre) n before last = (before.0, add_last k t pre n before.1 last)

pub last_for : (k : Kind) (t p : List ℕ) (pre : List (List ℕ)) (n : List ℕ) → asked_keys p ≡ pre ++ n ∷ [] → MissesAll k t pre → Contains (pre ++ n ∷ []) n → (o : Option Reference) → Finds {E = ParseError} k t n (Ok o) → FindsPartial k t p (Ok o)
last_for k t p pre n wanted before has (Some r) finds = found_for k t p pre [] n wanted before has (Some r) r refl finds
last_for k t p pre n wanted before has None finds = none_left k t p (pre ++ n ∷ []) wanted (add_last k t pre n before (missed k t n None refl finds)) (λ some. finds.none)

pub last_answer : (k : Kind) (t p : List ℕ) (pre : List (List ℕ)) (n : List ℕ) → asked_keys p ≡ pre ++ n ∷ [] → MissesAll k t pre → Contains (pre ++ n ∷ []) n → is_full_ref_path p ≡ false → (r : Result (Option Reference) Error) → FindsOne k t n r → FindsPartial k t p r
last_answer k t p pre n wanted before has partial (Ok o) finds = last_for k t p pre n wanted before has o finds
last_answer k t p pre n wanted before has partial (Err e) finds = fails_for k t p pre [] n wanted before has e partial finds

or_true : (x y : Bool) → (x || y) ≡ true → (x ≡ true) ⊎ (y ≡ true)
or_true true y h = inl refl
or_true false y h = inr h

begins : (p front : List ℕ) → starts_with nat_eq p front ≡ true → p ≡ front ++ drop (length front) p
begins p front h = (starts_is Decides-eqb p front (starts_with nat_eq p front) refl).0 h

has_slash : (p : List ℕ) → is_full_ref_path p ≡ true → list_any is_slash p ≡ true
has_slash p rooted = ⊎_elim
    (λ (first : (starts_with nat_eq p (codes "refs/") || starts_with nat_eq p (codes "main-worktree/")) ≡ true).
    ⊎_elim (λ (h : starts_with nat_eq p (codes "refs/") ≡ true). ap (list_any is_slash) (begins p (codes "refs/") h))
    (λ (h : starts_with nat_eq p (codes "main-worktree/") ≡ true). ap (list_any is_slash) (begins p (codes "main-worktree/") h)) (or_true _ _ first))
    (λ (h : starts_with nat_eq p (codes "worktrees/") ≡ true). ap (list_any is_slash) (begins p (codes "worktrees/") h))
    (or_true _ _ rooted)

-- a partial name with a slash is a full one
pub rooted_is_full : (p : List ℕ) → IsPartialName p → is_full_ref_path p ≡ true → IsFullName p
unfolding full_error
rooted_is_full p valid rooted =
    ap (λ o. first_reported (o ∷ full_rule p ∷ [])) valid
    ∙ ap (λ b. first_reported (reported_if (not b && not (list_all is_pseudo_byte p)) SomeLowercase ∷ [])) (has_slash p rooted)
