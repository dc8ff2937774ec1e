-- What a list of writes does to one path.
use Rattle.std.proofs.Common.{◌≡◌, ◌≢◌, ℕ, List, [], ◌∷◌, ◌++◌, Option, Some, None, Bool, true, false, ◌||◌, cond, refl, sym, ap, ◌∙◌, subst, inl, inr, bytes_eq, ◌⊎◌}
use Rattle.std.proofs.lemmas.Bool.{or_left, or_right, or_cases, or_parts, false_from_ne_true, cond-true, cond-false, false≢true, cases_Bool}
use Rattle.std.proofs.lemmas.Slice.Eq.{bytes_eq-Decides}
use Rattle.gix_ref_target.specs.Layout.{below}
use Rattle.gix_ref_theory.specs.Views.{Ending, IsPartOf, IsLeftByWrites, IsSameView, View, Write, after, after_write, file_bytes}
use Rattle.gix_ref_theory.specs.Views.Write.{Append, Put, Remove}

-- what a stop inside this write may leave
abbrev pub IsPart : Ending → Write → View → View → Type 0
IsPart k (Append path bytes) view left = (part : List ℕ) × IsPartOf k part bytes × IsSameView left (after_write (Append path part) view)
IsPart k (Put path bytes) view left = IsSameView left view
IsPart k (Remove path) view left = IsSameView left view

-- a stop before the end of the first of these writes
abbrev pub IsStoppedAt : Ending → List Write → View → View → Type 0
IsStoppedAt k [] view left = IsSameView left view
IsStoppedAt k (write ∷ writes) view left = IsSameView left view ⊎ IsPart k write view left

-- The place of a stop: the writes that are done, and the rest, of whose first one a part may be.
pub record IsCut (k : Ending) (writes : List Write) (view left : View) : Type 0 where
  pub done : List Write
  pub rest : List Write
  pub whole : done ++ rest ≡ writes
  pub stopped : IsStoppedAt k rest (after done view) left

-- every stop has its place
pub cut_at : (k : Ending) (writes : List Write) (view left : View) → IsLeftByWrites k writes view left → IsCut k writes view left
cut_at k [] view left h = record { done = []; rest = []; whole = refl; stopped = h }
cut_at k (Append path bytes ∷ writes) view left (inl (inl h)) = record { done = []; rest = Append path bytes ∷ writes; whole = refl; stopped = inl h }
cut_at k (Append path bytes ∷ writes) view left (inl (inr h)) = record { done = []; rest = Append path bytes ∷ writes; whole = refl; stopped = inr h }
cut_at k (Put path bytes ∷ writes) view left (inl h) = record { done = []; rest = Put path bytes ∷ writes; whole = refl; stopped = inl h }
cut_at k (Remove path ∷ writes) view left (inl h) = record { done = []; rest = Remove path ∷ writes; whole = refl; stopped = inl h }
cut_at k (write ∷ writes) view left (inr h) =
    let l = cut_at k writes (after_write write view) left h in
    record { done = write ∷ l.done; rest = l.rest; whole = ap (λ x. write ∷ x) l.whole; stopped = l.stopped }

-- the path that a write changes
abbrev pub path_of : Write → List ℕ
path_of (Append path bytes) = path
path_of (Put path bytes) = path
path_of (Remove path) = path

-- some write changes this path
abbrev pub is_touched : List ℕ → List Write → Bool
is_touched path [] = false
is_touched path (write ∷ writes) = bytes_eq (path_of write) path || is_touched path writes

-- this write leaves this file at the path, if it changes the path
abbrev pub Makes : List ℕ → Option (List ℕ) → Write → Type 0
Makes path file (Append p bytes) = p ≡ path → ⊥
Makes path file (Put p bytes) = p ≡ path → Some bytes ≡ file
Makes path file (Remove p) = p ≡ path → None ≡ file

abbrev pub AllMake : List ℕ → Option (List ℕ) → List Write → Type 0
AllMake path file [] = Unit {0}
AllMake path file (step ∷ writes) = Makes path file step × AllMake path file writes

pub AllMake-append : (path : List ℕ) (file : Option (List ℕ)) (a b : List Write) → AllMake path file a → AllMake path file b → AllMake path file (a ++ b)
AllMake-append path file [] b h k = k
AllMake-append path file (x ∷ a) b h k = (h.0, AllMake-append path file a b h.1 k)

pub AllMake-front : (path : List ℕ) (file : Option (List ℕ)) (a b : List Write) → AllMake path file (a ++ b) → AllMake path file a
AllMake-front path file [] b h = tt
AllMake-front path file (x ∷ a) b h = (h.0, AllMake-front path file a b h.1)

pub same : (a b : List ℕ) → bytes_eq a b ≡ true → a ≡ b
same a b = (bytes_eq-Decides a b).0

pub same_true : (a b : List ℕ) → a ≡ b → bytes_eq a b ≡ true
same_true a b = (bytes_eq-Decides a b).1

pub same_false : (a b : List ℕ) → a ≢ b → bytes_eq a b ≡ false
same_false a b n = false_from_ne_true (bytes_eq a b) (λ e. n (same a b e))

-- what one step leaves at a path
after_one : (step : Write) (view : View) (path : List ℕ) (file : Option (List ℕ)) → Makes path file step →
    after_write step view path ≡ cond (bytes_eq (path_of step) path) file (view path)
after_one (Append p bytes) view path file h =
    let e : bytes_eq p path ≡ false = same_false p path h in
    cond-false (bytes_eq p path) (Some (file_bytes (view p) ++ bytes)) (view path) e ∙ sym (cond-false (bytes_eq p path) file (view path) e)
after_one (Put p bytes) view path file h =
    elim (cases_Bool (bytes_eq p path)) [
      | inl e ↦ cond-true (bytes_eq p path) (Some bytes) (view path) e ∙ (h (same p path e) ∙ sym (cond-true (bytes_eq p path) file (view path) e))
      | inr e ↦ cond-false (bytes_eq p path) (Some bytes) (view path) e ∙ sym (cond-false (bytes_eq p path) file (view path) e)
    ]
after_one (Remove p) view path file h =
    elim (cases_Bool (bytes_eq p path)) [
      | inl e ↦ cond-true (bytes_eq p path) None (view path) e ∙ (h (same p path e) ∙ sym (cond-true (bytes_eq p path) file (view path) e))
      | inr e ↦ cond-false (bytes_eq p path) None (view path) e ∙ sym (cond-false (bytes_eq p path) file (view path) e)
    ]

cond_or : (a b : Bool) (x y : Option (List ℕ)) → cond b x (cond a x y) ≡ cond (a || b) x y
cond_or true true x y = refl
cond_or true false x y = refl
cond_or false true x y = refl
cond_or false false x y = refl

-- what writes leave at a path, if each that changes it leaves the same
pub content : (writes : List Write) (view : View) (path : List ℕ) (file : Option (List ℕ)) → AllMake path file writes →
    after writes view path ≡ cond (is_touched path writes) file (view path)
content [] view path file h = refl
content (s ∷ ss) view path file h =
    content ss (after_write s view) path file h.1
    ∙ (ap (λ v. cond (is_touched path ss) file v) (after_one s view path file h.0)
    ∙ cond_or (bytes_eq (path_of s) path) (is_touched path ss) file (view path))

pub touched_append : (path : List ℕ) (a b : List Write) → is_touched path (a ++ b) ≡ (is_touched path a || is_touched path b)
touched_append path [] b = refl
touched_append path (s ∷ a) b = ap (λ v. bytes_eq (path_of s) path || v) (touched_append path a b) ∙ or_assoc (bytes_eq (path_of s) path) (is_touched path a) (is_touched path b)
  where
    or_assoc : (x y z : Bool) → (x || (y || z)) ≡ ((x || y) || z)
    or_assoc true y z = refl
    or_assoc false y z = refl

heads : (x y : Write) (a b : List Write) → x ∷ a ≡ y ∷ b → (x ≡ y) × (a ≡ b)
heads x y a b e = (cc, cc)

-- Of writes done in order: if one after A is done, all of A is done.
pub in_order : (a b done rest : List Write) (later path : List ℕ) → done ++ rest ≡ a ++ b →
    is_touched later done ≡ true → is_touched later a ≡ false → is_touched path a ≡ true → is_touched path done ≡ true
in_order [] b done rest later path e d n t = absurd (false≢true t)
in_order (x ∷ a) b [] rest later path e d n t = absurd (false≢true d)
in_order (x ∷ a) b (y ∷ done) rest later path e d n t =
    let parts = heads y x (done ++ rest) (a ++ b) e in
    let none = or_parts (bytes_eq (path_of x) later) (is_touched later a) n in
    elim (or_cases (bytes_eq (path_of x) path) (is_touched path a) t) [
      | inl here ↦ or_left (bytes_eq (path_of y) path) (is_touched path done) (subst (λ s. bytes_eq (path_of s) path ≡ true) (sym parts.0) here)
      | inr below ↦
          elim (or_cases (bytes_eq (path_of y) later) (is_touched later done) d) [
            | inl now ↦ absurd (false≢true (sym none.0 ∙ subst (λ s. bytes_eq (path_of s) later ≡ true) parts.0 now))
            | inr after' ↦ or_right (bytes_eq (path_of y) path) (is_touched path done) (in_order a b done rest later path parts.1 after' none.1 below)
          ]
    ]

AllMake-back : (path : List ℕ) (file : Option (List ℕ)) (a b : List Write) → AllMake path file (a ++ b) → AllMake path file b
AllMake-back path file [] b h = h
AllMake-back path file (x ∷ a) b h = AllMake-back path file a b h.1

-- a stop inside a step changes no path of which each step makes a file
at_stop : (k : Ending) (rest : List Write) (view left : View) (path : List ℕ) (file : Option (List ℕ)) → AllMake path file rest → IsStoppedAt k rest view left →
    left path ≡ view path
at_stop e [] view left path file h k = k path
at_stop e (step ∷ rest) view left path file h (inl k) = k path
at_stop e (Append p bytes ∷ rest) view left path file h (inr k) =
    k.2 path ∙ cond-false (bytes_eq p path) (Some (file_bytes (view p) ++ k.0)) (view path) (same_false p path h.0)
at_stop e (Put p bytes ∷ rest) view left path file h (inr k) = k path
at_stop e (Remove p ∷ rest) view left path file h (inr k) = k path

pub left_content : (k : Ending) (writes : List Write) (view left : View) (path : List ℕ) (file : Option (List ℕ)) → AllMake path file writes →
    (l : IsCut k writes view left) → left path ≡ cond (is_touched path l.done) file (view path)
left_content k writes view left path file h l =
    let all = subst (λ x. AllMake path file x) (sym l.whole) h in
    at_stop k l.rest (after l.done view) left path file (AllMake-back path file l.done l.rest all) l.stopped
    ∙ content l.done view path file (AllMake-front path file l.done l.rest all)
