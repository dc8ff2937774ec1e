-- What changes of a disk leave settled.
use Rattle.std.proofs.Common.{◌≡◌, ◌⊎◌, inl, inr, ℕ, zero, suc, ◌-◌, ◌≤◌, List, [], ◌∷◌, ◌++◌, length, take, Bool, true, false, Option, Some, None, refl, sym, ◌∙◌, ap, subst, arith, length-append, append_assoc}
use Rattle.std.specs.Prelude.{bytes_eq, if◌then◌else◌}
use Rattle.std.proofs.lemmas.Bool.{false≢true, true≢false}
use Rattle.std.proofs.lemmas.Slice.Eq.{bytes_eq-Decides}
use Rattle.gix_ref_files.specs.Tree.{Path, Content, more, is_file, is_folder, file_of, fronts}
use Rattle.gix_ref_files.specs.Tree.Content.{File, Folder}
use Rattle.gix_ref_files.specs.Disk.{Disk, Remains, OneRemains, item_at, MayBe, with_item, created_on, appended_on, moved_on, removed_on, nothing, empty_file}
use Rattle.gix_ref_files.specs.Settled.{AllStay, MayHold}
use Rattle.gix_ref_files.proofs.Entries.{entered_may, nothing_remains}
use Rattle.gix_ref_files.proofs.Settling.{folder_now}

-- At some paths an entry may be something else item_at; none of these paths held a folder.
pub record Changes (D E : Disk) (Changed : Path → Option Content → Type 0) : Type 0 where
  pub may : (q : Path) (c : Option Content) → MayBe E q c → MayBe D q c ⊎ Changed q c
  pub no_folder : (q : Path) (c : Option Content) → Changed q c → is_folder (D.tree q) ≡ false

pub stay_changed : (D E : Disk) (Changed : Path → Option Content → Type 0) → Changes D E Changed → (fs : List Path) → AllStay D fs → AllStay E fs
stay_changed D E Changed ch [] stay = tt
stay_changed D E Changed ch (f ∷ fs) stay = (
  λ c may. elim (ch.may f c may) [
    | inl old ↦ stay.0 c old
    | inr new ↦ absurd (true≢false (sym (folder_now D f stay.0) ∙ ch.no_folder f c new))
  ],
  stay_changed D E Changed ch fs stay.1,
)

pub holds_changed : (D E : Disk) (Changed : Path → Option Content → Type 0) → Changes D E Changed → (before : Option (List ℕ)) (P Q : Option (List ℕ) → Type 0) (q : Path) →
    ((f : Option (List ℕ)) → P f → Q f) → ((c : Option Content) → Changed q c → Q (file_of c)) → MayHold D before P q → MayHold E before Q q
holds_changed D E Changed ch before P Q q wider new holds = record {
  entry = λ c may. elim (ch.may q c may) [ inl old ↦ wider (file_of c) (holds.entry c old) | inr is ↦ new c is ];
  way = λ bytes is. stay_changed D E Changed ch (fronts q) (holds.way bytes is);
}

-- Each change.

no_bytes : (any : List ℕ) (n : ℕ) → length any ≤ 0 - n → any ≡ []
no_bytes [] n le = refl
no_bytes (x ∷ any) n le = absurd (omega (arith, le))

empty_remains : (c : Option Content) → Remains empty_file c → c ≡ Some (File [])
empty_remains c r = r.2 ∙ ap (λ (b : List ℕ). Some (File b)) (no_bytes r.0 0 r.1)

pub file_no_folder : (c : Option Content) → is_file c ≡ true → is_folder c ≡ false
file_no_folder (Some (File bytes)) h = refl
file_no_folder (Some Folder) h = absurd (false≢true h)
file_no_folder None h = refl

-- a file is made
abbrev pub Created : Path → Path → Option Content → Type 0
Created p q c = (p ≡ q) × (c ≡ Some (File []))

pub creates : (D : Disk) (p : Path) → D.tree p ≡ None → Changes D (created_on D p) (Created p)
creates D p none = record {
  may = λ q c may. elim (entered_may D p q empty_file c may) [ inl old ↦ inl old | inr new ↦ inr (new.0, empty_remains c new.1) ];
  no_folder = λ q c new. subst (λ (x : Path). is_folder (D.tree x) ≡ false) new.0 (ap is_folder none);
}

-- what is there is removed
abbrev pub Gone : Path → Path → Option Content → Type 0
Gone p q c = (p ≡ q) × (c ≡ None)

pub removes : (D : Disk) (p : Path) → is_file (D.tree p) ≡ true → Changes D (removed_on D p) (Gone p)
removes D p file = record {
  may = λ q c may. elim (entered_may D p q nothing c may) [ inl old ↦ inl old | inr new ↦ inr (new.0, nothing_remains 0 c new.1) ];
  no_folder = λ q c new. subst (λ (x : Path). is_folder (D.tree x) ≡ false) new.0 (file_no_folder (D.tree p) file);
}

-- a file is moved
abbrev pub Moved : Disk → Path → Path → Path → Option Content → Type 0
Moved D from to q c = ((from ≡ q) × (c ≡ None)) ⊎ ((to ≡ q) × Remains (item_at D from) c)

pub moves : (D : Disk) (from to : Path) → is_file (D.tree from) ≡ true → is_folder (D.tree to) ≡ false → Changes D (moved_on D from to) (Moved D from to)
moves D from to file none = record {
  may = λ q c may. elim (entered_may (with_item D from nothing) to q (item_at D from) c may) [
    | inl mid ↦ elim (entered_may D from q nothing c mid) [ inl old ↦ inl old | inr new ↦ inr (inl (new.0, nothing_remains 0 c new.1)) ]
    | inr new ↦ inr (inr new)
  ];
  no_folder = λ q c new. elim new [
    | inl at ↦ subst (λ (x : Path). is_folder (D.tree x) ≡ false) at.0 (file_no_folder (D.tree from) file)
    | inr at ↦ subst (λ (x : Path). is_folder (D.tree x) ≡ false) at.0 none
  ];
}

-- bytes are appended
abbrev pub Grown : Disk → Path → List ℕ → Path → Option Content → Type 0
Grown D p bytes q c = (p ≡ q) × Remains (record { content = more (D.tree p) bytes; synced = D.unsynced.synced p }) c

appended_may : (D : Disk) (p q : Path) (bytes : List ℕ) (c : Option Content) → MayBe (appended_on D p bytes) q c → MayBe D q c ⊎ Grown D p bytes q c
appended_may D p q bytes c = by (bytes_eq p q) refl
  where
    by : (b : Bool) → bytes_eq p q ≡ b → OneRemains (record { content = if b then more (D.tree p) bytes else D.tree q; synced = D.unsynced.synced q } ∷ D.unsynced.past q) c → MayBe D q c ⊎ Grown D p bytes q c
    by true e (inl here) =
        let same : p ≡ q = (bytes_eq-Decides p q).0 e in
        inr (same, subst (λ (x : Path). Remains (record { content = more (D.tree p) bytes; synced = D.unsynced.synced x }) c) (sym same) here)
    by true e (inr old) = inl (inr old)
    by false e may = inl may

pub appends : (D : Disk) (p : Path) (bytes : List ℕ) → is_file (D.tree p) ≡ true → Changes D (appended_on D p bytes) (Grown D p bytes)
appends D p bytes file = record {
  may = λ q c may. appended_may D p q bytes c may;
  no_folder = λ q c new. subst (λ (x : Path). is_folder (D.tree x) ≡ false) new.0 (file_no_folder (D.tree p) file);
}

-- what remains of a file that has grown: its old bytes, where these were synced, and any bytes, no more than it has grown by
pub grown_remains : (old bytes : List ℕ) (n : ℕ) (c : Option Content) → length old ≤ n → Remains (record { content = Some (File (old ++ bytes)); synced = n }) c →
    (any : List ℕ) × (length any ≤ length bytes) × (c ≡ Some (File (old ++ any)))
grown_remains old bytes n c le (any, few, is) = (
  take (n - length old) bytes ++ any,
  short,
  is ∙ ap (λ (b : List ℕ). Some (File b)) (ap (λ x. x ++ any) (take_past old bytes n le) ∙ append_assoc old (take (n - length old) bytes) any),
)
  where
    take_past : (a b : List ℕ) (k : ℕ) → length a ≤ k → take k (a ++ b) ≡ a ++ take (k - length a) b
    take_past [] b k le = ap (λ (m : ℕ). take m b) (omega arith)
    take_past (x ∷ a) b zero le = absurd (omega (arith, le))
    take_past (x ∷ a) b (suc k) le = ap (λ (l : List ℕ). x ∷ l) (take_past a b k (omega (arith, le)) ∙ ap (λ (m : ℕ). a ++ take m b) (omega arith))

    short_take : (m : ℕ) (b : List ℕ) → (length (take m b) ≤ m) × (length (take m b) ≤ length b)
    short_take zero b = (omega arith, omega arith)
    short_take (suc m) [] = (omega arith, omega arith)
    short_take (suc m) (x ∷ b) = let s = short_take m b in (omega (arith, s.0), omega (arith, s.1))

    short : length (take (n - length old) bytes ++ any) ≤ length bytes
    short =
        let s = short_take (n - length old) bytes in
        let len = length-append (take (n - length old) bytes) any in
        let whole = length-append old bytes in
        omega (arith, s.0, s.1, len, whole, few, le)

-- one change and then another
pub then_changes : (D E F : Disk) (First Second : Path → Option Content → Type 0) → Changes D E First → Changes E F Second → ((q : Path) (c : Option Content) → Second q c → is_folder (D.tree q) ≡ false) →
    Changes D F (λ q c. First q c ⊎ Second q c)
then_changes D E F First Second first second no_folder = record {
  may = λ q c may. elim (second.may q c may) [
    | inl mid ↦ elim (first.may q c mid) [ inl old ↦ inl old | inr new ↦ inr (inl new) ]
    | inr new ↦ inr (inr new)
  ];
  no_folder = λ q c new. elim new [ inl a ↦ first.no_folder q c a | inr b ↦ no_folder q c b ];
}
