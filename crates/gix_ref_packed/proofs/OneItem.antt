-- One item of the iterator over packed references.
use Rattle.std.proofs.Common.{◌≡◌, ⊎_elim, ℕ, true, false, List, [], ◌∷◌, refl, sym, ◌∙◌, ap, subst, None, Some, Option, Result, Ok, Err}
use Rattle.gix_ref_hash.specs.declared.hash.Kind.{Kind}
use Rattle.gix_ref_packed_text.specs.declared.packed.reference.Reference.{Reference}
use Rattle.gix_ref_packed.specs.declared.packed.iter.Iter.{Iter}
use Rattle.gix_ref_packed.specs.declared.packed.iter.error.Error.{Error}
use Rattle.gix_ref_packed.specs.declared.packed.iter.error.Error.TheVariants.{Header as bad_header, Reference as bad_line}
use Rattle.gix_ref_target.specs.PackedRecords.{Record}
use Rattle.gix_ref_packed_text.specs.RecordGrammar.{Takes, Records}
use Rattle.gix_ref_packed_text.specs.Views.{record_of}
use Rattle.gix_ref_packed.specs.Items.{Unread, GivesPackedItem, unread, has_prefix}
use Rattle.gix_ref_packed.specs.YetToGive.{IsYet, asked_records, NextGivesTheFirst, FaultsAreLines, EndedStaysEnded}
use Rattle.gix_ref_packed_text.proofs.OneReading.{same_record}
use Rattle.gix_ref_packed.proofs.ItemRuns.{none_taken, asked_more, asked_end, all_asked}

-- what is unread is these records
abbrev Left : Unread → List Record → Type 0
Left s left = Records s.kind s.text left

-- where it gave nothing, none is asked for
none_asked : (s : Unread) (left : List Record) → Left s left → (t : Unread) → GivesPackedItem s None t → asked_records s.prefix left ≡ []
none_asked s [] h t gave = refl
none_asked s (r ∷ rs) h t gave =
    ⊎_elim (λ (none : s.text ≡ []). absurd (none_taken s.kind s.text r h.0 none h.1))
    (λ (other : (x : Record) × (rest : List ℕ) × Takes s.kind s.text x rest × (has_prefix s.prefix x.name ≡ false)).
    let same = same_record s.kind s.text other.0 other.1 r h.0 other.2 h.1 in
    asked_end s.prefix r rs (ap (λ (y : Record). has_prefix s.prefix y.name) (sym same.0) ∙ other.3))
    gave.0

-- where it gave a record, that is the first, and the others are left
record GaveFirst (s : Unread) (x : Reference) (left : List Record) (t : Unread) : Type 0 where
  others : List Record
  still : Left t others
  asked : asked_records s.prefix left ≡ record_of x ∷ asked_records t.prefix others

gave_first : (s : Unread) (x : Reference) (left : List Record) → Left s left → (t : Unread) → GivesPackedItem s (Some (Ok x)) t → GaveFirst s x left t
gave_first s x [] h t gave = absurd (none_taken s.kind s.text (record_of x) t.text h gave.0)
gave_first s x (r ∷ rs) h t gave =
    let same = same_record s.kind s.text (record_of x) t.text r h.0 gave.0 h.1 in
    let has : has_prefix s.prefix r.name ≡ true = ap (λ (y : Record). has_prefix s.prefix y.name) (sym same.0) ∙ gave.1 in
    record {
      others = rs;
      still = subst (λ (k : Kind). Records k t.text rs) (sym gave.3.0) (subst (λ (u : List ℕ). Records s.kind u rs) (sym same.1) h.2);
      asked = asked_more s.prefix r rs has ∙ ap (λ y. y ∷ asked_records s.prefix rs) (sym same.0)
          ∙ ap (λ (p : Option (List ℕ)). record_of x ∷ asked_records p rs) (sym gave.3.1);
    }

-- records have no fault
no_fault : (s : Unread) (e : Error) (left : List Record) → Left s left → (t : Unread) → GivesPackedItem s (Some (Err e)) t → ⊥
no_fault s (bad_line line number) [] h t gave = gave.0 h
no_fault s (bad_line line number) (r ∷ rs) h t gave = gave.1 r h.0 h.1
no_fault s (bad_header line) left h t gave = gave

pub next_gives_first : NextGivesTheFirst
next_gives_first s t None rs step yet = (
  yet.asked ∙ none_asked (unread s) yet.left yet.records (unread t) step,
  record { left = []; records = step.1; asked = refl },
)
next_gives_first s t (Some (Ok x)) rs step yet =
    let first = gave_first (unread s) x yet.left yet.records (unread t) step in (
      asked_records (unread t).prefix first.others,
      yet.asked ∙ first.asked,
      record { left = first.others; records = first.still; asked = refl },
    )
next_gives_first s t (Some (Err e)) rs step yet = no_fault (unread s) e yet.left yet.records (unread t) step

pub faults_are_lines : FaultsAreLines
faults_are_lines s t (bad_line line number) step = tt
faults_are_lines s t (bad_header line) step = step

-- nothing is given of an empty text
nothing_more : (t : Unread) (item : Option (Result Reference Error)) (u : Unread) → t.text ≡ [] → GivesPackedItem t item u → item ≡ None
nothing_more t None u none gave = refl
nothing_more t (Some (Ok x)) u none gave = absurd (none_taken t.kind t.text (record_of x) u.text none gave.0)
nothing_more t (Some (Err (bad_line line number))) u none gave = absurd (gave.0 none)
nothing_more t (Some (Err (bad_header line))) u none gave = absurd gave

pub ended_stays_ended : EndedStaysEnded
ended_stays_ended s t u item ended step = nothing_more (unread t) item (unread u) ended.1 step

-- an iterator whose unread text is records is yet to give those that are asked for
pub yet_asked : (s : Iter) (from : Unread) (rs : List Record) → unread s ≡ from → Records from.kind from.text rs → IsYet s (asked_records from.prefix rs)
yet_asked s from rs is h = record {
  left = rs;
  records = subst (λ (u : Unread). Records u.kind u.text rs) (sym is) h;
  asked = ap (λ (u : Unread). asked_records u.prefix rs) (sym is);
}

-- and all of them, where names of any kind are
pub yet_all : (s : Iter) (from : Unread) (rs : List Record) → unread s ≡ from → from.prefix ≡ None → Records from.kind from.text rs → IsYet s rs
yet_all s from rs is any h =
    subst (λ (xs : List Record). IsYet s xs) (ap (λ (p : Option (List ℕ)). asked_records p rs) any ∙ all_asked rs) (yet_asked s from rs is h)
