-- What a writer holds where a text of several parts stopped short.
use Rattle.std.proofs.Common.{◌≡◌, ℕ, ◌+◌, List, ◌++◌, length, take, drop, sym, ap, ◌∙◌, subst, arith, length-append, take-append-drop, take-add, Option}
use Rattle.std.proofs.lemmas.List.{take-append-le}
use Rattle.std.proofs.Math.Seq.{take-append-add}
use Rattle.std.proofs.KnownBytes.{Appends-trans}
use Rattle.std.specs.Io.KnownBytes.{Appends}
use Rattle.std.specs.declared.io.Error.{Error}
use Rattle.std.specs.Borrow.{Bor}
use Rattle.std.proofs.lemmas.List.Concat.{flat_map-append}
use Rattle.gix_ref_log.specs.Writers.{StopsShort}
use Rattle.gix_ref_log.specs.internal.Parts.{concat_slices}

-- more of the text was to follow
pub StopsShort-before : (old new : Option (List ℕ)) (text after : List ℕ) (error : Error) → StopsShort old new text error → StopsShort old new (text ++ after) error
StopsShort-before old new text after error stopped =
    let (n, within, appended) = stopped.begun in
    let same = take-append-le n text after (omega arith) in
    record {
      begun = (n, omega (arith, length-append text after), subst (Appends old new) (sym same) appended);
      retried = stopped.retried;
    }

-- a text was written before
pub StopsShort-after : (old mid new : Option (List ℕ)) (before text : List ℕ) (error : Error) → Appends old mid before → StopsShort mid new text error → StopsShort old new (before ++ text) error
StopsShort-after old mid new before text error written stopped =
    let (n, within, appended) = stopped.begun in
    let joined = Appends-trans old mid new before (take n text) written appended in
    record {
      begun = (length before + n, omega (arith, length-append before text), subst (Appends old new) (sym (take-append-add before text n)) joined);
      retried = stopped.retried;
    }

-- some bytes more were written
pub Appends-more : (old mid new : Option (List ℕ)) (text : List ℕ) (n count : ℕ) → Appends old mid (take n text) → Appends mid new (take count (drop n text)) → Appends old new (take (n + count) text)
Appends-more old mid new text n count before more =
    subst (Appends old new) (sym (take-add n count text)) (Appends-trans old mid new _ _ before more)

-- the parts before were written, and this one stopped short
pub StopsShort-part : (old mid new : Option (List ℕ)) (parts : List (Bor (List ℕ))) (i : ℕ) (part : List ℕ) (error : Error) → concat_slices (take (i + 1) parts) ≡ concat_slices (take i parts) ++ part → Appends old mid (concat_slices (take i parts)) → StopsShort mid new part error → StopsShort old new (concat_slices parts) error
StopsShort-part old mid new parts i part error next written stopped =
    let so_far = StopsShort-after old mid new _ part error written stopped in
    let split : concat_slices parts ≡ concat_slices (take (i + 1) parts) ++ concat_slices (drop (i + 1) parts) =
    ap concat_slices (sym (take-append-drop (i + 1) parts)) ∙ flat_map-append (λ (p : Bor (List ℕ)). p.now) (take (i + 1) parts) (drop (i + 1) parts) in
    let P : List ℕ → Type 0 = λ text. StopsShort old new text error in
    subst P (sym (split ∙ ap (λ l. l ++ concat_slices (drop (i + 1) parts)) next)) (StopsShort-before old new _ _ error so_far)
