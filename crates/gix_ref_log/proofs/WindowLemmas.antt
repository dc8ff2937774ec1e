-- A window that is widened in front.
use Rattle.std.proofs.Common.{◌≡◌, ℕ, ◌+◌, ◌-◌, ◌≤◌, List, ◌++◌, length, take, drop, sym, ◌∙◌, ap, arith}
use Rattle.std.specs.List.{copy_within}
use Rattle.std.proofs.lemmas.List.{take_at, drop_at, drop-drop, append_assoc, length-take-le, length-append, length-drop}
use Rattle.std.proofs.Math.Seq.{take-add}
use Rattle.gix_ref_files.specs.Calls.{IsRead}
use Rattle.gix_ref_log.specs.LogWindows.{IsLogWindow}

by : (A : Type 0) → A → A
by A a = a

-- what was moved begins at `more`
moved_is : (buf : List ℕ) (end more : ℕ) → end + more ≤ length buf → drop more (copy_within buf 0 end more) ≡ take end buf ++ drop (more + end) buf
moved_is buf end more fits =
    let len : length (take more buf) ≡ more = length-take-le more buf (omega arith) in
    let none : end - 0 ≡ end = omega arith in
    ap (λ (n : ℕ). drop more (take more buf ++ take n buf ++ drop (more + n) buf)) none
    ∙ ap (drop more) (append_assoc (take more buf) (take end buf) (drop (more + end) buf))
    ∙ drop_at (take more buf) (take end buf ++ drop (more + end) buf) more len

pub widened : (log buf moved front : List ℕ) (pos end more : ℕ) → more ≤ pos → end + more ≤ length buf → length moved ≡ length buf
    → moved ≡ copy_within buf 0 end more → length front ≡ more → IsRead log (pos - more) front → IsLogWindow log buf pos end
    → IsLogWindow log (front ++ drop more moved) (pos - more) (end + more)
widened log buf moved front pos end more low fits same_len was front_len read w =
    let within = w.within in
    let p = pos - more in
    let rest : p + more ≡ pos = omega arith in
    let front_is : front ≡ take more (drop p log) = read.1 ∙ ap (λ (j : ℕ). take j (drop p log)) front_len in
    let kept : length (take end buf) ≡ end = length-take-le end buf w.fits in
    let both : length (front ++ take end buf) ≡ end + more = length-append front (take end buf) ∙ omega arith in
    let after : drop more moved ≡ take end buf ++ drop (more + end) buf = ap (drop more) was ∙ moved_is buf end more fits in
    let left : take (end + more) (front ++ drop more moved) ≡ front ++ take end buf =
    ap (λ (z : List ℕ). take (end + more) (front ++ z)) after
    ∙ ap (take (end + more)) (sym (append_assoc front (take end buf) (drop (more + end) buf)))
    ∙ take_at (front ++ take end buf) (drop (more + end) buf) (end + more) both in
    let right : take (end + more) (drop p log) ≡ front ++ take end buf =
    ap (λ (j : ℕ). take j (drop p log)) (by (end + more ≡ more + end) (omega arith))
    ∙ take-add more end (drop p log)
    ∙ ap (λ (z : List ℕ). z ++ take end (drop more (drop p log))) (sym front_is)
    ∙ ap (λ (z : List ℕ). front ++ take end z) (drop-drop more p log ∙ ap (λ (j : ℕ). drop j log) rest)
    ∙ ap (λ (z : List ℕ). front ++ z) (sym w.same) in
    let whole = length-append front (drop more moved) in
    let back = length-drop more moved in
    record { fits = omega arith; within = omega arith; same = left ∙ sym right }
