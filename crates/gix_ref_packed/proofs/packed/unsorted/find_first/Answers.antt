use Rattle.std.proofs.Common.{vec_len, ◌≡◌, ◌+◌, List, ℕ, length, drop, Option, Some, None, refl, sym, ◌∙◌, ap, subst, arith}
use Rattle.std.proofs.lemmas.List.{drop_all}
use Rattle.gix_ref_target.specs.PackedRecords.{Record}
use Rattle.gix_ref_packed_text.specs.Views.{record_of}
use Rattle.gix_ref_packed_text.specs.Windows.{AreFound}
use Rattle.gix_ref_packed.specs.internal.Parts.{IsPart}
use Rattle.gix_ref_packed.proofs.PartLemmas.{found_here, left_behind, left_later, left_none}
use Rattle.gix_ref_packed.proofs.UnsortedLemmas.{Left}
use Rattle.gix_ref_packed.proofs.packed.unsorted.find_first.Goals as goal

pub loop-place-init : goal.loop-place-init
loop-place-init g c = record { same = refl; size = refl; no_fault = refl; left = λ honest rs h. (rs, h, refl) }

pub returns-in-Some-clause-found : goal.returns-in-Some-clause-found
returns-in-Some-clause-found g c = λ honest rs h.
    let bytes = g.R.ReadAt.bytes c.args.reader.now in
    let rest = drop c.loop-place.place bytes in
    let read = c.read_part.new.part.items in
    let p : IsPart rest read = subst (λ (t : List ℕ). IsPart (drop c.loop-place.place t) read) c.loop-place.invariant.same (c.in_ok-read_part.ensures.part honest) in
    let is = found_here c.args.kind (drop c.args.start bytes) rest read c.args.wanted.now p (c.loop-place.invariant.left honest) (record_of c.in-Some.reference) (rw c.as_slice.ensures.value at c.in-Some.ensures) rs h in
    subst (λ (o : Option Record). AreFound o (Some c.ids_of.result)) (sym is) c.ids_of.ensures

pub loop-place-preserved : goal.loop-place-preserved
loop-place-preserved g c =
    let was = c.loop-place.invariant in
    let now = c.in_ok-read_part.ensures in
    record {
      same = now.same.0 ∙ was.same;
      size = now.same.1 ∙ was.size;
      no_fault = now.count ∙ was.no_fault;
      left = λ honest.
          let bytes = g.R.ReadAt.bytes c.args.reader.now in
          let rest = drop c.loop-place.place bytes in
          let read = c.read_part.new.part.items in
          let p : IsPart rest read = subst (λ (t : List ℕ). IsPart (drop c.loop-place.place t) read) was.same (now.part honest) in
          let long : vec_len c.read_part.new.part ≡ length read = omega arith in
          let later = left_later c.args.kind (drop c.args.start bytes) rest read c.args.wanted.now p (was.left honest) (rw (c.as_slice.ensures.value, c.in_default.is) at c.first_named.ensures) in
          subst (λ (t : List ℕ). Left c.args.kind (drop c.args.start bytes) t c.args.wanted.now) (sym (ap (λ n. drop (c.loop-place.place + n) bytes) (c.len-in-loop-place.ensures ∙ long) ∙ left_behind bytes read c.loop-place.place p)) later;
    }

pub returns-clause-found : goal.returns-clause-found
returns-clause-found g c = λ honest rs h.
    let bytes = g.R.ReadAt.bytes c.args.reader.now in
    let rest = drop c.loop-place.place bytes in
    let len : c.len.result ≡ length bytes = c.len.ensures.bytes honest ∙ ap length c.loop-place.invariant.same in
    let is = left_none c.args.kind (drop c.args.start bytes) rest c.args.wanted.now (c.loop-place.invariant.left honest) (drop_all c.loop-place.place bytes (omega (arith, c.loop-place-test.false))) rs h in
    subst (λ (o : Option Record). AreFound o None) (sym is) tt
