use Rattle.std.proofs.Common.{vec_len, ◌≡◌, ◌+◌, List, ℕ, length, drop, refl, sym, ◌∙◌, ap, subst, arith}
use Rattle.std.proofs.lemmas.Result.{err_from_is_err_and}
use Rattle.std.proofs.lemmas.List.{drop_all}
use Rattle.gix_ref_packed.specs.internal.Parts.{IsPart}
use Rattle.gix_ref_packed.proofs.OrderLemmas.{Reads, nothing_read, part_unread, read_all, reads_part}
use Rattle.gix_ref_packed.proofs.PartLemmas.{left_behind}
use Rattle.gix_ref_packed.proofs.packed.file.file_order.Goals as goal

pub loop-place-init : goal.loop-place-init
loop-place-init g c = record {
  same = refl;
  size = refl;
  fits = omega arith;
  reads = λ honest. nothing_read c.args.kind (drop c.args.start (g.R.ReadAt.bytes c.args.reader.now)) c.new-last.result.items c.args.first c.new-last.ensures.items;
}

pub returns-in-Err-clause-refused : goal.returns-in-Err-clause-refused
returns-in-Err-clause-refused g c = λ honest. c.refusal.ensures.unread c.args.kind c.args.first (drop c.args.start (g.R.ReadAt.bytes c.args.reader.now))

pub returns-in_err-read-clause-refused : goal.returns-in_err-read-clause-refused
returns-in_err-read-clause-refused g c = λ honest.
    let bytes = g.R.ReadAt.bytes c.args.reader.now in
    let text = drop c.args.start bytes in
    let rest = drop c.loop-place.place bytes in
    let read = c.read_part.new.part.items in
    let was = c.loop-place.invariant in
    let p : IsPart rest read = subst (λ (t : List ℕ). IsPart (drop c.loop-place.place t) read) was.same (c.in-Ok.ensures.part honest) in
    let error = err_from_is_err_and c.from_residual.result c.from_residual.ensures.1 in
    rw (error.1, error.2) (part_unread c.args.kind text rest read c.loop-place.last.items c.loop-place.rises c.args.first c.loop-place.line (was.reads honest) p _ (rw c.as_slice-in-loop-place.ensures.value at c.in_err-read.ensures.refused))

pub loop-place-preserved : goal.loop-place-preserved
loop-place-preserved g c =
    let was = c.loop-place.invariant in
    let now = c.in-Ok.ensures in
    let read = c.read_part.new.part.items in
    record {
      same = now.same.0 ∙ was.same;
      size = now.same.1 ∙ was.size;
      fits =
          let some = now.some in
          let size = was.size in
          let before = was.fits in
          let lines = c.in_ok-read.ensures.fits in omega (arith, c.len-in-loop-place.ensures, c.as_slice-in-loop-place.ensures.len);
      reads = λ honest.
          let bytes = g.R.ReadAt.bytes c.args.reader.now in
          let text = drop c.args.start bytes in
          let rest = drop c.loop-place.place bytes in
          let p : IsPart rest read = subst (λ (t : List ℕ). IsPart (drop c.loop-place.place t) read) was.same (now.part honest) in
          let long : vec_len c.read_part.new.part ≡ length read = omega arith in
          let on = reads_part c.args.kind text rest read c.loop-place.last.items c.loop-place.rises c.args.first c.loop-place.line (was.reads honest) p _ c.in_ok-read.read refl c.as_slice.ensures.value refl (rw c.as_slice-in-loop-place.ensures.value at c.in_ok-read.ensures.reads c.args.first) in
          subst (λ (t : List ℕ). Reads c.args.kind text t c.in_ok-last.last.items c.in_ok-read.read.rises c.args.first c.in_ok-read.read.line) (sym (ap (λ n. drop (c.loop-place.place + n) bytes) (c.len-in-loop-place.ensures ∙ long) ∙ left_behind bytes read c.loop-place.place p))
          (subst (λ (l : List ℕ). Reads c.args.kind text p.rest l c.in_ok-read.read.rises c.args.first c.in_ok-read.read.line) (sym (c.in_ok-last.ensures.items_if_clones_equal (λ x y e. e))) on);
    }

pub returns-clause-order : goal.returns-clause-order
returns-clause-order g c = λ honest.
    let bytes = g.R.ReadAt.bytes c.args.reader.now in
    let was = c.loop-place.invariant in
    let len : c.len.result ≡ length bytes = c.len.ensures.bytes honest ∙ ap length was.same in
    read_all c.args.kind (drop c.args.start bytes) c.loop-place.last.items (drop c.loop-place.place bytes) c.loop-place.rises c.args.first c.loop-place.line (was.reads honest) (drop_all c.loop-place.place bytes (omega (arith, c.loop-place-test.false)))
