use Rattle.std.proofs.Common.{◌≡◌, List, ℕ, length, take, drop, sym, ap, subst, arith, eqb-true}
use Rattle.gix_ref_packed.proofs.packed.sorted_file.SortedFile.record_in_window.Goals as goal

pub returns-clause-front : goal.returns-clause-front
returns-clause-front g c = λ honest.
    let text = drop c.args.self.now.base (g.R.ReadAt.bytes c.args.self.now.reader) in
    let from = c.args.self.now.from in
    c.record_in.ensures.front text c.args.start
    (subst (λ (w : List ℕ). w ≡ take (length w) (drop from text)) (sym c.as_slice.ensures.value) (c.args.self.now.window_is honest))
    (λ e.
    let whole = eqb-true _ _ e in
    let all = c.records_len.ensures.len honest in
    let len = c.len-len.ensures in
    let same = ap length c.as_slice.ensures.value in
    omega (arith, c.args.self.now.window.ok.0)) (omega arith)
