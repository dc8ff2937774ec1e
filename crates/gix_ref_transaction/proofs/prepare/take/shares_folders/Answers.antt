use Rattle.std.proofs.Common.{get_or, take, length, sym, ◌∙◌, arith}
use Rattle.std.proofs.lemmas.Bool.{eqb-true, ltb-true}
use Rattle.std.proofs.lemmas.Slice.Eq.{bytes_eq-Decides}
use Rattle.gix_ref_transaction.proofs.Led.{shares}
use Rattle.gix_ref_transaction.proofs.prepare.take.shares_folders.Goals as goal
use Rattle.gix_ref_transaction.proofs.prepare.take.shares_folders.Goals.{then-end-other, else-end-other}

pub returns-then-other-end-eq47 : goal.returns-then-other-end-eq47
returns-then-other-end-eq47 c T is all =
    let path = c.args.path.now in
    let other = c.args.other.now in
    let end = c.folder_end-end.result in
    elim c.if-end-other.branch [
      | then-end-other w ↦
          shares T path other end c.folder_end-end.ensures.folders w.if-end-other.true (eqb-true (get_or other end 0) 47 (sym w.value-is ∙ c.if-other-end-eq47.true))
          ((bytes_eq-Decides (take end other) (take end path)).0 (sym c.eq.ensures ∙ is)) all
      | else-end-other w ↦ absurd (omega (arith, ltb-true end (length other) (sym w.value-is ∙ c.if-other-end-eq47.true)))
    ]
