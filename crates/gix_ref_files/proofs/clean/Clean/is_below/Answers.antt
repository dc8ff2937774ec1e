use Rattle.std.proofs.Common.{◌≡◌, ℕ, List, length, take, sym, ◌∙◌, ap, subst, arith}
use Rattle.std.proofs.lemmas.Bool.{false≢true}
use Rattle.std.proofs.lemmas.List.{length-take}
use Rattle.std.proofs.lemmas.Slice.Eq.{bytes_eq-Decides}
use Rattle.std.proofs.Math.Seq.{take-length}
use Rattle.gix_ref_files.proofs.clean.Clean.is_below.Goals as goal

pub returns-clause-is : goal.returns-clause-is
returns-clause-is c is =
    let path = c.args.self.path.now in
    let folder = c.args.folder.now in
    record {
      within = c.if-self-len.false;
      slash = c.if-self-len-ne47.false;
      front = (bytes_eq-Decides (take (length folder) path) (take (length folder) folder)).0 (sym c.eq.ensures ∙ is) ∙ take-length folder;
    }

pub returns-clause-is_not : goal.returns-clause-is_not
returns-clause-is_not c isnt k low below slash same =
    let path = c.args.self.path.now in
    let folder = c.args.folder.now in
    let at : k ≡ length folder = omega (arith, ap (λ (l : List ℕ). length l) same, length-take k path, c.if-self-len.false) in
    false≢true (sym isnt ∙ (c.eq.ensures ∙ (bytes_eq-Decides (take (length folder) path) (take (length folder) folder)).1 (subst (λ (n : ℕ). take n path ≡ folder) at same ∙ sym (take-length folder))))
